-- The attributes that are copied one by one: their AVPs, their kinds and the ways they go.
use Rattle.std.specs.Prelude.{ℕ, Bool, ◌==◌, List, [], ◌∷◌, Option, Some, codes, find, ◌≡◌}
use Prim.Native.String.{String}
use Rattle.std.specs.List.{list_any}
use Rattle.attribute_table.specs.declared.row.Kind.{Kind}
use Rattle.attribute_table.specs.declared.row.Kind.TheVariants.{Text, Plain, Four, Eight, Sixteen, Prefix, Time}
use Rattle.attribute_table.specs.declared.row.Row.{Row}

-- whether a letter is among these
abbrev pub has_letter : String → ℕ → Bool
has_letter letters letter = list_any (λ x. x == letter) (codes letters)

-- the AVP has the attribute's number (RFC 4005); the letters are A for an Access-Request, C for an
-- Accounting-Request, S for a success, H for a challenge and J for a refusal (profile)
abbrev pub row : ℕ → Kind → String → Row
row code kind letters = record {
  code = code;
  avp = code;
  kind = kind;
  access = has_letter letters 65;
  accounting = has_letter letters 67;
  accept = has_letter letters 83;
  challenge = has_letter letters 72;
  reject = has_letter letters 74;
}

unfoldable pub rows : List Row
rows =
    row 1 Text "ACS"  -- User-Name
    ∷ row 4 Four "AC"  -- NAS-IP-Address
    ∷ row 5 Four "AC"  -- NAS-Port
    ∷ row 6 Four "ACS"  -- Service-Type
    ∷ row 7 Four "ACS"  -- Framed-Protocol
    ∷ row 8 Four "ACS"  -- Framed-IP-Address
    ∷ row 9 Four "ACS"  -- Framed-IP-Netmask
    ∷ row 10 Four "CS"  -- Framed-Routing
    ∷ row 11 Text "CS"  -- Filter-Id
    ∷ row 12 Four "ACS"  -- Framed-MTU
    ∷ row 13 Four "ACS"  -- Framed-Compression
    ∷ row 14 Four "ACS"  -- Login-IP-Host
    ∷ row 15 Four "CS"  -- Login-Service
    ∷ row 16 Four "CS"  -- Login-TCP-Port
    ∷ row 18 Text "SHJ"  -- Reply-Message
    ∷ row 19 Text "ACS"  -- Callback-Number
    ∷ row 20 Text "CS"  -- Callback-Id
    ∷ row 22 Text "CS"  -- Framed-Route
    ∷ row 25 Plain "CS"  -- Class
    ∷ row 27 Four "C"  -- Session-Timeout
    ∷ row 28 Four "CSH"  -- Idle-Timeout
    ∷ row 30 Text "AC"  -- Called-Station-Id
    ∷ row 31 Text "AC"  -- Calling-Station-Id
    ∷ row 32 Text "AC"  -- NAS-Identifier
    ∷ row 41 Four "C"  -- Acct-Delay-Time
    ∷ row 44 Plain "AC"  -- Acct-Session-Id
    ∷ row 45 Four "C"  -- Acct-Authentic
    ∷ row 46 Four "C"  -- Acct-Session-Time
    ∷ row 50 Text "C"  -- Acct-Multi-Session-Id
    ∷ row 51 Four "C"  -- Acct-Link-Count
    ∷ row 55 Time "C"  -- Event-Timestamp
    ∷ row 60 Plain "A"  -- CHAP-Challenge
    ∷ row 61 Four "AC"  -- NAS-Port-Type
    ∷ row 62 Four "ACS"  -- Port-Limit
    ∷ row 75 Four "J"  -- Password-Retry
    ∷ row 76 Four "H"  -- Prompt
    ∷ row 77 Text "AC"  -- Connect-Info
    ∷ row 78 Plain "S"  -- Configuration-Token
    ∷ row 85 Four "S"  -- Acct-Interim-Interval
    ∷ row 87 Text "AC"  -- NAS-Port-Id
    ∷ row 88 Plain "CS"  -- Framed-Pool
    ∷ row 95 Sixteen "AC"  -- NAS-IPv6-Address
    ∷ row 96 Eight "ACS"  -- Framed-Interface-Id
    ∷ row 97 Prefix "ACS"  -- Framed-IPv6-Prefix
    ∷ row 98 Sixteen "ACS"  -- Login-IPv6-Host
    ∷ row 99 Text "CS"  -- Framed-IPv6-Route
    ∷ row 100 Plain "CS"  -- Framed-IPv6-Pool
    ∷ []

-- the row of an attribute's type
unfoldable pub row_of : ℕ → Option Row
row_of code = find (λ r. r.code == code) rows

-- the row of an AVP's code
unfoldable pub row_of_avp : ℕ → Option Row
row_of_avp code = find (λ r. r.avp == code) rows

-- a row stands under its type, and its AVP has the same number
abbrev pub RowsKeepNumbers : Type 0
RowsKeepNumbers = (code : ℕ) (r : Row) → row_of code ≡ Some r → (r.code ≡ code) × (r.avp ≡ code)

-- an AVP's row is that of the attribute of the same number
abbrev pub RowsMeet : Type 0
RowsMeet = (code : ℕ) → row_of_avp code ≡ row_of code
