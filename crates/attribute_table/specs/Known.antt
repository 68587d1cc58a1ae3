-- The AVPs that are known, and those that carry keys.
use Rattle.std.specs.Prelude.{ℕ, Bool, ◌==◌, ◌&&◌, ◌||◌, List, [], ◌∷◌, Option, Some, None, is_some}
use Rattle.std.specs.List.{list_any}
use Rattle.attribute_table.specs.Rows.{row_of_avp}

-- the AVPs that are known and that no row copies, all with flag V clear (RFC 6733, section 4.5; RFC 4005,
-- sections 4 to 9; RFC 4072, section 4; the choice is profile)
unfoldable pub known_codes : List ℕ
known_codes =
    24  -- State
    ∷ 29  -- Termination-Action
    ∷ 33  -- Proxy-State
    ∷ 258  -- Auth-Application-Id
    ∷ 259  -- Acct-Application-Id
    ∷ 260  -- Vendor-Specific-Application-Id
    ∷ 263  -- Session-Id
    ∷ 264  -- Origin-Host
    ∷ 268  -- Result-Code
    ∷ 270  -- Session-Binding
    ∷ 271  -- Session-Server-Failover
    ∷ 272  -- Multi-Round-Time-Out
    ∷ 274  -- Auth-Request-Type
    ∷ 276  -- Auth-Grace-Period
    ∷ 277  -- Auth-Session-State
    ∷ 278  -- Origin-State-Id
    ∷ 279  -- Failed-AVP
    ∷ 281  -- Error-Message
    ∷ 282  -- Route-Record
    ∷ 284  -- Proxy-Info
    ∷ 285  -- Re-Auth-Request-Type
    ∷ 287  -- Accounting-Sub-Session-Id
    ∷ 291  -- Authorization-Lifetime
    ∷ 294  -- Error-Reporting-Host
    ∷ 296  -- Origin-Realm
    ∷ 297  -- Experimental-Result
    ∷ 401  -- Tunneling
    ∷ 408  -- Origin-AAA-Protocol
    ∷ 462  -- EAP-Payload
    ∷ 465  -- Accounting-EAP-Auth-Method
    ∷ 480  -- Accounting-Record-Type
    ∷ 483  -- Accounting-Realtime-Required
    ∷ 485  -- Accounting-Record-Number
    ∷ []

-- an AVP with a row is known too
unfoldable pub is_known : ℕ → Bool
is_known code = is_some (row_of_avp code) || list_any (λ x. x == code) known_codes

-- without a vendor Tunnel-Password, EAP-Key-Name and EAP-Master-Session-Key (RFC 2868, RFC 4072), of the
-- vendor 311 MS-CHAP-MPPE-Keys, MS-MPPE-Send-Key and MS-MPPE-Recv-Key (RFC 2548)
abbrev pub is_key : ℕ → Option ℕ → Bool
is_key code None = code == 69 || code == 102 || code == 464
is_key code (Some vendor) = vendor == 311 && (code == 12 || code == 16 || code == 17)
