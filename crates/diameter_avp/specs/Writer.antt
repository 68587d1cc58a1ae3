-- A list of AVPs in the making.
use Rattle.std.specs.Prelude.{◌≡◌, ℕ, ◌+◌, ◌≤◌, Bool, List, [], ◌∷◌, ◌++◌, length, take, drop, None}
use Rattle.diameter_avp.specs.Avps.{AvpParts, avps_text, made, IsAvps, readable_avps}

-- the octets that stand before the list, and the list
pub record WriterParts : Type 0 where
  pub front : List ℕ
  pub list : List AvpParts

-- one AVP more
abbrev pub with_avp : WriterParts → AvpParts → WriterParts
with_avp w a = record w { list = w.list ++ a ∷ [] }

-- ---- groups (RFC 6733, section 4.4)

-- A group in the making: what stands before it, its code and M flag, and its members so far.
pub record GroupParts : Type 0 where
  pub before : List AvpParts
  pub code : ℕ
  pub mandatory : Bool
  pub members : List AvpParts

-- while it is open, its members stand behind it, and it is empty itself
abbrev pub while_open : GroupParts → List AvpParts
while_open g = g.before ++ made g.code None g.mandatory [] ∷ g.members

-- once it is ended, its body is the text of its members
abbrev pub once_ended : GroupParts → List AvpParts
once_ended g = g.before ++ made g.code None g.mandatory (avps_text g.members) ∷ []

-- in this list the group is open, and so many octets stand before it
pub record IsOpen (avps : List AvpParts) (octets : ℕ) (g : GroupParts) : Type 0 where
  pub list : avps ≡ while_open g
  pub place : octets ≡ length (avps_text g.before)

-- ---- octets

-- the list behind so many octets
abbrev pub list_behind : ℕ → List ℕ → List AvpParts
list_behind front octets = readable_avps (drop front octets)

abbrev pub written : ℕ → List ℕ → WriterParts
written front octets = record { front = take front octets; list = list_behind front octets }

-- the octets behind the front are the text of a list
pub record IsWritten (front : ℕ) (octets : List ℕ) : Type 0 where
  pub begun : front ≤ length octets
  pub low : front ≤ 20
  pub short : length octets ≤ front + 65516
  pub avps : IsAvps (drop front octets) (list_behind front octets)
  pub text : drop front octets ≡ avps_text (list_behind front octets)
