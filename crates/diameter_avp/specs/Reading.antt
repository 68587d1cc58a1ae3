-- Internal: what a reader of one AVP answers.
use Rattle.std.specs.Prelude.{◌≡◌, ℕ, ◌≤◌, List, length, Result, Ok, Err}
use Rattle.diameter_avp.specs.declared.avp.Avp.{Avp}
use Rattle.diameter_avp.specs.declared.fault.AvpFault.{AvpFault}
use Rattle.diameter_avp.specs.Avps.{read_avp, span}
use Rattle.diameter_avp.specs.View.{avp_view}

-- the AVP and its octets with padding, which lie inside
pub record Takes (place : ℕ) (octets : List ℕ) (avp : Avp) (size : ℕ) : Type 0 where
  pub read : read_avp place octets ≡ Ok (avp_view avp)
  pub whole : size ≡ span octets
  pub header : 8 ≤ size
  pub inside : size ≤ length octets

abbrev pub Gives : ℕ → List ℕ → Result (Avp × ℕ) AvpFault → Type 0
Gives place octets (Ok x) = Takes place octets x.0 x.1
Gives place octets (Err fault) = read_avp place octets ≡ Err fault
