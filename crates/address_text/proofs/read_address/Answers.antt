use Rattle.std.proofs.Common.{◌≡◌, ℕ, List, take, Some, refl, subst, sym}
use Rattle.wire_core.specs.Numbers.{number}
use Rattle.address_text.proofs.AddressLemmas.{address_in-spelled, address_in-none}
use Rattle.address_text.proofs.read_address.Goals as goal

pub returns-in-Ok : goal.returns-in-Ok
returns-in-Ok c =
    let Whole : List ℕ → Type 0 = λ octets. Some (number (take 4 octets)) ≡ Some (number octets) in
    rw (address_in-spelled _ _ c.in-Ok.ensures, c.get_u32.ensures, c.octets.ensures) (subst Whole (sym c.in-Ok.ensures.value) refl)

pub returns-in-Err : goal.returns-in-Err
returns-in-Err c = rw (address_in-none _ c.in-Err.ensures) refl
