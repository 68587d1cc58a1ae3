-- What a text is that the standard library reads as an address, or doesn't.
use Rattle.std.proofs.Common.{◌≡◌, ℕ, List, [], ◌∷◌, Option, None, Some, append-nil, refl, ap, lit≤}
use Rattle.std.specs.Option.{option_and_then}
use Rattle.std.specs.declared.net.ipv4_addr.Ipv4Addr.{Ipv4Addr}
use Rattle.std.specs.Net.Grammar.{IsDotted, IsIpv4Text}
use Rattle.std.specs.Net.Reader.{read_ipv4}
use Rattle.std.proofs.NetLemmas.Ipv4.{read_ipv4_complete, read_ipv4_sound}
use Rattle.wire_core.specs.Numbers.{number}
use Rattle.address_text.specs.Address.{address_in, alone}

pub address_in-spelled : (text octets : List ℕ) → IsDotted text octets → address_in text ≡ Some (number octets)
address_in-spelled text octets h =
    let read : read_ipv4 text ≡ Some (octets, []) = rw append-nil at (read_ipv4_complete text octets [] h (lit≤ tt)) in
    ap (option_and_then alone) read

pub address_in-none : (text : List ℕ) → ((a : Ipv4Addr) → IsIpv4Text text a → ⊥) → address_in text ≡ None
address_in-none text none = by (read_ipv4 text) refl
  where
    by : (r : Option (List ℕ × List ℕ)) → read_ipv4 text ≡ r → option_and_then alone r ≡ None
    by None e = refl
    by (Some (octets, [])) e =
        let (front, is, spells) = read_ipv4_sound text octets [] e in
        absurd (none (record { octets = octets }) (rw (is, append-nil) spells))
    by (Some (octets, x ∷ rest)) e = refl
