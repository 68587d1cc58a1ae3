-- The lines of a list of AVPs, item by item.
use Rattle.std.proofs.Common.{◌≡◌, ℕ, zero, suc, List, refl}
use Rattle.std.specs.List.{flat_map}
use Rattle.diameter_avp.specs.Avps.{avp_items}
use Rattle.named_lines.specs.NamedText.{lines_at, list_lines}

pub by-items : (depth indent : ℕ) (octets : List ℕ) → list_lines depth indent octets ≡ flat_map (lines_at depth indent) (avp_items octets)
unfolding list_lines
by-items zero indent octets = refl
by-items (suc depth) indent octets = refl
