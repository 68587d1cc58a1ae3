use Rattle.std.proofs.Common.{◌≡◌, ◌≤◌, length}
use Rattle.std.specs.List.{AllByRecursion}
use Rattle.accounting_map.specs.Numbers.{first_value}
use Rattle.session_book.proofs.reading.first_value.Given as goal

-- the first in what is left is the first in the packet, and no value there is long
abbrev pub invariant-loop-attribute : goal.invariant-loop-attribute
invariant-loop-attribute l =
    (first_value l.code l.attribute-iterator ≡ first_value l.code l.packet.attributes)
    × AllByRecursion (λ a. length a.value ≤ 253) l.attribute-iterator
