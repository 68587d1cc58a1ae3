use Rattle.std.proofs.Common.{◌≡◌, ◌++◌}
use Rattle.std.specs.List.{flat_map}
use Rattle.named_lines.specs.NamedText.{part_line}
use Rattle.named_lines.proofs.attribute_lines.push_parts.Given as goal

-- the lines of what is left complete those that were written
abbrev pub invariant-loop-part : goal.invariant-loop-part
invariant-loop-part l =
    l.text.items ++ flat_map part_line l.part-iterator ≡ l.initial.text.items ++ flat_map part_line l.fn.parts
