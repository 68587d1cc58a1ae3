use Rattle.std.proofs.Common.{◌≡◌, ◌++◌}
use Rattle.std.specs.List.{flat_map}
use Rattle.named_lines.specs.NamedText.{attribute_lines}
use Rattle.named_lines.proofs.attribute_lines.push_attributes.Given as goal

-- the lines of what is left complete those that were written
abbrev pub invariant-loop-attribute : goal.invariant-loop-attribute
invariant-loop-attribute l =
    l.text.items ++ flat_map attribute_lines l.attribute-iterator ≡ l.initial.text.items ++ flat_map attribute_lines l.packet.attributes
