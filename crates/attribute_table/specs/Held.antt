-- Internal: the octets of an image.
use Rattle.std.specs.Prelude.{ℕ, List}
use Rattle.attribute_table.specs.declared.image.Held.{Held}
use Rattle.attribute_table.specs.declared.image.Held.TheVariants.{Borrowed, Made}

abbrev pub held_octets : Held → List ℕ
held_octets (Borrowed octets) = octets.now
held_octets (Made octets) = octets
