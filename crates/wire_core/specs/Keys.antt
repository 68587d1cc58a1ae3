-- Internal: keys that are held together or lent.
use Rattle.std.specs.Arc.{arc_value}
use Rattle.wire_core.specs.declared.shared_key.Holder.{Holder}
use Rattle.wire_core.specs.declared.shared_key.Holder.TheVariants.{Shared, Lent}

unfoldable pub key_of : {T : Type 0} → Holder T → T
key_of (Shared key) = arc_value key
key_of (Lent key) = key.now
