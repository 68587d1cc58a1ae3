-- Internal: keys of the book, kept or lent.
use Rattle.std.specs.Prelude.{ℕ, List}
use Rattle.session_book.specs.declared.values.KeyOctets.{KeyOctets}
use Rattle.session_book.specs.declared.values.KeyOctets.TheVariants.{Kept, Lent}

unfoldable pub key_octets : KeyOctets → List ℕ
key_octets (Kept octets) = octets
key_octets (Lent octets) = octets.now
