-- A message that is taken in pieces under a key.
use Rattle.std.specs.Prelude.{ℕ, List, ◌++◌}
use Rattle.md5.specs.Md5.{Holds}
use Rattle.hmac_md5.specs.Hmac.{inner_pad, outer_pad}
use Rattle.hmac_md5.specs.declared.pieces.Hmac.{Hmac}

-- It was begun with this key, and its pieces so far, joined, are this message.
unfoldable pub HasTaken : Hmac → List ℕ → List ℕ → Type 0
HasTaken h key message = Holds h.inner (inner_pad key ++ message) × Holds h.outer (outer_pad key)
