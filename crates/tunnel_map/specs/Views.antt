-- What code hands out.
use Rattle.std.specs.Prelude.{ℕ}
use Rattle.tunnel_map.specs.declared.tagged.Tagged.{Tagged}
use Rattle.tunnel_map.specs.Tagged.{TaggedParts}

-- a tagged attribute of this type, without where its value lies
abbrev pub tagged_view : ℕ → Tagged → TaggedParts
tagged_view code t = record { code = code; tag = t.tag; number = t.number; body = t.body.now }
