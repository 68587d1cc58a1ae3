-- What makes two requests one (RFC 6733, section 3: the End-to-End Identifier with the Origin-Host).
use Rattle.std.specs.Prelude.{◌==◌, nat_eq, Bool, ◌&&◌}
use Rattle.std.specs.Cmp.Lexicographic.{pointwise}
use Rattle.reverse_map.specs.Asked.{AskedParts}
use Rattle.reverse_core.specs.declared.key.Key.{Key}

abbrev pub same_key : Key → Key → Bool
same_key k l = pointwise nat_eq k.host l.host && k.end == l.end

abbrev pub key_of : AskedParts → Key
key_of q = record { host = q.host; end = q.header.end }
