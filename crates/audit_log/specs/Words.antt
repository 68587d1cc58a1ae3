-- The words of the program (profile).
use Rattle.std.specs.Prelude.{ℕ, ◌&&◌, nat_le, List, [], ◌∷◌, length, Option, Some, None, String, string_bytes, bytes_eq, codes, if◌then◌else◌}
use Rattle.std.specs.declared.alloc.Global.{Global}
use Rattle.text_lines.specs.Words.{◌>>=◌, hex_word}
use Rattle.audit_log.specs.declared.words.AuditCommand.{AuditCommand}
use Rattle.audit_log.specs.declared.words.AuditCommand.TheVariants.{Write, Check}

abbrev pub audit_command : List ℕ → Option AuditCommand
audit_command word =
    if bytes_eq word (codes "write") then Some Write
    else if bytes_eq word (codes "check") then Some Check
    else None

abbrev pub sized_key : List ℕ → Option (List ℕ)
sized_key key = if nat_le 1 (length key) && nat_le (length key) 64 then Some key else None

-- 1 to 64 octets in hex
abbrev pub key_word : List ℕ → Option (List ℕ)
key_word word = hex_word word >>= sized_key

-- write KEY, or check KEY
abbrev pub parsed_command : List (String Global) → Option (AuditCommand × List ℕ)
parsed_command (word ∷ key ∷ []) = do
  command ← audit_command (string_bytes word)
  key ← key_word (string_bytes key)
  Some (command, key)
parsed_command words = None
