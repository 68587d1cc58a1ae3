use Rattle.std.proofs.Common.{◌≡◌, ◌++◌, drop, option_map}
use Rattle.text_lines.specs.Views.{plain}
use Rattle.text_lines.specs.Words.{addresses_of}
use Rattle.text_lines.proofs.words.read_each.Given as goal

-- what is left completes what was read
abbrev pub invariant-loop-piece : goal.invariant-loop-piece
invariant-loop-piece l =
    option_map (λ further. l.addresses.items ++ further) (addresses_of (plain (drop l.piece-index l.pieces))) ≡ addresses_of (plain l.pieces)
