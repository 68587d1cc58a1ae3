-- A transcript whose `link` line is cut.
use Rattle.std.proofs.Common.{◌≡◌, false, List, ℕ, [], ◌∷◌, ◌++◌, codes, refl, lit≤, arith}
use Rattle.std.specs.Fmt.{digits}
use Rattle.std.specs.Net.Reader.{read_number, read_octet, read_ipv4}
use Rattle.wire_core.specs.Numbers.{number}
use Rattle.hex.specs.Hex.{decode_pairs}
use Rattle.agent_settings.specs.Config.{are_settings_in_limits}
use Rattle.printed_lines.specs.EventText.{link_line}
use Rattle.replay_command.specs.Cuts.{GivesSame}
use Rattle.transcript.specs.Reading.{read_from, start}
use Rattle.replay_command.proofs.CutLemmas.{link-lines-cut}
use Rattle.transcript.proofs.Grammar.GrammarWordLemmas.{hex-spelled}

link_line-example : link_line (codes "1100") (codes "0100aB") ≡ codes "1100 link 0100aB"
link_line-example = refl

before-link : List (List ℕ)
before-link = codes "agent a b c 192.0.2.1 0 1000 1 2 6000" ∷ codes "0 ready" ∷ []

cut-example : GivesSame (read_from start (before-link ++ codes "1100 link 0100aB" ∷ []))
    (read_from start (before-link ++ codes "1100 link 01" ∷ codes "1100 link 00aB" ∷ []))
unfolding before-link digits number read_number read_octet read_ipv4 decode_pairs are_settings_in_limits
cut-example =
    link-lines-cut false before-link [] (codes "1100") (codes "01") (codes "00aB") (1 ∷ []) (0 ∷ 171 ∷ []) 1100 (refl, lit≤ tt)
    (hex-spelled (codes "01") (1 ∷ []) refl) (hex-spelled (codes "00aB") (0 ∷ 171 ∷ []) refl) (omega arith) (omega arith) refl
