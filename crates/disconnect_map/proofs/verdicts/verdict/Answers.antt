use Rattle.std.proofs.Common.{◌↔◌, Bool, true, false, ℕ, List, Some, ap, ◌∙◌, ◌≡◌}
use Rattle.disconnect_map.specs.Verdicts.{Answers, code_verdict, is_authentic_answer}
use Rattle.disconnect_map.proofs.VerdictLemmas.{IsCodeOf, acknowledges, refuses, tells, found_packet}
use Rattle.disconnect_map.proofs.verdicts.verdict.Goals as goal

-- what is told of a packet that was read is told of the datagram
told_of : (c : goal.After-then_some) (told : Bool) (number : ℕ) → IsCodeOf told number
    → c.then_some.result ≡ Some told ↔ Answers c.args.client.now.secret c.args.request.now c.args.octets.now number
told_of c told number means =
    tells c.args.client.now.secret c.args.request.now c.args.octets.now c.in_ok-packet.packet c.is_answer.result c.in_ok-ended.ended told number c.then_some.result
    (found_packet c.args.octets.now c.parse.result c.in_ok-packet.packet c.in_ok-packet.ensures.value c.parse.ensures.found) means
    (c.is_answer.ensures ∙ ap (λ (secret : List ℕ). is_authentic_answer secret c.args.request.now c.in_ok-packet.packet) c.as_slice.ensures)
    (c.in_ok-ended.ensures ∙ ap code_verdict c.code.ensures) c.then_some.ensures

pub returns-clause-ended : goal.returns-clause-ended
returns-clause-ended c = told_of c true 41 acknowledges

pub returns-clause-refused : goal.returns-clause-refused
returns-clause-refused c = told_of c false 42 refuses
