use Rattle.std.proofs.Common.{◌≡◌, ◌%◌, ◌∙◌, true, cond, ap, sym}
use Rattle.diameter_message.specs.View.{message_view}
use Rattle.reverse_map.specs.Asked.{direction_of}
use Rattle.reverse_map.specs.Answers.{refusal}
use Rattle.reverse_map.specs.Requests.{request_image}
use Rattle.reverse_core.specs.declared.events.ReverseOutput.TheVariants.{Answer}
use Rattle.reverse_core.specs.History.{is_full, says, translated, on_unknown}
use Rattle.reverse_core.specs.State.{kept_in, state_of}
use Rattle.reverse_core.proofs.ConsiderLemmas.{considers-says, request-asked}
use Rattle.reverse_core.proofs.ledger.Ledger.unknown.Goals as goal

pub returns-then-is_full : goal.returns-then-is_full
returns-then-is_full c = λ q asked.
    let l = c.args.self.now in
    let full : is_full l.open_ones.list (kept_in (state_of l) c.args.moment) l.open_ones.next ≡ true = sym c.if-is_full.ensures in
    considers-says c.refuse.result (on_unknown l.own l.open_ones.list (kept_in (state_of l) c.args.moment) l.open_ones.next c.args.octets.now c.args.random q)
    (Answer (refusal l.own q 3004))
    (ap (λ b. cond b (says (Answer (refusal l.own q 3004))) (translated l.own l.open_ones.next c.args.octets.now q (request_image (direction_of q.header) (l.open_ones.next % 256) c.args.random l.own.secret q.avps))) full)
    (c.refuse.ensures q (request-asked c.args.octets.now (message_view c.args.message.now) c.requires.message c.requires.served ∙ asked))
