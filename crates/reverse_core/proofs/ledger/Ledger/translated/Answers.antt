use Rattle.std.proofs.Common.{◌≡◌, ◌%◌, ◌∙◌, Err, ap, sym}
use Rattle.reverse_map.specs.Asked.{direction_of}
use Rattle.reverse_map.specs.Answers.{refusal}
use Rattle.reverse_map.specs.Requests.{request_image}
use Rattle.reverse_map.specs.declared.fault.ReverseFault.{ReverseFault}
use Rattle.reverse_map.specs.declared.fault.ReverseFault.TheVariants.{Unsupported, Unable}
use Rattle.diameter_message.specs.View.{message_view}
use Rattle.reverse_core.specs.declared.events.ReverseOutput.TheVariants.{Answer}
use Rattle.reverse_core.specs.History.{translated}
use Rattle.reverse_core.proofs.ConsiderLemmas.{considers-says, packet-long, request-asked, some-of}
use Rattle.reverse_core.proofs.ledger.Ledger.translated.Goals as goal

pub taken-requires-clause-packet : goal.taken-requires-clause-packet
taken-requires-clause-packet c =
    let found = some-of _ c.requires.asked in
    packet-long (c.in-Ok.ensures.packet found.0 found.1)

pub returns-in-Err-Unsupported : goal.returns-in-Err-Unsupported
returns-in-Err-Unsupported c = λ q asked.
    let l = c.args.self.now in
    let n = l.open_ones.next in
    let id = c.next_identifier-id.result in
    let image : request_image (direction_of q.header) (n % 256) c.args.random l.own.secret q.avps ≡ Err Unsupported =
    ap (λ i. request_image (direction_of q.header) i c.args.random l.own.secret q.avps) (sym c.next_identifier-id.ensures)
    ∙ ap (λ s. request_image (direction_of q.header) id c.args.random s q.avps) (sym c.as_slice.ensures)
    ∙ c.in-Err-Unsupported.ensures.unsupported q asked (ap (λ (f : ReverseFault). Err f) c.in-Err-Unsupported.field-0-is) in
    considers-says c.refuse.result (translated l.own n c.args.octets.now q (request_image (direction_of q.header) (n % 256) c.args.random l.own.secret q.avps))
    (Answer (refusal l.own q 5001)) (ap (translated l.own n c.args.octets.now q) image)
    (c.refuse.ensures q (request-asked c.args.octets.now (message_view c.args.message.now) c.requires.message c.requires.served ∙ asked))

pub returns-in-Err-Unable : goal.returns-in-Err-Unable
returns-in-Err-Unable c = λ q asked.
    let l = c.args.self.now in
    let n = l.open_ones.next in
    let id = c.next_identifier-id.result in
    let image : request_image (direction_of q.header) (n % 256) c.args.random l.own.secret q.avps ≡ Err Unable =
    ap (λ i. request_image (direction_of q.header) i c.args.random l.own.secret q.avps) (sym c.next_identifier-id.ensures)
    ∙ ap (λ s. request_image (direction_of q.header) id c.args.random s q.avps) (sym c.as_slice.ensures)
    ∙ c.in-Err-Unable.ensures.unable q asked (ap (λ (f : ReverseFault). Err f) c.in-Err-Unable.field-0-is) in
    considers-says c.refuse-in-Err-Unable.result (translated l.own n c.args.octets.now q (request_image (direction_of q.header) (n % 256) c.args.random l.own.secret q.avps))
    (Answer (refusal l.own q 5012)) (ap (translated l.own n c.args.octets.now q) image)
    (c.refuse-in-Err-Unable.ensures q (request-asked c.args.octets.now (message_view c.args.message.now) c.requires.message c.requires.served ∙ asked))
