-- The counts have room, and no live entry has the link that opens.
use Rattle.std.proofs.Common.{◌≡◌, true, ◌∙◌, ap}
use Rattle.session_carrier.specs.declared.kept.Numbers.{Numbers}
use Rattle.peer_machine.specs.Step.{event_of, message_in}
use Rattle.agent_core.specs.Machine.{opens_then}
use Rattle.agent_core.proofs.RoomLemmas.Spare.{outbox-next}
use Rattle.agent_core.proofs.LinkLemmas.Linked.{spoken, spoken-by, opens-is, open-unused, open-outbox, says-open}
use Rattle.agent_core.proofs.ledger.Ledger.linked.Goals as goal

pub count-requires : goal.count-requires
count-requires c = outbox-next c.args.self.now c.requires.steady c.begins-begins.result

pub relinked-requires-clause-unused : goal.relinked-requires-clause-unused
relinked-requires-clause-unused c =
    let S = c.args.self.now in
    let event = event_of c.args.input in
    let message = message_in c.args.input in
    let is : c.count.new.self ≡ spoken S event message =
    spoken-by S c.count.new.self c.args.input c.begins-begins.result c.spare-spare.result c.numbers-end.result.end c.step.new.self c.in_ok-step.step
    c.begins-begins.ensures c.spare-spare.ensures (ap (λ (n : Numbers). n.end) c.numbers-end.ensures) c.in_ok-step.ensures.peer c.in_ok-step.ensures.output c.count.ensures in
    let opening : opens_then S event ≡ true =
    opens-is S c.count.new.self event message c.phase-before.result c.phase.result c.opens.result is c.phase-before.ensures c.phase.ensures c.opens.ensures ∙ c.if-opens.true in
    open-unused S c.count.new.self event message is c.requires.steady opening

pub relinked-requires-clause-outbox : goal.relinked-requires-clause-outbox
relinked-requires-clause-outbox c =
    let S = c.args.self.now in
    let event = event_of c.args.input in
    let message = message_in c.args.input in
    let is : c.count.new.self ≡ spoken S event message =
    spoken-by S c.count.new.self c.args.input c.begins-begins.result c.spare-spare.result c.numbers-end.result.end c.step.new.self c.in_ok-step.step
    c.begins-begins.ensures c.spare-spare.ensures (ap (λ (n : Numbers). n.end) c.numbers-end.ensures) c.in_ok-step.ensures.peer c.in_ok-step.ensures.output c.count.ensures in
    open-outbox S c.count.new.self event message is c.requires.steady

pub returns-then-opens-clause-outputs : goal.returns-then-opens-clause-outputs
returns-then-opens-clause-outputs c =
    let S = c.args.self.now in
    let event = event_of c.args.input in
    let message = message_in c.args.input in
    let is : c.count.new.self ≡ spoken S event message =
    spoken-by S c.count.new.self c.args.input c.begins-begins.result c.spare-spare.result c.numbers-end.result.end c.step.new.self c.in_ok-step.step
    c.begins-begins.ensures c.spare-spare.ensures (ap (λ (n : Numbers). n.end) c.numbers-end.ensures) c.in_ok-step.ensures.peer c.in_ok-step.ensures.output c.count.ensures in
    let opening : opens_then S event ≡ true =
    opens-is S c.count.new.self event message c.phase-before.result c.phase.result c.opens.result is c.phase-before.ensures c.phase.ensures c.opens.ensures ∙ c.if-opens.true in
    says-open S event message c.in_ok-resends.resends c.in_ok-resends.ensures opening
