use Rattle.std.proofs.Common.{◌≡◌, [], ◌∙◌, subst, sym, ap}
use Rattle.agent_server.specs.Desks.{HasRead, HasSent}
use Rattle.agent_server.proofs.StartingLemmas.{carries-on}
use Rattle.agent_server.proofs.stand.prepare.Goals as goal

pub returns-in-Ok-start-clause-carries : goal.returns-in-Ok-start-clause-carries
returns-in-Ok-start-clause-carries g c = λ base config until read sender.
    carries-on g.C.Clock.readings base c.share.result _ c.share.ensures.same
    (c.in-Ok-start.ensures.carries base (c.new-desk.ensures base c.in-Ok-new.ensures.stands (c.in-Ok-new.ensures.config ∙ config) until read sender))

pub returns-in-Ok-start-clause-began : goal.returns-in-Ok-start-clause-began
returns-in-Ok-start-clause-began g c = λ base config until read sender.
    c.share.ensures.began base
    (c.in-Ok-start.ensures.carries base (c.new-desk.ensures base c.in-Ok-new.ensures.stands (c.in-Ok-new.ensures.config ∙ config) until read sender))

pub returns-in-Err-clause-began : goal.returns-in-Err-clause-began
returns-in-Err-clause-began g c = λ base config until read sender.
    let stands = c.new-desk.ensures base c.in-Ok-new.ensures.stands (c.in-Ok-new.ensures.config ∙ config) until read sender in
    let clock_same : c.into_end-tools.result.tools.clock ≡ c.new-desk.result.clock = ap (λ e. e.tools.clock) c.into_end-tools.ensures ∙ ap (λ d. d.clock) c.in-Err.ensures.same in
    let sender_same : c.into_end-tools.result.tools.sender ≡ c.new-desk.result.sender = ap (λ e. e.tools.sender) c.into_end-tools.ensures ∙ ap (λ d. d.sender) c.in-Err.ensures.same in
    record {
      turns = [];
      run = tt;
      clock_read = subst (λ clock. HasRead (g.C.Clock.readings clock) base.before []) (sym clock_same) stands.clock;
      of_record = subst (λ s. HasSent base.sender s []) (sym sender_same) stands.sent;
    }
