use Rattle.std.proofs.Common.{◌∙◌, ap, refl, subst, sym}
use Rattle.reverse_script.specs.Script.{read_line}
use Rattle.reverse_script.specs.Running.{Refuses, said_of}
use Rattle.reverse_script.proofs.StepLemmas.{refused, takes, takes-part}
use Rattle.reverse_script.proofs.work.ReverseWorkWork.take.Goals as goal

pub returns-in-Err-clause-works : goal.returns-in-Err-clause-works
returns-in-Err-clause-works g c = λ lines took.
    let said = subst (λ b. Refuses c.in-Err.fault (read_line b c.args.line.now)) c.is_some.ensures c.in-Err.ensures.exact in
    rw c.fault_status.ensures (refused c.in-Err.fault c.args.self.now lines c.args.line.now c.number_after-number.result _ took c.number_after-number.ensures said)

pub returns-in-Ok-follow-clause-works : goal.returns-in-Ok-follow-clause-works
returns-in-Ok-follow-clause-works g c = λ lines took.
    takes c.args.self.now (record { lines = c.number_after-number.result; core = c.follow.new.self.core; counts = c.follow.new.self.counts }) lines c.args.line.now (said_of c.in-Ok.said) c.number_after-number.result _ _ took
    (ap (λ b. read_line b c.args.line.now) (sym c.is_some.ensures) ∙ c.in-Ok.ensures.exact) c.number_after-number.ensures refl
    (λ stage at. c.in-Ok-follow.ensures.follows stage at) (λ stage at. c.in-Ok-follow.ensures.written stage at)

pub returns-in-Err-follow-clause-works : goal.returns-in-Err-follow-clause-works
returns-in-Err-follow-clause-works g c = λ lines took.
    takes-part c.in-Err-follow.status c.args.self.now lines c.args.line.now (said_of c.in-Ok.said) c.number_after-number.result _ _ took
    (ap (λ b. read_line b c.args.line.now) (sym c.is_some.ensures) ∙ c.in-Ok.ensures.exact) c.number_after-number.ensures c.in-Err-follow.ensures.failure
    (λ stage at. c.in-Err-follow.ensures.part stage at)
