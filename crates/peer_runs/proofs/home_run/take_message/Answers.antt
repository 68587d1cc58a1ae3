use Rattle.std.proofs.Common.{List, ℕ, ◌∙◌, sym, ap, subst}
use Rattle.wire_core.specs.Sink.{AppendsPrefix}
use Rattle.wire_devices.specs.Telling.{Adds}
use Rattle.agent_status.specs.declared.status.Status.{Status}
use Rattle.peer_runs.specs.HomeRuns.{FailsToAnswer, command_text}
use Rattle.peer_runs.proofs.HomeRunLemmas.{lined, unlined}
use Rattle.peer_runs.proofs.home_run.take_message.Goals as goal

pub returns-in_default-command_line-clause-takes : goal.returns-in_default-command_line-clause-takes
returns-in_default-command_line-clause-takes g c =
    let old = g.O.LinkOut.told c.args.link.now in
    let new = g.O.LinkOut.told c.send.new.self in
    let handed = subst (λ (xs : List ℕ). Adds old.handed new.handed xs) c.as_slice.ensures c.in-Done.ensures.handed in
    (c.in-Done.ensures.faults.stays (λ failed. failed), unlined c.args.home.now c.args.message.now c.in-Some.answer (sym c.in-Ok.ensures.answer ∙ c.in-Some.is) old new handed (g.K.Sink.written c.args.output.now))

pub returns-clause-takes : goal.returns-clause-takes
returns-clause-takes g c =
    let old = g.O.LinkOut.told c.args.link.now in
    let new = g.O.LinkOut.told c.send.new.self in
    let before = g.K.Sink.written c.args.output.now in
    let now = g.K.Sink.written c.write_text.new.sink in
    let handed = subst (λ (xs : List ℕ). Adds old.handed new.handed xs) c.as_slice.ensures c.in-Done.ensures.handed in
    let line = c.as_slice-2.ensures ∙ c.in-Ok-command_line.ensures ∙ ap command_text c.command_of.ensures in (
      subst (λ (s : Status). FailsToAnswer s old new) (sym c.in-Err.ensures.failed.0) (c.in-Done.ensures.faults.stays (λ failed. failed)),
      lined c.args.home.now c.args.message.now c.in-Some.answer (sym c.in-Ok.ensures.answer ∙ c.in-Some.is) old new handed before now
          (subst (λ (xs : List ℕ). AppendsPrefix before now xs) line c.in-Err.ensures.failed.1),
    )
