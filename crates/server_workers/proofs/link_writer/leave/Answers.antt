use Rattle.std.proofs.Common.{sym, subst}
use Rattle.turnstile.specs.Passes.{known}
use Rattle.server_workers.specs.declared.link_writer.WriterEnd.{WriterEnd}
use Rattle.server_workers.specs.LinkWriting.{TookLeave}
use Rattle.server_workers.proofs.WritingLemmas.{leave-blank, leave-done, leave-undrained}
use Rattle.server_workers.proofs.link_writer.leave.Goals as goal
use Rattle.server_workers.proofs.link_writer.leave.Goals.{in-Some-drain, in-None}

pub returns-in_default-clause-took : goal.returns-in_default-clause-took
returns-in_default-clause-took g c = leave-blank _ _ _ _ c.in_default.ensures.went

pub returns-clause-took : goal.returns-clause-took
returns-clause-took g c =
    let k = known c.args.pass.now in
    let m = known c.drain.new.pass in
    let o = g.O.LinkOut.told c.args.link.now in
    let p = g.O.LinkOut.told c.drain.new.link in
    elim c.match-drain.branch [
      | in-Some-drain w ↦
          subst (λ (end : WriterEnd). TookLeave end c.args.sound.now c.drain.new.sound k m o p) (sym w.result-is)
          (leave-done _ _ _ _ _ _ _ _ _ c.in-Some.ensures.went w.in-Some-drain.ensures.wrote)
      | in-None w ↦
          subst (λ (end : WriterEnd). TookLeave end c.args.sound.now c.drain.new.sound k m o p) (sym w.result-is)
          (leave-undrained _ _ _ _ _ _ _ _ c.in-Some.ensures.went w.in-None.ensures.wrote)
    ]
