use Rattle.std.proofs.Common.{◌≡◌, [], ◌∷◌, Some, IfSome, sym, subst, arith}
use Rattle.turnstile.specs.Passes.{known}
use Rattle.server_workers.specs.Entries.{replies, turn_of}
use Rattle.server_workers.specs.Going.{Went}
use Rattle.server_workers.specs.SocketReading.{Hands, ReadsOnce, input_of}
use Rattle.server_workers.proofs.SocketReadingLemmas.{lost-entry, lost-copy, took-entry}
use Rattle.server_workers.proofs.socket_reader.take_in.Goals as goal
use Rattle.server_workers.proofs.socket_reader.take_in.Goals.{in-Some+in_default-answer, in_default}

pub returns-in-Some-answer-clause-reads : goal.returns-in-Some-answer-clause-reads
returns-in-Some-answer-clause-reads g c = λ via d before is gave.
    let told = g.D.Datagrams.told in
    let k = known c.args.pass.now in
    let l = known c.answer.new.pass in
    let t = told c.args.socket.now in
    let u = told c.answer.new.socket in
    let ask : c.in-Some.input ≡ input_of via d = subst (λ r. IfSome r (λ i. i ≡ input_of via d)) c.in-Some.is is in
    let done = c.in-Some-answer.ensures in
    subst (λ over. ReadsOnce via k l before u c.args.counts.now (record { lost = c.args.counts.now.lost; row = 0 }) over) (sym c.is_last.ensures)
    (took-entry via k l before t u c.args.counts.now (omega (arith, c.requires.range)) d c.in-Some-answer.heard gave
    (subst (λ i. Went (turn_of i (Some c.in-Some-answer.heard) ∷ []) k l) ask done.went)
    (subst (λ i. Hands t u (replies (turn_of i (Some c.in-Some-answer.heard) ∷ []))) ask done.hands))

pub returns-clause-reads : goal.returns-clause-reads
returns-clause-reads g c = λ via d before is gave.
    let told = g.D.Datagrams.told in
    let k = known c.args.pass.now in
    let t = told c.args.socket.now in
    let few = c.requires.range in
    elim c.match-input.branch [
      | in-Some+in_default-answer w ↦
          rw (w.pass-is, w.socket-is, c.saturating_add-counts.ensures)
          (lost-entry via k (known w.answer.new.pass) before t (told w.answer.new.socket) c.args.counts.now (omega (arith, few)) d gave
          (subst (λ r. Went (turn_of w.in-Some.input r ∷ []) k (known w.answer.new.pass)) w.in_default-answer.is w.answer.ensures.went)
          (subst (λ r. Hands t (told w.answer.new.socket) (replies (turn_of w.in-Some.input r ∷ []))) w.in_default-answer.is w.answer.ensures.hands))
      | in_default w ↦
          rw (w.pass-is, w.socket-is, c.saturating_add-counts.ensures)
          (lost-copy via k k before t t c.args.counts.now (omega (arith, few)) d gave)
    ]
