use Rattle.std.proofs.Common.{true, false, Option, sym, subst}
use Rattle.server_workers.specs.declared.heard.Heard.{Heard}
use Rattle.turnstile.specs.Passes.{known}
use Rattle.server_workers.specs.LinkWriting.{SentOn, WroteRound}
use Rattle.server_workers.proofs.WritingLemmas.{round-blank, round-broken, round-sent, round-unsent}
use Rattle.server_workers.proofs.link_writer.drain.Goals as goal
use Rattle.server_workers.proofs.link_writer.drain.Goals.{then-sound+then-not-send_all, else-sound, else-sound-via-then-sound+else-not-send_all, else-sound-via-else-sound}

pub returns-in_err-heard-clause-wrote : goal.returns-in_err-heard-clause-wrote
returns-in_err-heard-clause-wrote g c =
    let o = g.O.LinkOut.told c.args.link.now in
    let k = known c.args.pass.now in
    let l = known c.enter.new.pass in
    subst (λ (r : Option Heard). WroteRound r c.args.sound.now c.args.sound.now k l o o) (sym c.from_residual.ensures)
    (round-blank c.args.sound.now k l o c.in_err-heard.ensures.went)

pub returns-clause-wrote : goal.returns-clause-wrote
returns-clause-wrote g c =
    let heard = c.in_ok-heard.heard in
    let o = g.O.LinkOut.told c.args.link.now in
    let k = known c.args.pass.now in
    let l = known c.enter.new.pass in
    let went = c.in_ok-heard.ensures.went in
    elim c.if-sound.branch [
      | then-sound+then-not-send_all w ↦
          let p = g.O.LinkOut.told w.send_all.new.link in
          let m = known w.enter-then-not-send_all.new.pass in
          let sent : SentOn false heard.sends o p = subst (λ os. SentOn false os o p) w.as_slice.ensures w.if-not-send_all.ensures in
          rw (w.pass-is, w.link-is, w.sound-is, w.if-sound.true)
          (round-broken heard w.enter-then-not-send_all.result k l m o p went sent w.enter-then-not-send_all.ensures.went)
      | else-sound w ↦ elim w.else-sound.branch [
        | else-sound-via-then-sound+else-not-send_all v ↦
            let p = g.O.LinkOut.told v.send_all.new.link in
            let sent : SentOn true heard.sends o p = subst (λ os. SentOn true os o p) v.as_slice.ensures v.if-not-send_all.ensures in
            rw (w.pass-is, w.link-is, v.link-is, w.sound-is, v.if-sound.true) (round-sent heard k l o p went sent)
        | else-sound-via-else-sound v ↦ rw (w.pass-is, w.link-is, v.link-is, w.sound-is, v.if-sound.false) (round-unsent heard k l o went)
      ]
    ]
