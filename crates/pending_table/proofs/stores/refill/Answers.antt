use Rattle.std.proofs.Common.{◌≡◌, ◌<◌, ◌∷◌, [], ◌++◌, append_assoc, length, Some, IfOk, OnOk, ap, sym, subst, ◌∙◌, arith}
use Rattle.std.specs.HashMap.{get, Updates}
use Rattle.indexmap.specs.IndexMap.{spare}
use Rattle.pending_table.specs.Merged.{Held, Pairs}
use Rattle.pending_table.specs.Relinked.{HasOtherNumber}
use Rattle.pending_table.specs.Stores.{same_number}
use Rattle.pending_table.proofs.Refilling.{pairs_at, leads-inserted}
use Rattle.pending_table.proofs.stores.refill.Goals as goal

-- the row goes from those to come to those before them
pub loop-serial-preserved : goal.loop-serial-preserved
loop-serial-preserved c =
    let inv = c.loop-serial.invariant in
    let p : Held = (c.in-Some.serial.now, c.in-Some.row.now) in
    let later = c.next.new.self in
    let steps : c.loop-serial.serial-iterator ≡ p ∷ later = c.in-Some.ensures.steps in
    let done = inv.3.0 in
    let split : c.args.waiting.now.entries ≡ done ++ p ∷ later = inv.3.1 ∙ ap (λ ps. done ++ ps) steps in
    let room : 0 < spare c.loop-serial.numbers = omega (arith, inv.2, ap length steps) in
    let apart = pairs_at HasOtherNumber done p later (subst (Pairs HasOtherNumber) split c.requires.apart) in
    let e = c.insert.ensures in
    let old = subst (λ n. IfOk c.insert.result (λ old. old ≡ get same_number c.loop-serial.numbers n)) c.number.ensures e.old in
    let updates =
    subst (λ n. OnOk c.insert.result (Updates same_number c.loop-serial.numbers c.insert.new.self n (Some p.0))) c.number.ensures e.updates in (
      tt,
      tt,
      omega (arith, inv.2, ap length steps, e.spare),
      (
        done ++ p ∷ [],
        split ∙ sym (append_assoc done (p ∷ []) later),
        leads-inserted done p c.loop-serial.numbers c.insert.new.self c.insert.result inv.3.2 apart (e.succeeds room) old updates e.len,
      ),
    )
