use Rattle.std.proofs.Common.{◌≡◌, Some, cond, Result, Ok, Err, subst}
use Rattle.std.specs.Prelude.{IsOk, OnOk}
use Rattle.std.specs.HashMap.{get, Updates}
use Rattle.reverse_core.specs.declared.key.Key.{Key}
use Rattle.reverse_core.specs.declared.ledger.Standing.TheVariants.{Open}
use Rattle.reverse_core.specs.Keys.{same_key}
use Rattle.reverse_core.proofs.LedgerLemmas.{sound-taken}
use Rattle.reverse_core.proofs.ledger.Ledger.enter.Goals as goal

-- what an insert that isn't refused does
on_ok : {A E : Type 0} (r : Result A E) (P : Type 0) → OnOk r P → IsOk r → P
on_ok (Ok x) P h is = h
on_ok (Err y) P h is = absurd (cc)

pub returns-clause-sound : goal.returns-clause-sound
returns-clause-sound c =
    let l = c.args.self.now in
    let updates = on_ok c.insert.result (Updates same_key l.index c.insert.new.self c.args.key (Some Open)) c.insert.ensures.updates (c.insert.ensures.succeeds c.requires.room) in
    let others : (q : Key) → get same_key c.insert.new.self q ≡ cond (same_key c.args.key q) (Some Open) (get same_key l.index q) = updates.0 in
    sound-taken l c.insert.new.self c.push.new.self c.args.taken c.args.moment c.requires.sound c.requires.may
    (subst (λ (k : Key). (q : Key) → get same_key c.insert.new.self q ≡ cond (same_key k q) (Some Open) (get same_key l.index q)) c.requires.key others)
    c.push.ensures.list c.push.ensures.next c.requires.fits c.requires.late
