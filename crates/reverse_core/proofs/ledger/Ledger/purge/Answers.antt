use Rattle.std.proofs.Common.{◌≡◌, ◌∷◌, ◌∙◌, None, cond, false, filter, ap, subst, sym, arith}
use Rattle.std.specs.HashMap.{get}
use Rattle.reverse_core.specs.declared.key.Key.{Key}
use Rattle.reverse_core.specs.Keys.{same_key}
use Rattle.reverse_core.specs.Requests.{is_kept}
use Rattle.reverse_core.proofs.LedgerLemmas.{all-kept, sound-dropped}
use Rattle.reverse_core.proofs.ledger.Ledger.purge.Goals as goal

pub loop-past-preserved : goal.loop-past-preserved
loop-past-preserved c =
    let l = c.loop-past.self in
    let inv = c.loop-past.invariant in
    let some = c.in-Some.ensures.some in
    let updates : (q : Key) → get same_key c.swap_remove.new.self q ≡ cond (same_key c.in-Some.past.key q) None (get same_key l.index q) = c.swap_remove.ensures.updates.0 in
    let gone : is_kept c.args.self.now.own c.args.moment c.in-Some.past ≡ false = some.1 in
    record {
      sound = sound-dropped l c.swap_remove.new.self c.pop_past.new.self c.in-Some.past inv.sound some.0 some.2 updates;
      own = inv.own;
      open_ones = inv.open_ones;
      kept = (let first : filter (is_kept c.args.self.now.own c.args.moment) l.kept.list ≡ filter (is_kept c.args.self.now.own c.args.moment) c.pop_past.new.self.list =
          ap (filter (is_kept c.args.self.now.own c.args.moment)) some.0 ∙ ap (λ b. cond b (c.in-Some.past ∷ filter (is_kept c.args.self.now.own c.args.moment) c.pop_past.new.self.list) (filter (is_kept c.args.self.now.own c.args.moment) c.pop_past.new.self.list)) gone in
          sym first ∙ inv.kept);
      moment = inv.moment;
      room = omega (arith, inv.room, c.swap_remove.ensures.room.0);
    }

pub returns-clause-kept : goal.returns-clause-kept
returns-clause-kept c =
    let l = c.loop-past.self in
    let inv = c.loop-past.invariant in
    let r = c.args.self.now.own.retention in
    ap (λ k. k.list) c.in_default.ensures.none.0 ∙ sym (all-kept r c.args.moment l.kept.list inv.sound.cooled c.in_default.ensures.none.1) ∙ inv.kept
