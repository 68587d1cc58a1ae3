use Rattle.std.proofs.Common.{◌≡◌, ◌∙◌, map, filter, ap, arith}
use Rattle.reverse_map.specs.declared.own.Reverse.{Reverse}
use Rattle.reverse_core.specs.Requests.{is_kept, renewed}
use Rattle.reverse_core.specs.Windows.{OpenParts}
use Rattle.reverse_core.proofs.LedgerLemmas.{filter-twice, sound-renewed}
use Rattle.reverse_core.proofs.ledger.Ledger.tick.Goals as goal

pub purge-requires : goal.purge-requires
purge-requires c =
    sound-renewed c.give_up.new.self c.renew.new.self c.args.moment c.give_up.ensures.sound c.renew.ensures.list c.renew.ensures.next c.give_up.ensures.moment

pub returns-clause-ok : goal.returns-clause-ok
returns-clause-ok c =
    let l = c.args.self.now in
    let m = c.args.moment in
    let new = c.purge.new.self in
    let g = c.give_up.ensures in
    let p = c.purge.ensures in
    let own : new.own ≡ l.own = p.own ∙ g.own in
    record {
      outputs = c.from_vec.ensures ∙ c.in_ok-outputs.ensures.outputs;
      done = record {
        own = own;
        count = omega (arith, ap (λ (x : OpenParts). x.next) p.open_ones, c.renew.ensures.next, g.next);
        open_ones = ap (λ (x : OpenParts). x.list) p.open_ones ∙ c.renew.ensures.list ∙ ap (map (renewed m)) g.open_ones;
        kept = ap (λ (w : Reverse). filter (is_kept w m) new.kept.list) own
            ∙ ap (filter (is_kept l.own m)) (p.kept ∙ ap (λ (w : Reverse). filter (is_kept w m) c.give_up.new.self.kept.list) g.own)
            ∙ filter-twice (is_kept l.own m) c.give_up.new.self.kept.list
            ∙ ap (filter (is_kept l.own m)) g.kept;
        moment = p.moment ∙ g.moment;
      };
    }
