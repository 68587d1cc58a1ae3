use Rattle.std.proofs.Common.{◌≡◌, ◌++◌, ◌∷◌, [], ◌∙◌, filter, ap, sym, subst, arith}
use Rattle.std.proofs.lemmas.List.{append-nil}
use Rattle.reverse_map.specs.declared.own.Reverse.{Reverse}
use Rattle.reverse_core.specs.declared.requests.OpenRequest.{OpenRequest}
use Rattle.reverse_core.specs.Standing.{ReverseState}
use Rattle.reverse_core.specs.State.{state_of, Does}
use Rattle.reverse_core.specs.Windows.{OpenParts, KeptParts}
use Rattle.reverse_core.specs.Requests.{Takes, first_sent, is_kept}
use Rattle.reverse_core.proofs.LedgerLemmas.{filter-twice}
use Rattle.reverse_core.proofs.ledger.Ledger.take.Goals as goal

pub returns-clause-state : goal.returns-clause-state
returns-clause-state c =
    let l = c.prepare.new.self in
    let m = c.args.moment in
    let new = c.enter.new.self in
    let o : OpenRequest = record { taken = c.args.taken; sent = first_sent m } in
    let own : new.own ≡ l.own = c.enter.ensures.own ∙ c.purge.ensures.own in
    let done : Does m (Takes c.args.taken) (state_of l) (state_of new) = record {
      own = own;
      count = omega (arith, c.enter.ensures.next, ap (λ (p : OpenParts). p.next) c.purge.ensures.open_ones);
      open_ones = c.enter.ensures.open_ones ∙ ap (λ (p : OpenParts). p.list ++ o ∷ []) c.purge.ensures.open_ones;
      kept = ap (λ (w : Reverse). filter (is_kept w m) new.kept.list) own
          ∙ ap (λ (k : KeptParts). filter (is_kept l.own m) k.list) c.enter.ensures.kept
          ∙ ap (filter (is_kept l.own m)) c.purge.ensures.kept
          ∙ filter-twice (is_kept l.own m) l.kept.list
          ∙ ap (filter (is_kept l.own m)) (sym (append-nil l.kept.list));
      moment = c.enter.ensures.moment;
    } in
    subst (λ (S : ReverseState). Does m (Takes c.args.taken) S (state_of new)) c.prepare.ensures.same done
