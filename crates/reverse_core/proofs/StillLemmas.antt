-- What an input leaves of the ledger that does nothing to the requests.
use Rattle.std.proofs.Common.{◌≡◌, ℕ, [], ◌++◌, filter, sym, ap, ◌∙◌, arith}
use Rattle.std.proofs.lemmas.List.{append-nil}
use Rattle.reverse_map.specs.declared.own.Reverse.{Reverse}
use Rattle.reverse_core.specs.declared.ledger.Ledger.{Ledger}
use Rattle.reverse_core.specs.Windows.{OpenParts}
use Rattle.reverse_core.specs.Considering.{IsStill}
use Rattle.reverse_core.specs.Requests.{Deed, Nothing, Repeats, Takes, Closes, Ticks, is_kept}
use Rattle.reverse_core.specs.State.{Does, kept_in, state_of}
use Rattle.reverse_core.proofs.LedgerLemmas.{filter-twice}

-- what is kept, once those past their time were dropped
kept-still : (l new : Ledger) (m : ℕ) → new.own ≡ l.own → new.kept.list ≡ filter (is_kept l.own m) l.kept.list
    → kept_in (state_of new) m ≡ filter (is_kept l.own m) (l.kept.list ++ [])
kept-still l new m own kept =
    ap (λ (w : Reverse). filter (is_kept w m) new.kept.list) own
    ∙ ap (filter (is_kept l.own m)) kept
    ∙ filter-twice (is_kept l.own m) l.kept.list
    ∙ ap (filter (is_kept l.own m)) (sym (append-nil l.kept.list))

pub done-still : (l new : Ledger) (m : ℕ) (d : Deed) → IsStill d → new.own ≡ l.own → new.open_ones ≡ l.open_ones
    → new.kept.list ≡ filter (is_kept l.own m) l.kept.list → new.moment ≡ m → Does m d (state_of l) (state_of new)
done-still l new m Nothing still own ones kept moment = record {
  own = own;
  count = omega (arith, ap (λ (p : OpenParts). p.next) ones);
  open_ones = ap (λ (p : OpenParts). p.list) ones;
  kept = kept-still l new m own kept;
  moment = moment;
}
done-still l new m (Repeats k hop) still own ones kept moment = record {
  own = own;
  count = omega (arith, ap (λ (p : OpenParts). p.next) ones);
  open_ones = ap (λ (p : OpenParts). p.list) ones;
  kept = kept-still l new m own kept;
  moment = moment;
}
done-still l new m (Takes t) still own ones kept moment = absurd still
done-still l new m (Closes t answer) still own ones kept moment = absurd still
done-still l new m Ticks still own ones kept moment = absurd still
