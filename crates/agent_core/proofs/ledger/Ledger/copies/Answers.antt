-- All that waits is still to be sent again.
use Rattle.std.proofs.Common.{◌≡◌, ◌+◌, ◌++◌, length, List, ℕ, ◌≤◌, ap, sym, subst, ◌∙◌, arith}
use Rattle.std.specs.List.{AllByRecursion}
use Rattle.pending_table.specs.Table as table
use Rattle.agent_events.specs.declared.events.Output.{Output}
use Rattle.agent_core.specs.Standing.{IsWhole}
use Rattle.agent_core.proofs.LinkLemmas.Resending.{sends_from, resends-are, sends-few, sends-whole}
use Rattle.agent_core.proofs.ledger.Ledger.copies.Goals as goal

pub loop-sent-init : goal.loop-sent-init
loop-sent-init c =
    let S = c.args.self.now in
    let all : c.into_iter-sent-iterator.result ≡ table.sends S.table S.moment = c.into_iter-sent-iterator.ensures.into_iter_gives ∙ c.sends-sent-items.ensures in
    record {
      together =
          ap (λ (o : List Output). o ++ sends_from 0 c.into_iter-sent-iterator.result) c.new-outputs.ensures
          ∙ ap (sends_from 0) all
          ∙ resends-are S;
      few = subst (λ (o : List (List ℕ)). 0 + length o ≤ 65536) (sym all) (omega (arith, sends-few S c.requires));
      whole = subst (AllByRecursion IsWhole) (sym all) (sends-whole S c.requires);
    }
