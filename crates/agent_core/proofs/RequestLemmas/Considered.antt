-- A request that nothing stands against is taken up.
use Rattle.std.proofs.Common.{◌≡◌, ℕ, ◌<◌, Bool, List, [], ◌∷◌, length, None, Ok, sym, ◌∙◌, ap}
use Rattle.session_carrier.specs.declared.kept.Kept.{Kept}
use Rattle.pending_table.specs.declared.key.Key.{Key}
use Rattle.pending_table.specs.Table as table
use Rattle.agent_events.specs.declared.events.Output.{Output}
use Rattle.agent_events.specs.declared.events.Output.TheVariants.{Send}
use Rattle.agent_core.specs.declared.ledger.Ledger.{Ledger}
use Rattle.agent_core.specs.Verdict.{Request}
use Rattle.agent_core.specs.Rooms.{refusal}
use Rattle.agent_core.specs.Requests.{kept_of, is_fresh}
use Rattle.agent_core.specs.Machine.{Next, on_datagram, on_request, on_look, on_admission, kept_rooms, new_row, with_row, sent_for}
use Rattle.agent_core.specs.Considering.{TakesItUp}

pub takes-it-up : (S : Ledger) (q : Request) (key : Key) (kept : Kept) (sent : List ℕ) (fresh : Bool) (outputs : List Output) → q.key ≡ key → table.find_key S.table key S.moment ≡ None → length (table.live S.table S.moment) < S.table.capacity → refusal S.config (kept_rooms S) ≡ None → kept ≡ kept_of S.config q S.serial → sent ≡ sent_for S q → fresh ≡ is_fresh q → outputs ≡ Send sent ∷ [] → TakesItUp S key kept sent fresh outputs (on_datagram S (Ok q))
takes-it-up S q key kept sent fresh outputs key_is unknown room admits kept_is sent_is fresh_is outputs_are =
    let unknown_q : table.find_key S.table q.key S.moment ≡ None = ap (λ k. table.find_key S.table k S.moment) key_is ∙ unknown in
    let step : on_datagram S (Ok q) ≡ on_admission S q None = ap (λ o. on_request S q (on_look q.key (table.told o))) unknown_q ∙ ap (on_admission S q) admits in
    record {
      unknown = unknown;
      room = room;
      admits = admits;
      ledger =
          ap (λ (n : Next). n.ledger) step
          ∙ ap (λ k. with_row S (new_row S k (kept_of S.config q S.serial) (sent_for S q)) (is_fresh q)) key_is
          ∙ ap (λ k. with_row S (new_row S key k (sent_for S q)) (is_fresh q)) (sym kept_is)
          ∙ ap (λ s. with_row S (new_row S key kept s) (is_fresh q)) (sym sent_is)
          ∙ ap (λ b. with_row S (new_row S key kept sent) b) (sym fresh_is);
      outputs_are = ap (λ (n : Next). n.outputs) step ∙ ap (λ s. Send s ∷ []) (sym sent_is) ∙ sym outputs_are;
    }
