-- What is kept goes on to stand for the history, step by step, and the outputs are the rule's.
use Rattle.std.proofs.Common.{◌≡◌, ℕ, ◌+◌, ◌%◌, Bool, true, false, cond, List, [], ◌∷◌, refl, sym, ◌∙◌, ap, arith}
use Rattle.std.specs.Prelude.{count_by}
use Rattle.radius_packet.specs.declared.reasons.Reason.{Reason}
use Rattle.agent_events.specs.declared.events.Input.{Input}
use Rattle.agent_events.specs.declared.events.Input.TheVariants.{Drain}
use Rattle.agent_events.specs.declared.events.Output.{Output}
use Rattle.agent_events.specs.declared.events.Output.TheVariants.{Dropped}
use Rattle.agent_core.specs.declared.ledger.Ledger.{Ledger}
use Rattle.agent_core.specs.Links.{with_requests}
use Rattle.agent_core.specs.Places.{Place, link, begins, used, base, outbox, total, is_sent, send_count, is_application_request, is_base_request, is_first_request}
use Rattle.agent_events.specs.Kinds.{is_drain}
use Rattle.agent_core.specs.History.{still, peer}
use Rattle.agent_core.specs.Machine.{Next, says, drained}
use Rattle.agent_core.specs.Standing.{StandsAt}
use Rattle.agent_core.proofs.StandingLemmas.Places.{rows-past}

-- the step is the place
pub record Follows (ps : List Place) (m : ℕ) (S : Ledger) (p : Place) (n : Next) : Type 0 where
  pub stands : StandsAt (p ∷ ps) m n.ledger
  pub outputs : n.outputs ≡ p.outputs
  pub config : n.ledger.config ≡ S.config
  pub moment : p.moment ≡ m

-- ---- places that change nothing

-- nothing of these is a message
pub record IsUnsent (outputs : List Output) : Type 0 where
  pub application : count_by (is_sent is_application_request) outputs ≡ 0
  pub base : count_by (is_sent is_base_request) outputs ≡ 0
  pub first : count_by (is_sent is_first_request) outputs ≡ 0
  pub any : count_by (is_sent (λ h. true)) outputs ≡ 0

pub dropped-unsent : (reason : Reason) → IsUnsent (Dropped reason ∷ [])
dropped-unsent reason = record { application = refl; base = refl; first = refl; any = refl }

-- a count to which nothing is added
pub stays : (b : Bool) (n k : ℕ) → b ≡ false → k ≡ 0 → cond b k (n + k) ≡ n
stays b n k on none = ap (λ c. cond c k (n + k)) on ∙ omega arith

pub still-follows : (ps : List Place) (m : ℕ) (S : Ledger) → StandsAt ps m S → (input : Input) → begins ps input ≡ false → is_drain input ≡ false → (outputs : List Output) → IsUnsent outputs → Follows ps m S (still S.config ps m input outputs) (says S outputs)
still-follows ps m S stands input quiet kept outputs unsent =
    let p = still S.config ps m input outputs in
    let base-stays : base (p ∷ ps) ≡ base ps = stays (begins ps input) (base ps) (send_count is_base_request p) quiet unsent.base in
    let used-stays : used (p ∷ ps) ≡ used ps = stays (begins ps input) (used ps) (send_count is_application_request p) quiet unsent.application in
    let outbox-stays : outbox (p ∷ ps) ≡ outbox ps =
    ap (λ d. cond d 0 (cond (begins ps input) (send_count (λ h. true) p) (outbox ps + send_count (λ h. true) p))) kept
    ∙ stays (begins ps input) (outbox ps) (send_count (λ h. true) p) quiet unsent.any
    in
    let total-stays : total (p ∷ ps) ≡ total ps = stays false (total ps) (send_count is_first_request p) refl unsent.first in
    record {
      stands = record {
        moment = stands.moment;
        peer = stands.peer ∙ ap (λ (n : ℕ). record (peer S.config ps) { link = with_requests (link ps) n }) (sym base-stays);
        used = stands.used ∙ sym used-stays;
        outbox = stands.outbox ∙ sym outbox-stays;
        total = stands.total ∙ ap (λ n. n % 4294967296) (sym total-stays);
        serial = stands.serial;
        capacity = stands.capacity;
        patience = stands.patience;
        retention = stands.retention;
        entries = stands.entries ∙ sym (rows-past S.config p ps m (record { taken = refl; matched = refl; resent = refl }));
      };
      outputs = refl;
      config = refl;
      moment = refl;
    }

-- ---- Drain

pub drain-follows : (ps : List Place) (m : ℕ) (S : Ledger) → StandsAt ps m S → Follows ps m S (still S.config ps m Drain []) (says (drained S) [])
drain-follows ps m S stands =
    let p = still S.config ps m Drain [] in
    let base-stays : base (p ∷ ps) ≡ base ps = stays false (base ps) 0 refl refl in
    let used-stays : used (p ∷ ps) ≡ used ps = stays false (used ps) 0 refl refl in
    let total-stays : total (p ∷ ps) ≡ total ps = stays false (total ps) 0 refl refl in
    record {
      stands = record {
        moment = stands.moment;
        peer = stands.peer ∙ ap (λ (n : ℕ). record (peer S.config ps) { link = with_requests (link ps) n }) (sym base-stays);
        used = stands.used ∙ sym used-stays;
        outbox = refl;
        total = stands.total ∙ ap (λ n. n % 4294967296) (sym total-stays);
        serial = stands.serial;
        capacity = stands.capacity;
        patience = stands.patience;
        retention = stands.retention;
        entries = stands.entries ∙ sym (rows-past S.config p ps m (record { taken = refl; matched = refl; resent = refl }));
      };
      outputs = refl;
      config = refl;
      moment = refl;
    }
