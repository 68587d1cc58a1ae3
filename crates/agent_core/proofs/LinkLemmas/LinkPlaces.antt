-- An input of the link: what is kept then stands for the history with it.
use Rattle.std.proofs.Common.{◌≡◌, ℕ, ◌+◌, ◌%◌, Bool, true, false, cond, List, [], ◌∷◌, ◌++◌, length, map, filter, Option, None, refl, sym, ◌∙◌, ap, arith}
use Rattle.std.specs.Prelude.{count_by, is_some}
use Rattle.std.specs.List.{AllByRecursion}
use Rattle.diameter_message.specs.declared.header.Header.{Header}
use Rattle.diameter_message.specs.Message.{MessageParts}
use Rattle.agent_settings.specs.declared.config.Config.{Config}
use Rattle.pending_table.specs.Table as table
use Rattle.pending_table.specs.Table.{TableParts}
use Rattle.peer_machine.specs.Step.{PeerParts, link_at, is_request as asks}
use Rattle.peer_machine.specs.declared.words.LinkState.{LinkState}
use Rattle.peer_machine.specs.declared.words.Event.{Event as LinkEvent}
use Rattle.peer_machine.specs.declared.peer.PeerOutput.{PeerOutput}
use Rattle.agent_events.specs.declared.events.Input.{Input}
use Rattle.agent_core.specs.declared.ledger.Ledger.{Ledger}
use Rattle.agent_core.specs.Settings.{names, end_number}
use Rattle.agent_core.specs.Links.{with_requests, without_requests}
use Rattle.agent_core.specs.Places.{Place, Taking, link, begins, opens, send_count, is_sent, used, base, outbox, total, live, waiting, takings, is_application_request, is_base_request, is_first_request}
use Rattle.agent_events.specs.Kinds.{is_drain}
use Rattle.agent_core.specs.History.{peer, linked, link_act, link_after, link_output, link_outputs, resends}
use Rattle.agent_core.specs.Machine.{count_of, begins_by, peer_then, link_then, opens_then, output_for, on_link, resent_count, kept_resends, table_relinked}
use Rattle.agent_core.specs.Standing.{StandsAt, row_of}
use Rattle.agent_core.proofs.LawLemmas.Orders.{Ascending}
use Rattle.agent_core.proofs.StandingLemmas.Rows.{lives}
use Rattle.agent_core.proofs.StandingLemmas.Agreeing.{link_by, then-agrees, opens-agrees, output-agrees, resends-agree, waiting-count}
use Rattle.agent_core.proofs.LinkLemmas.LinkRequests.{requests-then, requests-beside}
use Rattle.agent_core.proofs.LinkLemmas.Opened.{opened-entries}
use Rattle.agent_core.proofs.StandingLemmas.Places.{rows-past}
use Rattle.agent_core.proofs.StandingLemmas.Simulation.{Follows}
use Rattle.agent_core.proofs.LawLemmas.Counts.{AgainIs, link-count, count-append, count-sent, own-application, own-base, own-first, own-any, resends-count, again-application, again-base, again-first, again-any}
use Rattle.agent_core.proofs.LawLemmas.Soundness.{SentFits}
use Rattle.agent_core.proofs.ListLemmas.Lists.{AllByRecursion-weaken}

abbrev acts : Config → List Place → ℕ → Input → LinkEvent → Bool
acts config ps m input event = asks (link_act config ps m input event)

-- how many messages that meet the test the place sends
pub linked-sends : (config : Config) (ps : List Place) (m : ℕ) (input : Input) (event : LinkEvent) (message : Option MessageParts) (test : Header → Bool) (b : Bool) (n : ℕ) → count-sent test (link_output config ps m input event message).send ≡ n → AllByRecursion (AgainIs test b) (linked config ps m input event message).resent → send_count test (linked config ps m input event message) ≡ n + cond b (length (linked config ps m input event message).resent) 0
linked-sends config ps m input event message test b n own all =
    let o = link_output config ps m input event message in
    let rs = (linked config ps m input event message).resent in
    count-append (is_sent test) (link_outputs o) (resends rs)
    ∙ ap (λ k. k + count_by (is_sent test) (resends rs)) (link-count test o.send o.closed o.dropped ∙ own)
    ∙ ap (λ k. n + k) (resends-count test b rs all)

pub record LinkSends (config : Config) (ps : List Place) (m : ℕ) (input : Input) (event : LinkEvent) (message : Option MessageParts) : Type 0 where
  pub application : send_count is_application_request (linked config ps m input event message) ≡ 0 + length (linked config ps m input event message).resent
  pub base : send_count is_base_request (linked config ps m input event message) ≡ count_of (acts config ps m input event) + 0
  pub first : send_count is_first_request (linked config ps m input event message) ≡ count_of (acts config ps m input event) + 0
  pub any : send_count (λ h. true) (linked config ps m input event message) ≡ count_of (is_some (link_output config ps m input event message).send) + length (linked config ps m input event message).resent

pub link-sends : (config : Config) (ps : List Place) (m : ℕ) (input : Input) (event : LinkEvent) (message : Option MessageParts) → AllByRecursion (λ t. SentFits t.sent) (linked config ps m input event message).resent → LinkSends config ps m input event message
link-sends config ps m input event message fits =
    let l = link_at (peer config ps) m event in
    let end = end_number config (total ps) in
    let act = link_act config ps m input event in
    let rs = (linked config ps m input event message).resent in
    record {
      application = linked-sends config ps m input event message is_application_request true 0 (own-application (names config) l end message act) (AllByRecursion-weaken _ _ again-application rs fits);
      base = linked-sends config ps m input event message is_base_request false (count_of (asks act)) (own-base (names config) l end message act) (AllByRecursion-weaken _ _ again-base rs fits);
      first = linked-sends config ps m input event message is_first_request false (count_of (asks act)) (own-first (names config) l end message act) (AllByRecursion-weaken _ _ again-first rs fits);
      any = linked-sends config ps m input event message (λ h. true) true _ (own-any (names config) l end message act) (AllByRecursion-weaken _ _ (λ t f. again-any t) rs fits);
    }

-- ---- the step

anew : (b : Bool) (n k : ℕ) → cond b 0 n + k ≡ cond b k (n + k)
anew true n k = omega arith
anew false n k = refl

anew-two : (b : Bool) (n j k : ℕ) → (cond b 0 n + j) + k ≡ cond b (j + k) (n + (j + k))
anew-two true n j k = omega arith
anew-two false n j k = omega arith

resent-count : (ps : List Place) (m : ℕ) (S : Ledger) → StandsAt ps m S → (b : Bool) → resent_count S b ≡ length (cond b (waiting S.config ps m) [])
resent-count ps m S stands true = waiting-count ps m S stands
resent-count ps m S stands false = refl

abbrev pub resent_if : Config → List Place → ℕ → Bool → List Taking
resent_if config ps m b = cond b (waiting config ps m) []

pub resent-fits : (ps : List Place) (m : ℕ) (config : Config) (b : Bool) → AllByRecursion (λ t. SentFits t.sent) (waiting config ps m) → AllByRecursion (λ t. SentFits t.sent) (resent_if config ps m b)
resent-fits ps m config true fits = fits
resent-fits ps m config false fits = tt

-- the peer after the step, with the count of its requests
peer-then : (ps : List Place) (m : ℕ) (S : Ledger) → StandsAt ps m S → (input : Input) (event : LinkEvent) (message : Option MessageParts) → begins_by (peer S.config ps).link event ≡ begins ps input → LinkSends S.config ps m input event message → peer_then S event ≡ peer S.config (linked S.config ps m input event message ∷ ps)
peer-then ps m S stands input event message begun counts =
    let p = linked S.config ps m input event message in
    let act = link_act S.config ps m input event in
    let L = link_by S.config ps m input event in
    let own : send_count is_base_request p ≡ count_of (asks act) = let h = counts.base in omega arith in
    let counted : base (p ∷ ps) ≡ cond (begins ps input) (count_of (asks act)) (base ps + count_of (asks act)) = ap (λ n. cond (begins ps input) n (base ps + n)) own in
    let requests : L.requests ≡ base (p ∷ ps) % 2147483648 =
    requests-then (peer S.config ps).link (base ps) m event act refl
    ∙ ap (λ b. cond b (count_of (asks act)) (base ps + count_of (asks act)) % 2147483648) begun
    ∙ ap (λ n. n % 2147483648) (sym counted)
    in
    ap (λ (l : LinkState). record S.peer { link = l }) (then-agrees ps m S stands input event (ap (λ (q : PeerParts). begins_by q.link event) stands.peer ∙ begun) ∙ requests-beside L (base (p ∷ ps)) requests)
    ∙ ap (λ (q : PeerParts). record q { link = with_requests (without_requests L) (base (p ∷ ps)) }) stands.peer

link-entries : (ps : List Place) (m : ℕ) (S : Ledger) → StandsAt ps m S → Ascending (takings ps) → (p : Place) → p.taken ≡ None → p.matched ≡ None → (number : ℕ) → number ≡ p.link.number → (b : Bool) → p.resent ≡ resent_if S.config ps m b → table.live (cond b (table_relinked S.table number S.moment) S.table) m ≡ map (row_of (p ∷ ps)) (live S.config (p ∷ ps) m)
link-entries ps m S stands up p untaken unmatched number is true resent =
    ap (λ n. filter (lives S m) (table.numbered (λ e. table.is_live_waiting S.table.patience S.table.retention n e) number 0 (table.live S.table n))) stands.moment
    ∙ ap (λ n. filter (lives S m) (table.numbered (λ e. table.is_live_waiting S.table.patience S.table.retention m e) n 0 (table.live S.table m))) is
    ∙ ap (λ n. filter (lives S m) (table.numbered (λ e. table.is_live_waiting S.table.patience S.table.retention m e) p.link.number 0 (table.live S.table n))) (sym stands.moment)
    ∙ opened-entries ps m S p stands up untaken unmatched resent
link-entries ps m S stands up p untaken unmatched number is false resent =
    stands.entries ∙ sym (rows-past S.config p ps m (record { taken = untaken; matched = unmatched; resent = resent }))

outputs-if : (ps : List Place) (m : ℕ) (S : Ledger) → StandsAt ps m S → (b : Bool) → cond b (kept_resends S) [] ≡ resends (resent_if S.config ps m b)
outputs-if ps m S stands true = resends-agree ps m S stands
outputs-if ps m S stands false = refl

relinked-same : {X : Type 0} (f : TableParts → X) (t : TableParts) (number m : ℕ) → f (table_relinked t number m) ≡ f t → (b : Bool) → f (cond b (table_relinked t number m) t) ≡ f t
relinked-same f t number m same true = same
relinked-same f t number m same false = refl

pub linked-follows : (ps : List Place) (m : ℕ) (S : Ledger) → StandsAt ps m S → Ascending (takings ps) → AllByRecursion (λ t. SentFits t.sent) (waiting S.config ps m) → (input : Input) (event : LinkEvent) (message : Option MessageParts) → begins_by (peer S.config ps).link event ≡ begins ps input → is_drain input ≡ false → Follows ps m S (linked S.config ps m input event message) (on_link S event message)
linked-follows ps m S stands up fits input event message begun kept =
    let p = linked S.config ps m input event message in
    let b = opens (link ps).phase (link_after S.config ps m input event).phase in
    let begun' : begins_by S.peer.link event ≡ begins ps input = ap (λ (q : PeerParts). begins_by q.link event) stands.peer ∙ begun in
    let opening : opens_then S event ≡ b = opens-agrees ps m S stands input event begun' in
    let output = output-agrees ps m S stands input event message begun' in
    let counts = link-sends S.config ps m input event message (resent-fits ps m S.config b fits) in
    let resent : resent_count S (opens_then S event) ≡ length p.resent = ap (resent_count S) opening ∙ resent-count ps m S stands b in
    let asked : (output_for S event message).request ≡ asks (link_act S.config ps m input event) = ap (λ (o : PeerOutput). o.request) output in
    let said : count_of (is_some (output_for S event message).send) ≡ count_of (is_some (link_output S.config ps m input event message).send) = ap (λ (o : PeerOutput). count_of (is_some o.send)) output in
    let application : send_count is_application_request p ≡ length p.resent = let h = counts.application in omega arith in
    let first : send_count is_first_request p ≡ count_of (asks (link_act S.config ps m input event)) = let h = counts.first in omega arith in
    record {
      stands = record {
        moment = stands.moment;
        peer = peer-then ps m S stands input event message begun counts;
        used =
            ap (λ c. cond c 0 S.used + resent_count S (opens_then S event)) begun'
            ∙ ap (λ n. cond (begins ps input) 0 n + resent_count S (opens_then S event)) stands.used
            ∙ ap (λ n. cond (begins ps input) 0 (used ps) + n) (resent ∙ sym application)
            ∙ anew (begins ps input) (used ps) (send_count is_application_request p);
        outbox =
            ap (λ c. cond c 0 S.outbox + count_of (is_some (output_for S event message).send) + resent_count S (opens_then S event)) begun'
            ∙ ap (λ n. cond (begins ps input) 0 n + count_of (is_some (output_for S event message).send) + resent_count S (opens_then S event)) stands.outbox
            ∙ ap (λ n. cond (begins ps input) 0 (outbox ps) + n + resent_count S (opens_then S event)) said
            ∙ ap (λ n. cond (begins ps input) 0 (outbox ps) + count_of (is_some (link_output S.config ps m input event message).send) + n) resent
            ∙ anew-two (begins ps input) (outbox ps) (count_of (is_some (link_output S.config ps m input event message).send)) (length p.resent)
            ∙ ap (λ n. cond (begins ps input) n (outbox ps + n)) (sym counts.any)
            ∙ ap (λ d. cond d 0 (cond (begins ps input) (send_count (λ h. true) p) (outbox ps + send_count (λ h. true) p))) (sym kept);
        total =
            ap (λ n. (S.total + n) % 4294967296) (ap count_of asked ∙ sym first)
            ∙ (let h = stands.total in omega arith);
        serial = stands.serial;
        capacity = relinked-same (λ (t : TableParts). t.capacity) S.table (link_then S event).number S.moment refl (opens_then S event) ∙ stands.capacity;
        patience = relinked-same (λ (t : TableParts). t.patience) S.table (link_then S event).number S.moment refl (opens_then S event) ∙ stands.patience;
        retention = relinked-same (λ (t : TableParts). t.retention) S.table (link_then S event).number S.moment refl (opens_then S event) ∙ stands.retention;
        entries =
            ap (λ c. table.live (cond c (table_relinked S.table (link_then S event).number S.moment) S.table) m) opening
            ∙ link-entries ps m S stands up p refl refl (link_then S event).number (ap (λ (l : LinkState). l.number) (then-agrees ps m S stands input event begun')) b refl;
      };
      outputs =
          ap (λ os. link_outputs (output_for S event message) ++ os) (ap (λ c. cond c (kept_resends S) []) opening ∙ outputs-if ps m S stands b)
          ∙ ap (λ (o : PeerOutput). link_outputs o ++ resends (resent_if S.config ps m b)) output;
      config = refl;
      moment = refl;
    }
