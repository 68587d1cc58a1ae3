-- The rows once a request is answered.
use Rattle.std.proofs.Common.{◌≡◌, ◌≢◌, ℕ, ◌+◌, ◌<◌, Bool, true, false, cond, ◌&&◌, not, List, ◌∷◌, ◌++◌, map, filter, find, option_map, Option, Some, None, refl, sym, ◌∙◌, ap, arith}
use Rattle.std.specs.Prelude.{nat_lt, ◌==◌, is_some, count_by, option_to_list}
use Rattle.std.proofs.lemmas.Bool.{and_parts, eqb-true, eq-eqb, ne_eqb, lt-ltb}
use Rattle.diameter_message.specs.declared.header.Header.{Header}
use Rattle.diameter_message.specs.Message.{MessageParts}
use Rattle.session_carrier.specs.declared.kept.Outcome.{Outcome}
use Rattle.agent_settings.specs.declared.config.Config.{Config}
use Rattle.pending_table.specs.declared.entry.Entry.{Entry}
use Rattle.pending_table.specs.declared.key.Key.{Key}
use Rattle.pending_table.specs.Table as table
use Rattle.pending_table.specs.Table.{Row, update_first}
use Rattle.agent_events.specs.declared.events.Output.{Output}
use Rattle.agent_events.specs.declared.events.Output.TheVariants.{Send}
use Rattle.agent_core.specs.declared.ledger.Ledger.{Ledger}
use Rattle.agent_core.specs.Places.{Place, Taking, takings, with_taking, match_of, reply_in, is_at, end_by, ends, live, waiting, link, is_sent, header_of}
use Rattle.agent_core.specs.History.{reply_outputs, outcome_outputs}
use Rattle.agent_core.specs.Machine.{count_of, reply_key}
use Rattle.agent_core.specs.Standing.{StandsAt, row_of, entry_of}
use Rattle.agent_core.proofs.LawLemmas.Orders.{Ascending}
use Rattle.agent_core.proofs.ListLemmas.Lists.{AllByRecursion-filter, AllByRecursion-weaken, filter-alike, find-filter, find-true}
use Rattle.agent_core.proofs.ListLemmas.Updates.{changed, update_first-filter, update_first-map, Ascending-one}
use Rattle.agent_core.proofs.StandingLemmas.Agreeing.{row-waits, settled-ends}
use Rattle.agent_core.proofs.LinkLemmas.Opened.{Ascending-filter}
use Rattle.agent_core.proofs.LawLemmas.Soundness.{TakingFits}
use Rattle.agent_core.proofs.LawLemmas.Sound.{IsSound}
use Rattle.agent_core.proofs.StandingLemmas.Numbers.{numbered, numbered-is, find-alike}
use Rattle.agent_core.proofs.AnswerLemmas.HeardPlaces.{heard_place, heard-row, HandsOn}
use Rattle.peer_machine.specs.Step.{PeerParts}

-- the reply that went out is the outcome's
pub reply-first : (key : Key) (reply follow : Option (List ℕ)) → reply_in (reply_outputs key reply ++ option_to_list (option_map Send follow)) ≡ reply
reply-first key None None = refl
reply-first key None (Some octets) = refl
reply-first key (Some reply) None = refl
reply-first key (Some reply) (Some octets) = refl

-- the one that is matched, as the table's test finds it
matched-agrees : (ps : List Place) (m : ℕ) (S : Ledger) (hop : ℕ) (t : Taking) → StandsAt ps m S → IsSound S.config ps → find (numbered ps hop) (waiting S.config ps m) ≡ Some t → find (λ u. table.is_waiting (entry_of ps u).answer && table.has_number S.peer.link.number hop (entry_of ps u)) (live S.config ps m) ≡ Some t
matched-agrees ps m S hop t stands sound found =
    let ts = live S.config ps m in
    ap (λ (p : PeerParts). find (λ u. table.is_waiting (entry_of ps u).answer && table.has_number p.link.number hop (entry_of ps u)) ts) stands.peer
    ∙ find-alike (λ u. table.is_waiting (entry_of ps u).answer && table.has_number (link ps).number hop (entry_of ps u)) (λ u. not (is_some (match_of u.place ps)) && numbered ps hop u) ts
    (AllByRecursion-weaken (TakingFits S.config ps) _
    (λ u f.
    ap (λ b. b && table.has_number (link ps).number hop (entry_of ps u)) (row-waits ps u)
    ∙ ap (λ b. not (is_some (match_of u.place ps)) && b) (sym (numbered-is S.config ps hop u f)))
    ts (AllByRecursion-filter (TakingFits S.config ps) _ (takings ps) sound.each))
    ∙ sym (find-filter (λ u. not (is_some (match_of u.place ps))) (numbered ps hop) ts)
    ∙ found

-- the match lets its request live on, and changes no other's end
live-answered : (ps : List Place) (m : ℕ) (config : Config) (p : Place) (t : Taking) (q : Taking → Bool) → p.moment ≡ m → p.taken ≡ None → p.matched ≡ Some t → 0 < config.retention → Ascending (takings ps) → find q (live config ps m) ≡ Some t → live config (p ∷ ps) m ≡ live config ps m
live-answered ps m config p t q moment untaken matched long up found =
    let lived = λ (u : Taking). nat_lt m (ends config ps u) in
    let anew : nat_lt m (p.moment + config.retention) ≡ true = lt-ltb _ _ (omega arith) in
    let both : find (λ u. lived u && q u) (takings ps) ≡ Some t = sym (find-filter lived q (takings ps)) ∙ found in
    let was : lived t ≡ true = (and_parts _ _ (find-true (λ u. lived u && q u) (takings ps) t both)).0 in
    let same : ((u : Taking) → (u.place ≡ t.place → u ≡ t) → nat_lt m (ends config (p ∷ ps) u) ≡ lived u) =
    (λ u one.
    ap (λ (o : Option Taking). nat_lt m (end_by config u.moment (cond (is_at u.place o) (Some p) (match_of u.place ps)))) matched
    ∙ elim (t.place == u.place) as (λ c. t.place == u.place ≡ c → nat_lt m (end_by config u.moment (cond c (Some p) (match_of u.place ps))) ≡ lived u) [
      | true ↦ (λ e. anew ∙ sym (ap lived (one (sym (eqb-true _ _ e))) ∙ was))
      | false ↦ (λ e. refl)
    ] refl)
    in
    ap (λ (o : Option Taking). filter (λ u. nat_lt m (ends config (p ∷ ps) u)) (with_taking o (takings ps))) untaken
    ∙ filter-alike (λ u. nat_lt m (ends config (p ∷ ps) u)) lived (takings ps) (
    AllByRecursion-weaken (λ u. u.place ≡ t.place → u ≡ t) (λ u. nat_lt m (ends config (p ∷ ps) u) ≡ lived u) same
    (takings ps) (Ascending-one (λ u. lived u && q u) t (takings ps) up both)
    )

-- the live rows, where the request has its reply, or silence
pub answered-entries : (ps : List Place) (m : ℕ) (S : Ledger) → StandsAt ps m S → IsSound S.config ps → 0 < S.config.retention → (octets : List ℕ) (message : MessageParts) → HandsOn S.config ps m octets message → (t : Taking) (outputs : List Output) (reply : Option (List ℕ)) → reply_in outputs ≡ reply → find (numbered ps message.header.hop) (waiting S.config ps m) ≡ Some t → table.live (record S.table { entries = table.settled S.table S.peer.link.number message.header.hop S.moment reply }) m ≡ map (row_of (heard_place S.config ps m octets message (Some t) outputs ∷ ps)) (live S.config (heard_place S.config ps m octets message (Some t) outputs ∷ ps) m)
answered-entries ps m S stands sound long octets message hands t outputs reply replies found =
    let p = heard_place S.config ps m octets message (Some t) outputs in
    let change = λ (e : Entry). record e { answer = table.answer_of m reply } in
    let waits_there = λ (e : Entry). table.is_waiting e.answer in
    let there = table.has_number S.peer.link.number message.header.hop in
    let matched = matched-agrees ps m S message.header.hop t stands sound found in
    let lasts : 0 < S.table.retention = rw stands.retention long in
    let anew : nat_lt m (m + S.table.retention) ≡ true = lt-ltb _ _ (omega arith) in
    let keeps : ((e : Entry) → table.is_live S.table.patience S.table.retention m (change e) ≡ true) = (λ e. ap (nat_lt m) (settled-ends S.table.patience S.table.retention e.taken m reply) ∙ anew) in
    let here : match_of t.place (p ∷ ps) ≡ Some p = ap (λ b. cond b (Some p) (match_of t.place ps)) (eq-eqb t.place t.place refl) in
    let given : row_of (p ∷ ps) t ≡ changed change (row_of ps t) =
    heard-row S.config ps m octets message hands (Some t) outputs t (Some p) here
    ∙ ap (λ r. (t.key, record (entry_of ps t) { answer = table.answer_of m r })) replies
    in
    let others : ((u : Taking) → u.place ≢ t.place → row_of (p ∷ ps) u ≡ row_of ps u) =
    (λ u apart.
    let not_here : t.place == u.place ≡ false = ne_eqb _ _ (λ (e : t.place ≡ u.place). apart (sym e)) in
    heard-row S.config ps m octets message hands (Some t) outputs u (match_of u.place ps) (ap (λ b. cond b (Some p) (match_of u.place ps)) not_here))
    in
    ap (λ n. filter (λ (r : Row). table.is_live S.table.patience S.table.retention m r.1) (table.settled S.table S.peer.link.number message.header.hop n reply)) stands.moment
    ∙ update_first-filter (table.is_live S.table.patience S.table.retention m) waits_there there change keeps S.table.entries
    ∙ ap (update_first (λ e. waits_there e && there e) change) stands.entries
    ∙ update_first-map (λ e. waits_there e && there e) change (row_of ps) (row_of (p ∷ ps)) t given others (live S.config ps m) (Ascending-filter _ (takings ps) sound.ascending) matched
    ∙ ap (map (row_of (p ∷ ps))) (sym (live-answered ps m S.config p t _ refl refl refl long sound.ascending matched))

-- ---- what goes out

add-none : (b : Bool) → 0 + cond b 1 0 ≡ count_of b
add-none true = refl
add-none false = refl

pub outcome-by : (test : Header → Bool) (key : Key) (b : Bool) (reply follow : Option (List ℕ)) → ((octets : List ℕ) → follow ≡ Some octets → test (header_of octets) ≡ b) → count_by (is_sent test) (reply_outputs key reply ++ option_to_list (option_map Send follow)) ≡ count_of (is_some follow && b)
outcome-by test key b None None is = refl
outcome-by test key b (Some reply) None is = refl
outcome-by test key b None (Some octets) is = ap (λ c. 0 + cond c 1 0) (is octets refl) ∙ add-none b
outcome-by test key b (Some reply) (Some octets) is = ap (λ c. 0 + cond c 1 0) (is octets refl) ∙ add-none b

-- where the reply goes
place-by : (e : Entry) (key : Key) (reply follow : Option (List ℕ)) → e.via ≡ key.via → e.address ≡ key.address → e.port ≡ key.port → reply_outputs (reply_key e) reply ++ option_to_list (option_map Send follow) ≡ reply_outputs key reply ++ option_to_list (option_map Send follow)
place-by e key None follow via address port = refl
place-by e key (Some octets) follow via address port = rw (via, address, port) refl

pub place-agrees : (ps : List Place) (t : Taking) (o : Outcome) → outcome_outputs (reply_key (entry_of ps t)) o ≡ outcome_outputs t.key o
place-agrees ps t o = place-by (entry_of ps t) t.key o.reply o.follow refl refl refl
