-- What is kept agrees with the rule's numbers, before a step.
use Rattle.std.proofs.Common.{◌≡◌, ℕ, ◌+◌, ◌%◌, ◌≤◌, true, false, cond, not, List, [], ◌∷◌, length, map, filter, Option, Some, None, refl, sym, ◌∙◌, ap, arith}
use Rattle.std.specs.Prelude.{nat_lt, is_some, unwrap_or}
use Rattle.std.specs.List.{AllByRecursion, enumerate_from}
use Rattle.std.proofs.lemmas.Bool.{lt-ltb, ltb-true}
use Rattle.std.proofs.lemmas.List.{length-map}
use Rattle.diameter_message.specs.Message.{MessageParts}
use Rattle.agent_settings.specs.declared.config.Config.{Config}
use Rattle.pending_table.specs.Table as table
use Rattle.pending_table.specs.Table.{Row}
use Rattle.peer_machine.specs.Step.{PeerParts, act_at, link_at, output_of, sent}
use Rattle.peer_machine.specs.Rules.{after}
use Rattle.peer_machine.specs.declared.words.LinkState.{LinkState}
use Rattle.peer_machine.specs.declared.words.Event.{Event as LinkEvent}
use Rattle.agent_events.specs.declared.events.Input.{Input}
use Rattle.agent_events.specs.declared.events.Output.{Output}
use Rattle.agent_events.specs.declared.events.Output.TheVariants.{Send}
use Rattle.agent_core.specs.declared.ledger.Ledger.{Ledger}
use Rattle.agent_core.specs.Settings.{names, numbers_of, end_number}
use Rattle.agent_core.specs.Places.{Place, Taking, link, begins, opens, takings, match_of, reply_in, end_by, ends, live, waiting, used, outbox, total}
use Rattle.agent_core.specs.Rooms.{rooms, has_spare}
use Rattle.agent_core.specs.History.{peer, again, resends, link_act, link_after, link_output}
use Rattle.agent_core.specs.Machine.{kept_waiting, kept_rooms, kept_numbers, kept_resends, row_again, begins_by, keeps_spare, act_for, link_then, output_for, opens_then}
use Rattle.agent_core.specs.Standing.{StandsAt, entry_of, row_of, answer_in}
use Rattle.agent_core.proofs.ListLemmas.Lists.{filter-both, filter-map, filter-same, filter-within}
use Rattle.agent_core.proofs.StandingLemmas.Rows.{lives}

-- ---- at a later moment

pub lt-later : (a m n : ℕ) → m ≤ n → nat_lt n a ≡ true → nat_lt m a ≡ true
lt-later a m n later lives = lt-ltb _ _ (let h = ltb-true _ _ lives in omega arith)

pub live-later : (S : Ledger) (m n : ℕ) → m ≤ n → (r : Row) → lives S n r ≡ true → lives S m r ≡ true
live-later S m n later r = lt-later (table.ends S.table.patience S.table.retention r.1.taken r.1.answer) m n later

pub settled-ends : (patience retention taken at : ℕ) (reply : Option (List ℕ)) → table.ends patience retention taken (table.answer_of at reply) ≡ at + retention
settled-ends patience retention taken at None = refl
settled-ends patience retention taken at (Some reply) = refl

entry-ends : (config : Config) (octets : List ℕ) (taken : ℕ) (o : Option Place) → table.ends config.patience config.retention taken (answer_in octets o) ≡ end_by config taken o
entry-ends config octets taken None = refl
entry-ends config octets taken (Some p) = settled-ends config.patience config.retention taken p.moment (reply_in p.outputs)

-- an entry lives as long as its request
pub lives-agrees : (ps : List Place) (m : ℕ) (S : Ledger) → StandsAt ps m S → (n : ℕ) (t : Taking) → lives S n (row_of ps t) ≡ nat_lt n (ends S.config ps t)
lives-agrees ps m S stands n t =
    ap (nat_lt n) (rw (stands.patience, stands.retention) (entry-ends S.config t.sent t.moment (match_of t.place ps)))

pub StandsAt-later : (ps : List Place) (S : Ledger) (m n : ℕ) → m ≤ n → StandsAt ps m S → StandsAt ps n (record S { moment = n })
StandsAt-later ps S m n later stands = record {
  moment = refl;
  peer = stands.peer;
  used = stands.used;
  outbox = stands.outbox;
  total = stands.total;
  serial = stands.serial;
  capacity = stands.capacity;
  patience = stands.patience;
  retention = stands.retention;
  entries =
      sym (filter-within (lives S m) (lives S n) (live-later S m n later) S.table.entries)
      ∙ ap (filter (lives S n)) stands.entries
      ∙ filter-map (lives S n) (row_of ps) (live S.config ps m)
      ∙ ap (map (row_of ps)) (
      filter-same (λ t. lives S n (row_of ps t)) (λ t. nat_lt n (ends S.config ps t)) (lives-agrees ps m S stands n) (live S.config ps m)
      ∙ filter-within (λ t. nat_lt m (ends S.config ps t)) (λ t. nat_lt n (ends S.config ps t)) (λ t. lt-later (ends S.config ps t) m n later) (takings ps)
      );
}

-- ---- the numbers

settled-waits-not : (at : ℕ) (reply : Option (List ℕ)) → table.is_waiting (table.answer_of at reply) ≡ false
settled-waits-not at None = refl
settled-waits-not at (Some reply) = refl

answer-waits : (octets : List ℕ) (o : Option Place) → table.is_waiting (answer_in octets o) ≡ not (is_some o)
answer-waits octets None = refl
answer-waits octets (Some p) = settled-waits-not p.moment (reply_in p.outputs)

pub row-waits : (ps : List Place) (t : Taking) → table.is_waiting (entry_of ps t).answer ≡ not (is_some (match_of t.place ps))
row-waits ps t = answer-waits t.sent (match_of t.place ps)

pub live-agrees : (ps : List Place) (m : ℕ) (S : Ledger) → StandsAt ps m S → table.live S.table S.moment ≡ map (row_of ps) (live S.config ps m)
live-agrees ps m S stands = rw stands.moment stands.entries

pub waiting-agrees : (ps : List Place) (m : ℕ) (S : Ledger) → StandsAt ps m S → kept_waiting S ≡ map (row_of ps) (waiting S.config ps m)
waiting-agrees ps m S stands =
    filter-both (lives S S.moment) (λ r. table.is_waiting r.1.answer) S.table.entries
    ∙ ap (filter (λ (r : Row). table.is_waiting r.1.answer)) (live-agrees ps m S stands)
    ∙ filter-map (λ r. table.is_waiting r.1.answer) (row_of ps) (live S.config ps m)
    ∙ ap (map (row_of ps)) (filter-same (λ t. table.is_waiting (entry_of ps t).answer) (λ t. not (is_some (match_of t.place ps))) (row-waits ps) (live S.config ps m))

pub waiting-count : (ps : List Place) (m : ℕ) (S : Ledger) → StandsAt ps m S → length (kept_waiting S) ≡ length (waiting S.config ps m)
waiting-count ps m S stands = ap length (waiting-agrees ps m S stands) ∙ length-map _ _

pub phase-agrees : (ps : List Place) (m : ℕ) (S : Ledger) → StandsAt ps m S → S.peer.link.phase ≡ (link ps).phase
phase-agrees ps m S stands = ap (λ (p : PeerParts). p.link.phase) stands.peer

pub rooms-agree : (ps : List Place) (m : ℕ) (S : Ledger) → StandsAt ps m S → kept_rooms S ≡ rooms S.config ps m
rooms-agree ps m S stands =
    let alive : length (table.live S.table S.moment) ≡ length (live S.config ps m) = ap length (live-agrees ps m S stands) ∙ length-map _ _ in
    let open_ones = waiting-count ps m S stands in
    let phase = phase-agrees ps m S stands in
    rw (alive, open_ones, phase, stands.used, stands.outbox, stands.serial) refl

end_number-mod : (config : Config) (n : ℕ) → end_number config (n % 4294967296) ≡ end_number config n
end_number-mod config n = omega arith

pub end-agrees : (ps : List Place) (m : ℕ) (S : Ledger) → StandsAt ps m S → end_number S.config S.total ≡ end_number S.config (total ps)
end-agrees ps m S stands = ap (end_number S.config) stands.total ∙ end_number-mod S.config (total ps)

pub numbers-agree : (ps : List Place) (m : ℕ) (S : Ledger) → StandsAt ps m S → kept_numbers S ≡ numbers_of S.config (used ps) (total ps)
numbers-agree ps m S stands =
    let number = end-agrees ps m S stands in
    rw (stands.used, number) refl

-- ---- the link

pub spare-agrees : (ps : List Place) (m : ℕ) (S : Ledger) → StandsAt ps m S → (input : Input) (event : LinkEvent) → begins_by S.peer.link event ≡ begins ps input → keeps_spare S event ≡ has_spare S.config ps m input
spare-agrees ps m S stands input event begun =
    let waits = waiting-count ps m S stands in
    ap (λ b. nat_lt (cond b 0 S.outbox + length (kept_waiting S)) (S.config.backlog + 64)) begun
    ∙ ap (λ n. nat_lt (cond (begins ps input) 0 n + length (kept_waiting S)) (S.config.backlog + 64)) stands.outbox
    ∙ ap (λ n. nat_lt (cond (begins ps input) 0 (outbox ps) + n) (S.config.backlog + 64)) waits

pub act-agrees : (ps : List Place) (m : ℕ) (S : Ledger) → StandsAt ps m S → (input : Input) (event : LinkEvent) → begins_by S.peer.link event ≡ begins ps input → act_for S event ≡ link_act S.config ps m input event
act-agrees ps m S stands input event begun =
    ap (λ spare. act_at S.peer S.moment event spare) (spare-agrees ps m S stands input event begun)
    ∙ ap (λ p. act_at p S.moment event (has_spare S.config ps m input)) stands.peer
    ∙ ap (λ n. act_at (peer S.config ps) n event (has_spare S.config ps m input)) stands.moment

abbrev pub link_by : Config → List Place → ℕ → Input → LinkEvent → LinkState
link_by config ps m input event = after (link_at (peer config ps) m event) m (link_act config ps m input event)

pub then-agrees : (ps : List Place) (m : ℕ) (S : Ledger) → StandsAt ps m S → (input : Input) (event : LinkEvent) → begins_by S.peer.link event ≡ begins ps input → link_then S event ≡ link_by S.config ps m input event
then-agrees ps m S stands input event begun =
    ap (λ act. after (link_at S.peer S.moment event) S.moment act) (act-agrees ps m S stands input event begun)
    ∙ ap (λ p. after (link_at p S.moment event) S.moment (link_act S.config ps m input event)) stands.peer
    ∙ ap (λ n. after (link_at (peer S.config ps) n event) n (link_act S.config ps m input event)) stands.moment

pub opens-agrees : (ps : List Place) (m : ℕ) (S : Ledger) → StandsAt ps m S → (input : Input) (event : LinkEvent) → begins_by S.peer.link event ≡ begins ps input → opens_then S event ≡ opens (link ps).phase (link_after S.config ps m input event).phase
opens-agrees ps m S stands input event begun =
    ap (λ phase. opens phase (link_then S event).phase) (phase-agrees ps m S stands)
    ∙ ap (λ (l : LinkState). opens (link ps).phase l.phase) (then-agrees ps m S stands input event begun)

pub output-agrees : (ps : List Place) (m : ℕ) (S : Ledger) → StandsAt ps m S → (input : Input) (event : LinkEvent) (message : Option MessageParts) → begins_by S.peer.link event ≡ begins ps input → output_for S event message ≡ link_output S.config ps m input event message
output-agrees ps m S stands input event message begun =
    ap (λ act. output_of (sent S.peer.names (link_at S.peer S.moment event) (end_number S.config S.total) message act) act) (act-agrees ps m S stands input event begun)
    ∙ ap (λ p. output_of (sent p.names (link_at p S.moment event) (end_number S.config S.total) message (link_act S.config ps m input event)) (link_act S.config ps m input event)) stands.peer
    ∙ ap (λ n. output_of (sent (names S.config) (link_at (peer S.config ps) n event) (end_number S.config S.total) message (link_act S.config ps m input event)) (link_act S.config ps m input event)) stands.moment
    ∙ ap (λ n. output_of (sent (names S.config) (link_at (peer S.config ps) m event) n message (link_act S.config ps m input event)) (link_act S.config ps m input event)) (end-agrees ps m S stands)

-- ---- what is sent again

abbrev is_unmatched : List Place → Taking → Type 0
is_unmatched ps t = match_of t.place ps ≡ None

unmatched-sent : (octets : List ℕ) (o : Option Place) → o ≡ None → unwrap_or (table.sent_of (answer_in octets o)) [] ≡ octets
unmatched-sent octets None e = refl
unmatched-sent octets (Some p) e = absurd (cc)

again-agrees : (ps : List Place) (n : ℕ) (ts : List Taking) → AllByRecursion (is_unmatched ps) ts → map row_again (enumerate_from n (map (row_of ps) ts)) ≡ map (λ p. Send (again p.1.sent p.0)) (enumerate_from n ts)
again-agrees ps n [] all = refl
again-agrees ps n (t ∷ ts) all =
    let head = ap (λ o. Send (again o n)) (unmatched-sent t.sent (match_of t.place ps) all.0) in
    let tail = again-agrees ps (n + 1) ts all.1 in
    ap (λ (o : Output). o ∷ map row_again (enumerate_from (n + 1) (map (row_of ps) ts))) head
    ∙ ap (λ (os : List Output). Send (again t.sent n) ∷ os) tail

none-by : (o : Option Place) → not (is_some o) ≡ true → o ≡ None
none-by None e = refl
none-by (Some p) e = absurd (cc)

unmatched-all : (ps : List Place) (ts : List Taking) → AllByRecursion (is_unmatched ps) (filter (λ t. not (is_some (match_of t.place ps))) ts)
unmatched-all ps [] = tt
unmatched-all ps (t ∷ ts) =
    elim (not (is_some (match_of t.place ps))) as (λ b. not (is_some (match_of t.place ps)) ≡ b → AllByRecursion (is_unmatched ps) (cond b (t ∷ filter (λ u. not (is_some (match_of u.place ps))) ts) (filter (λ u. not (is_some (match_of u.place ps))) ts))) [
      | true ↦ (λ e. (none-by (match_of t.place ps) e, unmatched-all ps ts))
      | false ↦ (λ e. unmatched-all ps ts)
    ] refl

pub resends-agree : (ps : List Place) (m : ℕ) (S : Ledger) → StandsAt ps m S → kept_resends S ≡ resends (waiting S.config ps m)
resends-agree ps m S stands =
    ap (λ rows. map row_again (enumerate_from 0 rows)) (waiting-agrees ps m S stands)
    ∙ again-agrees ps 0 (waiting S.config ps m) (unmatched-all ps (live S.config ps m))
