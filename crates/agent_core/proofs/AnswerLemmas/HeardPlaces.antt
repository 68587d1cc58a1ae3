-- An answer that the link hands on: what is kept then stands for the history with it.
use Rattle.std.proofs.Common.{◌≡◌, ℕ, ◌+◌, ◌%◌, true, false, cond, List, [], ◌∷◌, map, Option, None, refl, ◌∙◌, ap, arith}
use Rattle.std.specs.Prelude.{count_by}
use Rattle.std.specs.Option.{option_map_or, option_or}
use Rattle.diameter_message.specs.Message.{MessageParts}
use Rattle.agent_settings.specs.declared.config.Config.{Config}
use Rattle.pending_table.specs.Table as table
use Rattle.pending_table.specs.Table.{Row, TableParts}
use Rattle.peer_machine.specs.declared.Phase.{Phase}
use Rattle.peer_machine.specs.declared.Phase.TheVariants.{Closed, Greeting, Serving, Closing}
use Rattle.peer_machine.specs.declared.words.Event.TheVariants.{Says}
use Rattle.peer_machine.specs.declared.words.Act.{Act}
use Rattle.peer_machine.specs.declared.words.Act.TheVariants.{Pass}
use Rattle.peer_machine.specs.Step.{PeerParts, link_at, is_request as asks}
use Rattle.peer_machine.specs.Reading.{said_in}
use Rattle.peer_machine.specs.Rules.{after}
use Rattle.agent_events.specs.declared.events.Input.TheVariants.{Message}
use Rattle.agent_events.specs.declared.events.Output.{Output}
use Rattle.agent_core.specs.declared.ledger.Ledger.{Ledger}
use Rattle.agent_core.specs.Links.{with_requests, without_requests}
use Rattle.agent_core.specs.Places.{Place, Taking, link, opens, match_of, rank, used, base, outbox, total, waiting, live, is_sent, is_application_request, is_base_request, is_first_request}
use Rattle.agent_core.specs.History.{peer, link_act, link_after, resent_by}
use Rattle.agent_core.specs.Machine.{count_of, peer_then}
use Rattle.agent_core.specs.Standing.{StandsAt, last_sent, row_of, entry_of, answer_in}
use Rattle.agent_core.proofs.LinkLemmas.Opening.{noted-phase}
use Rattle.agent_core.proofs.LinkLemmas.LinkRequests.{requests-then, requests-beside, number-noted}
use Rattle.agent_core.proofs.StandingLemmas.Agreeing.{then-agrees, link_by}

-- the place of a message that the link hands on
abbrev pub heard_place : Config → List Place → ℕ → List ℕ → MessageParts → Option Taking → List Output → Place
heard_place config ps m octets message matched outputs = record {
  moment = m;
  input = Message octets;
  link = link_after config ps m (Message octets) (Says (said_in message));
  taken = None;
  matched = matched;
  resent = resent_by config ps m (link_after config ps m (Message octets) (Says (said_in message)));
  outputs = outputs;
}

-- the link hands this message on
abbrev pub HandsOn : Config → List Place → ℕ → List ℕ → MessageParts → Type 0
HandsOn config ps m octets message = link_act config ps m (Message octets) (Says (said_in message)) ≡ Pass

opens-same : (phase : Phase) → opens phase phase ≡ false
opens-same Closed = refl
opens-same Greeting = refl
opens-same Serving = refl
opens-same Closing = refl

pub heard-phase : (config : Config) (ps : List Place) (m : ℕ) (octets : List ℕ) (message : MessageParts) → HandsOn config ps m octets message → (link_after config ps m (Message octets) (Says (said_in message))).phase ≡ (link ps).phase
heard-phase config ps m octets message hands =
    ap (λ act. (after (link_at (peer config ps) m (Says (said_in message))) m act).phase) hands
    ∙ noted-phase (peer config ps).link m (Says (said_in message))

-- nothing is sent again
pub heard-resent : (config : Config) (ps : List Place) (m : ℕ) (octets : List ℕ) (message : MessageParts) → HandsOn config ps m octets message → resent_by config ps m (link_after config ps m (Message octets) (Says (said_in message))) ≡ []
heard-resent config ps m octets message hands =
    ap (λ phase. cond (opens (link ps).phase phase) (waiting config ps m) []) (heard-phase config ps m octets message hands)
    ∙ ap (λ b. cond b (waiting config ps m) []) (opens-same (link ps).phase)

-- the link's number is the same
pub heard-number : (config : Config) (ps : List Place) (m : ℕ) (octets : List ℕ) (message : MessageParts) → HandsOn config ps m octets message → (link_after config ps m (Message octets) (Says (said_in message))).number ≡ (link ps).number
heard-number config ps m octets message hands =
    ap (λ act. (after (link_at (peer config ps) m (Says (said_in message))) m act).number) hands
    ∙ number-noted (peer config ps).link m (Says (said_in message))

-- what goes out for the application, and for the link
pub record Follow (outputs : List Output) (n : ℕ) : Type 0 where
  pub application : count_by (is_sent is_application_request) outputs ≡ n
  pub base : count_by (is_sent is_base_request) outputs ≡ 0
  pub first : count_by (is_sent is_first_request) outputs ≡ n
  pub any : count_by (is_sent (λ h. true)) outputs ≡ n

heard-peer : (ps : List Place) (m : ℕ) (S : Ledger) → StandsAt ps m S → (octets : List ℕ) (message : MessageParts) → HandsOn S.config ps m octets message → (matched : Option Taking) (outputs : List Output) (n : ℕ) → Follow outputs n → peer_then S (Says (said_in message)) ≡ peer S.config (heard_place S.config ps m octets message matched outputs ∷ ps)
heard-peer ps m S stands octets message hands matched outputs n follow =
    let event = Says (said_in message) in
    let p = heard_place S.config ps m octets message matched outputs in
    let L = link_by S.config ps m (Message octets) event in
    let act = link_act S.config ps m (Message octets) event in
    let none : count_of (asks act) ≡ 0 = ap (λ (a : Act). count_of (asks a)) hands in
    let counted : base ps + count_of (asks act) ≡ base (p ∷ ps) = (let h = follow.base in omega arith) in
    let requests : L.requests ≡ base (p ∷ ps) % 2147483648 = requests-then (peer S.config ps).link (base ps) m event act refl ∙ ap (λ k. k % 2147483648) counted in
    ap (λ l. record S.peer { link = l }) (then-agrees ps m S stands (Message octets) event refl ∙ requests-beside L (base (p ∷ ps)) requests)
    ∙ ap (λ (q : PeerParts). record q { link = with_requests (without_requests L) (base (p ∷ ps)) }) stands.peer

abbrev heard_with : Ledger → MessageParts → ℕ → ℕ → ℕ → List Row → Ledger
heard_with S message used outbox total rows = record S {
  peer = peer_then S (Says (said_in message));
  used = used;
  outbox = outbox;
  total = total;
  table = record S.table { entries = rows };
}

-- so many messages follow, and the live rows are those of the requests
pub heard-stands : (ps : List Place) (m : ℕ) (S : Ledger) → StandsAt ps m S → (octets : List ℕ) (message : MessageParts) → HandsOn S.config ps m octets message → (matched : Option Taking) (outputs : List Output) (n : ℕ) → Follow outputs n → (u o k : ℕ) (rows : List Row) → u ≡ S.used + n → o ≡ S.outbox + n → k ≡ (S.total + n) % 4294967296 → table.live (record S.table { entries = rows }) m ≡ map (row_of (heard_place S.config ps m octets message matched outputs ∷ ps)) (live S.config (heard_place S.config ps m octets message matched outputs ∷ ps) m) → StandsAt (heard_place S.config ps m octets message matched outputs ∷ ps) m (heard_with S message u o k rows)
heard-stands ps m S stands octets message hands matched outputs n follow u o k rows used_is outbox_is total_is entries =
    let p = heard_place S.config ps m octets message matched outputs in
    let app = follow.application in
    let any = follow.any in
    let first = follow.first in
    record {
      moment = stands.moment;
      peer = heard-peer ps m S stands octets message hands matched outputs n follow;
      used = let h = stands.used in omega arith;
      outbox = let h = stands.outbox in omega arith;
      total = let h = stands.total in omega arith;
      serial = stands.serial;
      capacity = stands.capacity;
      patience = stands.patience;
      retention = stands.retention;
      entries = entries;
    }

-- ---- the rows

-- none was sent anew, so each row has at most another answer
pub heard-row : (config : Config) (ps : List Place) (m : ℕ) (octets : List ℕ) (message : MessageParts) → HandsOn config ps m octets message → (matched : Option Taking) (outputs : List Output) (t : Taking) (o : Option Place) → match_of t.place (heard_place config ps m octets message matched outputs ∷ ps) ≡ o → row_of (heard_place config ps m octets message matched outputs ∷ ps) t ≡ (t.key, record (entry_of ps t) { answer = answer_in t.sent o })
heard-row config ps m octets message hands matched outputs t o is =
    let p = heard_place config ps m octets message matched outputs in
    let same : last_sent (p ∷ ps) t ≡ last_sent ps t = ap (λ r. option_map_or (λ hop. (p.link.number, hop)) (option_or (rank t.place 0 r) None) (last_sent ps t)) (heard-resent config ps m octets message hands) in
    ap (λ (l : ℕ × ℕ). (t.key, record (entry_of ps t) { link = l.0; number = l.1; answer = answer_in t.sent (match_of t.place (p ∷ ps)) })) same
    ∙ ap (λ o'. (t.key, record (entry_of ps t) { answer = answer_in t.sent o' })) is
