-- A ledger whose counts have room goes on to have it.
use Rattle.std.proofs.Common.{◌≡◌, ℕ, ◌+◌, ◌≤◌, ◌⊎◌, inl, inr, Bool, true, false, cond, length, Option, None, refl, ◌∙◌, ap, arith, max}
use Rattle.std.specs.Prelude.{is_some}
use Rattle.std.proofs.lemmas.Bool.{and_parts, ltb-true}
use Rattle.diameter_message.specs.Message.{MessageParts}
use Rattle.pending_table.specs.Table as table
use Rattle.pending_table.specs.Table.{Row, TableParts}
use Rattle.peer_machine.specs.declared.Phase.{Phase}
use Rattle.peer_machine.specs.declared.Phase.TheVariants.{Closed, Greeting, Serving, Closing}
use Rattle.peer_machine.specs.declared.words.Event.{Event as LinkEvent}
use Rattle.peer_machine.specs.declared.words.Act.{Act}
use Rattle.peer_machine.specs.Step.{sent, link_at}
use Rattle.peer_machine.specs.Rules.{act_on, after_event}
use Rattle.agent_core.specs.declared.ledger.Ledger.{Ledger}
use Rattle.agent_core.specs.Settings.{end_number}
use Rattle.agent_core.specs.Places.{is_serving}
use Rattle.agent_core.specs.Rooms.{refusal}
use Rattle.agent_core.specs.Machine.{count_of, kept_waiting, kept_rooms, with_row, drained, purged, begins_by, count_before, keeps_spare, act_for, link_then, output_for, opens_then, on_link, table_relinked}
use Rattle.agent_core.specs.Standing.{IsRoomy, IsFreshIn, IsEarly}
use Rattle.agent_core.proofs.RequestLemmas.Refusals.{refusal-none}
use Rattle.agent_core.proofs.LinkLemmas.Opening.{Opening, Begun, Greeted, opening, opens-serve}
use Rattle.agent_core.proofs.LinkLemmas.LinkRequests.{number-noted}
use Rattle.agent_core.proofs.LinkLemmas.Greets.{greets, quiet-greets, quiet-unsent, sent-room}
use Rattle.agent_core.proofs.RoomLemmas.Waiters.{waiting-live, waiting-later, waiting-more, waiting-relinked}

-- ---- phases

pub serving-fresh : (phase : Phase) (n : ℕ) → is_serving phase ≡ true → IsFreshIn phase n
serving-fresh Closed n e = tt
serving-fresh Greeting n e = absurd (cc)
serving-fresh Serving n e = tt
serving-fresh Closing n e = tt

pub serving-early : (phase : Phase) (n : ℕ) → is_serving phase ≡ true → IsEarly phase n
serving-early Closed n e = tt
serving-early Greeting n e = absurd (cc)
serving-early Serving n e = tt
serving-early Closing n e = tt

pub fresh-by : (phase : Phase) (n : ℕ) → (phase ≡ Greeting → n ≡ 0) → IsFreshIn phase n
fresh-by Closed n h = tt
fresh-by Greeting n h = h refl
fresh-by Serving n h = tt
fresh-by Closing n h = tt

pub early-by : (phase : Phase) (n : ℕ) → (phase ≡ Greeting → n ≤ 64) → IsEarly phase n
early-by Closed n h = tt
early-by Greeting n h = h refl
early-by Serving n h = tt
early-by Closing n h = tt

pub fresh-in : (phase : Phase) (n : ℕ) → IsFreshIn phase n → phase ≡ Greeting → n ≡ 0
fresh-in Greeting n h e = h
fresh-in Closed n h e = absurd (cc)
fresh-in Serving n h e = absurd (cc)
fresh-in Closing n h e = absurd (cc)

pub early-in : (phase : Phase) (n : ℕ) → IsEarly phase n → phase ≡ Greeting → n ≤ 64
early-in Greeting n h e = h
early-in Closed n h e = absurd (cc)
early-in Serving n h e = absurd (cc)
early-in Closing n h e = absurd (cc)

-- ---- time passes, and what is sent is handed over

pub IsRoomy-later : (S : Ledger) (m : ℕ) → S.moment ≤ m → IsRoomy S → IsRoomy (record S { moment = m })
IsRoomy-later S m later roomy =
    let fewer = waiting-later S.table S.moment m later in
    let rooms = roomy.rooms in
    record {
      rooms = record {
        outbox = let h = rooms.outbox in omega arith;
        again = let h = rooms.again in omega arith;
        used = let h = rooms.used in omega arith;
      };
      greeting = roomy.greeting;
      early = roomy.early;
    }

pub IsRoomy-purged : (S : Ledger) → IsRoomy S → IsRoomy (purged S)
IsRoomy-purged S roomy =
    let same : length (kept_waiting (purged S)) ≡ length (kept_waiting S) = ap length (waiting-live S.table S.moment) in
    let rooms = roomy.rooms in
    record {
      rooms = record {
        outbox = let h = rooms.outbox in omega arith;
        again = let h = rooms.again in omega arith;
        used = let h = rooms.used in omega arith;
      };
      greeting = roomy.greeting;
      early = roomy.early;
    }

pub IsRoomy-drained : (S : Ledger) → IsRoomy S → IsRoomy (drained S)
IsRoomy-drained S roomy =
    let rooms = roomy.rooms in
    record {
      rooms = record { outbox = let h = rooms.again in omega arith; again = rooms.again; used = rooms.used };
      greeting = roomy.greeting;
      early = early-by S.peer.link.phase 0 (λ e. omega arith);
    }

-- ---- a request is taken up

pub IsRoomy-row : (S : Ledger) (r : Row) (fresh : Bool) → refusal S.config (kept_rooms S) ≡ None → IsRoomy S → IsRoomy (with_row S r fresh)
IsRoomy-row S r fresh none roomy =
    let admits = refusal-none S.config (kept_rooms S) none in
    let more : length (kept_waiting (with_row S r fresh)) ≤ length (kept_waiting S) + 1 = waiting-more S.table S.moment r in
    let spent : S.used + length (kept_waiting S) + 2 ≤ 2147483648 = admits.used in
    let room : max S.outbox (length (kept_waiting S)) + length (kept_waiting S) + 2 ≤ S.config.backlog = admits.backlog in
    record {
      rooms = record { outbox = omega arith; again = omega arith; used = omega arith };
      greeting = serving-fresh S.peer.link.phase (S.used + 1) admits.serving;
      early = serving-early S.peer.link.phase (S.outbox + 1) admits.serving;
    }

-- ---- the link

abbrev said : Ledger → LinkEvent → Option MessageParts → ℕ
said S event message = count_of (is_some (output_for S event message).send)

-- what the link says has room
said-fits : (S : Ledger) (event : LinkEvent) (message : Option MessageParts) → (b : Bool) → is_some (output_for S event message).send ≡ b → IsRoomy S → count_before S event S.outbox + count_of b + length (kept_waiting S) ≤ S.config.backlog + 64
said-fits S event message true sends roomy =
    let spare : keeps_spare S event ≡ true = sent-room S.peer.names (link_at S.peer S.moment event) (end_number S.config S.total) message (keeps_spare S event) (act_on S.peer.link S.peer.watchdog S.moment event) sends in
    let h = ltb-true (count_before S event S.outbox + length (kept_waiting S)) (S.config.backlog + 64) spare in
    omega arith
said-fits S event message false sends roomy =
    elim (begins_by S.peer.link event) as (λ c. cond c 0 S.outbox + 0 + length (kept_waiting S) ≤ S.config.backlog + 64) [
      | true ↦ (let h = roomy.rooms.again in omega arith)
      | false ↦ (let h = roomy.rooms.outbox in omega arith)
    ]

before-less : (b : Bool) (n : ℕ) → cond b 0 n ≤ n
before-less true n = omega arith
before-less false n = omega arith

one-at-most : (b : Bool) → count_of b ≤ 1
one-at-most true = omega arith
one-at-most false = omega arith

-- a link that greets has sent little
record Little (used outbox said : ℕ) (b : Bool) : Type 0 where
  pub used_is : cond b 0 used ≡ 0
  pub outbox_is : cond b 0 outbox + said ≤ 64

little : (S : Ledger) (event : LinkEvent) (message : Option MessageParts) → IsRoomy S → (S.peer.link.phase ≡ Greeting) ⊎ (begins_by S.peer.link event ≡ true) → Little S.used S.outbox (said S event message) (begins_by S.peer.link event)
little S event message roomy (inl greeting) =
    let used = fresh-in S.peer.link.phase S.used roomy.greeting greeting in
    let outbox = early-in S.peer.link.phase S.outbox roomy.early greeting in
    let quiet = quiet-greets S.peer.link S.peer.watchdog S.moment event (keeps_spare S event) greeting in
    let none : is_some (output_for S event message).send ≡ false = quiet-unsent S.peer.names (link_at S.peer S.moment event) (end_number S.config S.total) message (act_for S event) quiet in
    let silent : said S event message ≡ 0 = ap count_of none in
    let less_used = before-less (begins_by S.peer.link event) S.used in
    let less_outbox = before-less (begins_by S.peer.link event) S.outbox in
    record { used_is = omega arith; outbox_is = omega arith }
little S event message roomy (inr begins) =
    let one = one-at-most (is_some (output_for S event message).send) in
    let none : cond (begins_by S.peer.link event) 0 S.outbox ≡ 0 = ap (λ c. cond c 0 S.outbox) begins in
    record { used_is = ap (λ c. cond c 0 S.used) begins; outbox_is = omega arith }

-- the same where nothing is sent again
abbrev shut : Ledger → LinkEvent → Option MessageParts → Ledger
shut S event message = (on_link S event message).ledger

pub IsRoomy-shut : (S : Ledger) (event : LinkEvent) (message : Option MessageParts) → opens_then S event ≡ false → IsRoomy S → IsRoomy (on_link S event message).ledger
IsRoomy-shut S event message is roomy =
    let b = begins_by S.peer.link event in
    let fits = said-fits S event message (is_some (output_for S event message).send) refl roomy in
    let less = before-less b S.used in
    let rooms = roomy.rooms in
    let greets_now : (link_then S event).phase ≡ Greeting → Little S.used S.outbox (said S event message) b =
    (λ e. little S event message roomy (greets S.peer.link S.peer.watchdog S.moment event (keeps_spare S event) e))
    in
    rw is (record {
      rooms = record {
        outbox = omega arith;
        again = rooms.again;
        used = let h = rooms.used in omega arith;
      };
      greeting = fresh-by (link_then S event).phase (cond b 0 S.used + 0) (λ e. let h = (greets_now e).used_is in omega arith);
      early = early-by (link_then S event).phase (cond b 0 S.outbox + said S event message + 0) (λ e. let h = (greets_now e).outbox_is in omega arith);
    })

-- what was sent over a link that opens
pub record BeforeOpening (S : Ledger) (b : Bool) : Type 0 where
  pub used : cond b 0 S.used ≡ 0
  pub outbox : cond b 0 S.outbox ≤ 64

pub before-opening : (S : Ledger) (event : LinkEvent) → IsRoomy S → (b : Bool) → begins_by S.peer.link event ≡ b → Opening S.peer.link S.moment event → BeforeOpening S b
before-opening S event roomy true begins how = record { used = refl; outbox = omega arith }
before-opening S event roomy false begins (Begun may number) =
    let still : (after_event S.peer.link S.moment event).number ≡ S.peer.link.number = number-noted S.peer.link S.moment event ∙ ap (λ c. cond c (S.peer.link.number + 1) S.peer.link.number) begins in
    absurd (omega arith)
before-opening S event roomy false begins (Greeted may greeting number) = record {
  used = fresh-in S.peer.link.phase S.used roomy.greeting greeting;
  outbox = early-in S.peer.link.phase S.outbox roomy.early greeting;
}

opened-serves : (S : Ledger) (event : LinkEvent) → opens_then S event ≡ true → is_serving (link_then S event).phase ≡ true
opened-serves S event is = (and_parts _ _ is).1

pub IsRoomy-opened : (S : Ledger) (event : LinkEvent) (message : Option MessageParts) → S.config.backlog ≤ 65536 → opens_then S event ≡ true → IsRoomy S → IsRoomy (on_link S event message).ledger
IsRoomy-opened S event message small is roomy =
    let b = begins_by S.peer.link event in
    let w = length (kept_waiting S) in
    let before = before-opening S event roomy b refl (opening S event is) in
    let none : is_some (output_for S event message).send ≡ false = ap (λ (act : Act). is_some (sent S.peer.names (link_at S.peer S.moment event) (end_number S.config S.total) message act)) (opens-serve S event is) in
    let silent : said S event message ≡ 0 = ap count_of none in
    let same : length (table.waiting (table_relinked S.table (link_then S event).number S.moment) S.moment) ≡ w = waiting-relinked S.table (link_then S event).number S.moment in
    let serves = opened-serves S event is in
    let used = before.used in
    let outbox = before.outbox in
    let again = roomy.rooms.again in
    rw is (record {
      rooms = record { outbox = omega arith; again = omega arith; used = omega arith };
      greeting = serving-fresh (link_then S event).phase (cond b 0 S.used + w) serves;
      early = serving-early (link_then S event).phase (cond b 0 S.outbox + said S event message + w) serves;
    })

linked-by : (S : Ledger) (event : LinkEvent) (message : Option MessageParts) → S.config.backlog ≤ 65536 → IsRoomy S → (b : Bool) → opens_then S event ≡ b → IsRoomy (on_link S event message).ledger
linked-by S event message small roomy true is = IsRoomy-opened S event message small is roomy
linked-by S event message small roomy false is = IsRoomy-shut S event message is roomy

pub IsRoomy-linked : (S : Ledger) (event : LinkEvent) (message : Option MessageParts) → S.config.backlog ≤ 65536 → IsRoomy S → IsRoomy (on_link S event message).ledger
IsRoomy-linked S event message small roomy = linked-by S event message small roomy (opens_then S event) refl
