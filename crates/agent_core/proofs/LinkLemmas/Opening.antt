-- What opens a link, and that nothing was sent over one that opens.
use Rattle.std.proofs.Common.{◌≡◌, ◌≢◌, ℕ, ◌+◌, ◌<◌, Bool, true, false, cond, ◌&&◌, not, [], Option, Some, None, refl, sym, ◌∙◌, ap, subst, arith}
use Rattle.radius_packet.specs.declared.reasons.Reason.TheVariants.{WrongPhase}
use Rattle.diameter_message.specs.Message.{MessageParts}
use Rattle.diameter_message.specs.Results.{is_success}
use Rattle.pending_table.specs.declared.entry.Entry.{Entry}
use Rattle.peer_machine.specs.declared.Phase.{Phase}
use Rattle.peer_machine.specs.declared.Phase.TheVariants.{Closed, Greeting, Serving, Closing}
use Rattle.peer_machine.specs.declared.LinkCause.{LinkCause}
use Rattle.peer_machine.specs.declared.LinkCause.TheVariants.{Refused}
use Rattle.peer_machine.specs.declared.words.LinkState.{LinkState}
use Rattle.peer_machine.specs.declared.words.BaseRequest.TheVariants.{CapabilitiesExchange, DeviceWatchdog, DisconnectPeer}
use Rattle.peer_machine.specs.declared.words.Said.{Said}
use Rattle.peer_machine.specs.declared.words.Said.TheVariants.{CapabilitiesRequest, CapabilitiesAnswer, WatchdogRequest, WatchdogAnswer, DisconnectRequest, DisconnectAnswer, SessionRequest, OtherRequest, ApplicationAnswer, OtherAnswer}
use Rattle.peer_machine.specs.declared.words.Event.{Event as LinkEvent}
use Rattle.peer_machine.specs.declared.words.Event.TheVariants.{Opens, Serves, Says, Breaks, Ends, Ticks, Leaves}
use Rattle.peer_machine.specs.declared.words.Act.{Act}
use Rattle.peer_machine.specs.declared.words.Act.TheVariants.{Nothing, Serve, Discard, Pass, Close, Request, Answer, AnswerAndClose}
use Rattle.peer_machine.specs.Rules.{act_on, on_end, on_said, open_said, greeting_said, closing_said, on_tick, on_leave, is_past, serving_tick, if_room, may_begin, begun, heard_at, after_event, after}
use Rattle.peer_machine.specs.Step.{output_of, sent}
use Rattle.agent_core.specs.declared.ledger.Ledger.{Ledger}
use Rattle.agent_core.specs.Links.{is_grant}
use Rattle.agent_core.specs.Settings.{end_number}
use Rattle.agent_core.specs.Places.{opens, is_serving}
use Rattle.agent_core.specs.History.{link_outputs}
use Rattle.agent_core.specs.Machine.{opens_then, may_open, act_for, link_then, output_for, keeps_spare}
use Rattle.agent_core.specs.Standing.{IsSteady, EntryFits, IsFreshIn}

-- ---- the phase

begun-phase : (l : LinkState) (m : ℕ) (b : Bool) → (cond b (begun l m) l).phase ≡ l.phase
begun-phase l m true = refl
begun-phase l m false = refl

heard-phase : (phase : Phase) (l : LinkState) (m : ℕ) → (heard_at phase l m).phase ≡ l.phase
heard-phase Closed l m = refl
heard-phase Greeting l m = refl
heard-phase Serving l m = refl
heard-phase Closing l m = refl

pub noted-phase : (l : LinkState) (m : ℕ) (event : LinkEvent) → (after_event l m event).phase ≡ l.phase
noted-phase l m Opens = begun-phase l m (may_begin l.phase l.number)
noted-phase l m Serves = begun-phase l m (may_begin l.phase l.number)
noted-phase l m (Says said) = heard-phase l.phase l m
noted-phase l m (Breaks fault) = refl
noted-phase l m Ends = refl
noted-phase l m Ticks = refl
noted-phase l m Leaves = refl

opens-same : (p q : Phase) → q ≡ p → opens p q ≡ true → ⊥
opens-same p Closed e h = let f : opens Closed Closed ≡ true = subst (λ x. opens x Closed ≡ true) (sym e) h in absurd (cc)
opens-same p Greeting e h = let f : opens Greeting Greeting ≡ true = subst (λ x. opens x Greeting ≡ true) (sym e) h in absurd (cc)
opens-same p Serving e h = let f : opens Serving Serving ≡ true = subst (λ x. opens x Serving ≡ true) (sym e) h in absurd (cc)
opens-same p Closing e h = let f : opens Closing Closing ≡ true = subst (λ x. opens x Closing ≡ true) (sym e) h in absurd (cc)

opens-not : (p : Phase) → (not (is_serving p) && false) ≡ true → ⊥
opens-not Closed h = absurd (cc)
opens-not Greeting h = absurd (cc)
opens-not Serving h = absurd (cc)
opens-not Closing h = absurd (cc)

-- only one act opens a link
opens-by : (p : Phase) (l : LinkState) (m : ℕ) (act : Act) → l.phase ≡ p → opens p (after l m act).phase ≡ true → act ≡ Serve
opens-by p l m Nothing e h = absurd (opens-same p l.phase e h)
opens-by p l m Serve e h = refl
opens-by p l m (Discard reason) e h = absurd (opens-same p l.phase e h)
opens-by p l m Pass e h = absurd (opens-same p l.phase e h)
opens-by p l m (Close cause) e h = absurd (opens-not p h)
opens-by p l m (Request CapabilitiesExchange) e h = absurd (opens-not p h)
opens-by p l m (Request DeviceWatchdog) e h = absurd (opens-same p l.phase e h)
opens-by p l m (Request DisconnectPeer) e h = absurd (opens-not p h)
opens-by p l m (Answer code error) e h = absurd (opens-same p l.phase e h)
opens-by p l m (AnswerAndClose code cause) e h = absurd (opens-not p h)

pub opens-serve : (S : Ledger) (event : LinkEvent) → opens_then S event ≡ true → act_for S event ≡ Serve
opens-serve S event h =
    opens-by S.peer.link.phase (after_event S.peer.link S.moment event) S.moment (act_for S event) (noted-phase S.peer.link S.moment event) h

-- the link itself says nothing then
pub opens-silent : (S : Ledger) (event : LinkEvent) (message : Option MessageParts) → opens_then S event ≡ true → link_outputs (output_for S event message) ≡ []
opens-silent S event message h =
    ap (λ (act : Act). link_outputs (output_of (sent S.peer.names (after_event S.peer.link S.moment event) (end_number S.config S.total) message act) act))
    (opens-serve S event h)

-- ---- the inputs that open it

room-serve : (spare : Bool) (act : Act) → if_room spare act ≡ Serve → act ≡ Serve
room-serve true act e = e
room-serve false Nothing e = absurd (cc)
room-serve false Serve e = refl
room-serve false (Discard reason) e = absurd (cc)
room-serve false Pass e = absurd (cc)
room-serve false (Close cause) e = absurd (cc)
room-serve false (Request request) e = absurd (cc)
room-serve false (Answer code error) e = absurd (cc)
room-serve false (AnswerAndClose code cause) e = absurd (cc)

pub data Opening (l : LinkState) (m : ℕ) (event : LinkEvent) : Type 0 where
  Begun : may_open l.phase event ≡ true → (after_event l m event).number ≡ l.number + 1 → Opening l m event
  Greeted : may_open l.phase event ≡ true → l.phase ≡ Greeting → (after_event l m event).number ≡ l.number → Opening l m event

begins-closed : (p : Phase) (n : ℕ) → may_begin p n ≡ true → may_open p Serves ≡ true
begins-closed Closed n e = refl
begins-closed Greeting n e = absurd (cc)
begins-closed Serving n e = absurd (cc)
begins-closed Closing n e = absurd (cc)

serves-begun : (l : LinkState) (m : ℕ) (b : Bool) → may_begin l.phase l.number ≡ b → cond b Serve (Discard WrongPhase) ≡ Serve → Opening l m Serves
serves-begun l m true is e =
    Begun (begins-closed l.phase l.number is) (ap (λ c. (cond c (begun l m) l).number) is)
serves-begun l m false is e = absurd (cc)

pub heard-number : (phase : Phase) (l : LinkState) (m : ℕ) → (heard_at phase l m).number ≡ l.number
heard-number Closed l m = refl
heard-number Greeting l m = refl
heard-number Serving l m = refl
heard-number Closing l m = refl

open-serves-not : (said : Said) → open_said said ≡ Serve → ⊥
open-serves-not WatchdogRequest e = absurd (cc)
open-serves-not WatchdogAnswer e = absurd (cc)
open-serves-not (DisconnectRequest cause) e = absurd (cc)
open-serves-not DisconnectAnswer e = absurd (cc)
open-serves-not SessionRequest e = absurd (cc)
open-serves-not CapabilitiesRequest e = absurd (cc)
open-serves-not OtherRequest e = absurd (cc)
open-serves-not ApplicationAnswer e = absurd (cc)
open-serves-not (CapabilitiesAnswer result) e = absurd (cc)
open-serves-not OtherAnswer e = absurd (cc)

closing-serves-not : (said : Said) → closing_said said ≡ Serve → ⊥
closing-serves-not DisconnectAnswer e = absurd (cc)
closing-serves-not WatchdogRequest e = absurd (cc)
closing-serves-not WatchdogAnswer e = absurd (cc)
closing-serves-not (DisconnectRequest cause) e = absurd (cc)
closing-serves-not SessionRequest e = absurd (cc)
closing-serves-not CapabilitiesRequest e = absurd (cc)
closing-serves-not OtherRequest e = absurd (cc)
closing-serves-not ApplicationAnswer e = absurd (cc)
closing-serves-not (CapabilitiesAnswer result) e = absurd (cc)
closing-serves-not OtherAnswer e = absurd (cc)

serves-if : (b : Bool) (cause : LinkCause) → cond b Serve (Close cause) ≡ Serve → b ≡ true
serves-if true cause e = refl
serves-if false cause e = absurd (cc)

serves-granted : (said : Said) → greeting_said said ≡ Serve → is_grant said ≡ true
serves-granted WatchdogRequest e = absurd (cc)
serves-granted WatchdogAnswer e = absurd (cc)
serves-granted (DisconnectRequest cause) e = absurd (cc)
serves-granted DisconnectAnswer e = absurd (cc)
serves-granted SessionRequest e = absurd (cc)
serves-granted CapabilitiesRequest e = absurd (cc)
serves-granted OtherRequest e = absurd (cc)
serves-granted ApplicationAnswer e = absurd (cc)
serves-granted (CapabilitiesAnswer result) e = serves-if (is_success result) (Refused result) e
serves-granted OtherAnswer e = absurd (cc)

said-opens : (l : LinkState) (m : ℕ) (said : Said) (phase : Phase) → l.phase ≡ phase → on_said phase said ≡ Serve → Opening l m (Says said)
said-opens l m said Closed is e = absurd (cc)
said-opens l m said Greeting is e = Greeted (ap (λ p. may_open p (Says said)) is ∙ serves-granted said e) is (heard-number l.phase l m)
said-opens l m said Serving is e = absurd (open-serves-not said e)
said-opens l m said Closing is e = absurd (closing-serves-not said e)

end-serves-not : (phase : Phase) (cause : LinkCause) → on_end phase cause ≡ Serve → ⊥
end-serves-not Closed cause e = absurd (cc)
end-serves-not Greeting cause e = absurd (cc)
end-serves-not Serving cause e = absurd (cc)
end-serves-not Closing cause e = absurd (cc)

past-serves-not : (b : Bool) (act : Act) → (act ≡ Serve → ⊥) → cond b act Nothing ≡ Serve → ⊥
past-serves-not true act other e = other e
past-serves-not false act other e = absurd (cc)

serving-tick-not : (asked : Option ℕ) (heard watchdog m : ℕ) → serving_tick asked heard watchdog m ≡ Serve → ⊥
serving-tick-not None heard watchdog m e = past-serves-not (is_past heard watchdog m) _ (λ f. absurd (cc)) e
serving-tick-not (Some asked) heard watchdog m e = past-serves-not (is_past asked watchdog m) _ (λ f. absurd (cc)) e

tick-serves-not : (phase : Phase) (l : LinkState) (watchdog m : ℕ) → on_tick phase l watchdog m ≡ Serve → ⊥
tick-serves-not Closed l watchdog m e = absurd (cc)
tick-serves-not Greeting l watchdog m e = past-serves-not (is_past l.heard watchdog m) _ (λ f. absurd (cc)) e
tick-serves-not Serving l watchdog m e = serving-tick-not l.asked l.heard watchdog m e
tick-serves-not Closing l watchdog m e = past-serves-not (is_past l.leave watchdog m) _ (λ f. absurd (cc)) e

leave-serves-not : (phase : Phase) → on_leave phase ≡ Serve → ⊥
leave-serves-not Closed e = absurd (cc)
leave-serves-not Greeting e = absurd (cc)
leave-serves-not Serving e = absurd (cc)
leave-serves-not Closing e = absurd (cc)

opens-serves-not : (b : Bool) → cond b (Request CapabilitiesExchange) (Discard WrongPhase) ≡ Serve → ⊥
opens-serves-not true e = absurd (cc)
opens-serves-not false e = absurd (cc)

act-opens : (l : LinkState) (watchdog m : ℕ) (event : LinkEvent) → act_on l watchdog m event ≡ Serve → Opening l m event
act-opens l watchdog m Opens e = absurd (opens-serves-not (may_begin l.phase l.number) e)
act-opens l watchdog m Serves e = serves-begun l m (may_begin l.phase l.number) refl e
act-opens l watchdog m (Says said) e = said-opens l m said l.phase refl e
act-opens l watchdog m (Breaks fault) e = absurd (end-serves-not l.phase _ e)
act-opens l watchdog m Ends e = absurd (end-serves-not l.phase _ e)
act-opens l watchdog m Ticks e = absurd (tick-serves-not l.phase l watchdog m e)
act-opens l watchdog m Leaves e = absurd (leave-serves-not l.phase e)

pub opening : (S : Ledger) (event : LinkEvent) → opens_then S event ≡ true → Opening S.peer.link S.moment event
opening S event h =
    act-opens S.peer.link S.peer.watchdog S.moment event (room-serve (keeps_spare S event) _ (opens-serve S event h))

opening-may : (l : LinkState) (m : ℕ) (event : LinkEvent) → Opening l m event → may_open l.phase event ≡ true
opening-may l m event (Begun may number) = may
opening-may l m event (Greeted may greeting number) = may

-- what may not open a link doesn't
pub opens-may : (S : Ledger) (event : LinkEvent) → opens_then S event ≡ true → may_open S.peer.link.phase event ≡ true
opens-may S event h = opening-may S.peer.link S.moment event (opening S event h)

fresh-by : (S : Ledger) (event : LinkEvent) → IsSteady S → Opening S.peer.link S.moment event → (e : Entry) → EntryFits S e → e.link ≢ (after_event S.peer.link S.moment event).number
fresh-by S event steady (Begun may number) e fits same = let h = fits.linked in omega arith
fresh-by S event steady (Greeted may greeting number) e fits same =
    let unused : S.used ≡ 0 = subst (λ (p : Phase). IsFreshIn p S.used) greeting steady.greeting in
    let used : e.number < S.used = fits.numbered (same ∙ number) in
    omega arith

-- no live entry has the link that opens
pub opens-fresh : (S : Ledger) (event : LinkEvent) → IsSteady S → opens_then S event ≡ true → (e : Entry) → EntryFits S e → e.link ≢ (link_then S event).number
opens-fresh S event steady h e fits same =
    let number : (link_then S event).number ≡ (after_event S.peer.link S.moment event).number = ap (λ (act : Act). (after (after_event S.peer.link S.moment event) S.moment act).number) (opens-serve S event h) in
    fresh-by S event steady (opening S event h) e fits (same ∙ number)
