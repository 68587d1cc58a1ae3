-- What is known before a step, and what a step reaches.
use Rattle.std.proofs.Common.{◌≡◌, ℕ, ◌+◌, ◌<◌, ◌≤◌, inl, inr, Bool, true, false, cond, List, [], ◌∷◌, Option, refl, sym, ◌∙◌, ap, arith}
use Rattle.std.specs.List.{AllByRecursion}
use Rattle.diameter_message.specs.Message.{MessageParts}
use Rattle.agent_settings.specs.declared.config.Config.{Config}
use Rattle.peer_machine.specs.declared.words.LinkState.{LinkState}
use Rattle.peer_machine.specs.declared.words.BaseRequest.TheVariants.{CapabilitiesExchange, DeviceWatchdog, DisconnectPeer}
use Rattle.peer_machine.specs.declared.words.Event.{Event as LinkEvent}
use Rattle.peer_machine.specs.declared.words.Act.{Act}
use Rattle.peer_machine.specs.declared.words.Act.TheVariants.{Nothing, Serve, Discard, Pass, Close, Request, Answer, AnswerAndClose}
use Rattle.peer_machine.specs.Rules.{after}
use Rattle.peer_machine.specs.Step.{PeerParts, link_at}
use Rattle.agent_events.specs.declared.events.Input.{Input}
use Rattle.agent_events.specs.declared.events.Output.{Output}
use Rattle.agent_core.specs.declared.ledger.Ledger.{Ledger}
use Rattle.agent_core.specs.Places.{Place, Taking, now, link, begins, opens, takings, live, waiting}
use Rattle.agent_events.specs.Kinds.{is_drain}
use Rattle.agent_core.specs.History.{still, linked, link_act, link_after, peer, next_numbers}
use Rattle.agent_core.specs.Machine.{Next, says, drained, on_link, begins_by, opens_then}
use Rattle.agent_core.specs.Standing.{StandsAt, IsRoomy}
use Rattle.agent_core.proofs.LawLemmas.Orders.{Ascending}
use Rattle.agent_core.proofs.ListLemmas.Lists.{AllByRecursion-weaken}
use Rattle.agent_core.proofs.ImageLemmas.Headers.{AreNumbers}
use Rattle.agent_core.proofs.StandingLemmas.Agreeing.{opens-agrees}
use Rattle.agent_core.proofs.LinkLemmas.Opened.{Ascending-filter}
use Rattle.agent_core.proofs.LinkLemmas.Opening.{opening}
use Rattle.agent_core.proofs.LinkLemmas.LinkRequests.{number-noted}
use Rattle.agent_core.proofs.RoomLemmas.Roomy.{before-opening}
use Rattle.agent_core.proofs.LawLemmas.Soundness.{TakingFits, SentFits, Goes, IsUnused}
use Rattle.agent_core.proofs.LawLemmas.Sound.{IsSound, IsSound-on}
use Rattle.agent_core.proofs.StandingLemmas.Numbers.{waiting-fits}
use Rattle.agent_core.proofs.StandingLemmas.Simulation.{Follows, IsUnsent, still-follows}
use Rattle.agent_core.proofs.LinkLemmas.LinkPlaces.{linked-follows, link-sends}

-- what the settings' limits say here
pub record Lasts (config : Config) : Type 0 where
  pub patience : 0 < config.patience
  pub retention : 0 < config.retention
  pub backlog : config.backlog ≤ 65536

-- what is known before a step at the moment m
pub record Before (ps : List Place) (m : ℕ) (S : Ledger) : Type 0 where
  pub stands : StandsAt ps m S
  pub sound : IsSound S.config ps
  pub roomy : IsRoomy S
  pub later : now ps ≤ m
  pub lasts : Lasts S.config

-- the step is the place, and the past is sound with it
pub record Reaches (ps : List Place) (m : ℕ) (S : Ledger) (p : Place) (n : Next) : Type 0 where
  pub follows : Follows ps m S p n
  pub sound : IsSound S.config (p ∷ ps)

-- the numbers of the next request fit their fields
pub numbers-fit : (ps : List Place) (m : ℕ) (S : Ledger) → Before ps m S → AreNumbers (next_numbers S.config ps)
numbers-fit ps m S b =
    let same = b.stands.used in
    let few = b.roomy.rooms.used in
    record { hop = omega arith; end = omega arith }

-- ---- places that change nothing

pub still-goes : (ps : List Place) (m : ℕ) (config : Config) (input : Input) (outputs : List Output) → now ps ≤ m → begins ps input ≡ false → Goes ps (still config ps m input outputs)
still-goes ps m config input outputs later quiet = record {
  later = later;
  number = sym (ap (λ b. cond b ((link ps).number + 1) (link ps).number) quiet);
  resent = omega arith;
  order = tt;
  unused = inl refl;
}

pub still-reaches : (ps : List Place) (m : ℕ) (S : Ledger) → Before ps m S → (input : Input) → begins ps input ≡ false → is_drain input ≡ false → (outputs : List Output) → IsUnsent outputs → Reaches ps m S (still S.config ps m input outputs) (says S outputs)
still-reaches ps m S b input quiet kept outputs unsent = record {
  follows = still-follows ps m S b.stands input quiet kept outputs unsent;
  sound = IsSound-on S.config ps (still S.config ps m input outputs) (still-goes ps m S.config input outputs b.later quiet) refl (λ n ahead. refl) b.sound;
}

pub drain-reaches : (ps : List Place) (m : ℕ) (S : Ledger) (input : Input) → Before ps m S → begins ps input ≡ false → Follows ps m S (still S.config ps m input []) (says (drained S) []) → Reaches ps m S (still S.config ps m input []) (says (drained S) [])
drain-reaches ps m S input b quiet follows = record {
  follows = follows;
  sound = IsSound-on S.config ps (still S.config ps m input []) (still-goes ps m S.config input [] b.later quiet) refl (λ n ahead. refl) b.sound;
}

-- ---- the link

after-number : (l : LinkState) (m : ℕ) (act : Act) → (after l m act).number ≡ l.number
after-number l m Nothing = refl
after-number l m Serve = refl
after-number l m (Discard reason) = refl
after-number l m Pass = refl
after-number l m (Close cause) = refl
after-number l m (Request CapabilitiesExchange) = refl
after-number l m (Request DeviceWatchdog) = refl
after-number l m (Request DisconnectPeer) = refl
after-number l m (Answer code error) = refl
after-number l m (AnswerAndClose code cause) = refl

pub waiting-sent : (config : Config) (ps : List Place) (m : ℕ) → IsSound config ps → AllByRecursion (λ t. SentFits t.sent) (waiting config ps m)
waiting-sent config ps m sound =
    AllByRecursion-weaken (TakingFits config ps) (λ t. SentFits t.sent) (λ t f. f.sent) (waiting config ps m) (waiting-fits config ps m sound)

waiting-order : (config : Config) (ps : List Place) (m : ℕ) → IsSound config ps → Ascending (waiting config ps m)
waiting-order config ps m sound = Ascending-filter _ (live config ps m) (Ascending-filter _ (takings ps) sound.ascending)

order-if : (ts : List Taking) (b : Bool) → Ascending ts → Ascending (cond b ts [])
order-if ts true up = up
order-if ts false up = tt

sent-if : (ts : List Taking) (b : Bool) → AllByRecursion (λ t. SentFits t.sent) ts → AllByRecursion (λ t. SentFits t.sent) (cond b ts [])
sent-if ts true fits = fits
sent-if ts false fits = tt

-- a link that opens has sent nothing yet
unused-by : (ps : List Place) (m : ℕ) (S : Ledger) → Before ps m S → (input : Input) (event : LinkEvent) (message : Option MessageParts) → begins_by S.peer.link event ≡ begins ps input → (b c : Bool) → opens (link ps).phase (link_after S.config ps m input event).phase ≡ b → begins ps input ≡ c → IsUnused ps (linked S.config ps m input event message)
unused-by ps m S b input event message begun false c shut is = inl (ap (λ d. cond d (waiting S.config ps m) []) shut)
unused-by ps m S b input event message begun true true opened is = inr (inl is)
unused-by ps m S b input event message begun true false opened is =
    let opens_now : opens_then S event ≡ true = opens-agrees ps m S b.stands input event begun ∙ opened in
    let before = before-opening S event b.roomy false (begun ∙ is) (opening S event opens_now) in
    let none : S.used ≡ 0 = before.used in
    inr (inr (sym b.stands.used ∙ none))

linked-goes : (ps : List Place) (m : ℕ) (S : Ledger) → Before ps m S → (input : Input) (event : LinkEvent) (message : Option MessageParts) → begins_by S.peer.link event ≡ begins ps input → Goes ps (linked S.config ps m input event message)
linked-goes ps m S b input event message begun =
    let p = linked S.config ps m input event message in
    let opened = opens (link ps).phase (link_after S.config ps m input event).phase in
    let counts = link-sends S.config ps m input event message (sent-if (waiting S.config ps m) opened (waiting-sent S.config ps m b.sound)) in
    let same : begins_by (peer S.config ps).link event ≡ begins ps input = ap (λ (q : PeerParts). begins_by q.link event) (sym b.stands.peer) ∙ begun in
    record {
      later = b.later;
      number =
          after-number (link_at (peer S.config ps) m event) m (link_act S.config ps m input event)
          ∙ number-noted (peer S.config ps).link m event
          ∙ ap (λ c. cond c ((link ps).number + 1) (link ps).number) same;
      resent = let h = counts.application in omega arith;
      order = order-if (waiting S.config ps m) opened (waiting-order S.config ps m b.sound);
      unused = unused-by ps m S b input event message begun opened (begins ps input) refl refl;
    }

pub linked-reaches : (ps : List Place) (m : ℕ) (S : Ledger) → Before ps m S → (input : Input) (event : LinkEvent) (message : Option MessageParts) → begins_by (peer S.config ps).link event ≡ begins ps input → is_drain input ≡ false → Reaches ps m S (linked S.config ps m input event message) (on_link S event message)
linked-reaches ps m S b input event message begun kept =
    let begun_too : begins_by S.peer.link event ≡ begins ps input = ap (λ (q : PeerParts). begins_by q.link event) b.stands.peer ∙ begun in
    record {
      follows = linked-follows ps m S b.stands b.sound.ascending (waiting-sent S.config ps m b.sound) input event message begun kept;
      sound = IsSound-on S.config ps (linked S.config ps m input event message) (linked-goes ps m S b input event message begun_too) refl (λ n ahead. refl) b.sound;
    }
