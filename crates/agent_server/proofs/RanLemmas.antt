-- What a run of the server was, with less said of its record.
use Rattle.std.proofs.Common.{◌≡◌, ℕ, List, [], ◌++◌, map, Option, Some, None, IfSome, IfNone, sym, ap, ◌∙◌}
use Rattle.std.proofs.lemmas.List.{append-nil, map-append}
use Rattle.agent_settings.specs.declared.config.Config.{Config}
use Rattle.agent_status.specs.declared.status.Status.{Status}
use Rattle.wire_devices.specs.Dialling.{Dials}
use Rattle.wire_devices.specs.Links.{Inlet, Outlet}
use Rattle.wire_devices.specs.Sockets.{Socket}
use Rattle.agent_core.specs.Places.{Event}
use Rattle.agent_server.specs.declared.server.World.{World}
use Rattle.agent_server.specs.declared.trail.Trail.{Trail}
use Rattle.run_record.specs.declared.entry.Entry.{Entry}
use Rattle.run_record.specs.Recordings.{IsWritten, Sending}
use Rattle.turnstile.specs.Turns.{plain}
use Rattle.agent_server.specs.Desks.{HasRead, HasSent, event}
use Rattle.agent_server.specs.Runs.{entries_recorded}
use Rattle.agent_server.specs.Server.{Began}
use Rattle.agent_server.specs.Ran.{IsRecorded, RanFrom, Run}

some-map : {A : Type 0} (o : Option A) (P Q : A → Type 0) → ((x : A) → P x → Q x) → IfSome o P → IfSome o Q
some-map None P Q more has = tt
some-map (Some x) P Q more has = more x has

none-map : {A : Type 0} (o : Option A) (P Q : Type 0) → (P → Q) → IfNone o P → IfNone o Q
none-map None P Q more has = more has
none-map (Some x) P Q more has = tt

module _ {C D L W I O : Type 0} (readings : C → Option (List ℕ)) (told : D → Socket) (hears : I → Inlet) (speaks : O → Outlet)
    (dials : L → Dials) (made : L → ℕ) (faults started : W → ℕ) where
  pub ran-with : (begun : List ℕ → Type 0) (run : Run C D L W I O) (has has' : List Event → Type 0) → ((events : List Event) → has events → has' events)
      → RanFrom readings told hears speaks dials made faults started begun run has → RanFrom readings told hears speaks dials made faults started begun run has'
  ran-with begun run has has' more ran = record {
    workers = ran.workers;
    links = ran.links;
    ports = ran.ports;
    order = ran.order;
    began = λ before read.
        none-map run.trail _ _ (λ began. record { turns = began.turns; run = began.run; clock_read = began.clock_read; of_record = more _ began.of_record }) (ran.began before read);
    served = ran.served;
    recorded = λ before read. some-map run.trail _ _ (λ t recorded. more _ recorded) (ran.recorded before read);
    early = ran.early;
  }

-- ---- a run that is recorded

-- what a clock tells before the first turn
pub readings-before : (told : Option (List ℕ)) → (before : List ℕ) × HasRead told before []
readings-before None = ([], λ all is. cc)
readings-before (Some xs) = (xs, λ all is. let same : xs ≡ all = cc in ([], sym same ∙ sym (append-nil xs), tt))

module _ {C D L W I O : Type 0} (readings : C → Option (List ℕ)) (told : D → Socket) (hears : I → Inlet) (speaks : O → Outlet)
    (dials : L → Dials) (made : L → ℕ) (faults started : W → ℕ) where
  events-of : (config : Config) (until : ℕ) (before : List ℕ) (now : Option (List ℕ)) (trail : Option (Trail C D I O)) (has : List Event → Type 0)
      → IfNone trail (Began config until before now has) → IfSome trail (λ t. has (entries_recorded config (plain t.turns))) → (events : List Event) × has events
  events-of config until before now None has began recorded = (_, began.of_record)
  events-of config until before now (Some t) has began recorded = (_, recorded)

  -- a run has entries, whatever they are
  pub some-events : (begun : List ℕ → Type 0) (before : List ℕ) → begun before → (run : Run C D L W I O) (has : List Event → Type 0)
      → RanFrom readings told hears speaks dials made faults started begun run has → (events : List Event) × has events
  some-events begun before read run has ran =
      events-of run.config run.until before (readings run.world'.clock) run.trail has (ran.began before read) (ran.recorded before read)

-- a sender is there at the end, and of the same queue
pub sender-there : (start : Sending) (now : Option Sending) (events : List Event) → HasSent (Some start) now events → (s : Sending) × (now ≡ Some s) × (s.queue ≡ start.queue)
sender-there start now events (s, is, queue, all) = (s, is, queue)

pub same-queue : (start s : Sending) (now : Option Sending) (events : List Event) → now ≡ Some s → HasSent (Some start) now events → s.queue ≡ start.queue
same-queue start s now events there (x, is, queue, all) = let same : s ≡ x = cc in ap (λ (y : Sending). y.queue) same ∙ queue

-- what was written, of what the sender was given
pub recorded-by : {E Base : Type 0} (stands : E → Base → List Entry → Type 0) (start s : Sending) (now : Option Sending) (base : Base) (writer : E) (closed : Option ℕ)
    → start.told ≡ [] → now ≡ Some s → IsWritten stands base writer closed s.told
    → (events : List Event) → HasSent (Some start) now events → IsRecorded stands base writer closed events
recorded-by stands start s now base writer closed fresh there wrote events (x, is, queue, all) =
    let same : x ≡ s = cc in
    let sent : map event s.told ≡ events = ap (λ (y : Sending). map event y.told) (sym same) ∙ all ∙ ap (λ es. map event es ++ events) fresh in
    let (rest, split) = wrote.begins in
    record {
      written = wrote.written;
      stood = wrote.stood;
      begins = (map event rest, sym sent ∙ ap (map event) split ∙ map-append event wrote.written rest);
      whole = λ none. ap (map event) (wrote.whole none) ∙ sent;
    }
