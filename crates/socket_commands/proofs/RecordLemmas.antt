-- What the command `record` writes.
use Rattle.std.proofs.Common.{◌≡◌, ℕ, ◌⊎◌, inl, inr, Bool, true, false, List, [], ◌∷◌, ◌++◌, map, flat_map, Option, Some, None, refl, sym, ap, ◌∙◌, subst}
use Rattle.std.proofs.lemmas.List.{append-nil, map-append}
use Rattle.std.proofs.lemmas.Grind.{flat_map-append}
use Rattle.wire_core.specs.Sink.{Appends, AppendsPrefix}
use Rattle.wire_core.proofs.SinkLaws.{Appends-append, Appends-none, AppendsPrefix-append, AppendsPrefix-front, AppendsPrefix-whole}
use Rattle.agent_settings.specs.declared.config.Config.{Config}
use Rattle.agent_events.specs.declared.events.Input.{Input}
use Rattle.wire_core.specs.Counts.{Rose}
use Rattle.agent_status.specs.declared.status.Status.{Status}
use Rattle.agent_status.specs.declared.status.Status.TheVariants.{Done, Usage, BadConfig, BadTranscript, ReadFault, WriteFault, OutOfMemory, TooLong, LinkFault, PeerRefused, NoThread, DatagramFault, LinkEnded}
use Rattle.agent_core.specs.Places.{Event}
use Rattle.printed_lines.specs.EventText.{event_line}
use Rattle.printed_lines.specs.SettingsText.{settings_text}
use Rattle.run_record.specs.declared.entry.Entry.{Entry}
use Rattle.record_text.specs.declared.writer.RecordText.{RecordText}
use Rattle.record_text.specs.declared.writer.TextBase.{TextBase}
use Rattle.record_text.specs.Lines.{StandsWritten, WroteLines, has_failed, text_of}
use Rattle.agent_server.specs.declared.server.World.{World}
use Rattle.agent_server.specs.Desks.{event}
use Rattle.agent_server.specs.Ran.{IsRecorded, status_recorded}
use Rattle.socket_commands.specs.Records.{IsAsItWas, IsRecordText, text_recorded}
use Rattle.socket_commands.specs.Serves.{IsRunEnd, IsSoundEnd}

-- ---- lines

lines : List Event → List ℕ
lines events = flat_map (λ (p : ℕ × Input). event_line p.0 p.1) (map (λ (e : Event). (e.moment, e.input)) events)

lines-append : (xs ys : List Event) → lines (xs ++ ys) ≡ lines xs ++ lines ys
unfolding lines
lines-append xs ys =
    ap (flat_map (λ (p : ℕ × Input). event_line p.0 p.1)) (map-append (λ (e : Event). (e.moment, e.input)) xs ys)
    ∙ flat_map-append (λ (p : ℕ × Input). event_line p.0 p.1) (map (λ (e : Event). (e.moment, e.input)) xs) (map (λ (e : Event). (e.moment, e.input)) ys)

text-lines : (entries : List Entry) → text_of entries ≡ lines (map event entries)
unfolding lines
text-lines [] = refl
text-lines (e ∷ entries) = ap (λ t. event_line e.moment e.input ++ t) (text-lines entries)

recorded-lines : (config : Config) (events : List Event) → text_recorded config events ≡ settings_text config ++ lines events
unfolding lines
recorded-lines config events = refl

-- ---- what stands on the sink

any-part : (broken : Bool) (before now : Option (List ℕ)) (text : List ℕ) → WroteLines broken before now text → AppendsPrefix before now text
any-part false before now text wrote = AppendsPrefix-whole wrote
any-part true before now text wrote = wrote

module _ {R K : Type 0} (written : K → Option (List ℕ)) where
  -- nothing was written yet of the entries
  pub stands-begun : (w : RecordText R K) → w.faults ≡ 0 → StandsWritten written w (record { written = written w.sink }) []
  stands-begun w none = subst (λ n. WroteLines (has_failed n) (written w.sink) (written w.sink) []) (sym none) (Appends-none (written w.sink))

  pub settings-alone : (config : Config) (before : Option (List ℕ)) (base : TextBase) (w : RecordText R K) → Appends before base.written (settings_text config)
      → StandsWritten written w base [] → AppendsPrefix before (written w.sink) (settings_text config)
  settings-alone config before base w head stood =
      subst (AppendsPrefix before (written w.sink)) (append-nil (settings_text config)) (AppendsPrefix-append head (any-part (has_failed w.faults) base.written (written w.sink) [] stood))

  pub is-text : (config : Config) (before : Option (List ℕ)) (base : TextBase) (w : RecordText R K) (closed : Option ℕ) → Appends before base.written (settings_text config)
      → (closed ≡ None → w.faults ≡ 0) → (events : List Event) → IsRecorded (StandsWritten written) base w closed events
      → IsRecordText config before (written w.sink) closed events
  is-text config before base w closed head sound events recorded =
      let entries = recorded.written in
      let now = written w.sink in
      let (rest, split) = recorded.begins in
      let all : lines events ≡ text_of entries ++ lines rest =
      ap lines split ∙ lines-append (map event entries) rest ∙ ap (λ t. t ++ lines rest) (sym (text-lines entries)) in
      let whole : text_recorded config events ≡ settings_text config ++ (text_of entries ++ lines rest) =
      recorded-lines config events ∙ ap (λ t. settings_text config ++ t) all in
      record {
        begins = subst (AppendsPrefix before now) (sym whole)
            (AppendsPrefix-append head (AppendsPrefix-front (lines rest) (any-part (has_failed w.faults) base.written now (text_of entries) recorded.stood)));
        whole = λ none.
            let same : text_recorded config events ≡ settings_text config ++ text_of entries =
            recorded-lines config events ∙ ap (λ t. settings_text config ++ t) (sym (text-lines entries ∙ ap lines (recorded.whole none))) in
            let wrote : Appends base.written now (text_of entries) = subst (λ n. WroteLines (has_failed n) base.written now (text_of entries)) (sound none) recorded.stood in
            subst (Appends before now) (sym same) (Appends-append head wrote);
      }

-- ---- why no run began

pub clock-alone : {C D L W : Type 0} (world world' : World C D L W) (clock : C) → world' ≡ record { clock = clock; auth = world.auth; acct = world.acct; dialer = world.dialer; crew = world.crew }
    → IsAsItWas world world'
clock-alone {C} {D} {L} {W} world world' clock is = subst (IsAsItWas world) (sym is) refl

pub why-not : (status : Status) (write : Type 0) (starts starts' : ℕ) → (status ≡ OutOfMemory) ⊎ ((status ≡ NoThread) × Rose starts starts')
    → ((status ≡ WriteFault) × write) ⊎ ((status ≡ OutOfMemory) ⊎ ((status ≡ NoThread) × Rose starts starts'))
why-not status write starts starts' why = inr why

pub why-failed : (status : Status) (write start : Type 0) → ((status ≡ WriteFault) × write) ⊎ (status ≡ OutOfMemory)
    → ((status ≡ WriteFault) × write) ⊎ ((status ≡ OutOfMemory) ⊎ ((status ≡ NoThread) × start))
why-failed status write start (inl wrote) = inl wrote
why-failed status write start (inr memory) = inr (inl memory)

-- ---- how a run ended

pub failed-known : (status : Status) (write : Type 0) → ((status ≡ WriteFault) × write) ⊎ (status ≡ OutOfMemory) → IsRunEnd status
failed-known status write (inl (is, rose)) = subst IsRunEnd (sym is) tt
failed-known status write (inr is) = subst IsRunEnd (sym is) tt

pub failed-sound : (status : Status) (write : Type 0) → ((status ≡ WriteFault) × write) ⊎ (status ≡ OutOfMemory) → (write → ⊥) → IsSoundEnd status
failed-sound status write (inl (is, rose)) writes = absurd (writes rose)
failed-sound status write (inr is) writes = subst IsSoundEnd (sym is) tt

pub unstarted-known : (status : Status) (starts starts' : ℕ) → (status ≡ OutOfMemory) ⊎ ((status ≡ NoThread) × Rose starts starts') → IsRunEnd status
unstarted-known status starts starts' (inl is) = subst IsRunEnd (sym is) tt
unstarted-known status starts starts' (inr (is, rose)) = subst IsRunEnd (sym is) tt

pub unstarted-wrote : (status : Status) (starts starts' : ℕ) → (status ≡ OutOfMemory) ⊎ ((status ≡ NoThread) × Rose starts starts') → status ≡ WriteFault → ⊥
unstarted-wrote status starts starts' (inl is) failed = cc (is, failed)
unstarted-wrote status starts starts' (inr (is, rose)) failed = cc (is, failed)

pub unstarted-sound : (status : Status) (starts starts' : ℕ) → (status ≡ OutOfMemory) ⊎ ((status ≡ NoThread) × Rose starts starts') → (Rose starts starts' → ⊥) → IsSoundEnd status
unstarted-sound status starts starts' (inl is) threads = subst IsSoundEnd (sym is) tt
unstarted-sound status starts starts' (inr (is, rose)) threads = absurd (threads rose)

recorded-open : (end : Status) → status_recorded end None ≡ end
recorded-open Done = refl
recorded-open Usage = refl
recorded-open (BadConfig fault) = refl
recorded-open (BadTranscript line reason) = refl
recorded-open ReadFault = refl
recorded-open WriteFault = refl
recorded-open OutOfMemory = refl
recorded-open TooLong = refl
recorded-open LinkFault = refl
recorded-open (PeerRefused code) = refl
recorded-open NoThread = refl
recorded-open DatagramFault = refl
recorded-open (LinkEnded cause) = refl

short-known : (end : Status) (closed : Option ℕ) → IsRunEnd end → IsRunEnd (status_recorded end closed)
short-known end None known = subst IsRunEnd (sym (recorded-open end)) known
short-known Done (Some moment) known = tt
short-known Usage (Some moment) known = absurd known
short-known (BadConfig fault) (Some moment) known = absurd known
short-known (BadTranscript line reason) (Some moment) known = absurd known
short-known ReadFault (Some moment) known = absurd known
short-known WriteFault (Some moment) known = tt
short-known OutOfMemory (Some moment) known = tt
short-known TooLong (Some moment) known = absurd known
short-known LinkFault (Some moment) known = tt
short-known (PeerRefused code) (Some moment) known = tt
short-known NoThread (Some moment) known = tt
short-known DatagramFault (Some moment) known = tt
short-known (LinkEnded cause) (Some moment) known = tt

pub recorded-known : (end status : Status) (closed : Option ℕ) → status ≡ status_recorded end closed → IsRunEnd end → IsRunEnd status
recorded-known end status closed given known = subst IsRunEnd (sym given) (short-known end closed known)

-- the status of a run whose record wasn't closed is the run's own
own-status : (end status : Status) (closed : Option ℕ) → status ≡ status_recorded end closed → closed ≡ None → status ≡ end
own-status end status closed given whole = given ∙ ap (status_recorded end) whole ∙ recorded-open end

pub recorded-wrote : (end status : Status) (closed : Option ℕ) → status ≡ status_recorded end closed → closed ≡ None → (end ≡ WriteFault → ⊥) → status ≡ WriteFault → ⊥
recorded-wrote end status closed given whole not failed = not (sym (own-status end status closed given whole) ∙ failed)

pub recorded-sound : (end status : Status) (closed : Option ℕ) → status ≡ status_recorded end closed → closed ≡ None → IsSoundEnd end → IsSoundEnd status
recorded-sound end status closed given whole sound = subst IsSoundEnd (sym (own-status end status closed given whole)) sound
