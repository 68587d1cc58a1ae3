-- How a session goes on by an input, and what is told.
use Rattle.std.proofs.Common.{◌≡◌, ℕ, ◌+◌, List, [], ◌∷◌, ◌++◌, drop, append_assoc, Option, Some, None, Result, Ok, Err, refl, sym, ◌∙◌, ap, subst}
use Rattle.std.specs.Prelude.{IfErr, OnOk, slice_get}
use Rattle.std.proofs.lemmas.List.{append-nil, drop_more}
use Rattle.std.proofs.lemmas.Option.{get_or_from_slice_get, slice_get_within}
use Rattle.wire_core.specs.Sink.{Appends, AppendsPrefix}
use Rattle.wire_core.proofs.SinkLaws.{Appends-append, Appends-none, AppendsPrefix-append, AppendsPrefix-front}
use Rattle.agent_settings.specs.declared.client.Client.{Client}
use Rattle.agent_settings.specs.declared.config.Config.{Config}
use Rattle.agent_events.specs.declared.events.Input.{Input}
use Rattle.agent_core.specs.declared.ledger.Ledger.{Ledger}
use Rattle.agent_core.specs.Places.{Event, Place}
use Rattle.agent_core.specs.History.{place}
use Rattle.agent_core.specs.Standing.{StandsFor}
use Rattle.agent_status.specs.declared.status.Status.{Status}
use Rattle.text_commands.specs.Transcripts.{FollowsLine, IsFailure}
use Rattle.transcript.specs.declared.line.Line.{Line}
use Rattle.transcript.specs.declared.line.Line.TheVariants as line
use Rattle.transcript.proofs.Reading.FollowLemmas.{after-append, given_by-more}
use Rattle.transcript_runs.specs.Runs.{Running, Settings, Stage, Telling, event_at, first_stage, follow, inputs_told, line_told, places_after, rule_of, stage_after}
use Rattle.transcript_runs.specs.Sessions.{Follows, HasFollowed, IsAt, RunsAt, RunsOn, begun}
use Rattle.transcript_runs.specs.declared.session.Session.{Session}

module _ {T : Type 0} (told : T → Config → List Place → Type 0) (telling : Telling) where
  -- ---- the core is made

  pub begin-at : (old new : Session T) (stage : Stage) (config : Config) (core : Ledger) → IsAt told old stage → old.config ≡ Some config
      → new.config ≡ None → new.core ≡ Some core → new.teller ≡ old.teller → core.config ≡ config → StandsFor core [] → IsAt told new (begun stage)
  begin-at old new (Settings None) config core at known none some teller same stands = absurd cc (sym at.0 ∙ known)
  begin-at old new (Settings (Some c)) config core (known_is, (no_core, none_yet)) known none some teller same stands =
      let c_is : c ≡ config = cc (known_is, known) in (
        none,
        rw some (record {
          history = [];
          past_is = refl;
          config_is = same ∙ sym c_is;
          stands = stands;
          has_told = subst (λ t. told t c []) (sym teller) (none_yet c);
        }),
      )
  begin-at old new (Running c ps) config core at known none some teller same stands = absurd cc (sym at.0 ∙ known)

  -- ---- the inputs of a line

  -- the inputs before these were run, and what is told of them was written
  pub record InRun (core : Ledger) (teller : T) (config : Config) (ps : List Place) (number moment : ℕ) (inputs rest : List Input) (before now : Option (List ℕ)) : Type 0 where
    pub so_far : List Place
    pub written : List ℕ
    pub runs : RunsAt told core teller config so_far
    pub wrote : Appends before now written
    pub places : places_after config so_far moment rest ≡ places_after config ps moment inputs
    pub texts : written ++ inputs_told telling.text number config so_far moment rest ≡ inputs_told telling.text number config ps moment inputs

  pub in-run-first : (core : Ledger) (teller : T) (config : Config) (ps : List Place) (number moment : ℕ) (inputs rest : List Input) (now : Option (List ℕ))
      → rest ≡ inputs → RunsAt told core teller config ps → InRun core teller config ps number moment inputs rest now now
  in-run-first core teller config ps number moment inputs rest now same runs = record {
    so_far = ps;
    written = [];
    runs = runs;
    wrote = Appends-none now;
    places = ap (places_after config ps moment) same;
    texts = ap (inputs_told telling.text number config ps moment) same;
  }

  cut-at : (inputs : List Input) (i : ℕ) (x : Input) → slice_get inputs i ≡ Some x → drop i inputs ≡ x ∷ drop (i + 1) inputs
  cut-at inputs i x at = drop_more inputs i x (slice_get_within inputs i x at) ∙ ap (λ y. y ∷ drop (i + 1) inputs) (get_or_from_slice_get inputs i x x at)

  pub in-run-next : {before now : Option (List ℕ)} (core new : Ledger) (teller after : T) (config : Config) (ps : List Place) (number moment : ℕ) (inputs : List Input) (i : ℕ) (x : Input) (then : Option (List ℕ))
      → slice_get inputs i ≡ Some x → (r : InRun core teller config ps number moment inputs (drop i inputs) before now)
      → RunsOn told telling new after config r.so_far number (event_at moment x) now then
      → InRun new after config ps number moment inputs (drop (i + 1) inputs) before then
  in-run-next core new teller after config ps number moment inputs i x then at r (runs, wrote) =
      let cut = cut-at inputs i x at in
      let line = telling.text number config r.so_far (event_at moment x) in
      let next = place config r.so_far (event_at moment x) ∷ r.so_far in
      record {
        so_far = next;
        written = r.written ++ line;
        runs = runs;
        wrote = Appends-append r.wrote wrote;
        places = sym (ap (places_after config r.so_far moment) cut) ∙ r.places;
        texts =
            append_assoc r.written line (inputs_told telling.text number config next moment (drop (i + 1) inputs))
            ∙ sym (ap (λ xs. r.written ++ inputs_told telling.text number config r.so_far moment xs) cut) ∙ r.texts;
      }

  pub in-run-part : {before now : Option (List ℕ)} (core : Ledger) (teller : T) (config : Config) (ps : List Place) (number moment : ℕ) (inputs : List Input) (i : ℕ) (x : Input) (then : Option (List ℕ))
      → slice_get inputs i ≡ Some x → (r : InRun core teller config ps number moment inputs (drop i inputs) before now)
      → AppendsPrefix now then (telling.text number config r.so_far (event_at moment x))
      → AppendsPrefix before then (inputs_told telling.text number config ps moment inputs)
  in-run-part {before} core teller config ps number moment inputs i x then at r part =
      let cut = cut-at inputs i x at in
      let behind = inputs_told telling.text number config (place config r.so_far (event_at moment x) ∷ r.so_far) moment (drop (i + 1) inputs) in
      subst (AppendsPrefix before then) (sym (ap (λ xs. r.written ++ inputs_told telling.text number config r.so_far moment xs) cut) ∙ r.texts)
      (AppendsPrefix-append r.wrote (AppendsPrefix-front behind part))

  pub in-run-all : {before now : Option (List ℕ)} (core : Ledger) (teller : T) (config : Config) (ps : List Place) (number moment : ℕ) (inputs rest : List Input)
      → rest ≡ [] → InRun core teller config ps number moment inputs rest before now
      → RunsAt told core teller config (places_after config ps moment inputs) × Appends before now (inputs_told telling.text number config ps moment inputs)
  in-run-all {before} {now} core teller config ps number moment inputs rest none r =
      let places : r.so_far ≡ places_after config ps moment inputs = sym (ap (places_after config r.so_far moment) none) ∙ r.places in
      let texts : r.written ≡ inputs_told telling.text number config ps moment inputs =
      sym (append-nil r.written) ∙ sym (ap (λ xs. r.written ++ inputs_told telling.text number config r.so_far moment xs) none) ∙ r.texts in (
        subst (RunsAt told core teller config) places r.runs,
        subst (Appends before now) texts r.wrote,
      )

  -- ---- a client line tells nothing

  client-text : (stage : Stage) (number : ℕ) (client : Client) (written : Option (List ℕ)) → Appends written written (line_told telling.text stage (line.Client number client))
  client-text (Settings known) number client written = Appends-none written
  client-text (Running config ps) number client written = Appends-none written

  pub client-follows : (r : Result Unit Status) (session : Session T) (stage : Stage) (number : ℕ) (client : Client) (written : Option (List ℕ))
      → OnOk r (IsAt told session (follow stage (line.Client number client))) → OnOk r (Follows told telling session stage (line.Client number client) written written)
  client-follows (Ok done) session stage number client written at = (at, client-text stage number client written)
  client-follows (Err status) session stage number client written at = tt

  -- ---- a control line begins the run, and tells nothing

  control-begins : (stage : Stage) (number moment address port : ℕ) (octets : List ℕ)
      → follow stage (line.Control number moment address port octets) ≡ begun stage
  control-begins (Settings None) number moment address port octets = refl
  control-begins (Settings (Some config)) number moment address port octets = refl
  control-begins (Running config ps) number moment address port octets = refl

  control-text : (stage : Stage) (number moment address port : ℕ) (octets : List ℕ) (written : Option (List ℕ))
      → Appends written written (line_told telling.text stage (line.Control number moment address port octets))
  control-text (Settings known) number moment address port octets written = Appends-none written
  control-text (Running config ps) number moment address port octets written = Appends-none written

  pub control-follows : (r : Result Unit Status) (session : Session T) (stage : Stage) (number moment address port : ℕ) (octets : List ℕ)
      (written : Option (List ℕ)) → OnOk r (IsAt told session (begun stage))
      → OnOk r (Follows told telling session stage (line.Control number moment address port octets) written written)
  control-follows (Ok done) session stage number moment address port octets written at =
      (subst (IsAt told session) (sym (control-begins stage number moment address port octets)) at, control-text stage number moment address port octets written)
  control-follows (Err status) session stage number moment address port octets written at = tt

  -- ---- a line, after those before it

  pub follows-line : (r : Result Unit Status) (session : Session T) (lines : List Line) (said : Line) (before now : Option (List ℕ))
      → OnOk r (Follows told telling session (stage_after first_stage lines) said before now)
      → AppendsPrefix before now (line_told telling.text (stage_after first_stage lines) said) → IfErr r IsFailure
      → FollowsLine (rule_of telling) (λ ls. HasFollowed told session ls) r lines said before now
  follows-line (Ok done) session lines said before now (at, wrote) part failure = (
    subst (IsAt told session) (sym (after-append follow first_stage lines (said ∷ []))) at,
    (line_told telling.text (stage_after first_stage lines) said, given_by-more follow (line_told telling.text) first_stage lines said, wrote),
  )
  follows-line (Err status) session lines said before now done part failure =
      (failure, (line_told telling.text (stage_after first_stage lines) said, given_by-more follow (line_told telling.text) first_stage lines said, part))

-- ---- what is told of an input, where what the teller tells stays

module _ {T : Type 0} (told : T → Config → List Place → Type 0) (old same : Telling) (is : same ≡ old) where
  pub runs-as : (core : Ledger) (teller : T) (config : Config) (ps : List Place) (number : ℕ) (e : Event) (before now : Option (List ℕ))
      → RunsOn told same core teller config ps number e before now → RunsOn told old core teller config ps number e before now
  runs-as core teller config ps number e before now (runs, wrote) = (runs, subst (λ (t : Telling). Appends before now (t.text number config ps e)) is wrote)

  pub part-as : (config : Config) (ps : List Place) (number : ℕ) (e : Event) (before now : Option (List ℕ))
      → AppendsPrefix before now (same.text number config ps e) → AppendsPrefix before now (old.text number config ps e)
  part-as config ps number e before now part = subst (λ (t : Telling). AppendsPrefix before now (t.text number config ps e)) is part
