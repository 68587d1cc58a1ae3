-- What a counter tells and counts of an input.
use Rattle.std.proofs.Common.{◌≡◌, ℕ, max, Bool, true, false, List, [], ◌∷◌, ◌++◌, Option, Some, None, Result, Ok, Err, refl, sym, ◌∙◌, ap, subst}
use Rattle.std.proofs.lemmas.Option.{none-some}
use Rattle.std.specs.Prelude.{IfErr, OnOk, unwrap_or, if◌then◌else◌}
use Rattle.std.specs.List.{flat_map}
use Rattle.std.specs.Option.{option_or}
use Rattle.wire_core.specs.Sink.{Appends, AppendsPrefix}
use Rattle.wire_core.proofs.SinkLaws.{AppendsPrefix-whole}
use Rattle.agent_settings.specs.declared.config.Config.{Config}
use Rattle.agent_events.specs.declared.events.Input.{Input}
use Rattle.agent_events.specs.declared.events.Output.{Output}
use Rattle.agent_status.specs.declared.status.Status.{Status}
use Rattle.agent_status.specs.declared.status.Status.TheVariants.{WriteFault}
use Rattle.agent_core.specs.declared.ledger.Ledger.{Ledger}
use Rattle.agent_core.specs.Places.{Event, Place, now}
use Rattle.agent_core.specs.History.{outputs_after, past, place}
use Rattle.agent_core.specs.Standing.{StandsFor}
use Rattle.agent_core.specs.Laws.{PastGoesOn}
use Rattle.agent_core.proofs.LawLemmas.LawOfLinks.{input-at}
use Rattle.agent_core.proofs.LawLemmas.LeftOut.{moment-of}
use Rattle.transcript_runs.specs.declared.answers.HomeAnswer.{HomeAnswer}
use Rattle.transcript_runs.specs.Answers.{answered_at}
use Rattle.transcript_runs.specs.Runs.{Running, Settings, Stage}
use Rattle.transcript_runs.specs.Sessions.{IsTold, RunsAt, RunsOn}
use Rattle.transcript_runs.proofs.InputLemmas.{outputs-are, runs-more}
use Rattle.transcript_runs.proofs.WhateverSettings.{whatever-settings}
use Rattle.count_command.specs.declared.block.Gauges.{Gauges}
use Rattle.count_command.specs.declared.counter.Counter.{Counter}
use Rattle.count_command.specs.declared.tally.Count.{Count}
use Rattle.count_command.specs.Block.{block}
use Rattle.count_command.specs.Count.{HasCounted, count_end, count_telling, count_text, due_text, first_moment, gauges_at, no_gauges, passes, place_hits}
use Rattle.count_command.specs.Hits.{answer_hits, input_hits, output_hits}
use Rattle.count_command.specs.Tally.{with_hits}

-- ---- what is told

-- the block, where it is due, and nothing else
pub due-is : (counter : Counter) (config : Config) (ps : List Place) (next : ℕ) (gauges : Gauges) (due : Bool)
    → due ≡ passes counter.millis counter.first counter.moment next → due ≡ true → gauges ≡ gauges_at config ps
    → block counter.counts gauges ≡ due_text counter config ps next
due-is counter config ps next gauges due is holds same =
    ap (block counter.counts) same ∙ ap (λ b. if b then block counter.counts (gauges_at config ps) else []) (sym holds ∙ is)

pub not-due-is : (counter : Counter) (config : Config) (ps : List Place) (next : ℕ) (due : Bool)
    → due ≡ passes counter.millis counter.first counter.moment next → due ≡ false → [] ≡ due_text counter config ps next
not-due-is counter config ps next due is fails = ap (λ b. if b then block counter.counts (gauges_at config ps) else []) (sym fails ∙ is)

-- a counter and a core have the same moment
core-moment : (core : Ledger) (counter : Counter) (config : Config) (ps : List Place) → RunsAt HasCounted core counter config ps → counter.moment ≡ core.moment
core-moment core counter config ps r =
    r.has_told.moment ∙ ap now r.past_is ∙ ap (λ (c : Config). now (past c r.history)) (sym r.config_is) ∙ sym r.stands.moment

-- ---- the end

ends-running : (core : Ledger) (counter : Counter) (gauges : Gauges) (stage : Stage)
    → ((H : List Event) → StandsFor core H → counter.moment ≡ core.moment → gauges ≡ gauges_at core.config (past core.config H))
    → IsTold HasCounted (Some core) counter stage → block counter.counts gauges ≡ count_end stage
ends-running core counter gauges (Settings known) stand told = absurd (none-some _ (sym told.0))
ends-running core counter gauges (Running config ps) stand r =
    let stands-at : gauges ≡ gauges_at config ps =
    stand r.history r.stands (core-moment core counter config ps r)
    ∙ ap (λ (c : Config). gauges_at c (past c r.history)) r.config_is ∙ ap (λ (qs : List Place). gauges_at config qs) (sym r.past_is) in
    ap (block counter.counts) stands-at ∙ ap (λ (cs : List Count). block cs (gauges_at config ps)) r.has_told.counts

ends-settled : (counter : Counter) (gauges : Gauges) (stage : Stage) → gauges ≡ no_gauges
    → IsTold HasCounted None counter stage → block counter.counts gauges ≡ count_end stage
ends-settled counter gauges (Settings known) none told =
    ap (block counter.counts) none ∙ ap (λ (cs : List Count). block cs no_gauges) (whatever-settings {A = counter.counts ≡ []} (λ config. (told.1 config).counts))
ends-settled counter gauges (Running config ps) none told = absurd told

-- what is known of the gauges, with a core and without one
abbrev pub AreGauges : Option Ledger → Counter → Gauges → Type 0
AreGauges None counter gauges = gauges ≡ no_gauges
AreGauges (Some core) counter gauges =
    (H : List Event) → StandsFor core H → counter.moment ≡ core.moment → gauges ≡ gauges_at core.config (past core.config H)

pub end-is : (core : Option Ledger) (counter : Counter) (gauges : Gauges) (stage : Stage) → AreGauges core counter gauges
    → IsTold HasCounted core counter stage → block counter.counts gauges ≡ count_end stage
end-is None counter gauges stage none told = ends-settled counter gauges stage none told
end-is (Some core) counter gauges stage stand told = ends-running core counter gauges stage stand told

-- ---- an input

is-first : (first : Option ℕ) (m : ℕ) → Some (unwrap_or first m) ≡ option_or first (Some m)
is-first None m = refl
is-first (Some n) m = refl

module _ (core : Ledger) (counter : Counter) (number : ℕ) (e : Event) (kept : Config) (outputs : List Output) (answered : Option HomeAnswer) (next : ℕ) (text : List ℕ)
    (next_is : next ≡ max counter.moment e.moment)
    (kept_is : kept ≡ core.config)
    (due : (H : List Event) → StandsFor core H → counter.moment ≡ core.moment → text ≡ due_text counter core.config (past core.config H) next)
    (answers : (H : List Event) → StandsFor core H → outputs ≡ outputs_after core.config H e)
    (matches : (H : List Event) → StandsFor core H → answered ≡ answered_at e.input (place core.config (past core.config H) e).matched) where
  text-is : (config : Config) (ps : List Place) → RunsAt HasCounted core counter config ps → text ≡ count_text counter.millis number config ps e
  text-is config ps r =
      due r.history r.stands (core-moment core counter config ps r)
      ∙ ap (λ (c : Config). due_text counter c (past c r.history) next) r.config_is
      ∙ ap (λ (qs : List Place). due_text counter config qs next) (sym r.past_is)
      ∙ ap (λ n. due_text counter config ps n) next_is
      ∙ ap (λ k. if passes counter.millis counter.first k (max k e.moment) then block counter.counts (gauges_at config ps) else []) r.has_told.moment
      ∙ ap (λ f. if passes counter.millis f (now ps) (max (now ps) e.moment) then block counter.counts (gauges_at config ps) else []) r.has_told.first
      ∙ ap (λ (cs : List Count). if passes counter.millis (first_moment ps) (now ps) (max (now ps) e.moment) then block cs (gauges_at config ps) else []) r.has_told.counts

  matched-is : (config : Config) (ps : List Place) → RunsAt HasCounted core counter config ps → answered ≡ answered_at e.input (place config ps e).matched
  matched-is config ps r =
      matches r.history r.stands
      ∙ ap (λ (c : Config). answered_at e.input (place c (past c r.history) e).matched) r.config_is
      ∙ ap (λ (qs : List Place). answered_at e.input (place config qs e).matched) (sym r.past_is)

  next-is : (config : Config) (ps : List Place) → RunsAt HasCounted core counter config ps → next ≡ (place config ps e).moment
  next-is config ps r =
      next_is ∙ ap (λ k. max k e.moment) r.has_told.moment ∙ sym (moment-of config ps (max (now ps) e.moment) e.input)

  hits-are : (config : Config) (ps : List Place) → RunsAt HasCounted core counter config ps
      → input_hits kept e.input ++ flat_map (output_hits kept e.input) outputs ++ answer_hits next answered ≡ place_hits config (place config ps e)
  hits-are config ps r =
      let p = place config ps e in
      ap (λ (c : Config). input_hits c e.input ++ flat_map (output_hits c e.input) outputs ++ answer_hits next answered) (kept_is ∙ r.config_is)
      ∙ ap (λ (os : List Output). input_hits config e.input ++ flat_map (output_hits config e.input) os ++ answer_hits next answered) (outputs-are HasCounted core counter config ps e outputs answers r)
      ∙ ap (λ n. input_hits config e.input ++ flat_map (output_hits config e.input) p.outputs ++ answer_hits n answered) (next-is config ps r)
      ∙ ap (λ (a : Option HomeAnswer). input_hits config e.input ++ flat_map (output_hits config e.input) p.outputs ++ answer_hits p.moment a) (matched-is config ps r)
      ∙ ap (λ (x : Input). input_hits config x ++ flat_map (output_hits config x) p.outputs ++ answer_hits p.moment (answered_at x p.matched)) (sym (input-at config ps (max (now ps) e.moment) e.input))

  module _ (after : Counter)
      (moment_is : after.moment ≡ next)
      (first_is : after.first ≡ Some (unwrap_or counter.first next))
      (counts_are : after.counts ≡ with_hits counter.counts (input_hits kept e.input ++ flat_map (output_hits kept e.input) outputs ++ answer_hits next answered)) where
    has-counted : (config : Config) (ps : List Place) → RunsAt HasCounted core counter config ps → HasCounted after config (place config ps e ∷ ps)
    has-counted config ps r = record {
      moment = moment_is ∙ next-is config ps r;
      first = first_is ∙ is-first counter.first next ∙ ap (λ f. option_or f (Some next)) r.has_told.first ∙ ap (λ n. option_or (first_moment ps) (Some n)) (next-is config ps r);
      counts = counts_are ∙ ap (with_hits counter.counts) (hits-are config ps r) ∙ ap (λ (cs : List Count). with_hits cs (place_hits config (place config ps e))) r.has_told.counts;
    }

    pub counts-on : PastGoesOn → (new : Ledger) (r : Result Unit Status) (before after_it : Option (List ℕ))
        → ((H : List Event) → StandsFor core H → StandsFor new (H ++ e ∷ [])) → new.config ≡ core.config → OnOk r (Appends before after_it text)
        → (config : Config) (ps : List Place) → RunsAt HasCounted core counter config ps
        → OnOk r (RunsOn HasCounted (count_telling counter.millis) new after config ps number e before after_it)
    counts-on goes new (Ok done) before after_it stands same wrote config ps runs =
        (runs-more HasCounted goes core new counter after config ps e stands same runs (has-counted config ps runs), subst (Appends before after_it) (text-is config ps runs) wrote)
    counts-on goes new (Err status) before after_it stands same wrote config ps runs = tt

  -- it was written, or a beginning of it
  pub counts-part : (r : Result Unit Status) (before after_it : Option (List ℕ)) → OnOk r (Appends before after_it text)
      → IfErr r (λ status. (status ≡ WriteFault) × AppendsPrefix before after_it text)
      → (config : Config) (ps : List Place) → RunsAt HasCounted core counter config ps
      → AppendsPrefix before after_it (count_text counter.millis number config ps e)
  counts-part (Ok done) before after_it wrote failed config ps runs = subst (AppendsPrefix before after_it) (text-is config ps runs) (AppendsPrefix-whole wrote)
  counts-part (Err status) before after_it wrote failed config ps runs = subst (AppendsPrefix before after_it) (text-is config ps runs) failed.1
