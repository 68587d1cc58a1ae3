-- What a trace prints of an input.
use Rattle.std.proofs.Common.{◌≡◌, ℕ, List, [], ◌∷◌, ◌++◌, append_assoc, Option, Result, Ok, Err, sym, ◌∙◌, ap, subst}
use Rattle.std.specs.Prelude.{IfErr, OnOk}
use Rattle.std.specs.List.{flat_map}
use Rattle.wire_core.specs.Sink.{Appends, AppendsPrefix}
use Rattle.wire_core.proofs.SinkLaws.{AppendsPrefix-whole}
use Rattle.agent_settings.specs.declared.config.Config.{Config}
use Rattle.agent_events.specs.declared.events.Output.{Output}
use Rattle.agent_status.specs.declared.status.Status.{Status}
use Rattle.agent_status.specs.declared.status.Status.TheVariants.{WriteFault}
use Rattle.agent_core.specs.declared.ledger.Ledger.{Ledger}
use Rattle.agent_core.specs.Places.{Event, Place}
use Rattle.agent_core.specs.History.{outputs_after, past, place}
use Rattle.agent_core.specs.Standing.{StandsFor}
use Rattle.agent_core.specs.Laws.{PastGoesOn}
use Rattle.answer_causes.specs.declared.cause.Cause.{Cause}
use Rattle.named_lines.specs.NamedText.{event_lines, output_lines}
use Rattle.transcript_runs.specs.Sessions.{RunsAt, RunsOn}
use Rattle.transcript_runs.proofs.InputLemmas.{outputs-are, runs-more}
use Rattle.trace_command.specs.declared.tracer.Tracer.{Tracer}
use Rattle.trace_command.specs.Trace.{HasTold, because, cause_at, trace_telling, trace_text}

-- two texts behind another
pub appended : {E : Type 0} (r : Result Unit E) (old mid new first second : List ℕ) → mid ≡ old ++ first → OnOk r (new ≡ mid ++ second) → OnOk r (new ≡ old ++ (first ++ second))
appended (Ok done) old mid new first second here more = more ∙ ap (λ xs. xs ++ second) here ∙ append_assoc old first second
appended (Err e) old mid new first second here more = tt

-- the cause is that of the rule's place
cause-is : (core : Ledger) (tracer : Tracer) (config : Config) (ps : List Place) (e : Event) (cause : Option Cause)
    → ((H : List Event) → StandsFor core H → cause ≡ cause_at e.input (place core.config (past core.config H) e).matched) → RunsAt HasTold core tracer config ps
    → cause ≡ cause_at e.input (place config ps e).matched
cause-is core tracer config ps e cause answers r =
    answers r.history r.stands
    ∙ ap (λ (c : Config). cause_at e.input (place c (past c r.history) e).matched) r.config_is
    ∙ ap (λ (qs : List Place). cause_at e.input (place config qs e).matched) (sym r.past_is)

module _ (core : Ledger) (tracer : Tracer) (number : ℕ) (e : Event) (outputs : List Output) (cause : Option Cause) (text : List ℕ)
    (answers : (H : List Event) → StandsFor core H → outputs ≡ outputs_after core.config H e)
    (causes : (H : List Event) → StandsFor core H → cause ≡ cause_at e.input (place core.config (past core.config H) e).matched)
    (is : text ≡ event_lines number e.moment e.input ++ flat_map (output_lines number) outputs ++ because number cause) where
  text-is : (config : Config) (ps : List Place) → RunsAt HasTold core tracer config ps → text ≡ trace_text number config ps e
  text-is config ps r =
      is
      ∙ ap (λ os. event_lines number e.moment e.input ++ flat_map (output_lines number) os ++ because number cause) (outputs-are HasTold core tracer config ps e outputs answers r)
      ∙ ap (λ c. event_lines number e.moment e.input ++ flat_map (output_lines number) (place config ps e).outputs ++ because number c) (cause-is core tracer config ps e cause causes r)

  -- it was written, or a beginning of it
  pub traces-part : (r : Result Unit Status) (before now : Option (List ℕ)) → OnOk r (Appends before now text)
      → IfErr r (λ status. (status ≡ WriteFault) × AppendsPrefix before now text)
      → (config : Config) (ps : List Place) → RunsAt HasTold core tracer config ps → AppendsPrefix before now (trace_text number config ps e)
  traces-part (Ok done) before now wrote failed config ps runs = subst (AppendsPrefix before now) (text-is config ps runs) (AppendsPrefix-whole wrote)
  traces-part (Err status) before now wrote failed config ps runs = subst (AppendsPrefix before now) (text-is config ps runs) failed.1

  pub traces-on : PastGoesOn → (new : Ledger) (after : Tracer) (r : Result Unit Status) (before now : Option (List ℕ))
      → ((H : List Event) → StandsFor core H → StandsFor new (H ++ e ∷ [])) → new.config ≡ core.config → OnOk r (Appends before now text)
      → (config : Config) (ps : List Place) → RunsAt HasTold core tracer config ps → OnOk r (RunsOn HasTold trace_telling new after config ps number e before now)
  traces-on goes new after (Ok done) before now stands same wrote config ps runs =
      (runs-more HasTold goes core new tracer after config ps e stands same runs tt, subst (Appends before now) (text-is config ps runs) wrote)
  traces-on goes new after (Err status) before now stands same wrote config ps runs = tt
