-- What the command `trace` prints (profile).
use Rattle.std.specs.Prelude.{ℕ, List, [], ◌∷◌, ◌++◌, codes, decimal, Option, Some, None}
use Rattle.std.specs.List.{flat_map}
use Rattle.agent_settings.specs.declared.config.Config.{Config}
use Rattle.agent_events.specs.declared.events.Input.{Input}
use Rattle.agent_core.specs.Places.{Event, Place, Taking}
use Rattle.agent_core.specs.History.{place}
use Rattle.answer_causes.specs.declared.cause.Cause.{Cause}
use Rattle.answer_causes.specs.declared.cause.Cause.TheVariants.{RottenAvps, Error, OtherSession, UnknownAvp, KeyRefused, BadValue, EapPayload, NoState, TooLong, Refused}
use Rattle.answer_causes.specs.CauseNames.{cause_name}
use Rattle.names.specs.declared.avps.Kind.{Kind}
use Rattle.names.specs.Names.{avp_named}
use Rattle.named_lines.specs.NamedText.{event_lines, output_lines, vendor_name}
use Rattle.text_commands.specs.Tasks.{Task}
use Rattle.text_commands.specs.Transcripts.{Rule, transcript_task}
use Rattle.transcript_runs.specs.declared.answers.HomeAnswer.{HomeAnswer}
use Rattle.transcript_runs.specs.Answers.{answered_at}
use Rattle.transcript_runs.specs.Runs.{Telling, rule_of}
use Rattle.trace_command.specs.declared.tracer.Tracer.{Tracer}

-- ---- why an answer doesn't give what it says

abbrev pub name_or_code : ℕ → Option (List ℕ × Kind) → List ℕ
name_or_code code (Some (name, kind)) = name
name_or_code code None = decimal code

-- what stands behind a cause's name
abbrev pub details : Cause → List ℕ
details (Error result) = 32 ∷ decimal result
details (UnknownAvp code None) = 32 ∷ decimal code
details (UnknownAvp code (Some vendor)) = 32 ∷ vendor_name vendor code
details (KeyRefused code) = 32 ∷ decimal code
details (BadValue code) = 32 ∷ name_or_code code (avp_named code)
details (Refused result) = 32 ∷ decimal result
details RottenAvps = []
details OtherSession = []
details EapPayload = []
details NoState = []
details TooLong = []

abbrev pub cause_words : Cause → List ℕ
cause_words c = cause_name c ++ details c

-- N because CAUSE
abbrev pub because : ℕ → Option Cause → List ℕ
because number None = []
because number (Some c) = decimal number ++ codes " because " ++ cause_words c ++ 10 ∷ []

abbrev pub cause_in : Option HomeAnswer → Option Cause
cause_in None = None
cause_in (Some answered) = answered.cause

abbrev pub cause_at : Input → Option Taking → Option Cause
cause_at x matched = cause_in (answered_at x matched)

-- ---- an event

-- what came in, what went out for it, and why an answer didn't give what it says
abbrev pub trace_text : ℕ → Config → List Place → Event → List ℕ
trace_text number config ps e =
    let p = place config ps e in
    event_lines number e.moment e.input ++ flat_map (output_lines number) p.outputs ++ because number (cause_at e.input p.matched)

-- nothing stands behind the last event
abbrev pub trace_telling : Telling
trace_telling = record { text = trace_text; end = λ stage. [] }

abbrev pub trace_rule : Rule
trace_rule = rule_of trace_telling

abbrev pub trace_task : Task
trace_task = transcript_task trace_rule

-- a tracer keeps nothing of what it told
abbrev pub HasTold : Tracer → Config → List Place → Type 0
HasTold tracer config ps = Unit {0}
