-- A replay of a record prints what the run had for each input.
use Rattle.std.proofs.Common.{◌≡◌, ℕ, ◌+◌, ◌-◌, ◌^◌, Bool, true, false, cond, ◌&&◌, List, [], ◌∷◌, ◌++◌, length, map, min, Some, None, refl, sym, ap, ap₂, ◌∙◌, append_assoc, append-nil, arith}
use Rattle.std.specs.Prelude.{◌==◌, count_by, sum_by}
use Rattle.std.specs.List.{flat_map}
use Rattle.std.proofs.lemmas.Bool.{and_parts, eqb-true}
use Rattle.std.proofs.lemmas.List.Sums.{sum_by-cons}
use Rattle.wire_core.specs.Counts.{one_more}
use Rattle.agent_settings.specs.declared.client.Client.{Client}
use Rattle.agent_settings.specs.declared.config.Config.{Config}
use Rattle.agent_settings.specs.Config.{with_client}
use Rattle.agent_events.specs.declared.events.Input.{Input}
use Rattle.agent_events.specs.declared.events.Output.{Output}
use Rattle.agent_core.specs.Places.{Event, Place, outbox}
use Rattle.agent_core.specs.History.{past, place, places}
use Rattle.agent_core.specs.LawsOfSends.{IdleInputsChangeNoOutput, busy_outputs, each_outputs, is_idle, leaves_all, without_idle}
use Rattle.printed_lines.specs.Text.{end_line, is_drop, is_reply, is_send, output_line}
use Rattle.transcript.specs.Records.{RecordsAreTranscripts, clients_say, lines_with, says_behind, settings_say}
use Rattle.transcript.specs.declared.line.Line.{Line}
use Rattle.transcript.specs.declared.line.Line.TheVariants as line
use Rattle.transcript.proofs.Reading.FollowLemmas.{after-append, given_by-append}
use Rattle.replay_command.specs.Recorded.{RecordsAreReplayed, numbered_lines, told_inputs}
use Rattle.transcript_runs.specs.Runs.{Running, Settings, Stage, event_at, first_stage, follow, places_in, stage_after}
use Rattle.replay_command.specs.Run.{end_text, outputs_of, printed_for, printed_for_lines, transcript_text}

-- ---- the settings

with-clients : (n : ℕ) (config : Config) (clients : List Client)
    → stage_after (Settings (Some config)) (clients_say n clients) ≡ Settings (Some (record config { clients = config.clients ++ clients }))
with-clients n config [] = ap (λ cs. Settings (Some (record config { clients = cs }))) (sym (append-nil config.clients))
with-clients n config (client ∷ clients) =
    with-clients (one_more n) (with_client config client) clients
    ∙ ap (λ cs. Settings (Some (record config { clients = cs }))) (append_assoc config.clients (client ∷ []) clients)

clients-print-nothing : (n : ℕ) (config : Config) (clients : List Client) → printed_for_lines (Settings (Some config)) (clients_say n clients) ≡ []
clients-print-nothing n config [] = refl
clients-print-nothing n config (client ∷ clients) = clients-print-nothing (one_more n) (with_client config client) clients

settings-lead : (config : Config) → stage_after first_stage (settings_say config) ≡ Settings (Some config)
settings-lead config = with-clients 1 (record config { clients = [] }) config.clients

settings-print-nothing : (config : Config) → printed_for_lines first_stage (settings_say config) ≡ []
settings-print-nothing config = clients-print-nothing 1 (record config { clients = [] }) config.clients

-- ---- the inputs

abbrev events_of : List (ℕ × Input) → List Event
events_of told = map (λ e. event_at e.0 e.1) told

running-prints : (n : ℕ) (config : Config) (ps : List Place) (told : List (ℕ × Input))
    → printed_for_lines (Running config ps) (says_behind n told) ≡ numbered_lines n (each_outputs config ps (events_of told))
running-prints n config ps [] = refl
running-prints n config ps (e ∷ told) =
    let p = place config ps (event_at e.0 e.1) in
    let text = flat_map (output_line (one_more n)) p.outputs in
    ap (λ r. r ++ printed_for_lines (Running config (p ∷ ps)) (says_behind (one_more n) told)) (append-nil text)
    ∙ ap (λ r. text ++ r) (running-prints (one_more n) config (p ∷ ps) told)

-- a run begins with the first of them
record Prints (config : Config) (n : ℕ) (told : List (ℕ × Input)) : Type 0 where
  pub text : printed_for_lines (Settings (Some config)) (says_behind n told) ≡ numbered_lines n (each_outputs config [] (events_of told))
  pub places : places_in (stage_after (Settings (Some config)) (says_behind n told)) ≡ places config [] (events_of told)

running-leads : (n : ℕ) (config : Config) (ps : List Place) (told : List (ℕ × Input))
    → stage_after (Running config ps) (says_behind n told) ≡ Running config (places config ps (events_of told))
running-leads n config ps [] = refl
running-leads n config ps (e ∷ told) = running-leads (one_more n) config (place config ps (event_at e.0 e.1) ∷ ps) told

inputs-print : (n : ℕ) (config : Config) (told : List (ℕ × Input)) → Prints config n told
inputs-print n config [] = record { text = refl; places = refl }
inputs-print n config (e ∷ told) =
    let p = place config [] (event_at e.0 e.1) in
    record {
      text = running-prints n config [] (e ∷ told);
      places = ap places_in (running-leads (one_more n) config (p ∷ []) told);
    }

-- ---- the counts

abbrev counted : (Output → Bool) → List (List Output) → ℕ
counted kind each = sum_by (count_by kind) each

count-places : (kind : Output → Bool) (config : Config) (ps : List Place) (es : List Event)
    → sum_by (λ (p : Place). count_by kind p.outputs) (places config ps es) ≡ sum_by (λ (p : Place). count_by kind p.outputs) ps + counted kind (each_outputs config ps es)
count-places kind config ps [] = omega arith
count-places kind config ps (e ∷ es) =
    let count = λ (p : Place). count_by kind p.outputs in
    let p = place config ps e in
    let rest = count-places kind config (p ∷ ps) es in
    let here : sum_by count (p ∷ ps) ≡ count_by kind p.outputs + sum_by count ps = sum_by-cons count p ps in
    let there : counted kind (p.outputs ∷ each_outputs config (p ∷ ps) es) ≡ count_by kind p.outputs + counted kind (each_outputs config (p ∷ ps) es) = sum_by-cons (count_by kind) p.outputs (each_outputs config (p ∷ ps) es) in
    omega arith

nothing : (kind : Output → Bool) (outputs : List Output) → (length outputs == 0) ≡ true → count_by kind outputs ≡ 0
nothing kind [] e = refl
nothing kind (o ∷ os) e = let none : length (o ∷ os) ≡ 0 = eqb-true _ _ e in absurd (omega arith)

-- nothing is counted of what is idle
count-busy : (kind : Output → Bool) (config : Config) (ps : List Place) (es : List Event)
    → counted kind (busy_outputs config ps es) ≡ counted kind (each_outputs config ps es)
count-busy kind config ps [] = refl
count-busy kind config ps (e ∷ es) =
    let p = place config ps e in
    let rest : counted kind (busy_outputs config (p ∷ ps) es) ≡ counted kind (each_outputs config (p ∷ ps) es) = count-busy kind config (p ∷ ps) es in
    let there : counted kind (p.outputs ∷ each_outputs config (p ∷ ps) es) ≡ count_by kind p.outputs + counted kind (each_outputs config (p ∷ ps) es) = sum_by-cons (count_by kind) p.outputs (each_outputs config (p ∷ ps) es) in
    elim (is_idle config ps e) as (λ b. is_idle config ps e ≡ b → counted kind (cond b (busy_outputs config (p ∷ ps) es) (p.outputs ∷ busy_outputs config (p ∷ ps) es)) ≡ counted kind (p.outputs ∷ each_outputs config (p ∷ ps) es)) [
      | true ↦ (λ idle.
          let both = and_parts (leaves_all e.input (outbox ps)) (length p.outputs == 0) idle in
          let none : count_by kind p.outputs ≡ 0 = nothing kind p.outputs both.1 in
          omega arith)
      | false ↦ (λ busy.
          let here : counted kind (p.outputs ∷ busy_outputs config (p ∷ ps) es) ≡ count_by kind p.outputs + counted kind (busy_outputs config (p ∷ ps) es) = sum_by-cons (count_by kind) p.outputs (busy_outputs config (p ∷ ps) es) in
          omega arith)
    ] refl

count-told : IdleInputsChangeNoOutput → (kind : Output → Bool) (config : Config) (history : List Event)
    → outputs_of kind (places config [] (without_idle config [] history)) ≡ outputs_of kind (past config history)
count-told law kind config history =
    let fewer : sum_by (λ (p : Place). count_by kind p.outputs) (places config [] (without_idle config [] history)) ≡ 0 + counted kind (each_outputs config [] (without_idle config [] history)) = count-places kind config [] (without_idle config [] history) in
    let all : sum_by (λ (p : Place). count_by kind p.outputs) (past config history) ≡ 0 + counted kind (each_outputs config [] history) = count-places kind config [] history in
    let same : counted kind (each_outputs config [] (without_idle config [] history)) ≡ counted kind (each_outputs config [] history) =
    ap (counted kind) (law config history) ∙ count-busy kind config [] history
    in
    ap (λ n. min n (2 ^ 64 - 1)) (fewer ∙ ap (λ n. 0 + n) same ∙ sym all)

-- ---- together

end-told : IdleInputsChangeNoOutput → (config : Config) (history : List Event) (stage : Stage)
    → places_in stage ≡ places config [] (without_idle config [] history) → end_text stage ≡ end_text (Running config (past config history))
end-told law config history stage is =
    ap (λ ps. end_line (outputs_of is_reply ps) (outputs_of is_send ps) (outputs_of is_drop ps)) is
    ∙ ap (λ n. end_line n (outputs_of is_send (places config [] (without_idle config [] history))) (outputs_of is_drop (places config [] (without_idle config [] history)))) (count-told law is_reply config history)
    ∙ ap (λ n. end_line (outputs_of is_reply (past config history)) n (outputs_of is_drop (places config [] (without_idle config [] history)))) (count-told law is_send config history)
    ∙ ap (end_line (outputs_of is_reply (past config history)) (outputs_of is_send (past config history))) (count-told law is_drop config history)

told-back : (es : List Event) → events_of (map (λ e. (e.moment, e.input)) es) ≡ es
told-back [] = refl
told-back (e ∷ es) = ap (λ r. e ∷ r) (told-back es)

record-prints : IdleInputsChangeNoOutput → (config : Config) (history : List Event)
    → transcript_text (settings_say config ++ says_behind (lines_with 1 config.clients) (told_inputs config history))
    ≡ numbered_lines (lines_with 1 config.clients) (busy_outputs config [] history) ++ end_text (Running config (past config history))
record-prints law config history =
    let n = lines_with 1 config.clients in
    let told = told_inputs config history in
    let prints = inputs-print n config told in
    let stage = stage_after (Settings (Some config)) (says_behind n told) in
    let text : printed_for_lines first_stage (settings_say config ++ says_behind n told) ≡ numbered_lines n (busy_outputs config [] history) =
    given_by-append follow printed_for first_stage (settings_say config) (says_behind n told)
    ∙ ap₂ (λ t s. t ++ printed_for_lines s (says_behind n told)) (settings-print-nothing config) (settings-lead config)
    ∙ prints.text
    ∙ ap (λ es. numbered_lines n (each_outputs config [] es)) (told-back (without_idle config [] history))
    ∙ ap (numbered_lines n) (law config history)
    in
    let leads : stage_after first_stage (settings_say config ++ says_behind n told) ≡ stage =
    after-append follow first_stage (settings_say config) (says_behind n told)
    ∙ ap (λ s. stage_after s (says_behind n told)) (settings-lead config)
    in
    let at : places_in stage ≡ places config [] (without_idle config [] history) =
    prints.places ∙ ap (places config []) (told-back (without_idle config [] history))
    in
    ap₂ (λ t s. t ++ end_text s) text leads
    ∙ ap (λ e. numbered_lines n (busy_outputs config [] history) ++ e) (end-told law config history stage at)

pub replayed : IdleInputsChangeNoOutput → RecordsAreTranscripts → RecordsAreReplayed
replayed idle read config boot history settings inputs = (
  settings_say config ++ says_behind (lines_with 1 config.clients) (told_inputs config history),
  (read config boot (told_inputs config history) settings inputs, record-prints idle config history),
)
