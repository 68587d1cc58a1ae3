-- A `link` line of a replay in one piece, and in two of the same moment.
use Rattle.std.proofs.Common.{◌≡◌, ℕ, List, [], ◌∷◌, ◌++◌, Some, None, refl, sym, ap, ◌∙◌, append_assoc}
use Rattle.agent_settings.specs.declared.client.Client.{Client}
use Rattle.agent_settings.specs.declared.config.Config.{Config}
use Rattle.agent_events.specs.declared.events.Input.{Input}
use Rattle.agent_core.specs.Places.{Place}
use Rattle.agent_core.specs.History.{place}
use Rattle.transcript.specs.Reading.{beginning}
use Rattle.transcript.specs.declared.line.Line.{Line}
use Rattle.transcript.specs.declared.line.Line.TheVariants as line
use Rattle.transcript.proofs.Streams.CutLemmas as cuts
use Rattle.transcript.proofs.Streams.CutLemmas.{IsNumberless, cut-from}
use Rattle.replay_command.specs.Cuts.{LinkLinesCanBeCut, inputs_outputs, line_outputs}
use Rattle.transcript_runs.specs.Runs.{Running, Settings, Stage, event_at, first_stage, follow, places_after}

-- ---- inputs that are followed in two pieces

places-append : (config : Config) (ps : List Place) (moment : ℕ) (xs ys : List Input)
    → places_after config ps moment (xs ++ ys) ≡ places_after config (places_after config ps moment xs) moment ys
places-append config ps moment [] ys = refl
places-append config ps moment (x ∷ xs) ys = places-append config (place config ps (event_at moment x) ∷ ps) moment xs ys

outputs-append : (config : Config) (ps : List Place) (moment : ℕ) (xs ys : List Input)
    → inputs_outputs config ps moment (xs ++ ys)
    ≡ inputs_outputs config ps moment xs ++ inputs_outputs config (places_after config ps moment xs) moment ys
outputs-append config ps moment [] ys = refl
outputs-append config ps moment (x ∷ xs) ys =
    let p = place config ps (event_at moment x) in
    let then = places_after config (p ∷ ps) moment xs in
    ap (λ outputs. p.outputs ++ outputs) (outputs-append config (p ∷ ps) moment xs ys)
    ∙ sym (append_assoc p.outputs (inputs_outputs config (p ∷ ps) moment xs) (inputs_outputs config then moment ys))

abbrev InTwo : Stage → Line → Line → Line → Type 0
InTwo stage whole one two = cuts.InTwo follow line_outputs stage whole one two

event-in-two : (stage : Stage) (n k l moment : ℕ) (xs ys : List Input)
    → InTwo stage (line.Event n moment (xs ++ ys)) (line.Event k moment xs) (line.Event l moment ys)
event-in-two (Settings None) n k l moment xs ys = record { follows = refl; outputs = refl }
event-in-two (Settings (Some config)) n k l moment xs ys = record {
  follows = ap (λ ps. Running config ps) (sym (places-append config [] moment xs ys));
  outputs = sym (outputs-append config [] moment xs ys);
}
event-in-two (Running config ps) n k l moment xs ys = record {
  follows = ap (λ qs. Running config qs) (sym (places-append config ps moment xs ys));
  outputs = sym (outputs-append config ps moment xs ys);
}

-- ---- the numbers of lines

abbrev SaysLike : Line → Line → Type 0
SaysLike l other = cuts.SaysLike follow line_outputs l other

agent-like : (n k : ℕ) (config : Config) → SaysLike (line.Agent n config) (line.Agent k config)
agent-like n k config = record { follows = follows; outputs = outputs }
  where
    follows : (stage : Stage) → follow stage (line.Agent k config) ≡ follow stage (line.Agent n config)
    follows (Settings told) = refl
    follows (Running other ps) = refl

    outputs : (stage : Stage) → line_outputs stage (line.Agent k config) ≡ line_outputs stage (line.Agent n config)
    outputs (Settings told) = refl
    outputs (Running other ps) = refl

client-like : (n k : ℕ) (client : Client) → SaysLike (line.Client n client) (line.Client k client)
client-like n k client = record { follows = follows; outputs = outputs }
  where
    follows : (stage : Stage) → follow stage (line.Client k client) ≡ follow stage (line.Client n client)
    follows (Settings told) = refl
    follows (Running other ps) = refl

    outputs : (stage : Stage) → line_outputs stage (line.Client k client) ≡ line_outputs stage (line.Client n client)
    outputs (Settings told) = refl
    outputs (Running other ps) = refl

event-like : (n k moment : ℕ) (inputs : List Input) → SaysLike (line.Event n moment inputs) (line.Event k moment inputs)
event-like n k moment inputs = record { follows = follows; outputs = outputs }
  where
    follows : (stage : Stage) → follow stage (line.Event k moment inputs) ≡ follow stage (line.Event n moment inputs)
    follows (Settings None) = refl
    follows (Settings (Some config)) = refl
    follows (Running config ps) = refl

    outputs : (stage : Stage) → line_outputs stage (line.Event k moment inputs) ≡ line_outputs stage (line.Event n moment inputs)
    outputs (Settings None) = refl
    outputs (Settings (Some config)) = refl
    outputs (Running config ps) = refl

control-like : (n k moment address port : ℕ) (octets : List ℕ)
    → SaysLike (line.Control n moment address port octets) (line.Control k moment address port octets)
control-like n k moment address port octets = record { follows = follows; outputs = outputs }
  where
    follows : (stage : Stage)
        → follow stage (line.Control k moment address port octets) ≡ follow stage (line.Control n moment address port octets)
    follows (Settings None) = refl
    follows (Settings (Some config)) = refl
    follows (Running config ps) = refl

    outputs : (stage : Stage)
        → line_outputs stage (line.Control k moment address port octets) ≡ line_outputs stage (line.Control n moment address port octets)
    outputs (Settings told) = refl
    outputs (Running config ps) = refl

numberless : IsNumberless follow line_outputs
numberless = record { agent = agent-like; client = client-like; event = event-like; control = control-like }

pub link-lines-cut : LinkLinesCanBeCut
link-lines-cut controls before after moment a b x y m numbered is-a is-b some-x some-y sound =
    let same = cut-from follow line_outputs numberless event-in-two moment m numbered a b x y is-a is-b some-x some-y (beginning controls) before after sound in
    record { sound = same.sound; stage = same.stage first_stage; outputs = same.outputs first_stage }
