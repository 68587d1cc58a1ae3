-- What a replay prints and counts of an input.
use Rattle.std.proofs.Common.{◌≡◌, ℕ, ◌+◌, ◌-◌, ◌^◌, min, List, [], ◌∷◌, ◌++◌, Option, Some, None, Bool, ◌∙◌, ap, subst, arith}
use Rattle.std.specs.Prelude.{count_by}
use Rattle.std.proofs.lemmas.List.Sums.{sum_by-cons}
use Rattle.std.specs.List.{flat_map}
use Rattle.wire_core.specs.Sink.{Appends, AppendsPrefix}
use Rattle.agent_settings.specs.declared.config.Config.{Config}
use Rattle.agent_events.specs.declared.events.Output.{Output}
use Rattle.agent_core.specs.declared.ledger.Ledger.{Ledger}
use Rattle.agent_core.specs.Places.{Event, Place}
use Rattle.agent_core.specs.History.{place, outputs_after}
use Rattle.agent_core.specs.Standing.{StandsFor}
use Rattle.agent_core.specs.Laws.{PastGoesOn}
use Rattle.printed_lines.specs.Text.{end_line, output_line, is_reply, is_send, is_drop}
use Rattle.transcript_runs.specs.Runs.{Running, Settings, Stage, places_in}
use Rattle.transcript_runs.specs.Sessions.{IsTold, RunsAt, RunsOn}
use Rattle.transcript_runs.proofs.InputLemmas.{outputs-are, runs-more}
use Rattle.transcript_runs.proofs.WhateverSettings.{whatever-settings}
use Rattle.replay_command.specs.declared.counts.Counts.{Counts}
use Rattle.replay_command.specs.Counted.{AreCounted, counted, counts_of}
use Rattle.replay_command.specs.Run.{end_text, outputs_of, replay_telling}

-- ---- one input

-- one more place's outputs of a kind
counted-more : (kind : Output → Bool) (config : Config) (ps : List Place) (e : Event) (outputs : List Output) (so_far : ℕ)
    → outputs ≡ (place config ps e).outputs → so_far ≡ outputs_of kind ps
    → min (so_far + count_by kind outputs) (2 ^ 64 - 1) ≡ outputs_of kind (place config ps e ∷ ps)
counted-more kind config ps e outputs so_far out is =
    let there = ap (count_by kind) out in
    let sums = sum_by-cons (λ (p : Place). count_by kind p.outputs) (place config ps e) ps in
    omega (arith, there, is, sums)

counts-more : (config : Config) (ps : List Place) (e : Event) (outputs : List Output) (counts after : Counts)
    → outputs ≡ (place config ps e).outputs → counts ≡ counts_of ps → after ≡ counted counts outputs → after ≡ counts_of (place config ps e ∷ ps)
counts-more config ps e outputs counts after out is adds =
    let replies = counted-more is_reply config ps e outputs counts.replies out (ap (λ (c : Counts). c.replies) is) in
    let sends = counted-more is_send config ps e outputs counts.sends out (ap (λ (c : Counts). c.sends) is) in
    let drops = counted-more is_drop config ps e outputs counts.drops out (ap (λ (c : Counts). c.drops) is) in
    adds
    ∙ ap (λ n. record (counted counts outputs) { replies = n }) replies
    ∙ ap (λ n. record (counted counts outputs) { replies = outputs_of is_reply (place config ps e ∷ ps); sends = n }) sends
    ∙ ap (λ n. record { replies = outputs_of is_reply (place config ps e ∷ ps); sends = outputs_of is_send (place config ps e ∷ ps); drops = n }) drops

pub runs-on : PastGoesOn → (core new : Ledger) (counts after : Counts) (number : ℕ) (e : Event) (outputs : List Output) (before now : Option (List ℕ))
    → ((H : List Event) → StandsFor core H → outputs ≡ outputs_after core.config H e)
    → ((H : List Event) → StandsFor core H → StandsFor new (H ++ e ∷ [])) → new.config ≡ core.config → after ≡ counted counts outputs
    → Appends before now (flat_map (output_line number) outputs)
    → (config : Config) (ps : List Place) → RunsAt AreCounted core counts config ps → RunsOn AreCounted replay_telling new after config ps number e before now
runs-on goes core new counts after number e outputs before now answers stands same is wrote config ps r =
    let out = outputs-are AreCounted core counts config ps e outputs answers r in (
      runs-more AreCounted goes core new counts after config ps e stands same r (counts-more config ps e outputs counts after out r.has_told is),
      subst (λ (os : List Output). Appends before now (flat_map (output_line number) os)) out wrote,
    )

-- of what goes out a prefix was written
pub prints-part : (core : Ledger) (counts : Counts) (number : ℕ) (e : Event) (outputs : List Output) (before now : Option (List ℕ))
    → ((H : List Event) → StandsFor core H → outputs ≡ outputs_after core.config H e)
    → AppendsPrefix before now (flat_map (output_line number) outputs)
    → (config : Config) (ps : List Place) → RunsAt AreCounted core counts config ps
    → AppendsPrefix before now (flat_map (output_line number) (place config ps e).outputs)
prints-part core counts number e outputs before now answers wrote config ps r =
    subst (λ (os : List Output). AppendsPrefix before now (flat_map (output_line number) os)) (outputs-are AreCounted core counts config ps e outputs answers r) wrote

-- ---- the end

are-counted : (core : Option Ledger) (counts : Counts) (stage : Stage) → IsTold AreCounted core counts stage → counts ≡ counts_of (places_in stage)
are-counted core counts (Settings known) told = whatever-settings told.1
are-counted None counts (Running config ps) told = absurd told
are-counted (Some core) counts (Running config ps) told = told.has_told

pub end-is : (core : Option Ledger) (counts : Counts) (stage : Stage) (text : List ℕ) → text ≡ end_line counts.replies counts.sends counts.drops
    → IsTold AreCounted core counts stage → text ≡ end_text stage
end-is core counts stage text is told = is ∙ ap (λ (c : Counts). end_line c.replies c.sends c.drops) (are-counted core counts stage told)
