-- How a run goes on by an input, and what it prints.
use Rattle.std.proofs.Common.{◌≡◌, ℕ, ◌+◌, ◌-◌, ◌^◌, min, List, [], ◌∷◌, ◌++◌, Option, Bool, refl, sym, ◌∙◌, ap, subst, arith}
use Rattle.std.specs.Prelude.{count_by}
use Rattle.std.proofs.lemmas.List.Sums.{sum_by-cons}
use Rattle.std.specs.List.{flat_map}
use Rattle.wire_core.specs.Sink.{Appends, AppendsPrefix}
use Rattle.reverse_map.specs.declared.own.Reverse.{Reverse}
use Rattle.reverse_core.specs.declared.events.ReverseOutput.{ReverseOutput}
use Rattle.reverse_core.specs.Places.{ReverseEvent, ReversePlace}
use Rattle.reverse_core.specs.History.{outputs_after, place, places}
use Rattle.reverse_core.specs.Standing.{ReverseState, ReverseStandsFor}
use Rattle.reverse_script.specs.declared.counts.Counts.{Counts}
use Rattle.reverse_script.specs.Printed.{is_answer, is_drop, is_send, output_line, outputs_of}
use Rattle.reverse_script.specs.Running.{RunsAt, RunsOn, counted, counts_of}

places-on : (own : Reverse) (ps : List ReversePlace) (H : List ReverseEvent) (e : ReverseEvent)
    → places own ps (H ++ e ∷ []) ≡ place own (places own ps H) e ∷ places own ps H
places-on own ps [] e = refl
places-on own ps (f ∷ H) e = places-on own (place own ps f ∷ ps) H e

-- what the core says after each history that it stands for
abbrev pub Answers : ReverseState → ReverseEvent → List ReverseOutput → Type 0
Answers core e outputs = (H : List ReverseEvent) → ReverseStandsFor core H → outputs ≡ outputs_after core.own H e

-- what went out is what the rule gives
outputs-are : (core : ReverseState) (counts : Counts) (own : Reverse) (ps : List ReversePlace) (e : ReverseEvent) (outputs : List ReverseOutput)
    → Answers core e outputs → RunsAt core counts own ps → outputs ≡ (place own ps e).outputs
outputs-are core counts own ps e outputs answers r =
    answers r.history r.stands
    ∙ ap (λ (o : Reverse). outputs_after o r.history e) r.own_is
    ∙ ap (λ (qs : List ReversePlace). (place own qs e).outputs) (sym r.past_is)

-- one more place's outputs of a kind
counted-more : (kind : ReverseOutput → Bool) (own : Reverse) (ps : List ReversePlace) (e : ReverseEvent) (outputs : List ReverseOutput) (so_far : ℕ)
    → outputs ≡ (place own ps e).outputs → so_far ≡ outputs_of kind ps
    → min (so_far + count_by kind outputs) (2 ^ 64 - 1) ≡ outputs_of kind (place own ps e ∷ ps)
counted-more kind own ps e outputs so_far out is =
    let there = ap (count_by kind) out in
    let sums = sum_by-cons (λ (p : ReversePlace). count_by kind p.outputs) (place own ps e) ps in
    omega (arith, there, is, sums)

counts-more : (own : Reverse) (ps : List ReversePlace) (e : ReverseEvent) (outputs : List ReverseOutput) (counts after : Counts)
    → outputs ≡ (place own ps e).outputs → counts ≡ counts_of ps → after ≡ counted counts outputs → after ≡ counts_of (place own ps e ∷ ps)
counts-more own ps e outputs counts after out is adds =
    let more = place own ps e ∷ ps in
    let sends = counted-more is_send own ps e outputs counts.sends out (ap (λ (c : Counts). c.sends) is) in
    let answers = counted-more is_answer own ps e outputs counts.answers out (ap (λ (c : Counts). c.answers) is) in
    let drops = counted-more is_drop own ps e outputs counts.drops out (ap (λ (c : Counts). c.drops) is) in
    adds
    ∙ ap (λ n. record (counted counts outputs) { sends = n }) sends
    ∙ ap (λ n. record (counted counts outputs) { sends = outputs_of is_send more; answers = n }) answers
    ∙ ap (λ n. record { sends = outputs_of is_send more; answers = outputs_of is_answer more; drops = n }) drops

pub runs-on : (core new : ReverseState) (counts after : Counts) (number : ℕ) (e : ReverseEvent) (outputs : List ReverseOutput) (before now : Option (List ℕ))
    → Answers core e outputs → ((H : List ReverseEvent) → ReverseStandsFor core H → ReverseStandsFor new (H ++ e ∷ []))
    → new.own ≡ core.own → after ≡ counted counts outputs → Appends before now (flat_map (output_line number) outputs)
    → (own : Reverse) (ps : List ReversePlace) → RunsAt core counts own ps → RunsOn new after own ps number e before now
runs-on core new counts after number e outputs before now answers stands same is wrote own ps r =
    let out = outputs-are core counts own ps e outputs answers r in (
      record {
        history = r.history ++ e ∷ [];
        past_is = ap (λ (qs : List ReversePlace). place own qs e ∷ qs) r.past_is ∙ sym (places-on own [] r.history e);
        own_is = same ∙ r.own_is;
        stands = stands r.history r.stands;
        counted = counts-more own ps e outputs counts after out r.counted is;
      },
      subst (λ (os : List ReverseOutput). Appends before now (flat_map (output_line number) os)) out wrote,
    )

-- of what goes out a prefix was written
pub prints-part : (core : ReverseState) (counts : Counts) (number : ℕ) (e : ReverseEvent) (outputs : List ReverseOutput) (before now : Option (List ℕ))
    → Answers core e outputs → AppendsPrefix before now (flat_map (output_line number) outputs)
    → (own : Reverse) (ps : List ReversePlace) → RunsAt core counts own ps
    → AppendsPrefix before now (flat_map (output_line number) (place own ps e).outputs)
prints-part core counts number e outputs before now answers wrote own ps r =
    subst (λ (os : List ReverseOutput). AppendsPrefix before now (flat_map (output_line number) os)) (outputs-are core counts own ps e outputs answers r) wrote
