-- How a run goes on by an input, and what it prints.
use Rattle.std.proofs.Common.{◌≡◌, ℕ, ◌+◌, ◌-◌, ◌^◌, min, List, [], ◌∷◌, ◌++◌, length, append_assoc, Option, Bool, refl, sym, ◌∙◌, ap, subst, arith}
use Rattle.std.specs.Prelude.{count_by}
use Rattle.std.proofs.lemmas.List.{append-nil}
use Rattle.std.proofs.lemmas.List.Sums.{sum_by-cons}
use Rattle.std.specs.List.{flat_map}
use Rattle.wire_core.specs.Sink.{Appends, AppendsPrefix}
use Rattle.wire_core.proofs.SinkLaws.{Appends-append, Appends-none, AppendsPrefix-append, AppendsPrefix-front}
use Rattle.agent_settings.specs.declared.config.Config.{Config}
use Rattle.session_book.specs.declared.events.BookInput.{BookInput}
use Rattle.session_book.specs.declared.events.BookOutput.{BookOutput}
use Rattle.session_book.specs.Places.{BookEvent, BookPlace}
use Rattle.session_book.specs.History.{book_outputs_after, place, places}
use Rattle.session_book.specs.Standing.{BookState, BookStandsFor}
use Rattle.dynamic_command.specs.declared.counts.Counts.{Counts}
use Rattle.dynamic_command.specs.Dynamic.{book_line, event_at, inputs_text, is_control, is_drop, is_reply, is_send, outputs_of, places_after}
use Rattle.dynamic_command.specs.Running.{Ran, RunsAt, RunsOn, counted, counts_of}

-- ---- one input

places-on : (config : Config) (ps : List BookPlace) (H : List BookEvent) (e : BookEvent)
    → places config ps (H ++ e ∷ []) ≡ place config (places config ps H) e ∷ places config ps H
places-on config ps [] e = refl
places-on config ps (f ∷ H) e = places-on config (place config ps f ∷ ps) H e

-- what the book says after each history that it stands for
abbrev pub Answers : BookState → BookEvent → List BookOutput → Type 0
Answers book e outputs = (H : List BookEvent) → BookStandsFor book H → outputs ≡ book_outputs_after book.core.config H e

-- what went out is what the rule gives
outputs-are : (book : BookState) (counts : Counts) (config : Config) (ps : List BookPlace) (e : BookEvent) (outputs : List BookOutput)
    → Answers book e outputs → RunsAt book counts config ps → outputs ≡ (place config ps e).outputs
outputs-are book counts config ps e outputs answers r =
    answers r.history r.stands
    ∙ ap (λ (c : Config). book_outputs_after c r.history e) r.config_is
    ∙ ap (λ (qs : List BookPlace). (place config qs e).outputs) (sym r.past_is)

-- one more place's outputs of a kind
counted-more : (kind : BookOutput → Bool) (config : Config) (ps : List BookPlace) (e : BookEvent) (outputs : List BookOutput) (so_far : ℕ)
    → outputs ≡ (place config ps e).outputs → so_far ≡ outputs_of kind ps
    → min (so_far + count_by kind outputs) (2 ^ 64 - 1) ≡ outputs_of kind (place config ps e ∷ ps)
counted-more kind config ps e outputs so_far out is =
    let there = ap (count_by kind) out in
    let sums = sum_by-cons (λ (p : BookPlace). count_by kind p.outputs) (place config ps e) ps in
    omega (arith, there, is, sums)

counts-more : (config : Config) (ps : List BookPlace) (e : BookEvent) (outputs : List BookOutput) (counts after : Counts)
    → outputs ≡ (place config ps e).outputs → counts ≡ counts_of ps → after ≡ counted counts outputs → after ≡ counts_of (place config ps e ∷ ps)
counts-more config ps e outputs counts after out is adds =
    let more = place config ps e ∷ ps in
    let replies = counted-more is_reply config ps e outputs counts.replies out (ap (λ (c : Counts). c.replies) is) in
    let sends = counted-more is_send config ps e outputs counts.sends out (ap (λ (c : Counts). c.sends) is) in
    let drops = counted-more is_drop config ps e outputs counts.drops out (ap (λ (c : Counts). c.drops) is) in
    let controls = counted-more is_control config ps e outputs counts.controls out (ap (λ (c : Counts). c.controls) is) in
    adds
    ∙ ap (λ n. record (counted counts outputs) { replies = n }) replies
    ∙ ap (λ n. record (counted counts outputs) { replies = outputs_of is_reply more; sends = n }) sends
    ∙ ap (λ n. record (counted counts outputs) { replies = outputs_of is_reply more; sends = outputs_of is_send more; drops = n }) drops
    ∙ ap (λ n. record {
      replies = outputs_of is_reply more;
      sends = outputs_of is_send more;
      drops = outputs_of is_drop more;
      controls = n;
    }) controls

pub runs-on : (book new : BookState) (counts after : Counts) (number : ℕ) (e : BookEvent) (outputs : List BookOutput) (before now : Option (List ℕ))
    → Answers book e outputs → ((H : List BookEvent) → BookStandsFor book H → BookStandsFor new (H ++ e ∷ []))
    → new.core.config ≡ book.core.config → after ≡ counted counts outputs → Appends before now (flat_map (book_line number) outputs)
    → (config : Config) (ps : List BookPlace) → RunsAt book counts config ps → RunsOn new after config ps number e before now
runs-on book new counts after number e outputs before now answers stands same is wrote config ps r =
    let out = outputs-are book counts config ps e outputs answers r in (
      record {
        history = r.history ++ e ∷ [];
        past_is = ap (λ (qs : List BookPlace). place config qs e ∷ qs) r.past_is ∙ sym (places-on config [] r.history e);
        config_is = same ∙ r.config_is;
        stands = stands r.history r.stands;
        counted = counts-more config ps e outputs counts after out r.counted is;
      },
      subst (λ (os : List BookOutput). Appends before now (flat_map (book_line number) os)) out wrote,
    )

-- of what goes out a prefix was written
pub prints-part : (book : BookState) (counts : Counts) (number : ℕ) (e : BookEvent) (outputs : List BookOutput) (before now : Option (List ℕ))
    → Answers book e outputs → AppendsPrefix before now (flat_map (book_line number) outputs)
    → (config : Config) (ps : List BookPlace) → RunsAt book counts config ps
    → AppendsPrefix before now (flat_map (book_line number) (place config ps e).outputs)
prints-part book counts number e outputs before now answers wrote config ps r =
    subst (λ (os : List BookOutput). AppendsPrefix before now (flat_map (book_line number) os)) (outputs-are book counts config ps e outputs answers r) wrote

-- ---- the inputs of a line

-- the inputs before these were run, and what they print was written
pub record InRun (book : BookState) (counts : Counts) (config : Config) (ps : List BookPlace) (number moment : ℕ) (inputs rest : List BookInput) (before now : Option (List ℕ)) : Type 0 where
  pub so_far : List BookPlace
  pub text : List ℕ
  pub runs : RunsAt book counts config so_far
  pub wrote : Appends before now text
  pub places : places_after config so_far moment rest ≡ places_after config ps moment inputs
  pub texts : text ++ inputs_text number config so_far moment rest ≡ inputs_text number config ps moment inputs

pub in-run-first : (book : BookState) (counts : Counts) (config : Config) (ps : List BookPlace) (number moment : ℕ) (inputs rest : List BookInput) (now : Option (List ℕ))
    → rest ≡ inputs → RunsAt book counts config ps → InRun book counts config ps number moment inputs rest now now
in-run-first book counts config ps number moment inputs rest now same runs = record {
  so_far = ps;
  text = [];
  runs = runs;
  wrote = Appends-none now;
  places = ap (places_after config ps moment) same;
  texts = ap (inputs_text number config ps moment) same;
}

pub in-run-next : {before now : Option (List ℕ)} (book new : BookState) (counts after : Counts) (config : Config) (ps : List BookPlace) (number moment : ℕ) (inputs rest more : List BookInput) (x : BookInput) (then : Option (List ℕ))
    → rest ≡ x ∷ more → (r : InRun book counts config ps number moment inputs rest before now)
    → RunsOn new after config r.so_far number (event_at moment x) now then
    → InRun new after config ps number moment inputs more before then
in-run-next book new counts after config ps number moment inputs rest more x then cut r (runs, wrote) =
    let line = flat_map (book_line number) (place config r.so_far (event_at moment x)).outputs in
    record {
      so_far = place config r.so_far (event_at moment x) ∷ r.so_far;
      text = r.text ++ line;
      runs = runs;
      wrote = Appends-append r.wrote wrote;
      places = sym (ap (places_after config r.so_far moment) cut) ∙ r.places;
      texts =
          append_assoc r.text line (inputs_text number config (place config r.so_far (event_at moment x) ∷ r.so_far) moment more)
          ∙ sym (ap (λ xs. r.text ++ inputs_text number config r.so_far moment xs) cut) ∙ r.texts;
    }

pub in-run-part : {before now : Option (List ℕ)} (book : BookState) (counts : Counts) (config : Config) (ps : List BookPlace) (number moment : ℕ) (inputs rest more : List BookInput) (x : BookInput) (then : Option (List ℕ))
    → rest ≡ x ∷ more → (r : InRun book counts config ps number moment inputs rest before now)
    → AppendsPrefix now then (flat_map (book_line number) (place config r.so_far (event_at moment x)).outputs)
    → AppendsPrefix before then (inputs_text number config ps moment inputs)
in-run-part {before} book counts config ps number moment inputs rest more x then cut r part =
    let behind = inputs_text number config (place config r.so_far (event_at moment x) ∷ r.so_far) moment more in
    subst (AppendsPrefix before then) (sym (ap (λ xs. r.text ++ inputs_text number config r.so_far moment xs) cut) ∙ r.texts)
    (AppendsPrefix-append r.wrote (AppendsPrefix-front behind part))

pub in-run-all : {before now : Option (List ℕ)} (book : BookState) (counts : Counts) (config : Config) (ps : List BookPlace) (number moment : ℕ) (inputs rest : List BookInput)
    → rest ≡ [] → InRun book counts config ps number moment inputs rest before now → Ran book counts config ps number moment inputs before now
in-run-all {before} {now} book counts config ps number moment inputs rest none r =
    let places : r.so_far ≡ places_after config ps moment inputs = sym (ap (places_after config r.so_far moment) none) ∙ r.places in
    let texts : r.text ≡ inputs_text number config ps moment inputs =
    sym (append-nil r.text) ∙ sym (ap (λ xs. r.text ++ inputs_text number config r.so_far moment xs) none) ∙ r.texts in (
      subst (RunsAt book counts config) places r.runs,
      subst (Appends before now) texts r.wrote,
    )

pub none-left : {X : Type 0} (xs : List X) → length xs ≡ 0 → xs ≡ []
none-left [] none = refl
none-left (x ∷ xs) none = absurd (omega (arith, none))
