use Rattle.std.proofs.Common.{◌≡◌, Result, Ok, Err, MatchResult, is_ok, sym, ◌∙◌, List, ℕ}
use Rattle.std.specs.Str.{IsUtf8, is_utf8}
use Rattle.std.proofs.lemmas.Bool.{false_from_ne_true}
use Rattle.std.proofs.lemmas.Str.{IsUtf8-from_is_utf8, is_utf8-from_IsUtf8}
use Rattle.attribute_table.proofs.image.is_text.Goals as goal

-- an answer that comes exactly for UTF-8 is what the test gives
is_ok-is_utf8 : {T E : Type 0} (r : Result T E) (bytes : List ℕ) (P : T → Type 0) (Q : E → Type 0) → MatchResult r (λ s. P s × IsUtf8 bytes) (λ e. ¬ (IsUtf8 bytes) × Q e) → is_ok r ≡ is_utf8 bytes
is_ok-is_utf8 (Ok s) bytes P Q h = sym (is_utf8-from_IsUtf8 bytes h.1)
is_ok-is_utf8 (Err e) bytes P Q h = sym (false_from_ne_true _ (λ is. h.0 (IsUtf8-from_is_utf8 bytes is)))

pub returns : goal.returns
returns c = c.is_ok.ensures.value ∙ is_ok-is_utf8 _ _ _ _ c.from_utf8.ensures.cases
