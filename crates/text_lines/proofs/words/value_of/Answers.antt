use Rattle.std.proofs.Common.{◌≡◌, ℕ, List, true, ◌∙◌, sym, subst}
use Rattle.std.specs.Result.{result_ok}
use Rattle.text_lines.specs.Words.{is_numeral, number_word}
use Rattle.text_lines.proofs.WordLemmas.{IsUtf8-numeral, result_ok-parse, ok-some, ok-none}
use Rattle.text_lines.proofs.words.value_of.Goals as goal

pub returns-in_err-ok : goal.returns-in_err-ok
returns-in_err-ok c =
    absurd (ok-none _ _ c.from_utf8.result c.from_utf8.ensures.cases (sym c.in_err-ok.ensures.value) (IsUtf8-numeral c.args.numeral.now c.requires))

pub returns : goal.returns
returns c =
    let text = ok-some _ _ c.from_utf8.result c.in_ok-ok.field-0 c.from_utf8.ensures.cases (sym c.ok.ensures.value ∙ c.in_ok-ok.was) in
    c.ok-2.ensures.value
    ∙ (let P : List ℕ → Type 0 = λ ds. is_numeral ds ≡ true → result_ok c.parse.result ≡ number_word 18446744073709551615 ds in
    subst P text.0 (λ h. result_ok-parse c.in_ok-ok.field-0.now c.parse.result h c.parse.ensures.value.0) c.requires)
