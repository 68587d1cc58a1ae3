-- Hits that are counted one after another.
use Rattle.std.proofs.Common.{◌≡◌, List, [], ◌∷◌, ◌++◌, refl, sym, ◌∙◌, ap}
use Rattle.count_command.specs.declared.tally.Count.{Count}
use Rattle.count_command.specs.Tally.{Hit, added, with_hits}

pub with_hits_append : (counts : List Count) (hits more : List Hit) → with_hits counts (hits ++ more) ≡ with_hits (with_hits counts hits) more
with_hits_append counts [] more = refl
with_hits_append counts (hit ∷ hits) more = with_hits_append (added counts hit) hits more

-- two lists of hits, and two more hits
pub two-behind : (start first second third : List Count) (hits more : List Hit) (sum count : Hit) → first ≡ with_hits start hits → second ≡ with_hits first more
    → third ≡ added second sum → added third count ≡ with_hits start (hits ++ more ++ sum ∷ count ∷ [])
two-behind start first second third hits more sum count is then_is sum_is =
    ap (λ cs. added cs count) (sum_is ∙ ap (λ cs. added cs sum) (then_is ∙ ap (λ cs. with_hits cs more) is))
    ∙ sym (with_hits_append start (hits ++ more) (sum ∷ count ∷ []) ∙ ap (λ cs. with_hits cs (sum ∷ count ∷ [])) (with_hits_append start hits more))

-- a hit, and two lists of hits
pub two-lists-behind : (start first second : List Count) (hit : Hit) (hits more : List Hit) → first ≡ added start hit → second ≡ with_hits first hits
    → with_hits second more ≡ with_hits start (hit ∷ hits ++ more)
two-lists-behind start first second hit hits more is hits_are =
    ap (λ cs. with_hits cs more) (hits_are ∙ ap (λ cs. with_hits cs hits) is) ∙ sym (with_hits_append (added start hit) hits more)
