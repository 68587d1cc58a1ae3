-- How the lines that a generator gives one after another are the whole transcript.
use Rattle.std.proofs.Common.{◌≡◌, ℕ, zero, suc, ◌+◌, ◌-◌, ◌<◌, ◌≤◌, true, false, cond, List, [], ◌∷◌, ◌++◌, Option, refl, sym, ap, ◌∙◌, subst, append_assoc, arith, add-one}
use Rattle.std.proofs.lemmas.List.{append-nil}
use Rattle.std.specs.List.{flat_map, range_with_len}
use Rattle.wire_core.specs.Sink.{Appends, AppendsPrefix}
use Rattle.wire_core.proofs.SinkLaws.{Appends-append, Appends-none, AppendsPrefix-append, AppendsPrefix-front, AppendsPrefix-whole}
use Rattle.generated_logins.specs.declared.generator.LoginStage.TheVariants.{Agent, Request, Repeat, Answer, LateRepeat, Drain}
use Rattle.generated_logins.specs.Generator.{answer_line, draw, drain_line, generated_lines, has_bit, login_lines, next_draw, opening_lines, repeat_lines, request_line, text_of_lines}
use Rattle.generated_logins.specs.Generating.{lines_at, logins_from}

draw-next : (seed k : ℕ) → draw seed (k + 1) ≡ next_draw (draw seed k)
unfolding draw
draw-next seed k = rw add-one refl

-- draws one after the other are those by number
pub logins_from-draw : (count i seed : ℕ)
    → flat_map (λ k. login_lines k (draw seed (k + 1))) (range_with_len i count) ≡ logins_from count i (draw seed (i + 1))
logins_from-draw zero i seed = refl
logins_from-draw (suc count) i seed =
    ap
    (λ rest. login_lines i (draw seed (i + 1)) ++ rest)
    (logins_from-draw count (i + 1) seed ∙ ap (logins_from count (i + 1)) (draw-next seed (i + 1)))

-- the first of some logins, and the others
pub logins_from-some : (count i r : ℕ) → 0 < count → logins_from count i r ≡ login_lines i r ++ logins_from (count - 1) (i + 1) (next_draw r)
logins_from-some zero i r some = absurd (omega arith)
logins_from-some (suc count) i r some =
    let others : count ≡ suc count - 1 = omega arith in
    ap (λ n. login_lines i r ++ logins_from n (i + 1) (next_draw r)) others

-- at the beginning all lines are to come
pub lines_at-start : (count seed drawn : ℕ) → 1 ≤ count → drawn ≡ next_draw seed → lines_at Agent 0 (count - 1) drawn ≡ generated_lines count seed
unfolding generated_lines draw
lines_at-start count seed drawn some is =
    ap
    (λ lines. opening_lines ++ lines)
    (sym (logins_from-some count 0 drawn (omega arith)) ∙ ap (logins_from count 0) is ∙ sym (logins_from-draw count 0 seed))

-- ---- the request once more

pub request-repeated : (i left r : ℕ) → has_bit 16 r ≡ true → lines_at Request i left r ≡ request_line i ∷ lines_at Repeat i left r
unfolding login_lines
request-repeated i left r set =
    ap
    (λ b. (request_line i ∷ cond b (request_line i ∷ []) [] ++ answer_line i r ∷ repeat_lines 18 i r ++ drain_line i ∷ []) ++ logins_from left (i + 1) (next_draw r))
    set

pub request-alone : (i left r : ℕ) → has_bit 16 r ≡ false → lines_at Request i left r ≡ request_line i ∷ lines_at Answer i left r
unfolding login_lines
request-alone i left r clear =
    ap
    (λ b. (request_line i ∷ cond b (request_line i ∷ []) [] ++ answer_line i r ∷ repeat_lines 18 i r ++ drain_line i ∷ []) ++ logins_from left (i + 1) (next_draw r))
    clear

pub answer-repeated : (i left r : ℕ) → has_bit 18 r ≡ true → lines_at Answer i left r ≡ answer_line i r ∷ lines_at LateRepeat i left r
answer-repeated i left r set =
    ap
    (λ b. (answer_line i r ∷ cond b (request_line i ∷ []) [] ++ drain_line i ∷ []) ++ logins_from left (i + 1) (next_draw r))
    set

pub answer-alone : (i left r : ℕ) → has_bit 18 r ≡ false → lines_at Answer i left r ≡ answer_line i r ∷ lines_at Drain i left r
answer-alone i left r clear =
    ap
    (λ b. (answer_line i r ∷ cond b (request_line i ∷ []) [] ++ drain_line i ∷ []) ++ logins_from left (i + 1) (next_draw r))
    clear

-- ---- writing the lines

-- what was written and the lines that are left make up the text
pub record WritesOn (before now : Option (List ℕ)) (left : List (List ℕ)) (text : List ℕ) : Type 0 where
  pub done : List ℕ
  pub wrote : Appends before now done
  pub whole : done ++ text_of_lines left ≡ text

pub writes-none : (before : Option (List ℕ)) (left lines : List (List ℕ)) → left ≡ lines → WritesOn before before left (text_of_lines lines)
writes-none before left lines is = record { done = []; wrote = Appends-none before; whole = ap text_of_lines is }

-- the text up to a line, that line, and those after it
line-cut : (done line text : List ℕ) (left rest : List (List ℕ)) → done ++ text_of_lines left ≡ text → left ≡ line ∷ rest
    → (done ++ (line ++ 10 ∷ [])) ++ text_of_lines rest ≡ text
line-cut done line text left rest whole is =
    append_assoc done (line ++ 10 ∷ []) (text_of_lines rest) ∙ ap (λ lines. done ++ text_of_lines lines) (sym is) ∙ whole

pub writes-line : (before then now : Option (List ℕ)) (left rest : List (List ℕ)) (line text : List ℕ)
    → WritesOn before then left text → left ≡ line ∷ rest → Appends then now (line ++ 10 ∷ []) → WritesOn before now rest text
writes-line before then now left rest line text w is wrote = record {
  done = w.done ++ (line ++ 10 ∷ []);
  wrote = Appends-append w.wrote wrote;
  whole = line-cut w.done line text left rest w.whole is;
}

pub writes-all : (before now : Option (List ℕ)) (left : List (List ℕ)) (text : List ℕ)
    → WritesOn before now left text → left ≡ [] → Appends before now text
writes-all before now left text w none =
    let whole = sym (append-nil w.done) ∙ ap (λ lines. w.done ++ text_of_lines lines) (sym none) ∙ w.whole in
    subst (λ (t : List ℕ). Appends before now t) whole w.wrote

pub writes-part : (before now : Option (List ℕ)) (left : List (List ℕ)) (text : List ℕ)
    → WritesOn before now left text → AppendsPrefix before now text
writes-part before now left text w =
    subst (λ (t : List ℕ). AppendsPrefix before now t) w.whole (AppendsPrefix-front (text_of_lines left) (AppendsPrefix-whole w.wrote))

pub writes-part-line : (before then now : Option (List ℕ)) (left rest : List (List ℕ)) (line text : List ℕ)
    → WritesOn before then left text → left ≡ line ∷ rest → AppendsPrefix then now (line ++ 10 ∷ []) → AppendsPrefix before now text
writes-part-line before then now left rest line text w is wrote =
    subst (λ (t : List ℕ). AppendsPrefix before now t) (line-cut w.done line text left rest w.whole is)
    (AppendsPrefix-front (text_of_lines rest) (AppendsPrefix-append w.wrote wrote))
