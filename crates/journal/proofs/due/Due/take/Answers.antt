use Rattle.std.proofs.Common.{◌+◌, length, drop, sym, ap, ◌∙◌}
use Rattle.std.proofs.lemmas.List.{drop-drop, take_rest}
use Rattle.journal.specs.Checking.{reason_of}
use Rattle.journal.proofs.LineLemmas.{other-is, same-is}
use Rattle.journal.proofs.due.Due.take.Goals as goal

pub returns-then-ne-clause-takes : goal.returns-then-ne-clause-takes
returns-then-ne-clause-takes c = λ due rest unended is.
    let all = take_rest c.deref.result.now c.self.inside.start ∙ ap (λ xs. drop c.self.inside.start xs) c.deref.ensures.value ∙ c.self.view_is ∙ is in
    let (other, same) = other-is c.first_piece-ends.result.1 _ c.first_piece-ends.result.0.now due rest c.args.line.now c.ne.result c.first_piece-ends.ensures unended all c.ne.ensures c.if-ne.true in
    (other, c.reason_of.ensures ∙ ap (λ p. reason_of p c.args.line.now) same)

pub returns-clause-takes : goal.returns-clause-takes
returns-clause-takes c = λ due rest unended is.
    let start = c.self.inside.start in
    let held = ap (λ xs. drop start xs) c.deref.ensures.value ∙ c.self.view_is ∙ is in
    let (same, behind) = same-is c.first_piece-ends.result.1 _ c.first_piece-ends.result.0.now due rest c.args.line.now c.ne.result c.from.result c.first_piece-ends.ensures unended
    (take_rest c.deref.result.now start ∙ held) c.ne.ensures c.if-ne.false (λ ends. rw ends at c.from.ensures) in
    let count = length c.first_piece-ends.result.0.now + c.from.result in (
      same,
      sym (drop-drop count start c.self.inside.text.items) ∙ ap (λ xs. drop count (drop start xs)) (sym c.deref.ensures.value)
          ∙ ap (λ xs. drop count xs) (sym (take_rest c.deref.result.now start)) ∙ behind,
    )
