use Rattle.std.proofs.Common.{[], ◌∷◌, List, ℕ, false, true, length, refl, sym, ap, subst, arith}
use Rattle.std.proofs.lemmas.List.{append-nil, length-append}
use Rattle.wire_core.specs.Source.{Consumes}
use Rattle.text_lines.specs.Streams.{rest_of}
use Rattle.transcript.proofs.Reading.TakingLemmas.{line-answers, raw-none}
use Rattle.transcript.proofs.lines.Lines.next_line.Goals as goal

pub returns-in-Ok-Line-clause-answers : goal.returns-in-Ok-Line-clause-answers
returns-in-Ok-Line-clause-answers g c = λ at reading goes_on limit.
    let takes = rw c.in-Ok-Line.field-0-is at c.in-Ok-Line.ensures.line in
    let says = rw c.line.ensures at (c.take_some.ensures.takes at reading) in
    rw goes_on
    (line-answers c.take_some.result at _ (g.S.Source.left c.next_line.new.source) c.args.self.now.raw c.next_line.new.self c.take_some.new.self false (10 ∷ [])
    says c.in-Ok-Line.ensures.unended refl takes.0 (omega (arith, takes.1, length-append c.next_line.new.self.line (10 ∷ []))))

pub returns-in-Ok-LastLine-clause-answers : goal.returns-in-Ok-LastLine-clause-answers
returns-in-Ok-LastLine-clause-answers g c = λ at reading goes_on limit.
    let (takes, end, some, passed) = rw c.in-Ok-LastLine.field-0-is at c.in-Ok-LastLine.ensures.line in
    let says = rw c.line-in-Ok-LastLine.ensures at (c.take_some-in-Ok-LastLine.ensures.takes at reading) in
    let line = c.next_line.new.self.line in
    let whole = subst (λ (xs : List ℕ). Consumes (rest_of c.args.self.now.raw (g.S.Source.left c.args.self.now.source.now)) (rest_of c.next_line.new.self (g.S.Source.left c.next_line.new.source)) xs) (sym (append-nil line)) takes in
    line-answers c.take_some-in-Ok-LastLine.result at _ (g.S.Source.left c.next_line.new.source) c.args.self.now.raw c.next_line.new.self c.take_some-in-Ok-LastLine.new.self true []
    says c.in-Ok-LastLine.ensures.unended (refl, end, some) whole (omega (arith, passed, ap length (append-nil line)))

pub returns-in-Err-clause-answers : goal.returns-in-Err-clause-answers
returns-in-Err-clause-answers g c = λ at reading goes_on limit.
    rw c.refuse.ensures.same (raw-none c.in-Err.fault c.line_fault-fault.result at _ _ c.args.self.now.raw c.next_line.new.self limit c.in-Err.ensures.fault (c.line_fault-fault.ensures at reading))
