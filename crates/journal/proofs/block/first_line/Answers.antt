use Rattle.std.proofs.Common.{◌+◌, length}
use Rattle.std.proofs.lemmas.List.{take_rest}
use Rattle.journal.proofs.LineLemmas.{behind-line}
use Rattle.journal.proofs.block.first_line.Goals as goal

pub returns-clause-given : goal.returns-clause-given
returns-clause-given c =
    rw (take_rest c.args.text.now (length c.first_piece-ends.result.0.now + c.from.result))
    (behind-line c.first_piece-ends.result.1 c.args.text.now c.first_piece-ends.result.0.now c.from.result c.first_piece-ends.ensures
    (λ ends. rw ends at c.from.ensures, λ ends. rw ends at c.from.ensures) c.requires)
