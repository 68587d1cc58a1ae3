use Rattle.std.proofs.Common.{◌∙◌, Some, ap, sym}
use Rattle.reverse_core.specs.declared.ledger.Standing.{Standing}
use Rattle.reverse_core.specs.State.{kept_in, state_of}
use Rattle.reverse_core.proofs.KnownLemmas.{known-kept, known-none, known-open}
use Rattle.reverse_core.proofs.ledger.Ledger.found.Goals as goal

pub returns-in-None : goal.returns-in-None
returns-in-None c =
    let l = c.args.self.now in
    known-none l.own c.args.moment c.args.key.now l.open_ones.list l.kept.dropped l.kept.list (sym c.in-None.is ∙ c.standing.ensures ∙ c.requires.index c.args.key.now)

pub returns-in-Some-Open : goal.returns-in-Some-Open
returns-in-Some-Open c =
    let l = c.args.self.now in
    known-open (kept_in (state_of l) c.args.moment) c.args.key.now l.open_ones.list l.kept.dropped l.kept.list
    (ap (λ (s : Standing). Some s) (sym c.in-Some-Open.field-0-is) ∙ sym c.in-Some-Open.is ∙ c.standing.ensures ∙ c.requires.index c.args.key.now)

pub returns-in-Some-Kept : goal.returns-in-Some-Kept
returns-in-Some-Kept c =
    let l = c.args.self.now in
    let key = c.args.key.now in
    c.found_kept.ensures
    ∙ known-kept l.own c.args.moment key l.open_ones.list c.in-Some-Kept.count l.kept (c.requires.single key)
    (ap (λ (s : Standing). Some s) (sym c.in-Some-Kept.field-0-is) ∙ sym c.in-Some-Kept.is ∙ c.standing.ensures ∙ c.requires.index key)
