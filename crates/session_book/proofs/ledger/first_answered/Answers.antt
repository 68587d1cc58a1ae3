use Rattle.std.proofs.Common.{None, Some, sym, ◌∙◌, arith}
use Rattle.std.proofs.lemmas.List.{at_drop_all}
use Rattle.session_book.specs.History.{first_answered, said_to}
use Rattle.session_book.proofs.LedgerLemmas.{answered-more}
use Rattle.session_book.proofs.ledger.first_answered.Goals as goal

pub returns-in-Some : goal.returns-in-Some
returns-in-Some c =
    let said = said_to c.args.config.now c.args.address c.args.port c.args.octets.now in
    sym (answered-more said c.args.held.now c.loop-one.one-index c.one-item.result (Some c.in-Some.ended) c.loop-one-test.true c.one-item.is (sym c.in-Some.is ∙ c.said_to.ensures))
    ∙ c.loop-one.invariant

pub loop-one-preserved : goal.loop-one-preserved
loop-one-preserved c =
    let said = said_to c.args.config.now c.args.address c.args.port c.args.octets.now in
    sym (answered-more said c.args.held.now c.loop-one.one-index c.one-item.result None c.loop-one-test.true c.one-item.is (sym c.in-None.is ∙ c.said_to.ensures))
    ∙ c.loop-one.invariant

pub returns : goal.returns
returns c =
    let said = said_to c.args.config.now c.args.address c.args.port c.args.octets.now in
    sym (at_drop_all (first_answered said) c.args.held.now c.loop-one.one-index (omega arith)) ∙ c.loop-one.invariant
