use Rattle.std.proofs.Common.{arith, length, ap}
use Rattle.agent_settings.proofs.Limits.{settings_facts}
use Rattle.session_book.proofs.LedgerLemmas.{name-short}
use Rattle.session_book.proofs.ledger.answer.Goals as goal

pub write_answer-requires-clause-host : goal.write_answer-requires-clause-host
write_answer-requires-clause-host c =
    let facts = settings_facts c.args.config.now c.requires.settings in
    omega (arith, name-short c.args.config.now.host facts.host, ap length c.as_slice.ensures)

pub write_answer-requires-clause-realm : goal.write_answer-requires-clause-realm
write_answer-requires-clause-realm c =
    let facts = settings_facts c.args.config.now c.requires.settings in
    omega (arith, name-short c.args.config.now.realm facts.realm, ap length c.as_slice-2.ensures)
