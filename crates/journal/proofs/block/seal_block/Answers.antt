use Rattle.hmac_md5.proofs.Lengths.{length-hmac_of}
use Rattle.journal.proofs.LineLemmas.{short-due}
use Rattle.journal.proofs.block.seal_block.Goals as goal

pub returns-clause-short : goal.returns-clause-short
returns-clause-short c = short-due c.args.given.now _ c.in_ok-push_given.ensures.short (length-hmac_of c.args.key.now _)
