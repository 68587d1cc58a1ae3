use Rattle.session_book.proofs.LedgerLemmas.{packet-long}
use Rattle.session_book.proofs.ledger.abort_of.Goals as goal

pub new-requires : goal.new-requires
new-requires c = packet-long c.in_ok-octets.ensures.packet.1
