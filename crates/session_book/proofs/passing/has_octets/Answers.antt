use Rattle.std.proofs.Common.{sym, subst}
use Rattle.agent_core.specs.Promise.{AreBytes, IsReal}
use Rattle.session_book.proofs.passing.has_octets.Goals as goal

pub returns-in-Datagram : goal.returns-in-Datagram
returns-in-Datagram c = subst IsReal (sym c.in-Datagram.is) (subst AreBytes c.as_slice.ensures c.are_octets.ensures)
