use Rattle.std.proofs.Common.{refl, sym}
use Rattle.text_lines.proofs.StreamLemmas.{unended-found, unended-whole, found-there}
use Rattle.text_lines.proofs.raw_lines.first_piece.Goals as goal

pub returns-in-Some : goal.returns-in-Some
returns-in-Some c = (unended-found c.args.octets.now c.in-Some.end (sym c.in-Some.ensures), found-there c.args.octets.now c.in-Some.end (sym c.in-Some.ensures))

pub returns-in-None : goal.returns-in-None
returns-in-None c = (unended-whole c.args.octets.now (sym c.in-None.ensures), refl)
