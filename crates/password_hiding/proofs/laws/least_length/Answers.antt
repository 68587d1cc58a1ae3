use Rattle.password_hiding.proofs.BlockLemmas.{padded_size, padded_room, padded_least}
use Rattle.password_hiding.proofs.laws.least_length.Goals as goal

pub returns-clause-hidden : goal.returns-clause-hidden
returns-clause-hidden c = padded_size

pub returns-clause-room : goal.returns-clause-room
returns-clause-room c = padded_room

pub returns-clause-least : goal.returns-clause-least
returns-clause-least c = padded_least
