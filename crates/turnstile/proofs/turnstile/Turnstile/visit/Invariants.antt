use Rattle.turnstile.specs.Turns.{entry_of}
use Rattle.turnstile.proofs.turnstile.Turnstile.visit.Given as goal

abbrev pub ghosts-raise : goal.ghosts-raise
ghosts-raise g a = record { turn = entry_of a.ask.now.value a.outcome.now }
