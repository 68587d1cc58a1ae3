use Rattle.std.proofs.Common.{refl, subst, sym}
use Rattle.std.specs.Prelude.{IsSome}
use Rattle.reverse_core.proofs.LedgerLemmas.{key-stands, sound-answered}
use Rattle.reverse_core.proofs.ledger.Ledger.close.Goals as goal

pub keep-requires-clause-known : goal.keep-requires-clause-known
keep-requires-clause-known c =
    subst IsSome (sym (key-stands c.args.self.now c.in-Some.found c.remove.new.self.list c.requires.sound c.in-Some.ensures.some)) refl

pub returns-in-Some-clause-sound : goal.returns-in-Some-clause-sound
returns-in-Some-clause-sound c =
    sound-answered c.args.self.now c.keep.new.index c.remove.new.self c.keep.new.kept c.in-Some.found c.args.moment c.args.answer c.requires.sound
    c.in-Some.ensures.some c.in-Some.ensures.next c.requires.late c.keep.ensures.index c.keep.ensures.kept
