use Rattle.std.proofs.Common.{◌≡◌, ◌∷◌, [], ◌++◌, List, Some, None, refl, ◌∙◌}
use Rattle.turnstile.specs.Passes.{known}
use Rattle.agent_events.specs.declared.events.Input.TheVariants.{Leave}
use Rattle.server_workers.specs.Entries.{AreBlank, RunTurn}
use Rattle.server_workers.proofs.GoingLemmas.{went-none, went-on}
use Rattle.server_workers.proofs.turns.take_leave.Goals as goal

one-more : (blanks : List RunTurn) → AreBlank blanks → AreBlank (blanks ++ None ∷ [])
one-more [] blank = tt
one-more (None ∷ blanks) blank = one-more blanks blank
one-more (Some entry ∷ blanks) blank = absurd blank

pub loop-init : goal.loop-init
loop-init g c = (refl, ([], went-none (known c.args.pass.now), tt))

pub loop-preserved : goal.loop-preserved
loop-preserved g c =
    let (blanks, went, blank) = c.loop.invariant.1 in (
      c.in_default.ensures.table ∙ c.loop.invariant.0,
      (blanks ++ None ∷ [], went-on blanks (None ∷ []) _ _ _ went c.in_default.ensures.went, one-more blanks blank),
    )

pub returns-in-Some-enter-clause-left : goal.returns-in-Some-enter-clause-left
returns-in-Some-enter-clause-left g c =
    let (blanks, went, blank) = c.loop.invariant.1 in
    let left = c.in-Some-enter.left in (
      blanks ++ Some (Leave, left) ∷ [],
      went-on blanks (Some (Leave, left) ∷ []) _ _ _ went c.in-Some-enter.ensures.went,
      record { blanks = blanks; whole = refl; blank = blank },
    )
