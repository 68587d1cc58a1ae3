use Rattle.std.proofs.Common.{◌≡◌, ◌++◌, map, take, drop}
use Rattle.session_book.specs.Aborts.{renewed}
use Rattle.session_book.proofs.aborts.renew_all.Given as goal

-- those before are renewed
abbrev pub invariant-loop-held : goal.invariant-loop-held
invariant-loop-held l =
    l.list ≡ map (renewed l.moment) (take l.held-index l.fn.list) ++ drop l.held-index l.fn.list
