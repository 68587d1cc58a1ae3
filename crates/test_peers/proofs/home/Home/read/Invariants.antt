use Rattle.std.proofs.Common.{◌≡◌, ◌+◌, length}
use Rattle.test_peers.specs.Users.{users_from, users_in}
use Rattle.test_peers.proofs.UserLemmas.{put_all}
use Rattle.test_peers.proofs.home.Home.read.Given as goal

-- the users so far, and those that are left, are all of them
abbrev pub invariant-loop-line : goal.invariant-loop-line
invariant-loop-line l =
    put_all l.users.items (users_from (length l.users.items + 1) l.line-iterator) ≡ users_in l.text
