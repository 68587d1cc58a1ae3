-- The open aborts: Abort-Session-Requests whose Disconnect-Request has no answer yet (RFC 6733, section 8.5; RFC 5176;
-- profile).
use Rattle.std.specs.Prelude.{ℕ, ◌+◌, Bool, nat_le, ◌==◌, ◌&&◌, not, List, [], ◌∷◌, ◌++◌, map, filter, if◌then◌else◌}
use Rattle.session_book.specs.declared.aborts.Abort.{Abort}
use Rattle.session_book.specs.declared.aborts.OpenAbort.{OpenAbort}
use Rattle.session_book.specs.declared.aborts.Sent.{Sent}

-- what an input does to the aborts: nothing; it opens one; an authentic answer closes one, and says whether the session
-- was ended; time passes for all; the link is closed, and with it all end
pub data Deed : Type 0 where
  Nothing : Deed
  Opens : Abort → Deed
  Answers : Abort → Bool → Deed
  Ages : Deed
  Ends : Deed

-- a Disconnect-Request is overdue two seconds after its last sending
abbrev pub is_due : ℕ → Sent → Bool
is_due moment s = nat_le (s.last + 2000) moment

-- it is sent three times at most
abbrev pub is_last : Sent → Bool
is_last s = nat_le 3 s.times

abbrev pub is_spent : ℕ → Sent → Bool
is_spent moment s = is_due moment s && is_last s

abbrev pub first_sent : ℕ → Sent
first_sent moment = record { times = 1; last = moment }

abbrev pub sent_again : ℕ → Sent → Sent
sent_again moment s = if is_due moment s && not (is_last s) then record { times = s.times + 1; last = moment } else s

abbrev pub renewed : ℕ → OpenAbort → OpenAbort
renewed moment o = record { abort = o.abort; sent = sent_again moment o.sent }

-- those that are open after it
abbrev pub after : Deed → ℕ → List OpenAbort → List OpenAbort
after Nothing moment os = os
after (Opens a) moment os = os ++ record { abort = a; sent = first_sent moment } ∷ []
after (Answers a ended) moment os = filter (λ o. not (o.abort.number == a.number)) os
after Ages moment os = map (renewed moment) (filter (λ o. not (is_spent moment o.sent)) os)
after Ends moment os = []
