-- What the requests that wait send again, one after the other.
use Rattle.std.proofs.Common.{◌≡◌, ℕ, suc, ◌+◌, ◌≤◌, true, false, Bool, List, [], ◌∷◌, length, map, filter, if◌then◌else◌, refl, ap, arith}
use Rattle.std.specs.Prelude.{unwrap_or}
use Rattle.std.specs.List.{AllByRecursion, enumerate_from}
use Rattle.pending_table.specs.declared.entry.Answer.{Answer}
use Rattle.pending_table.specs.declared.entry.Answer.TheVariants.{Waiting, Silent, Replied}
use Rattle.pending_table.specs.Table as table
use Rattle.pending_table.specs.Table.{Row}
use Rattle.agent_events.specs.declared.events.Output.{Output}
use Rattle.agent_events.specs.declared.events.Output.TheVariants.{Send}
use Rattle.agent_core.specs.declared.ledger.Ledger.{Ledger}
use Rattle.agent_core.specs.History.{again}
use Rattle.agent_core.specs.Machine.{kept_waiting, kept_resends, row_again}
use Rattle.agent_core.specs.Standing.{IsSteady, EntryFits, IsSendable, IsWhole}
use Rattle.agent_core.proofs.ListLemmas.Lists.{filter-both}
use Rattle.agent_core.proofs.RoomLemmas.Limits.{limits}
use Rattle.agent_core.proofs.StandingLemmas.Rows.{lives}

-- these messages are sent again, with the numbers from k on
abbrev pub sends_from : ℕ → List (List ℕ) → List Output
sends_from k sent = map (λ p. Send (again p.1 p.0)) (enumerate_from k sent)

rows-again : (k : ℕ) (rows : List Row) → sends_from k (table.sent_by rows) ≡ map row_again (enumerate_from k rows)
rows-again k [] = refl
rows-again k (r ∷ rows) = ap (λ os. row_again (k, r) ∷ os) (rows-again (k + 1) rows)

-- what waits is sent again, each with its number
pub resends-are : (S : Ledger) → sends_from 0 (table.sends S.table S.moment) ≡ kept_resends S
resends-are S = rows-again 0 (kept_waiting S)

length-sent : (rows : List Row) → length (table.sent_by rows) ≡ length rows
length-sent [] = refl
length-sent (r ∷ rows) = ap suc (length-sent rows)

-- they are few
pub sends-few : (S : Ledger) → IsSteady S → length (table.sends S.table S.moment) ≤ 65536
sends-few S steady = let most = (limits S.config steady.limits.settings).backlog in omega (arith, length-sent (kept_waiting S), steady.rooms.again, most)

whole-sent : (a : Answer) → IsSendable a → table.is_waiting a ≡ true → IsWhole (unwrap_or (table.sent_of a) [])
whole-sent (Waiting sent) is e = is
whole-sent (Silent at) is e = absurd (cc)
whole-sent (Replied at reply) is e = absurd (cc)

whole-rows : (S : Ledger) (rows : List Row) → AllByRecursion (λ r. EntryFits S r.1) rows → AllByRecursion IsWhole (table.sent_by (filter (λ r. table.is_waiting r.1.answer) rows))
whole-rows S [] all = tt
whole-rows S (r ∷ rows) all = by (table.is_waiting r.1.answer) refl (whole-rows S rows all.1)
  where
    by :
        (b : Bool)
        → table.is_waiting r.1.answer ≡ b
        → AllByRecursion IsWhole (table.sent_by (filter (λ x. table.is_waiting x.1.answer) rows))
        → AllByRecursion IsWhole (table.sent_by (if b then r ∷ filter (λ x. table.is_waiting x.1.answer) rows else filter (λ x. table.is_waiting x.1.answer) rows))
    by true e k = (whole-sent r.1.answer all.0.sendable e, k)
    by false e k = k

-- and each is a message
pub sends-whole : (S : Ledger) → IsSteady S → AllByRecursion IsWhole (table.sends S.table S.moment)
sends-whole S steady =
    rw (filter-both (lives S S.moment) (λ r. table.is_waiting r.1.answer) S.table.entries)
    (whole-rows S (table.live S.table S.moment) steady.entries)
