-- The numbers before an input, and what a refusal looks at (profile).
use Rattle.std.specs.Prelude.{ℕ, ◌+◌, Bool, nat_lt, ◌==◌, ◌||◌, max, not, List, length, Option, Some, None, if◌then◌else◌}
use Rattle.radius_packet.specs.declared.reasons.Reason.{Reason}
use Rattle.radius_packet.specs.declared.reasons.Reason.TheVariants.{LinkDown, Spent, Full, Backlog}
use Rattle.agent_settings.specs.declared.config.Config.{Config}
use Rattle.peer_machine.specs.declared.Phase.{Phase}
use Rattle.agent_events.specs.declared.events.Input.{Input}
use Rattle.agent_core.specs.Places.{Place, link, begins, is_serving, live, waiting, used, outbox, serial}

pub record Rooms : Type 0 where
  pub phase : Phase
  pub used : ℕ
  pub outbox : ℕ
  pub serial : ℕ
  pub live : ℕ
  pub waiting : ℕ

abbrev pub rooms : Config → List Place → ℕ → Rooms
rooms config ps m = record {
  phase = (link ps).phase;
  used = used ps;
  outbox = outbox ps;
  serial = serial ps;
  live = length (live config ps m);
  waiting = length (waiting config ps m);
}

-- an answer may need a further request, so a request that is taken up leaves room for one more on the link and one more
-- number, also when all that wait are sent again
abbrev pub is_out_of_numbers : Rooms → Bool
is_out_of_numbers r = nat_lt 2147483648 (r.used + r.waiting + 2) || r.serial == 18446744073709551615

abbrev pub is_backed_up : Config → Rooms → Bool
is_backed_up config r = nat_lt config.backlog (max r.outbox r.waiting + r.waiting + 2)

-- why a new request isn't taken up
abbrev pub refusal : Config → Rooms → Option Reason
refusal config r =
    if not (is_serving r.phase) then Some LinkDown
    else if is_out_of_numbers r then Some Spent
    else if r.live == config.capacity then Some Full
    else if is_backed_up config r then Some Backlog
    else None

-- whether one more message of the base protocol has room; the link that an input begins has sent nothing yet
abbrev pub has_spare : Config → List Place → ℕ → Input → Bool
has_spare config ps m input =
    nat_lt ((if begins ps input then 0 else outbox ps) + length (waiting config ps m)) (config.backlog + 64)
