use Rattle.std.proofs.Common.{◌≡◌, ◌+◌, ◌≤◌, ◌++◌, length, vec_capacity}
use Rattle.agent_server.specs.Runs.{others_in, sends_in}
use Rattle.agent_server.proofs.SortLemmas.{Sorts}
use Rattle.agent_server.proofs.desk.sort.Given as goal

-- what came so far stands where it belongs, where there was room
abbrev pub invariant-loop-output : goal.invariant-loop-output
invariant-loop-output l = record {
  whole : l.yielded ++ l.output-iterator.rest.items ≡ l.fn.all.items;
  sends : length l.initial.sends.items + length l.fn.all.items ≤ vec_capacity l.initial.sends
      → Sorts (length l.initial.sends.items) (vec_capacity l.initial.sends) l.yielded l.sends.items (vec_capacity l.sends) (l.initial.sends.items ++ sends_in l.yielded);
  others : length l.initial.others.items + length l.fn.all.items ≤ vec_capacity l.initial.others
      → Sorts (length l.initial.others.items) (vec_capacity l.initial.others) l.yielded l.others.items (vec_capacity l.others) (l.initial.others.items ++ others_in l.yielded);
}
