use Rattle.std.proofs.Common.{◌≡◌, drop, map}
use Rattle.std.specs.List.{list_any}
use Rattle.std.specs.Str.{bytes_eq}
use Rattle.agent_config.proofs.keys.is_known.Given as goal

abbrev pub invariant-loop-other : goal.invariant-loop-other
invariant-loop-other l =
    list_any (bytes_eq l.key) (map (λ k. k.now) (drop l.other-index l.known)) ≡ list_any (bytes_eq l.key) (map (λ k. k.now) l.known)
