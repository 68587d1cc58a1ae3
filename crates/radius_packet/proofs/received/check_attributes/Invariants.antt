use Rattle.std.proofs.Common.{length, ◌-◌, ◌≡◌, drop}
use Rattle.std.specs.Result.{result_err}
use Rattle.radius_packet.specs.Packet.{read_attributes}
use Rattle.radius_packet.proofs.received.check_attributes.Given as goal

-- the fault is that of the octets from here on
abbrev pub invariant-loop-place : goal.invariant-loop-place
invariant-loop-place l =
    result_err (read_attributes (drop l.place l.octets) 0 l.place) ≡ result_err (read_attributes (drop 20 l.octets) 0 20)

abbrev pub decreases-loop-place : goal.decreases-loop-place
decreases-loop-place l = length l.octets - l.place
