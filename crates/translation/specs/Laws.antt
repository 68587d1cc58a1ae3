-- Laws of the passes over the attributes of a packet.
use Rattle.std.specs.Prelude.{◌≡◌, ℕ, List}
use Rattle.std.specs.List.{enumerate_from, flat_map, fold}
use Rattle.radius_packet.specs.Packet.{AttributeParts}
use Rattle.agent_settings.specs.declared.client.Client.{Client}
use Rattle.translation.specs.declared.direction.Direction.{Direction}
use Rattle.translation.specs.Images.{common_piece}
use Rattle.translation.specs.Passing.{pieces_after, common_after, noted, nothing}
use Rattle.translation.specs.Judging.{value_reason}
use Rattle.translation.specs.Faults.{faults_in, faults_with, none, reason_of}

-- A pass that keeps what it saw gives of all attributes what each of them gives at its place.
abbrev pub PassesGiveThePieces : Type 0
PassesGiveThePieces = (direction : Direction) (all : List AttributeParts)
    → pieces_after (common_after direction all) (noted direction) nothing all ≡ flat_map (λ p. common_piece direction all p.0 p.1) (enumerate_from 0 all)

-- A pass finds what is said of all attributes, and the first reason in it is the one that lies in them.
abbrev pub PassesFindTheFaults : Type 0
PassesFindTheFaults = (client : Client) (source : ℕ) (direction : Direction) (all : List AttributeParts)
    → (fold (faults_with client source direction) none all ≡ faults_in client source direction all)
    × (reason_of (faults_in client source direction all) ≡ value_reason direction all)
