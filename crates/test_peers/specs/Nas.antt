-- A client that sends one packet until it is answered (RFC 2865, section 2.5; the times are the profile's).
use Rattle.std.specs.Prelude.{ℕ, ◌+◌, Bool, true, false, ◌==◌, nat_le, List, Option, Some, None, option_map, unwrap_or, if◌then◌else◌}
use Rattle.std.specs.Result.{result_ok}
use Rattle.radius_packet.specs.Packet.{read_packet}
use Rattle.test_peers.specs.declared.nas.NasOutput.{NasOutput}
use Rattle.test_peers.specs.declared.nas.NasOutput.TheVariants.{Send, Wait, Reply, GaveUp}

-- the packet and its identifier, the patience, and the moments of the first step and of the last Send
pub record NasParts : Type 0 where
  pub packet : List ℕ
  pub id : ℕ
  pub patience : ℕ
  pub first : Option ℕ
  pub sent : Option ℕ

-- the identifier of the packet that these octets are
abbrev pub id_in : List ℕ → Option ℕ
id_in octets = option_map (λ p. p.id) (result_ok (read_packet octets))

-- no step was made
abbrev pub fresh : List ℕ → ℕ → NasParts
fresh packet patience =
    record { packet = packet; id = unwrap_or (id_in packet) 0; patience = patience; first = None; sent = None }

-- ---- one step

abbrev pub has_id : ℕ → Option ℕ → Bool
has_id own None = false
has_id own (Some id) = id == own

-- a packet with its own identifier came
abbrev pub is_answered : NasParts → Option (List ℕ) → Bool
is_answered nas None = false
is_answered nas (Some octets) = has_id nas.id (id_in octets)

-- so long after that moment
abbrev pub is_past : ℕ → ℕ → ℕ → Bool
is_past since time moment = nat_le (since + time) moment

-- the first step's moment, which is this one where no step was made
abbrev pub begun_at : NasParts → ℕ → ℕ
begun_at nas moment = unwrap_or nas.first moment

abbrev pub is_over : NasParts → ℕ → Bool
is_over nas moment = is_past (begun_at nas moment) nas.patience moment

abbrev pub is_stale : Option ℕ → ℕ → Bool
is_stale None moment = false
is_stale (Some sent) moment = is_past sent 500 moment

abbrev pub is_due_by : Option ℕ → Option ℕ → ℕ → Bool
is_due_by None sent moment = true
is_due_by (Some first) sent moment = is_stale sent moment

-- it is the first step, or 500 ms passed since the last Send
abbrev pub is_due : NasParts → ℕ → Bool
is_due nas moment = is_due_by nas.first nas.sent moment

abbrev pub output_at : NasParts → ℕ → Option (List ℕ) → NasOutput
output_at nas moment got =
    if is_answered nas got then Reply
    else if is_over nas moment then GaveUp
    else if is_due nas moment then Send
    else Wait

-- ---- after it

abbrev pub last_send : NasOutput → Option ℕ → ℕ → Option ℕ
last_send Send sent moment = Some moment
last_send Wait sent moment = sent
last_send Reply sent moment = sent
last_send GaveUp sent moment = sent

abbrev pub nas_after : NasParts → ℕ → NasOutput → NasParts
nas_after nas moment output =
    record nas { first = Some (begun_at nas moment); sent = last_send output nas.sent moment }
