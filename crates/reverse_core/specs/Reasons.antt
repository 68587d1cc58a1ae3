-- Why an input is dropped (profile).
use Rattle.std.specs.Prelude.{ℕ}
use Rattle.reverse_core.specs.declared.events.ReverseReason.{ReverseReason}
use Rattle.reverse_core.specs.declared.events.ReverseReason.TheVariants.{NotRequest, NoIdentity, Open, StrangeReply}

-- the numbers go on behind those of the other inputs' reasons
abbrev pub reason_number : ReverseReason → ℕ
reason_number NotRequest = 28
reason_number NoIdentity = 29
reason_number Open = 30
reason_number StrangeReply = 31
