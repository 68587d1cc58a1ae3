-- What an answer's Result-Code says (RFC 6733, section 7.1).
use Rattle.std.specs.Prelude.{ℕ, Bool, nat_le, nat_lt, ◌&&◌, List, Result, Ok, Err, unwrap_or}
use Rattle.diameter_avp.specs.Avps.{AvpParts}
use Rattle.diameter_avp.specs.declared.fault.AvpFault.{AvpFault}
use Rattle.diameter_message.specs.Finding.{first_number}

-- 2000 to 2999
abbrev pub is_success : ℕ → Bool
is_success result = nat_le 2000 result && nat_lt result 3000

-- the first Result-Code of four octets, else 0
abbrev pub result_code : List AvpParts → ℕ
result_code avps = unwrap_or (first_number 268 avps) 0

-- and 0 where the AVPs have a fault
abbrev pub result_in : Result (List AvpParts) AvpFault → ℕ
result_in (Ok avps) = result_code avps
result_in (Err fault) = 0
