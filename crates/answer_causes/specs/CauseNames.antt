-- How causes are told (profile).
use Rattle.std.specs.Prelude.{ℕ, List, codes}
use Rattle.answer_causes.specs.declared.cause.Cause.{Cause}
use Rattle.answer_causes.specs.declared.cause.Cause.TheVariants.{RottenAvps, Error, OtherSession, UnknownAvp, KeyRefused, BadValue, EapPayload, NoState, TooLong, Refused}

abbrev pub cause_number : Cause → ℕ
cause_number RottenAvps = 1
cause_number (Error result) = 2
cause_number OtherSession = 3
cause_number (UnknownAvp code vendor) = 4
cause_number (KeyRefused code) = 5
cause_number (BadValue code) = 6
cause_number EapPayload = 7
cause_number NoState = 8
cause_number TooLong = 9
cause_number (Refused result) = 10

abbrev pub cause_name : Cause → List ℕ
cause_name RottenAvps = codes "RottenAvps"
cause_name (Error result) = codes "Error"
cause_name OtherSession = codes "OtherSession"
cause_name (UnknownAvp code vendor) = codes "UnknownAvp"
cause_name (KeyRefused code) = codes "KeyRefused"
cause_name (BadValue code) = codes "BadValue"
cause_name EapPayload = codes "EapPayload"
cause_name NoState = codes "NoState"
cause_name TooLong = codes "TooLong"
cause_name (Refused result) = codes "Refused"
