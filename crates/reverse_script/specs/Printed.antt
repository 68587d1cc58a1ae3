-- What the lines of a script print: each is taken after those before it (profile).
use Rattle.std.specs.Prelude.{◌≡◌, ℕ, ◌-◌, ◌^◌, Bool, true, false, List, [], ◌∷◌, ◌++◌, min, codes, decimal, count_by, sum_by, Option, Some, None, Result, Ok, Err}
use Rattle.std.specs.List.{flat_map}
use Rattle.wire_core.specs.Counts.{one_more}
use Rattle.reverse_map.specs.declared.own.Reverse.{Reverse}
use Rattle.reverse_core.specs.declared.events.ReverseOutput.{ReverseOutput}
use Rattle.reverse_core.specs.declared.events.ReverseOutput.TheVariants.{Send, Answer, Dropped}
use Rattle.reverse_core.specs.declared.events.ReverseReason.{ReverseReason}
use Rattle.reverse_core.specs.declared.events.ReverseReason.TheVariants.{NotRequest, NoIdentity, Open, StrangeReply}
use Rattle.reverse_core.specs.Reasons.{reason_number}
use Rattle.reverse_core.specs.Places.{ReverseEvent, ReversePlace}
use Rattle.reverse_core.specs.History.{place}
use Rattle.text_lines.specs.Stops.{Bad}
use Rattle.printed_lines.specs.Text.{drop_line, end_line, hex_text, line_text}
use Rattle.text_commands.specs.Tasks.{Task}
use Rattle.reverse_script.specs.Script.{Said, Tells, Comes, read_line}

-- ---- the lines that outputs are printed as

abbrev pub reason_name : ReverseReason → List ℕ
reason_name NotRequest = codes "NotRequest"
reason_name NoIdentity = codes "NoIdentity"
reason_name Open = codes "Open"
reason_name StrangeReply = codes "StrangeReply"

-- the line of an output of the input on this line
abbrev pub output_line : ℕ → ReverseOutput → List ℕ
output_line number (Send octets) = line_text (decimal number ∷ codes "send" ∷ hex_text octets ∷ [])
output_line number (Answer octets) = line_text (decimal number ∷ codes "answer" ∷ hex_text octets ∷ [])
output_line number (Dropped reason) = drop_line number (reason_number reason) (reason_name reason)

abbrev pub is_send : ReverseOutput → Bool
is_send (Send octets) = true
is_send output = false

abbrev pub is_answer : ReverseOutput → Bool
is_answer (Answer octets) = true
is_answer output = false

abbrev pub is_drop : ReverseOutput → Bool
is_drop (Dropped reason) = true
is_drop output = false

-- ---- one line

-- what the lines so far made: nothing, or settings and the places of a history, the newest first
pub data Stage : Type 0 where
  Nothing : Stage
  Running : Reverse → List ReversePlace → Stage

abbrev pub is_begun : Stage → Bool
is_begun Nothing = false
is_begun (Running own ps) = true

abbrev pub stage_on : Stage → Said → Stage
stage_on Nothing (Tells own) = Running own []
stage_on Nothing (Comes e) = Nothing
stage_on (Running own ps) (Tells other) = Running own ps
stage_on (Running own ps) (Comes e) = Running own (place own ps e ∷ ps)

abbrev pub text_on : ℕ → Stage → Said → List ℕ
text_on number Nothing said = []
text_on number (Running own ps) (Tells other) = []
text_on number (Running own ps) (Comes e) = flat_map (output_line number) (place own ps e).outputs

-- ---- whole scripts

-- where a line stands: how many came before, and what they made
pub record At : Type 0 where
  pub lines : ℕ
  pub stage : Stage

abbrev pub start : At
start = record { lines = 0; stage = Nothing }

abbrev pub on : At → Said → At
on at said = record { lines = one_more at.lines; stage = stage_on at.stage said }

-- what lines print, up to the first bad one, and where the next one stands
pub record Printed : Type 0 where
  pub text : List ℕ
  pub stop : Option Bad
  pub at : At

abbrev pub printed_on : At → Result Said ℕ → (At → Printed) → Printed
printed_on at (Err reason) others =
    record { text = []; stop = Some (record { line = one_more at.lines; reason = reason }); at = at }
printed_on at (Ok said) others = record {
  text = text_on (one_more at.lines) at.stage said ++ (others (on at said)).text;
  stop = (others (on at said)).stop;
  at = (others (on at said)).at;
}

abbrev pub printed_from : At → List (List ℕ) → Printed
printed_from at [] = record { text = []; stop = None; at = at }
printed_from at (line ∷ lines) = printed_on at (read_line (is_begun at.stage) line) (λ next. printed_from next lines)

abbrev pub places_in : Stage → List ReversePlace
places_in Nothing = []
places_in (Running own ps) = ps

-- How many outputs of a kind went out. A count stands still at the end of 64 bits.
abbrev pub outputs_of : (ReverseOutput → Bool) → List ReversePlace → ℕ
outputs_of kind ps = min (sum_by (λ p. count_by kind p.outputs) ps) (2 ^ 64 - 1)

-- the sends, the answers and the drops
abbrev pub end_text : Stage → List ℕ
end_text stage =
    end_line (outputs_of is_send (places_in stage)) (outputs_of is_answer (places_in stage)) (outputs_of is_drop (places_in stage))

abbrev pub reverse_task : Task
reverse_task = record {
  longest = 140000;
  stop = λ lines. (printed_from start lines).stop;
  text = λ lines. (printed_from start lines).text;
  close = λ lines. end_text (printed_from start lines).at.stage;
}
