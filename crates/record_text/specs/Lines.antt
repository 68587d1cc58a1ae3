-- The lines of a record, and what of them was written (profile).
use Rattle.std.specs.Prelude.{ℕ, zero, suc, Bool, true, false, List, flat_map, Option}
use Rattle.wire_core.specs.Sink.{Appends, AppendsPrefix}
use Rattle.printed_lines.specs.EventText.{event_line}
use Rattle.run_record.specs.declared.entry.Entry.{Entry}
use Rattle.record_text.specs.declared.writer.RecordText.{RecordText}
use Rattle.record_text.specs.declared.writer.TextBase.{TextBase}

abbrev pub text_of : List Entry → List ℕ
text_of entries = flat_map (λ e. event_line e.moment e.input) entries

-- This text was written behind what stood there, or a beginning of it where a write failed.
abbrev pub WroteLines : Bool → Option (List ℕ) → Option (List ℕ) → List ℕ → Type 0
WroteLines false before now text = Appends before now text
WroteLines true before now text = AppendsPrefix before now text

-- whether a write failed, by how many did
abbrev pub has_failed : ℕ → Bool
has_failed zero = false
has_failed (suc n) = true

-- the lines of these entries were written behind what stood there, or a beginning of them
abbrev pub StandsWritten : {R K : Type 0} → (K → Option (List ℕ)) → RecordText R K → TextBase → List Entry → Type 0
StandsWritten {R} {K} written writer base entries = WroteLines (has_failed writer.faults) base.written (written writer.sink) (text_of entries)
