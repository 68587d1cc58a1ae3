-- What a reader of words answers.
use Rattle.std.specs.Prelude.{◌≡◌, Option, Some, None, Result, Ok, Err}
use Rattle.text_lines.specs.declared.word_fault.WordFault.{WordFault}
use Rattle.text_lines.specs.declared.word_fault.WordFault.TheVariants.{Bad, NoMemory}

abbrev pub Fails : {X : Type 0} → WordFault → Option X → Type 0
Fails Bad read = read ≡ None
Fails NoMemory read = Unit {0}

-- exactly what is read, but for want of memory
abbrev pub Reads : {X : Type 0} → Result X WordFault → Option X → Type 0
Reads (Ok x) read = read ≡ Some x
Reads (Err fault) read = Fails fault read
