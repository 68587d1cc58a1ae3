-- Why an input of the book is dropped (profile).
use Rattle.std.specs.Prelude.{ℕ}
use Rattle.session_book.specs.declared.events.BookReason.{BookReason}
use Rattle.session_book.specs.declared.events.BookReason.TheVariants.{AbortOpen, StrangeControl}

-- the numbers go on behind those of the core's reasons
abbrev pub reason_number : BookReason → ℕ
reason_number AbortOpen = 26
reason_number StrangeControl = 27
