-- What goes through a queue from its sender to its recorder (profile). The sender has the numbers 0 to 2 of the queue's
-- turnstile and the recorder has 3.
use Rattle.std.specs.Prelude.{◌≡◌, ◌≢◌, ℕ, List, [], ◌∷◌, ◌++◌, Option, Some, None}
use Rattle.std.specs.Arc.{arc_value}
use Rattle.atomic_table.specs.Seated.{TableId}
use Rattle.turnstile.specs.declared.pass.PassOf.{PassOf}
use Rattle.turnstile.specs.declared.view.Known.{Known}
use Rattle.turnstile.specs.Knowing.{Carries}
use Rattle.turnstile.specs.Passes.{known, table_of}
use Rattle.turnstile.specs.Turns.{In, StartsWith, least, of}
use Rattle.run_record.specs.declared.entry.Entry.{Entry}
use Rattle.run_record.specs.declared.queue.Asked.{Asked}
use Rattle.run_record.specs.declared.queue.Given.{Given}
use Rattle.run_record.specs.declared.queue.Queue.{Queue}
use Rattle.run_record.specs.declared.recorder.Recorder.{Recorder}
use Rattle.run_record.specs.declared.recorder.RecorderEnd.{RecorderEnd}
use Rattle.run_record.specs.Queues.{HoldsFor, puts, stops, takes}

-- what a sender was given, what of it isn't in the queue yet, and the queue that it is of
pub record Sending : Type 0 where
  pub told : List Entry
  pub held : List Entry
  pub queue : TableId

abbrev pub QueuePass : Type 0
QueuePass = PassOf Queue Asked Given

-- a pass of this queue with the numbers 0 to 2, under which nothing was taken out
pub record IsSender (queue : TableId) (pass : QueuePass) : Type 0 where
  pub table : table_of pass ≡ queue
  pub numbers : (known pass).numbers ≡ 0 ∷ 1 ∷ 2 ∷ []
  pub carries : Carries (λ queue (base : Unit {0}) turns. HoldsFor queue turns) (known pass) tt
  pub takes : takes (of 0 (known pass).seen) ≡ []
  pub unused : (of 1 (known pass).seen ≡ []) × (of 2 (known pass).seen ≡ [])

-- a pass of this queue with the number 3, under which no turn was taken
pub record IsReceiver (queue : TableId) (pass : QueuePass) : Type 0 where
  pub table : table_of pass ≡ queue
  pub numbers : (known pass).numbers ≡ 3 ∷ []
  pub unused : of 3 (known pass).seen ≡ []

module _ {E : Type 0} where
  abbrev pub writer_of : Recorder E → E
  writer_of recorder = recorder.writer

  abbrev pub IsRecorderOf : TableId → Recorder E → Type 0
  IsRecorderOf queue recorder = (arc_value recorder.turnstile ≡ queue) × IsReceiver queue recorder.pass

  abbrev pub CanRecord : Recorder E → Type 0
  CanRecord recorder = IsReceiver (arc_value recorder.turnstile) recorder.pass

-- this turn was taken under the pass's least number
pub record Asks (asked : Asked) (given : Given) (before now : Known Queue Asked Given) : Type 0 where
  pub own : of (least before.numbers) now.seen ≡ of (least before.numbers) before.seen ++ Some (asked, given) ∷ []
  pub others : (n : ℕ) → In n before.numbers → n ≢ least before.numbers → of n now.seen ≡ of n before.seen
  pub same : (now.first ≡ before.first) × (now.numbers ≡ before.numbers)

-- a pass of this queue with the number 3, under which nothing was put in
pub record IsSpent (queue : TableId) (pass : QueuePass) : Type 0 where
  pub table : table_of pass ≡ queue
  pub numbers : (known pass).numbers ≡ 3 ∷ []
  pub puts : puts (of 3 (known pass).seen) ≡ []

module _ {E Base : Type 0} (stands : E → Base → List Entry → Type 0) (faults : E → ℕ) where
  -- All that was taken out under the pass's least number was given to the writer, and nothing was put in.
  pub record Records (before now : Known Queue Asked Given) (writer writer' : E) : Type 0 where
    pub mine : List (Option (Asked × Given))
    pub own : of (least before.numbers) now.seen ≡ of (least before.numbers) before.seen ++ mine
    pub numbers : now.numbers ≡ before.numbers
    pub all : (base : Base) (entries : List Entry) → stands writer base entries → stands writer' base (entries ++ takes mine)
    pub puts : puts mine ≡ []
    pub sound : stops mine ≡ [] → faults writer' ≡ faults writer

  -- all that was taken out was given to the writer
  pub record Wrote (recorder : Recorder E) (end : RecorderEnd E) : Type 0 where
    pub spent : IsSpent (table_of recorder.pass) end.pass
    pub all : (base : Base) (entries : List Entry) → stands recorder.writer base entries → stands end.writer base (entries ++ takes (of 3 (known end.pass).seen))
    pub sound : stops (of 3 (known end.pass).seen) ≡ [] → faults end.writer ≡ faults recorder.writer

module _ {E Base : Type 0} (stands : E → Base → List Entry → Type 0) where
  -- The writer was given entries that begin these, and all of them where the record wasn't closed.
  pub record IsWritten (base : Base) (writer : E) (closed : Option ℕ) (sent : List Entry) : Type 0 where
    pub written : List Entry
    pub stood : stands writer base written
    pub begins : StartsWith sent written
    pub whole : closed ≡ None → written ≡ sent
