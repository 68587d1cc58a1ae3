-- One line of a run.
use Rattle.std.proofs.Common.{◌≡◌, ℕ, inr, List, take, Option, Ok, option_map, sym, ap, ◌∙◌, subst}
use Rattle.wire_devices.specs.Sockets.{Socket}
use Rattle.agent_status.specs.declared.status.Status.{Status}
use Rattle.agent_status.specs.declared.status.Status.TheVariants.{DatagramFault, OutOfMemory}
use Rattle.test_peers.specs.PacketLines.{packet_in}
use Rattle.peer_runs.specs.declared.asking.Target.{Target}
use Rattle.peer_runs.specs.Asking.{BreaksOff, StepsToEnd, asked}
use Rattle.peer_runs.specs.NasRuns.{AsksNot, AsksText, answer_text}
use Rattle.peer_runs.proofs.AskingLemmas.{asker, between}

-- a client that was broken off
pub broken-off : {place : Target} {patience : ℕ} {packet : List ℕ} {before now : Option (List ℕ)} {s t : Socket} (status : Status) (number : ℕ) (line : List ℕ)
    → BreaksOff (asker place patience packet) (between before now s t) → status ≡ DatagramFault → packet_in line ≡ Ok packet
    → AsksNot status place patience number line (between before now s t)
broken-off {place} {patience} {packet} {before} {now} {s} {t} status number line off is read =
    subst (λ status. AsksNot status place patience number line (between before now s t)) (sym is)
    (asked packet off.steps, record { packet = read; unanswered = off.unanswered; told = off.told })

-- one that ended, where there was memory for its line
pub ended-text : {place : Target} {patience : ℕ} {packet : List ℕ} {count : Option ℕ} {before now : Option (List ℕ)} {s t : Socket} {buf : List ℕ} (text : List ℕ) (answer : Option (List ℕ)) (number : ℕ) (line : List ℕ)
    → StepsToEnd (asker place patience packet) count (between before now s t) buf → packet_in line ≡ Ok packet
    → text ≡ answer_text answer → answer ≡ option_map (λ n. take n buf) count
    → AsksText (Ok text) place patience number line (between before now s t)
ended-text {packet = packet} text answer number line ended read text_is answer_is = (
  asked packet ended.steps,
  text_is ∙ ap answer_text (answer_is ∙ sym ended.answer),
  record { packet = read; answered = ended.answered; told = ended.told },
)

-- and where there wasn't
pub ended-untold : {place : Target} {patience : ℕ} {packet : List ℕ} {count : Option ℕ} {before now : Option (List ℕ)} {s t : Socket} {buf : List ℕ} (number : ℕ) (line : List ℕ)
    → StepsToEnd (asker place patience packet) count (between before now s t) buf → packet_in line ≡ Ok packet
    → AsksNot OutOfMemory place patience number line (between before now s t)
ended-untold {packet = packet} number line ended read =
    inr (asked packet ended.steps, record { packet = read; answered = ended.answered; told = ended.told })
