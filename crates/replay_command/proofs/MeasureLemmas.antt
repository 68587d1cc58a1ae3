-- How a measure goes on from line to line.
use Rattle.std.proofs.Common.{◌≡◌, ℕ, List, [], ◌∷◌, ◌++◌, append_assoc, Option, Some, None, refl, sym, ap, ◌∙◌, subst, arith}
use Rattle.std.proofs.lemmas.List.{append-nil}
use Rattle.wire_core.specs.Counts.{Rose}
use Rattle.text_lines.specs.Stops.{Bad}
use Rattle.text_commands.proofs.FollowingLemmas.{is-task}
use Rattle.text_commands.specs.declared.following.TranscriptWork.{TranscriptWork}
use Rattle.transcript_runs.specs.declared.session.Session.{Session}
use Rattle.replay_command.specs.declared.counts.Counts.{Counts}
use Rattle.agent_status.specs.declared.status.Status.{Status}
use Rattle.agent_status.specs.declared.status.Status.TheVariants.{Done, Usage, BadConfig, BadTranscript, ReadFault, WriteFault, OutOfMemory, TooLong, LinkFault, PeerRefused, NoThread, DatagramFault, LinkEnded}
use Rattle.replay_command.specs.Measured.{ReplaysOn}
use Rattle.replay_command.specs.Replay.{Replays, replay_rule, replay_task}
use Rattle.text_commands.specs.Tasks.{WorksNot}

pub on-first : (work : TranscriptWork (Session Counts)) (lines : List (List ℕ)) → Replays work [] → ReplaysOn work lines lines
on-first work lines replays = record { done = []; replays = replays; whole = refl }

line-front : (lines done rest left : List (List ℕ)) (line : List ℕ) → lines ≡ done ++ left → left ≡ line ∷ rest
    → lines ≡ (done ++ line ∷ []) ++ rest
line-front lines done rest left line whole next = whole ∙ ap (λ r. done ++ r) next ∙ sym (append_assoc done (line ∷ []) rest)

pub on-line : (old new : TranscriptWork (Session Counts)) (lines left rest : List (List ℕ)) (line : List ℕ) → (r : ReplaysOn old lines left) → left ≡ line ∷ rest
    → Replays new (r.done ++ line ∷ []) → ReplaysOn new lines rest
on-line old new lines left rest line r next replays = record {
  done = r.done ++ line ∷ [];
  replays = replays;
  whole = line-front lines r.done rest left line r.whole next;
}

pub on-end : (work : TranscriptWork (Session Counts)) (lines left : List (List ℕ)) → ReplaysOn work lines left → left ≡ [] → Replays work lines
on-end work lines left r none = subst (Replays work) (sym (r.whole ∙ ap (λ l. r.done ++ l) none ∙ append-nil r.done)) r.replays

-- none of the lines being bad, and no write failing, memory alone can be wanting
pub only-memory : (status : Status) (work : TranscriptWork (Session Counts)) (lines left rest : List (List ℕ)) (line : List ℕ) (before now : Option (List ℕ))
    → replay_task.stop lines ≡ None → (r : ReplaysOn work lines left) → left ≡ line ∷ rest → (status ≡ WriteFault → Rose 0 0)
    → WorksNot replay_task status r.done line before now → status ≡ OutOfMemory
only-memory OutOfMemory work lines left rest line before now sound r next rose works = refl
only-memory (BadTranscript number reason) work lines left rest line before now sound r next rose works =
    let bad : Bad = record { line = number; reason = reason } in
    let stays : replay_task.stop ((r.done ++ line ∷ []) ++ rest) ≡ Some bad = (is-task replay_rule refl).stop (r.done ++ line ∷ []) rest bad works.0 in
    let same : replay_task.stop lines ≡ replay_task.stop ((r.done ++ line ∷ []) ++ rest) = ap replay_task.stop (line-front lines r.done rest left line r.whole next) in
    absurd cc (sym sound ∙ same ∙ stays)
only-memory WriteFault work lines left rest line before now sound r next rose works = absurd (omega (arith, rose refl))
only-memory Done work lines left rest line before now sound r next rose works = absurd works
only-memory Usage work lines left rest line before now sound r next rose works = absurd works
only-memory LinkFault work lines left rest line before now sound r next rose works = absurd works
only-memory (PeerRefused code) work lines left rest line before now sound r next rose works = absurd works
only-memory NoThread work lines left rest line before now sound r next rose works = absurd works
only-memory DatagramFault work lines left rest line before now sound r next rose works = absurd works
only-memory (LinkEnded cause) work lines left rest line before now sound r next rose works = absurd works
only-memory (BadConfig fault) work lines left rest line before now sound r next rose works = absurd works
only-memory ReadFault work lines left rest line before now sound r next rose works = absurd works
only-memory TooLong work lines left rest line before now sound r next rose works = absurd works
