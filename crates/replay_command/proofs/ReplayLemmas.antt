-- A replay that is done, in the words of transcripts.
use Rattle.std.proofs.Common.{◌≡◌, ℕ, List, Option, None, ap, subst}
use Rattle.text_lines.specs.Stops.{Bad}
use Rattle.text_lines.specs.Words.{lines_of}
use Rattle.agent_status.specs.declared.status.Status.{Status}
use Rattle.agent_status.specs.declared.status.Status.TheVariants.{Done}
use Rattle.text_commands.specs.Tasks.{EndsBy, Whole}
use Rattle.transcript.specs.Reading.{Said, said_in_text}
use Rattle.replay_command.specs.Replay.{IsReplayed, replay_task}

pub replayed : (status : Status) (X : List ℕ) (left before now : Option (List ℕ)) → status ≡ Done → EndsBy replay_task status X left before now
    → IsReplayed X left before now
replayed status X left before now done ends =
    let whole : Whole replay_task X left before now = subst (λ s. EndsBy replay_task s X left before now) done ends in
    record {
      lines = (said_in_text X).lines;
      is = ap (λ (stop : Option Bad). let said : Said = record { lines = (said_in_text X).lines; stop = stop } in said) whole.sound;
      ended = whole.ended;
      written = whole.written;
    }
