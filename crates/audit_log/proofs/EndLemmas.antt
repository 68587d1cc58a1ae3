-- How a run ends, by the status of the command below.
use Rattle.std.proofs.Common.{◌≡◌, ℕ, inl, List, [], Option, Some, Err, refl, subst}
use Rattle.wire_core.specs.Source.{Consumes}
use Rattle.wire_core.proofs.SinkLaws.{AppendsPrefix-none}
use Rattle.wire_core.proofs.SourceLaws.{Consumes-none}
use Rattle.agent_status.specs.declared.status.Status.{Status}
use Rattle.agent_status.specs.declared.status.Status.TheVariants as status
use Rattle.text_commands.specs.Tasks.{EndsBy}
use Rattle.replay_command.specs.Replay.{replay_task}
use Rattle.journal.specs.Verdicts.{ChecksBy}
use Rattle.journal.specs.Writing.{journal_task}
use Rattle.audit_log.specs.Ends.{AuditsBy, WritesBy, written_status}
use Rattle.audit_log.specs.declared.status.AuditStatus.TheVariants.{OutOfMemory}

pub writes : (s : Status) (key X : List ℕ) (left before now : Option (List ℕ)) → EndsBy (journal_task replay_task key) s X left before now
    → WritesBy (written_status s) key X left before now
writes status.Done key X left before now ends = ends
writes (status.BadTranscript line reason) key X left before now ends = ends
writes status.ReadFault key X left before now ends = ends
writes status.WriteFault key X left before now ends = ends
writes status.OutOfMemory key X left before now ends = ends
writes status.TooLong key X left before now ends = ends
writes status.Usage key X left before now ends = absurd ends
writes status.LinkFault key X left before now ends = absurd ends
writes (status.PeerRefused code) key X left before now ends = absurd ends
writes status.NoThread key X left before now ends = absurd ends
writes status.DatagramFault key X left before now ends = absurd ends
writes (status.LinkEnded cause) key X left before now ends = absurd ends
writes (status.BadConfig fault) key X left before now ends = absurd ends

pub audits : (s : Status) (key X : List ℕ) (left before now : Option (List ℕ)) → ChecksBy replay_task key (Err s) X left before now
    → AuditsBy (written_status s) key X left before now
audits status.ReadFault key X left before now checks = checks
audits status.WriteFault key X left before now checks = checks
audits status.OutOfMemory key X left before now checks = checks
audits status.TooLong key X left before now checks = checks
audits status.Done key X left before now checks = absurd checks.0
audits (status.BadTranscript line reason) key X left before now checks = absurd checks.0
audits status.Usage key X left before now checks = absurd checks.0
audits status.LinkFault key X left before now checks = absurd checks.0
audits (status.PeerRefused code) key X left before now checks = absurd checks.0
audits status.NoThread key X left before now checks = absurd checks.0
audits status.DatagramFault key X left before now checks = absurd checks.0
audits (status.LinkEnded cause) key X left before now checks = absurd checks.0
audits (status.BadConfig fault) key X left before now checks = absurd checks.0

-- nothing was taken or written
pub nothing : (key X : List ℕ) (left written : Option (List ℕ)) → left ≡ Some X → WritesBy OutOfMemory key X left written written
nothing key X left written told = record {
  lines = [];
  each = tt;
  sound = refl;
  octets = [];
  are_lines = inl refl;
  more = [];
  taken = subst (λ l. Consumes l left []) told (Consumes-none left);
  written = AppendsPrefix-none written ((journal_task replay_task key).text []);
}
