-- A journal as it is written.
use Rattle.std.proofs.Common.{◌≡◌, ℕ, inl, inr, List, [], ◌∷◌, ◌++◌, Option, Some, refl, sym, ap, ◌∙◌, subst, append_assoc}
use Rattle.wire_core.specs.Sink.{Appends, AppendsPrefix}
use Rattle.wire_core.proofs.SinkLaws.{Appends-append, AppendsPrefix-append}
use Rattle.wire_core.specs.Source.{Consumes}
use Rattle.wire_core.proofs.SourceLaws.{Consumes-none}
use Rattle.agent_status.specs.declared.status.Status.{Status}
use Rattle.agent_status.specs.declared.status.Status.TheVariants.{Done, Usage, BadConfig, BadTranscript, ReadFault, WriteFault, OutOfMemory, TooLong, LinkFault, PeerRefused, NoThread, DatagramFault, LinkEnded}
use Rattle.text_lines.specs.Words.{lines_of}
use Rattle.text_commands.specs.Tasks.{Adds, EndsBy, IsTask, Task, WritesPart, ended_text}
use Rattle.journal.specs.Journal.{block_of, blocks_of, given_lines, last_seal, no_seal, said_line, seal_after, seal_of, sealed, sealed_block, title}
use Rattle.journal.specs.Writing.{journal_task, write_task}
use Rattle.journal.proofs.BlockLemmas.{block-is, blocks-push, ended-append, seal_after-push, sealed-push}

module _ (task : Task) (key : List ℕ) (law : IsTask task) (lines : List (List ℕ)) (line given : List ℕ) (adds : Adds task lines line given) where
  pub write-adds : Adds (write_task task key) lines line (ended_text (sealed_block key (last_seal task key lines) (said_line line ∷ given_lines given)))
  write-adds = record {
    sound = adds.sound;
    text =
        ap (λ blocks. ended_text (sealed key no_seal blocks)) (blocks-push task law lines line adds.sound)
        ∙ ap ended_text (sealed-push key no_seal (blocks_of task lines) (block_of task lines line))
        ∙ ended-append (sealed key no_seal (blocks_of task lines)) (sealed_block key (last_seal task key lines) (block_of task lines line))
        ∙ ap (λ block. ended_text (sealed key no_seal (blocks_of task lines)) ++ ended_text (sealed_block key (last_seal task key lines) block)) (sym (block-is task lines line given adds));
  }

  pub write-seal : seal_of key (last_seal task key lines) (said_line line ∷ given_lines given) ≡ last_seal task key (lines ++ line ∷ [])
  write-seal =
      ap (λ block. seal_of key (last_seal task key lines) block) (block-is task lines line given adds)
      ∙ sym (ap (λ blocks. seal_after key no_seal blocks) (blocks-push task law lines line adds.sound) ∙ seal_after-push key no_seal (blocks_of task lines) (block_of task lines line))

-- ---- with the title in front

module _ (task : Task) (key : List ℕ) (law : IsTask task) where
  titled : (lines : List (List ℕ)) → ended_text (title ∷ []) ++ (write_task task key).text lines ≡ (journal_task task key).text lines
  titled lines = sym (ended-append (title ∷ []) (sealed key no_seal (blocks_of task lines)))

  part-titled : (X : List ℕ) (left before mid now : Option (List ℕ)) → Appends before mid (ended_text (title ∷ [])) → WritesPart (write_task task key) X left mid now
      → WritesPart (journal_task task key) X left before now
  part-titled X left before mid now front p = record {
    lines = p.lines;
    each = p.each;
    sound = p.sound;
    octets = p.octets;
    are_lines = p.are_lines;
    more = p.more;
    taken = p.taken;
    written = subst (AppendsPrefix before now) (titled p.lines) (AppendsPrefix-append front p.written);
  }

  pub titled-ends : (status : Status) (X : List ℕ) (left before mid now : Option (List ℕ)) → Appends before mid (ended_text (title ∷ []))
      → EndsBy (write_task task key) status X left mid now → EndsBy (journal_task task key) status X left before now
  titled-ends Done X left before mid now front ends =
      let close = (write_task task key).close (lines_of X) in
      record {
        ended = ends.ended;
        sound = ends.sound;
        short = ends.short;
        written =
            subst (Appends before now) (sym (append_assoc (ended_text (title ∷ [])) ((write_task task key).text (lines_of X)) close) ∙ ap (λ text. text ++ close) (titled (lines_of X)))
            (Appends-append front ends.written);
      }
  titled-ends (BadTranscript number reason) X left before mid now front ends = record {
    first = ends.first;
    taken = ends.taken;
    is_taken = ends.is_taken;
    few = ends.few;
    written = subst (Appends before now) (titled (lines_of X)) (Appends-append front ends.written);
  }
  titled-ends ReadFault X left before mid now front ends = record {
    lines = ends.lines;
    each = ends.each;
    sound = ends.sound;
    part = ends.part;
    unended = ends.unended;
    short = ends.short;
    taken = ends.taken;
    written = subst (Appends before now) (titled ends.lines) (Appends-append front ends.written);
  }
  titled-ends TooLong X left before mid now front ends = record {
    lines = ends.lines;
    each = ends.each;
    sound = ends.sound;
    part = ends.part;
    unended = ends.unended;
    short = ends.short;
    full = ends.full;
    more = ends.more;
    taken = ends.taken;
    written = subst (Appends before now) (titled ends.lines) (Appends-append front ends.written);
  }
  titled-ends WriteFault X left before mid now front (inl p) = inl (part-titled X left before mid now front p)
  titled-ends WriteFault X left before mid now front (inr p) =
      let close = (write_task task key).close (lines_of X) in
      inr (record {
        ended = p.ended;
        sound = p.sound;
        written =
            subst (AppendsPrefix before now) (sym (append_assoc (ended_text (title ∷ [])) ((write_task task key).text (lines_of X)) close) ∙ ap (λ text. text ++ close) (titled (lines_of X)))
            (AppendsPrefix-append front p.written);
      })
  titled-ends OutOfMemory X left before mid now front p = part-titled X left before mid now front p
  titled-ends Usage X left before mid now front ends = absurd ends
  titled-ends LinkFault X left before mid now front ends = absurd ends
  titled-ends (PeerRefused code) X left before mid now front ends = absurd ends
  titled-ends NoThread X left before mid now front ends = absurd ends
  titled-ends DatagramFault X left before mid now front ends = absurd ends
  titled-ends (LinkEnded cause) X left before mid now front ends = absurd ends
  titled-ends (BadConfig fault) X left before mid now front ends = absurd ends

  -- the title itself wasn't written whole
  pub untitled : (X : List ℕ) (left before now : Option (List ℕ)) → left ≡ Some X → AppendsPrefix before now (ended_text (title ∷ [])) → EndsBy (journal_task task key) WriteFault X left before now
  untitled X left before now told wrote = inl (record {
    lines = [];
    each = tt;
    sound = law.none;
    octets = [];
    are_lines = inl refl;
    more = [];
    taken = subst (λ l. Consumes l left []) told (Consumes-none left);
    written = wrote;
  })
