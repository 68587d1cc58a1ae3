-- A journal as what a command makes of its lines.
use Rattle.std.specs.Prelude.{◌≡◌, ℕ, List, None}
use Rattle.text_commands.specs.Tasks.{Task, ended_text}
use Rattle.journal.specs.Journal.{blocks_of, end_block, journal_part, last_seal, no_seal, sealed, sealed_block}
use Rattle.journal.specs.declared.writer.Writer.{Writer}

-- the journal of the lines
abbrev pub journal_task : Task → List ℕ → Task
journal_task task key = record {
  longest = task.longest;
  stop = task.stop;
  text = λ lines. ended_text (journal_part task key lines);
  close = λ lines. ended_text (sealed_block key (last_seal task key lines) (end_block task lines));
}

-- without its title
abbrev pub write_task : Task → List ℕ → Task
write_task task key = record {
  longest = task.longest;
  stop = task.stop;
  text = λ lines. ended_text (sealed key no_seal (blocks_of task lines));
  close = λ lines. ended_text (sealed_block key (last_seal task key lines) (end_block task lines));
}

module _ {W : Type 0} (task : W → Task) (took : W → List (List ℕ) → Type 0) where
  -- the blocks of these lines were written, none of which is bad
  pub record IsWriting (writer : Writer W) (lines : List (List ℕ)) : Type 0 where
    pub taken : took writer.work lines
    pub sound : (task writer.work).stop lines ≡ None
    pub seal : writer.seal ≡ last_seal (task writer.work) writer.key lines
