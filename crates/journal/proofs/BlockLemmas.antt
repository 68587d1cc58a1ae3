-- Blocks and seals of lines, one after another.
use Rattle.std.proofs.Common.{◌≡◌, ℕ, List, [], ◌∷◌, ◌++◌, length, drop, Option, Some, None, refl, sym, ap, ◌∙◌, append_assoc}
use Rattle.std.proofs.lemmas.List.{append-nil}
use Rattle.std.proofs.lemmas.Grind.{flat_map-append}
use Rattle.text_lines.specs.Stops.{Bad}
use Rattle.text_commands.specs.Tasks.{Adds, IsTask, Task, ended_text}
use Rattle.journal.specs.Journal.{added, block_of, blocks_from, blocks_on, given_lines, said_line, seal_after, seal_of, sealed, sealed_block}

pub ended-append : (xs ys : List (List ℕ)) → ended_text (xs ++ ys) ≡ ended_text xs ++ ended_text ys
ended-append xs ys = flat_map-append (λ line. line ++ 10 ∷ []) xs ys

-- ---- seals

pub sealed-push : (key before : List ℕ) (blocks : List (List (List ℕ))) (block : List (List ℕ))
    → sealed key before (blocks ++ block ∷ []) ≡ sealed key before blocks ++ sealed_block key (seal_after key before blocks) block
sealed-push key before [] block = append-nil (sealed_block key before block)
sealed-push key before (b ∷ blocks) block =
    ap (λ r. sealed_block key before b ++ r) (sealed-push key (seal_of key before b) blocks block)
    ∙ sym (append_assoc (sealed_block key before b) (sealed key (seal_of key before b) blocks) (sealed_block key (seal_after key (seal_of key before b) blocks) block))

pub seal_after-push : (key before : List ℕ) (blocks : List (List (List ℕ))) (block : List (List ℕ))
    → seal_after key before (blocks ++ block ∷ []) ≡ seal_of key (seal_after key before blocks) block
seal_after-push key before [] block = refl
seal_after-push key before (b ∷ blocks) block = seal_after-push key (seal_of key before b) blocks block

-- ---- what a line adds

pub drop-front : (xs ys : List ℕ) → drop (length xs) (xs ++ ys) ≡ ys
drop-front [] ys = refl
drop-front (x ∷ xs) ys = drop-front xs ys

pub added-is : (task : Task) (lines : List (List ℕ)) (line text : List ℕ) → Adds task lines line text → added task lines line ≡ text
added-is task lines line text adds = ap (drop (length (task.text lines))) adds.text ∙ drop-front (task.text lines) text

pub block-is : (task : Task) (lines : List (List ℕ)) (line text : List ℕ) → Adds task lines line text
    → said_line line ∷ given_lines text ≡ block_of task lines line
block-is task lines line text adds = ap (λ t. said_line line ∷ given_lines t) (sym (added-is task lines line text adds))

-- ---- blocks

module _ (task : Task) (law : IsTask task) where
  -- of lines without a bad one the first have none
  pub sound-front : (xs ys : List (List ℕ)) → task.stop (xs ++ ys) ≡ None → task.stop xs ≡ None
  sound-front xs ys sound = by (task.stop xs) refl
    where
      by : (o : Option Bad) → task.stop xs ≡ o → task.stop xs ≡ None
      by None e = e
      by (Some bad) e = cc (law.stop xs ys bad e, sound)

  pub one-more : (before : List (List ℕ)) (x : List ℕ) (ys : List (List ℕ)) → (before ++ x ∷ []) ++ ys ≡ before ++ x ∷ ys
  one-more before x ys = append_assoc before (x ∷ []) ys

  pub sound-one : (before : List (List ℕ)) (x : List ℕ) (ys : List (List ℕ)) → task.stop (before ++ x ∷ ys) ≡ None → task.stop (before ++ x ∷ []) ≡ None
  sound-one before x ys sound = sound-front (before ++ x ∷ []) ys (ap task.stop (one-more before x ys) ∙ sound)

  pub first-block : (before : List (List ℕ)) (x : List ℕ) (ys : List (List ℕ)) → task.stop (before ++ x ∷ []) ≡ None
      → blocks_from task before (x ∷ ys) ≡ block_of task before x ∷ blocks_from task (before ++ x ∷ []) ys
  first-block before x ys sound = ap (λ stop. blocks_on stop (block_of task before x) (blocks_from task (before ++ x ∷ []) ys)) sound

  blocks-push-from : (before lines : List (List ℕ)) (line : List ℕ) → task.stop (before ++ (lines ++ line ∷ [])) ≡ None
      → blocks_from task before (lines ++ line ∷ []) ≡ blocks_from task before lines ++ block_of task (before ++ lines) line ∷ []
  blocks-push-from before [] line sound = first-block before line [] sound ∙ ap (λ b. block_of task b line ∷ []) (sym (append-nil before))
  blocks-push-from before (x ∷ lines) line sound =
      let first = sound-one before x (lines ++ line ∷ []) sound in
      let others =
      blocks-push-from (before ++ x ∷ []) lines line (ap task.stop (one-more before x (lines ++ line ∷ [])) ∙ sound)
      ∙ ap (λ b. blocks_from task (before ++ x ∷ []) lines ++ block_of task b line ∷ []) (one-more before x lines) in
      first-block before x (lines ++ line ∷ []) first ∙ ap (λ r. block_of task before x ∷ r) others
      ∙ ap (λ r. r ++ block_of task (before ++ x ∷ lines) line ∷ []) (sym (first-block before x lines first))

  -- a line that isn't bad adds its block
  pub blocks-push : (lines : List (List ℕ)) (line : List ℕ) → task.stop (lines ++ line ∷ []) ≡ None
      → blocks_from task [] (lines ++ line ∷ []) ≡ blocks_from task [] lines ++ block_of task lines line ∷ []
  blocks-push lines line sound = blocks-push-from [] lines line sound

  blocks-bad-from : (before lines : List (List ℕ)) (line : List ℕ) (bad : Bad) → task.stop (before ++ lines) ≡ None
      → task.stop (before ++ (lines ++ line ∷ [])) ≡ Some bad → blocks_from task before (lines ++ line ∷ []) ≡ blocks_from task before lines
  blocks-bad-from before [] line bad sound stop = ap (λ stop. blocks_on stop (block_of task before line) []) stop
  blocks-bad-from before (x ∷ lines) line bad sound stop =
      let first = sound-one before x lines sound in
      let others =
      blocks-bad-from (before ++ x ∷ []) lines line bad (ap task.stop (one-more before x lines) ∙ sound)
      (ap task.stop (one-more before x (lines ++ line ∷ [])) ∙ stop) in
      first-block before x (lines ++ line ∷ []) first ∙ ap (λ r. block_of task before x ∷ r) others ∙ sym (first-block before x lines first)

  -- a bad one adds none
  pub blocks-bad : (lines : List (List ℕ)) (line : List ℕ) (bad : Bad) → task.stop lines ≡ None → task.stop (lines ++ line ∷ []) ≡ Some bad
      → blocks_from task [] (lines ++ line ∷ []) ≡ blocks_from task [] lines
  blocks-bad lines line bad sound stop = blocks-bad-from [] lines line bad sound stop

  blocks-over-from : (before lines more : List (List ℕ)) (bad : Bad) → task.stop before ≡ None → task.stop (before ++ lines) ≡ Some bad
      → blocks_from task before (lines ++ more) ≡ blocks_from task before lines
  blocks-over-from before [] more bad sound stop = cc (ap task.stop (append-nil before) ∙ sound, stop)
  blocks-over-from before (x ∷ lines) more bad sound stop =
      by (task.stop (before ++ x ∷ [])) refl (λ e. blocks-over-from (before ++ x ∷ []) lines more bad e (ap task.stop (one-more before x lines) ∙ stop))
    where
      by : (o : Option Bad) → task.stop (before ++ x ∷ []) ≡ o
          → (task.stop (before ++ x ∷ []) ≡ None → blocks_from task (before ++ x ∷ []) (lines ++ more) ≡ blocks_from task (before ++ x ∷ []) lines)
          → blocks_from task before (x ∷ lines ++ more) ≡ blocks_from task before (x ∷ lines)
      by (Some other) e others =
          ap (λ stop. blocks_on stop (block_of task before x) (blocks_from task (before ++ x ∷ []) (lines ++ more))) e
          ∙ sym (ap (λ stop. blocks_on stop (block_of task before x) (blocks_from task (before ++ x ∷ []) lines)) e)
      by None e others =
          first-block before x (lines ++ more) e ∙ ap (λ r. block_of task before x ∷ r) (others e) ∙ sym (first-block before x lines e)

  -- nor does any line behind it
  pub blocks-over : (lines more : List (List ℕ)) (bad : Bad) → task.stop lines ≡ Some bad → blocks_from task [] (lines ++ more) ≡ blocks_from task [] lines
  blocks-over lines more bad stop = blocks-over-from [] lines more bad law.none stop
