use Rattle.std.proofs.Common.{ℕ, List, [], ◌∷◌, true, is_ok, subst, ◌∙◌}
use Rattle.wire_core.proofs.NumberLemmas.{to_be_bytes-32}
use Rattle.translation.specs.Replies.{attribute}
use Rattle.translation.specs.Pushing.{Pushes}
use Rattle.reverse_map.proofs.accounting.push_number.Goals as goal

pub returns : goal.returns
returns c =
    subst (λ (v : List ℕ). Pushes c.args.request.now c.push.new.reply (is_ok c.push.result) true (attribute c.args.code v ∷ []))
    (c.to_be_bytes.ensures ∙ to_be_bytes-32 c.args.value) c.push.ensures
