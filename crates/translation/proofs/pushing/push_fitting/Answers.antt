-- The value that is pushed is the vendor, the type, the length and the body.
use Rattle.std.proofs.Common.{◌≡◌, ◌++◌, [], ◌∷◌, List, ℕ, replicate, true, is_ok, refl, subst}
use Rattle.wire_core.specs.Numbers.{u32}
use Rattle.diameter_avp.specs.View.{avp_view}
use Rattle.translation.specs.Replies.{attribute}
use Rattle.translation.specs.Pushing.{Pushes}
use Rattle.translation.proofs.PushingLemmas.{vendor_written}
use Rattle.translation.proofs.pushing.push_fitting.Goals as goal

pub returns : goal.returns
returns c =
    let put : c.put_u32.new.octets ≡ u32 c.args.vendor ++ 0 ∷ 0 ∷ replicate 247 0 = c.put_u32.ensures in
    subst (λ (v : List ℕ). Pushes c.args.reply.now c.push.new.reply (is_ok c.push.result) true (attribute 26 v ∷ []))
    (vendor_written c.args.vendor _ _ (avp_view c.args.avp.now) c.put_u32.new.octets (replicate 247 0) c.copy_from_slice.new.self put c.copy_from_slice.ensures.after refl) c.push.ensures
