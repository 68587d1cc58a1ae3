-- The cases before and behind the writing are all cases.
use Rattle.std.proofs.Common.{◌≡◌, IfOk, sym, subst, ◌∙◌}
use Rattle.translation.specs.AvpList.{list_view}
use Rattle.translation.proofs.Classes.{first_sound, first_bad}
use Rattle.translation.proofs.access_answers.sound_reply.Goals as goal

pub returns-in-Bad : goal.returns-in-Bad
returns-in-Bad c =
    first_bad c.args.service c.args.client.now c.args.kept.now c.args.header.now (list_view c.args.list.now) (sym c.in-Bad.ensures)

pub returns-in_default : goal.returns-in_default
returns-in_default c =
    let sound = first_sound c.args.service c.args.client.now c.args.kept.now c.args.header.now (list_view c.args.list.now) (λ bad. c.in_default.not-Bad (c.first_class.ensures ∙ bad)) in
    subst (λ reply. IfOk c.reply.result (λ o. o ≡ reply)) (rw (c.first_class.ensures, c.is_error-strict.ensures) sound) c.reply.ensures
