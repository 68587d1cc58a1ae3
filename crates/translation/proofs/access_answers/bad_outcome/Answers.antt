-- Its reply has the Proxy-States alone.
use Rattle.std.proofs.Common.{refl}
use Rattle.translation.specs.AvpList.{list_view}
use Rattle.translation.proofs.Classes.{bad_reply}
use Rattle.translation.proofs.access_answers.bad_outcome.Goals as goal

pub returns : goal.returns
returns c =
    rw (c.in_ok-reply.ensures, c.in_ok-follow.ensures, bad_reply c.args.service c.args.client.now c.args.kept.now (list_view c.args.list.now)) refl
