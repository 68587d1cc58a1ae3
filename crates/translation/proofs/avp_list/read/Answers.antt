-- The loop comes to the fault or to the whole list.
use Rattle.std.proofs.Common.{◌≡◌, ◌++◌, None, Some, [], refl, rules}
use Rattle.std.proofs.lemmas.List.{append-nil}
use Rattle.diameter_avp.specs.Avps.{avps_fault, readable_avps}
use Rattle.diameter_avp.proofs.CallerLemmas.{read_avps-none, read_avps-some}
use Rattle.translation.specs.AvpList.{list_view}
use Rattle.translation.proofs.avp_list.read.Goals as goal

pub returns-in_default : goal.returns-in_default
returns-in_default c =
    let some : avps_fault c.args.octets.now ≡ Some c.in_default.field-0 = search rules in
    rw (read_avps-some c.args.octets.now c.in_default.field-0 some) refl

pub returns : goal.returns
returns c =
    let none : avps_fault c.args.octets.now ≡ None = search rules in
    let all : list_view c.loop-item.list.items ++ [] ≡ readable_avps c.args.octets.now = search rules in
    rw (read_avps-none c.args.octets.now none, ← all, append-nil (list_view c.loop-item.list.items)) refl
