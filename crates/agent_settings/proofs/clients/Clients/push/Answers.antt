use Rattle.std.proofs.Common.{◌≡◌, None, nat_eq}
use Rattle.indexmap.specs.IndexMap.{get, values}
use Rattle.indexmap.proofs.CallerLemmas.{insert_entry-new}
use Rattle.agent_settings.specs.Config.{find_address}
use Rattle.agent_settings.proofs.Keyed.{absent_key, IsKeyed-push, values_of-push}
use Rattle.agent_settings.proofs.clients.Clients.push.Goals as goal

pub invariant_of-self-2 : goal.invariant_of-self-2
invariant_of-self-2 c =
    let old = c.self.inside.clients in
    let none : find_address c.args.client.address (values old) ≡ None = rw c.self.view_is c.requires in
    let new : get nat_eq old c.args.client.address ≡ None = absent_key c.args.client.address old.entries c.self.invariant none in
    rw (c.in_ok-insert.ensures.entries, insert_entry-new nat_eq old c.args.client.address c.args.client new)
    (IsKeyed-push old.entries c.args.client c.self.invariant)

pub returns-clause-ok : goal.returns-clause-ok
returns-clause-ok c =
    let old = c.self.inside.clients in
    let none : find_address c.args.client.address (values old) ≡ None = rw c.self.view_is c.requires in
    let new : get nat_eq old c.args.client.address ≡ None = absent_key c.args.client.address old.entries c.self.invariant none in
    rw (c.in_ok-insert.ensures.entries, insert_entry-new nat_eq old c.args.client.address c.args.client new, ← c.self.view_is)
    (values_of-push old.entries c.args.client.address c.args.client)
