-- What the limits say of the names of a client.
use Rattle.std.proofs.Common.{◌≡◌, ◌≤◌, true, length, List, ℕ}
use Rattle.std.specs.Prelude.{IsTrue}
use Rattle.std.proofs.lemmas.Bool.{and_parts, leb-true}
use Rattle.agent_settings.specs.declared.client.Client.{Client}
use Rattle.agent_settings.specs.Config.{is_client_in_limits, is_name}

name_is_short : (xs : List ℕ) → is_name xs ≡ true → length xs ≤ 64
name_is_short xs e = leb-true _ _ (and_parts _ _ e).1

pub host_is_short : (client : Client) → IsTrue (is_client_in_limits client) → length client.origin_host ≤ 64
unfolding is_client_in_limits
host_is_short client within =
    let nas = and_parts _ _ within in
    let secret = and_parts _ _ nas.0 in
    let realm = and_parts _ _ secret.0 in
    let host = and_parts _ _ realm.0 in
    name_is_short _ host.1

pub realm_is_short : (client : Client) → IsTrue (is_client_in_limits client) → length client.origin_realm ≤ 64
unfolding is_client_in_limits
realm_is_short client within =
    let nas = and_parts _ _ within in
    let secret = and_parts _ _ nas.0 in
    let realm = and_parts _ _ secret.0 in
    name_is_short _ realm.1
