-- Clients by address and by place, and the limits, for the crates above.
use Rattle.std.proofs.Common.{◌≡◌, ◌≢◌, ℕ, zero, suc, ◌+◌, ◌≤◌, ◌<◌, true, not, cond, eqb, nat_le, inl, inr, List, [], ◌∷◌, ◌++◌, length, get_or, drop, Option, None, Some, unwrap_or, IsTrue, refl, sym, ap, subst, ◌∙◌, arith, length-append}
use Rattle.std.specs.List.{list_all, list_any, enumerate_from, find, slice_get}
use Rattle.std.proofs.lemmas.Bool.{and_from, and_parts, cases_Bool, eq-eqb, ne_eqb, eqb-true, leb-true}
use Rattle.std.proofs.lemmas.Bool.Decides.{nat_tests}
use Rattle.std.proofs.lemmas.List.{at_drop_more}
use Rattle.std.proofs.lemmas.List.Folds.{list_all-append, list_any-append}
use Rattle.wire_core.specs.Words.{is_identity}
use Rattle.agent_settings.specs.declared.client.Client.{Client}
use Rattle.agent_settings.specs.declared.config.Config.{Config}
use Rattle.agent_settings.specs.Config.{is_client_in_limits, are_addresses_distinct, are_settings_in_limits, is_between, is_name, ClientInLimits, InLimits, ClientKeepsLimits, ClientsAreInLimits, FoundStandsAtPlace}

-- `find_address` over clients whose first one stands at a place
abbrev pub find_from : ℕ → ℕ → List Client → Option (ℕ × Client)
find_from address place clients = find (λ p. eqb p.1.address address) (enumerate_from place clients)

-- the search, one client on
find_from-at : (address i : ℕ) (cs : List Client) (c : Client) → i < length cs → c ≡ get_or cs i c → find_from address i (drop i cs) ≡ cond (eqb c.address address) (Some (i, c)) (find_from address (i + 1) (drop (i + 1) cs))
find_from-at address i cs c within is =
    at_drop_more (find_from address i) cs i c within ∙ ap (λ d. find_from address i (d ∷ drop (i + 1) cs)) (sym is)

pub find_from-found : (address i : ℕ) (cs : List Client) (c : Client) → i < length cs → c ≡ get_or cs i c → c.address ≡ address → find_from address i (drop i cs) ≡ Some (i, c)
find_from-found address i cs c within is same =
    rw (find_from-at address i cs c within is, eq-eqb c.address address same) refl

pub find_from-passed : (address i : ℕ) (cs : List Client) (c : Client) → i < length cs → c ≡ get_or cs i c → c.address ≢ address → find_from address i (drop i cs) ≡ find_from address (i + 1) (drop (i + 1) cs)
find_from-passed address i cs c within is other =
    rw (find_from-at address i cs c within is, ne_eqb c.address address other) refl

-- where a search that began at the place `first` ended
record Found (clients : List Client) (address first place : ℕ) (client : Client) : Type 0 where
  steps : ℕ
  place_is : place ≡ first + steps
  stands : slice_get clients steps ≡ Some client
  same : client.address ≡ address

found : (address first place : ℕ) (clients : List Client) (client : Client) → find_from address first clients ≡ Some (place, client) → Found clients address first place client
found address first place [] client h = cc
found address first place (c ∷ cs) client h =
    elim (cases_Bool (eqb c.address address)) [
      | inl same ↦ (let here : ◌≡◌ {A = Option (ℕ × Client)} (Some (first, c)) (Some (place, client)) = rw same at h in
          let pair = ap (λ (o : Option (ℕ × Client)). unwrap_or o (first, c)) here in
          let place_is : first ≡ place = ap (λ (p : ℕ × Client). p.0) pair in
          let client_is : c ≡ client = ap (λ (p : ℕ × Client). p.1) pair in
          record {
            steps = 0;
            place_is = omega arith;
            stands = ap Some client_is;
            same = subst (λ (x : Client). x.address ≡ address) client_is (eqb-true c.address address same);
          })
      | inr other ↦ (let rest = found address (first + 1) place cs client (rw other at h) in
          record { steps = suc rest.steps; place_is = omega arith; stands = rest.stands; same = rest.same })
    ]

pub found_stands_at_place : FoundStandsAtPlace
found_stands_at_place clients address place client h =
    let f = found address 0 place clients client h in
    let steps_are : f.steps ≡ place = omega arith in
    (f.same, subst (λ k. slice_get clients k ≡ Some client) steps_are f.stands)

in_limits-at : (clients : List Client) (place : ℕ) (client : Client) → list_all is_client_in_limits clients ≡ true → slice_get clients place ≡ Some client → ClientInLimits client
in_limits-at [] place client all h = cc
in_limits-at (c ∷ cs) zero client all h =
    let same : c ≡ client = cc in
    subst ClientInLimits same (and_parts (is_client_in_limits c) (list_all is_client_in_limits cs) all).0
in_limits-at (c ∷ cs) (suc place) client all h =
    in_limits-at cs place client (and_parts (is_client_in_limits c) (list_all is_client_in_limits cs) all).1 h

pub clients_are_in_limits : ClientsAreInLimits
clients_are_in_limits config place client within h = in_limits-at config.clients place client within.clients h

pub distinct-push : (first : ℕ) (clients : List Client) (client : Client) → are_addresses_distinct clients ≡ true → find_from client.address first clients ≡ None → are_addresses_distinct (clients ++ client ∷ []) ≡ true
distinct-push first [] client distinct new = refl
distinct-push first (c ∷ cs) client distinct new =
    elim (cases_Bool (eqb c.address client.address)) [
      | inl same ↦ (let here : ◌≡◌ {A = Option (ℕ × Client)} (Some (first, c)) None = rw same at new in cc)
      | inr other ↦ (let p = and_parts (not (list_any (λ d. eqb d.address c.address) cs)) (are_addresses_distinct cs) distinct in
          and_from _ _
          (rw (list_any-append (λ (d : Client). eqb d.address c.address) cs (client ∷ [])) (grind (arith, nat_tests)))
          (distinct-push (first + 1) cs client p.1 (rw other at new)))
    ]

pub client_keeps_limits : ClientKeepsLimits
unfolding are_settings_in_limits
client_keeps_limits config client within own few new =
    record {
      settings = within.settings;
      few = simp length-append (omega arith);
      clients = rw (list_all-append is_client_in_limits config.clients (client ∷ [])) (and_from _ _ within.clients (and_from _ _ own refl));
      distinct = distinct-push 0 config.clients client within.distinct new;
    }

-- settings in limits that have no clients yet
pub in_limits-new : (config : Config) → IsTrue (are_settings_in_limits config) → config.clients ≡ [] → InLimits config
in_limits-new config settings none =
    record {
      settings = settings;
      few = rw none (omega arith);
      clients = rw none refl;
      distinct = rw none refl;
    }

pub between : (low high n : ℕ) → is_between low high n ≡ true → (low ≤ n) × (n ≤ high)
between low high n h =
    let p = and_parts (nat_le low n) (nat_le n high) h in
    (leb-true _ _ p.0, leb-true _ _ p.1)

-- what the test of the settings says
pub record SettingsFacts (c : Config) : Type 0 where
  pub host : IsTrue (is_name c.host)
  pub realm : IsTrue (is_name c.realm)
  pub home_realm : IsTrue (is_name c.home_realm)
  pub retention_low : 1000 ≤ c.retention
  pub retention_high : c.retention ≤ 300000
  pub patience_low : 1000 ≤ c.patience
  pub patience_high : c.patience ≤ 300000
  pub capacity_low : 1 ≤ c.capacity
  pub capacity_high : c.capacity ≤ 65536
  pub backlog_low : 2 ≤ c.backlog
  pub backlog_high : c.backlog ≤ 65536
  pub watchdog_low : 6000 ≤ c.watchdog
  pub watchdog_high : c.watchdog ≤ 600000

pub settings_facts : (c : Config) → IsTrue (are_settings_in_limits c) → SettingsFacts c
unfolding are_settings_in_limits
settings_facts c h =
    let a = and_parts _ (is_between 6000 600000 c.watchdog) h in
    let b = and_parts _ (is_between 2 65536 c.backlog) a.0 in
    let d = and_parts _ (is_between 1 65536 c.capacity) b.0 in
    let i = and_parts _ (is_between 1000 300000 c.patience) d.0 in
    let e = and_parts _ (is_between 1000 300000 c.retention) i.0 in
    let f = and_parts _ (is_name c.home_realm) e.0 in
    let g = and_parts (is_name c.host) (is_name c.realm) f.0 in
    let retention = between 1000 300000 c.retention e.1 in
    let patience = between 1000 300000 c.patience i.1 in
    let capacity = between 1 65536 c.capacity d.1 in
    let backlog = between 2 65536 c.backlog b.1 in
    let watchdog = between 6000 600000 c.watchdog a.1 in
    record {
      host = g.0;
      realm = g.1;
      home_realm = f.1;
      retention_low = retention.0;
      retention_high = retention.1;
      patience_low = patience.0;
      patience_high = patience.1;
      capacity_low = capacity.0;
      capacity_high = capacity.1;
      backlog_low = backlog.0;
      backlog_high = backlog.1;
      watchdog_low = watchdog.0;
      watchdog_high = watchdog.1;
    }

-- what the test of a client says
pub record ClientFacts (c : Client) : Type 0 where
  pub name : IsTrue (is_name c.name)
  pub origin_host : IsTrue (is_name c.origin_host)
  pub origin_realm : IsTrue (is_name c.origin_realm)
  pub secret_low : 1 ≤ length c.secret
  pub secret_high : length c.secret ≤ 128
  pub nas_high : length c.nas ≤ 64

pub client_facts : (c : Client) → ClientInLimits c → ClientFacts c
unfolding is_client_in_limits
client_facts c h =
    let a = and_parts _ (nat_le (length c.nas) 64) h in
    let b = and_parts _ (is_between 1 128 (length c.secret)) a.0 in
    let d = and_parts _ (is_name c.origin_realm) b.0 in
    let e = and_parts (is_name c.name) (is_name c.origin_host) d.0 in
    let secret = between 1 128 (length c.secret) b.1 in
    record {
      name = e.0;
      origin_host = e.1;
      origin_realm = d.1;
      secret_low = secret.0;
      secret_high = secret.1;
      nas_high = leb-true _ _ a.1;
    }

-- a name of the settings is an identity
pub is_identity-name : (xs : List ℕ) → IsTrue (is_name xs) → IsTrue (is_identity xs)
is_identity-name xs h = (and_parts (is_identity xs) (nat_le (length xs) 64) h).0
