-- Settings without a fault are in limits.
use Rattle.std.proofs.Common.{◌≡◌, ℕ, ◌+◌, ◌≤◌, Bool, true, nat_le, le-leb, List, [], ◌∷◌, length, map, codes, Option, None, Some, unwrap_or, option_map, IfSome, Ok, Err, refl, sym, subst, ◌∙◌, inl, inr, arith}
use Rattle.std.specs.List.{list_all}
use Rattle.std.specs.Option.{option_and_then, option_map_or}
use Rattle.std.proofs.lemmas.Bool.{and_from, cases_Bool, leb-true}
use Rattle.std.proofs.lemmas.List.{length-map}
use Rattle.toml.specs.Data.{Data, Items, no_items, item, Members, as_str, as_integer, as_array, as_table, get_member}
use Rattle.agent_settings.specs.declared.config.Config.{Config}
use Rattle.agent_settings.specs.declared.fault.ConfigFault.{ConfigFault}
use Rattle.agent_settings.specs.declared.fault.ConfigFault.TheVariants.{NotToml, BadValue}
use Rattle.agent_settings.specs.Config.{are_settings_in_limits, is_between, is_client_in_limits, is_name, InLimits}
use Rattle.agent_config.specs.Values.{address_of, addresses_of, count, each, name_of, natural, number_of, passed, secret_of, tables_of}
use Rattle.agent_config.specs.Settings.{at, client_faults, client_of, client_tables, clients_faults, clients_of, config_of, config_unless, document, fault_unless, faults, first, needed, needed_in, or_first, realm_of, retention_of, settled, top_faults, top_of, SettingsAreInLimits}
use Rattle.agent_config.proofs.FaultLemmas.{first-append, first-parts}
use Rattle.agent_config.proofs.Twice.{distinct_unless_twice}

-- ---- what the reader of a value promises

-- each value that it gives has the property
abbrev Gives : {X : Type 0} → (Data → Option X) → (X → Type 0) → Type 0
Gives {X} reads P = (d : Data) → IfSome (reads d) P

if-passed : {X : Type 0} (test : X → Bool) (x : X) → IfSome (passed test x) (λ y. test y ≡ true)
if-passed test x =
    elim (cases_Bool (test x)) [
      | inl passes ↦ rw passes passes
      | inr stops ↦ rw stops tt
    ]

and_then-gives : {A X : Type 0} (P : X → Type 0) (f : A → Option X) → ((a : A) → IfSome (f a) P) → (o : Option A) → IfSome (option_and_then f o) P
and_then-gives P f all None = tt
and_then-gives P f all (Some a) = all a

name-gives : Gives name_of (λ x. is_name x ≡ true)
name-gives d = and_then-gives _ (passed is_name) (if-passed is_name) (as_str d)

secret-gives : Gives secret_of (λ x. is_between 1 128 (length x) ≡ true)
secret-gives d = and_then-gives _ (passed (λ x. is_between 1 128 (length x))) (if-passed (λ (x : List ℕ). is_between 1 128 (length x))) (as_str d)

number-gives : (low high : ℕ) → Gives (number_of low high) (λ n. is_between low high n ≡ true)
number-gives low high d = and_then-gives _ (passed (is_between low high)) (if-passed (is_between low high)) (option_and_then natural (as_integer d))

-- as many values as items
each-length : {X : Type 0} (reads : Data → Option X) (ds : Items) → IfSome (each reads ds) (λ xs. length xs ≡ count ds)
each-length reads no_items = refl
each-length {X} reads (item d ds) = by (reads d) (each reads ds) (each-length reads ds)
  where
    by : (o : Option X) (rest : Option (List X)) → IfSome rest (λ xs. length xs ≡ count ds)
        → IfSome (option_and_then (λ x. option_map (λ xs. x ∷ xs) rest) o) (λ xs. length xs ≡ count ds + 1)
    by None rest h = tt
    by (Some x) None h = tt
    by (Some x) (Some xs) h = omega (arith, h)

some-length : {X : Type 0} (limit n : ℕ) (o : Option (List X)) → n ≤ limit → IfSome o (λ xs. length xs ≡ n) → IfSome o (λ xs. length xs ≤ limit)
some-length limit n None few h = tt
some-length limit n (Some xs) few h = omega (arith, h)

array-gives : {X : Type 0} (limit : ℕ) (reads : Data → Option X) (o : Option Items)
    → IfSome (option_and_then (each reads) (option_and_then (passed (λ ds. nat_le (count ds) limit)) o)) (λ xs. length xs ≤ limit)
array-gives limit reads None = tt
array-gives limit reads (Some ds) =
    elim (cases_Bool (nat_le (count ds) limit)) [
      | inl few ↦ rw few (some-length limit (count ds) (each reads ds) (leb-true _ _ few) (each-length reads ds))
      | inr many ↦ rw many tt
    ]

addresses-gives : Gives addresses_of (λ xs. length xs ≤ 64)
addresses-gives d = array-gives 64 address_of (as_array d)

tables-gives : Gives tables_of (λ xs. length xs ≤ 1024)
tables-gives d = array-gives 1024 as_table (as_array d)

-- ---- the value of a key

-- a key that may be missing has what its reader promises, or the default
allowed-has : {X : Type 0} (P : X → Type 0) (reads : Data → Option X) (key : List ℕ) (t : Members) (default : X) → Gives reads P → P default
    → P (unwrap_or (at key reads t) default)
allowed-has P reads key t default gives fits = by (at key reads t) (and_then-gives P reads gives (get_member key t))
  where
    by : (o : Option _) → IfSome o P → P (unwrap_or o default)
    by None h = fits
    by (Some x) h = h

-- a key that has to be there, and shows no fault, has what its reader promises
needed-has : {X : Type 0} (P : X → Type 0) (reads : Data → Option X) (client : ℕ) (key : List ℕ) (t : Members) (default : X) → Gives reads P
    → needed client key reads t ≡ None → P (unwrap_or (at key reads t) default)
needed-has {X} P reads client key t default gives none = by (get_member key t) none
  where
    read : (o : Option X) → IfSome o P → fault_unless (BadValue client key) o ≡ None → P (unwrap_or o default)
    read None h e = cc
    read (Some x) h e = h

    by : (o : Option Data) → needed_in client key reads o ≡ None → P (unwrap_or (option_and_then reads o) default)
    by None e = cc
    by (Some d) e = read (reads d) (gives d) e

-- ---- lists without a fault

abbrev AreNone : List (Option ConfigFault) → Type 0
AreNone [] = Unit {0}
AreNone (fault ∷ later) = (fault ≡ None) × AreNone later

are-none : (faults : List (Option ConfigFault)) → first faults ≡ None → AreNone faults
are-none [] none = tt
are-none (None ∷ later) none = (refl, are-none later none)
are-none (Some e ∷ later) none = cc

or-none : (fault later : Option ConfigFault) → or_first fault later ≡ None → (fault ≡ None) × (later ≡ None)
or-none None later none = (refl, none)
or-none (Some e) later none = cc

-- ---- the limits

abbrev IsName : List ℕ → Type 0
IsName x = is_name x ≡ true

abbrev IsSecret : List ℕ → Type 0
IsSecret x = is_between 1 128 (length x) ≡ true

client-limits : (client : ℕ) (t : Members) → first (client_faults client t) ≡ None → is_client_in_limits (client_of t) ≡ true
unfolding client_faults client_of is_client_in_limits
client-limits client t none =
    let n = are-none (client_faults client t) none in
    let name = needed-has IsName name_of client (codes "name") t [] name-gives n.0 in
    let secret = needed-has IsSecret secret_of client (codes "secret") t [] secret-gives n.1.1.0 in
    let host = needed-has IsName name_of client (codes "origin_host") t [] name-gives n.1.1.1.0 in
    let realm = needed-has IsName name_of client (codes "origin_realm") t [] name-gives n.1.1.1.1.0 in
    let nas = allowed-has (λ (xs : List ℕ). length xs ≤ 64) addresses_of (codes "nas_addresses") t [] addresses-gives (omega arith) in
    and_from _ _ (and_from _ _ (and_from _ _ (and_from _ _ name host) realm) secret) (le-leb _ _ nas)

clients-limits : (client : ℕ) (ts : List Members) → first (clients_faults client ts) ≡ None → list_all is_client_in_limits (map client_of ts) ≡ true
clients-limits client [] none = refl
clients-limits client (t ∷ ts) none =
    let p = or-none (first (client_faults client t)) _ (sym (first-append (client_faults client t) (clients_faults (client + 1) ts)) ∙ none) in
    and_from _ _ (client-limits client t p.0) (clients-limits (client + 1) ts p.1)

top-limits : (t : Members) → first (top_faults t) ≡ None → are_settings_in_limits (config_of t) ≡ true
unfolding top_faults top_of are_settings_in_limits
top-limits t none =
    let n = are-none (top_faults t) none in
    let host = needed-has IsName name_of 0 (codes "host") t [] name-gives n.0 in
    let realm = needed-has IsName name_of 0 (codes "realm") t [] name-gives n.1.0 in
    let home = allowed-has IsName name_of (codes "home_realm") t (realm_of t) name-gives realm in
    let in_range = λ (key : List ℕ) (low high default : ℕ) (fits : is_between low high default ≡ true).
    allowed-has (λ n. is_between low high n ≡ true) (number_of low high) key t default (number-gives low high) fits in
    let retention = in_range (codes "retention_ms") 1000 300000 30000 refl in
    let patience = in_range (codes "patience_ms") 1000 300000 (retention_of t) retention in
    let capacity = in_range (codes "capacity") 1 65536 4096 refl in
    let backlog = in_range (codes "backlog") 2 65536 4096 refl in
    let watchdog = in_range (codes "watchdog_ms") 6000 600000 30000 refl in
    and_from _ _ (and_from _ _ (and_from _ _ (and_from _ _ (and_from _ _ (and_from _ _ (and_from _ _ host realm) home) retention) patience) capacity) backlog) watchdog

config-limits : (t : Members) → first (faults t) ≡ None → InLimits (config_of t)
config-limits t none =
    let p = or-none (first (top_faults t)) _ (sym (first-parts t) ∙ none) in
    let q = or-none (first (clients_faults 1 (client_tables t))) _ p.1 in
    let few = allowed-has (λ (ts : List Members). length ts ≤ 1024) tables_of (codes "clients") t [] tables-gives (omega arith) in
    record {
      settings = top-limits t p.0;
      few = rw (length-map (client_tables t) client_of) few;
      clients = clients-limits 1 (client_tables t) q.0;
      distinct = distinct_unless_twice (clients_of t) q.1;
    }

settled-limits : (t : Members) (config : Config) → settled t ≡ Ok config → InLimits config
settled-limits t config is = by (first (faults t)) refl is
  where
    by : (o : Option ConfigFault) → first (faults t) ≡ o → config_unless o (config_of t) ≡ Ok config → InLimits config
    by None none is =
        let same : config_of t ≡ config = cc in
        subst InLimits same (config-limits t none)
    by (Some e) none is = cc

pub settings_are_in_limits : SettingsAreInLimits
settings_are_in_limits text config is = by (document text) is
  where
    by : (o : Option Members) → option_map_or settled o (Err NotToml) ≡ Ok config → InLimits config
    by None is = cc
    by (Some t) is = settled-limits t config is
