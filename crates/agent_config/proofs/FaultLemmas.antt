-- The first fault of a list, fault by fault.
use Rattle.std.proofs.Common.{◌≡◌, ℕ, ◌+◌, ◌<◌, Bool, true, false, cond, List, [], ◌∷◌, ◌++◌, codes, length, get_or, drop, Option, None, Some, is_some, IsSome, option_map, unwrap_or, Ok, Err, true≢false, refl, sym, ap, ◌∙◌}
use Rattle.std.specs.Option.{option_and_then, option_map_or}
use Rattle.std.specs.Str.{IsUtf8, is_utf8}
use Rattle.std.proofs.lemmas.Str.{IsUtf8-from_is_utf8, is_utf8-from_IsUtf8}
use Rattle.toml.specs.Parse.{parse_document}
use Rattle.toml.specs.Data.{Members, as_table}
use Rattle.toml.specs.View.{view, items_view}
use Rattle.toml.specs.declared.value.Value.{Value}
use Rattle.agent_settings.specs.declared.fault.ConfigFault.{ConfigFault}
use Rattle.agent_settings.specs.declared.fault.ConfigFault.TheVariants.{NotToml}
use Rattle.agent_config.specs.Twice.{twice}
use Rattle.agent_config.specs.Values.{each, tables_of}
use Rattle.agent_config.specs.Settings.{client_faults, client_keys, client_tables, clients_faults, clients_of, config_of, config_unless, document, faults, first, identity_faults, name_faults, needed, number_faults, or_first, origin_faults, rule_faults, settings_in, settled, tables_in, top_faults, top_keys, unknown}
use Rattle.agent_config.proofs.ValueLemmas.{each_next}

pub first_passed : (fault : Option ConfigFault) (faults : List (Option ConfigFault)) → fault ≡ None → first (fault ∷ faults) ≡ first faults
first_passed fault faults none = rw none refl

pub first_stops : (fault : Option ConfigFault) (faults : List (Option ConfigFault)) (e : ConfigFault) → fault ≡ Some e → first (fault ∷ faults) ≡ Some e
first_stops fault faults e some = rw some refl

-- a list's first fault is that of its front, or else that of the rest
pub first-append : (front rest : List (Option ConfigFault)) → first (front ++ rest) ≡ or_first (first front) (first rest)
first-append [] rest = refl
first-append (None ∷ front) rest = first-append front rest
first-append (Some e ∷ front) rest = refl

-- what has no fault is passed, and the first fault stands before what comes after it
pub front_passed : (front rest : List (Option ConfigFault)) → first front ≡ None → first (front ++ rest) ≡ first rest
front_passed front rest none = first-append front rest ∙ rw none refl

pub front_stops : (front rest : List (Option ConfigFault)) (e : ConfigFault) → first front ≡ Some e → first (front ++ rest) ≡ Some e
front_stops front rest e some = first-append front rest ∙ rw some refl

-- the parts of a client's faults, each behind those that have none
module _ (client : ℕ) (t : Members) (e : ConfigFault) (identity : first (identity_faults client t) ≡ None)
    (origin : first (origin_faults client t) ≡ None) where
  behind-origin : first (client_faults client t) ≡ first (rule_faults client t ++ unknown client client_keys t ∷ [])
  unfolding client_faults
  behind-origin =
      let rest = rule_faults client t ++ unknown client client_keys t ∷ [] in
      front_passed (identity_faults client t) (origin_faults client t ++ rest) identity
      ∙ front_passed (origin_faults client t) rest origin

  pub rules-stop : first (rule_faults client t) ≡ Some e → first (client_faults client t) ≡ Some e
  rules-stop some = behind-origin ∙ front_stops (rule_faults client t) (unknown client client_keys t ∷ []) e some

  pub other-key-stops : first (rule_faults client t) ≡ None → unknown client client_keys t ≡ Some e → first (client_faults client t) ≡ Some e
  other-key-stops rules some =
      behind-origin ∙ front_passed (rule_faults client t) (unknown client client_keys t ∷ []) rules
      ∙ first_stops (unknown client client_keys t) [] e some

-- the parts of the top table's faults, likewise
module _ (t : Members) (e : ConfigFault) (names : first (name_faults t) ≡ None) where
  abbrev keys-left : List (Option ConfigFault)
  keys-left = needed 0 (codes "clients") tables_of t ∷ unknown 0 top_keys t ∷ []

  behind-names : first (top_faults t) ≡ first (number_faults t ++ keys-left)
  unfolding top_faults
  behind-names = front_passed (name_faults t) (number_faults t ++ keys-left) names

  pub numbers-stop : first (number_faults t) ≡ Some e → first (top_faults t) ≡ Some e
  numbers-stop some = behind-names ∙ front_stops (number_faults t) keys-left e some

  module _ (numbers : first (number_faults t) ≡ None) where
    pub clients-stop-top : needed 0 (codes "clients") tables_of t ≡ Some e → first (top_faults t) ≡ Some e
    clients-stop-top some =
        behind-names ∙ front_passed (number_faults t) keys-left numbers
        ∙ first_stops (needed 0 (codes "clients") tables_of t) (unknown 0 top_keys t ∷ []) e some

    pub other-key-stops-top : needed 0 (codes "clients") tables_of t ≡ None → unknown 0 top_keys t ≡ Some e → first (top_faults t) ≡ Some e
    other-key-stops-top clients some =
        behind-names ∙ front_passed (number_faults t) keys-left numbers
        ∙ first_passed (needed 0 (codes "clients") tables_of t) (unknown 0 top_keys t ∷ []) clients
        ∙ first_stops (unknown 0 top_keys t) [] e some

-- ---- the tables of an array, one by one

-- the table at a place, where all that is left are tables
pub tables-next : (vs : List Value) (i : ℕ) (v : Value) (t : Members) → i < length vs → v ≡ get_or vs i v → as_table (view v) ≡ Some t
    → IsSome (each as_table (items_view (drop i vs)))
    → IsSome (each as_table (items_view (drop (i + 1) vs)))
    × (tables_in (items_view (drop i vs)) ≡ t ∷ tables_in (items_view (drop (i + 1) vs)))
tables-next vs i v t within is some all =
    by (each as_table (items_view (drop (i + 1) vs))) refl
  where
    next : each as_table (items_view (drop i vs)) ≡ option_map (λ ts. t ∷ ts) (each as_table (items_view (drop (i + 1) vs)))
    next = each_next as_table vs i v within is ∙ ap (option_and_then (λ u. option_map (λ us. u ∷ us) (each as_table (items_view (drop (i + 1) vs))))) some

    by : (o : Option (List Members)) → each as_table (items_view (drop (i + 1) vs)) ≡ o
        → IsSome (each as_table (items_view (drop (i + 1) vs)))
        × (tables_in (items_view (drop i vs)) ≡ t ∷ tables_in (items_view (drop (i + 1) vs)))
    by None e =
        let none : each as_table (items_view (drop i vs)) ≡ None = next ∙ ap (option_map (λ ts. t ∷ ts)) e in
        absurd (true≢false (sym all ∙ ap is_some none))
    by (Some ts) e = (ap is_some e, ap (λ o. unwrap_or o []) (next ∙ ap (option_map (λ ts. t ∷ ts)) e) ∙ ap (λ us. t ∷ us) (sym (ap (λ o. unwrap_or o []) e)))

-- a client without a fault is passed
pub clients-passed : (client : ℕ) (t : Members) (ts : List Members) → first (client_faults client t) ≡ None
    → first (clients_faults client (t ∷ ts)) ≡ first (clients_faults (client + 1) ts)
clients-passed client t ts none = first-append (client_faults client t) _ ∙ rw none refl

-- and one with a fault is the first that has one
pub clients-stop : (client : ℕ) (t : Members) (ts : List Members) (e : ConfigFault) → first (client_faults client t) ≡ Some e
    → first (clients_faults client (t ∷ ts)) ≡ Some e
clients-stop client t ts e some = first-append (client_faults client t) _ ∙ rw some refl

-- ---- the faults of a document

-- what its parts show
abbrev pub parts : Option ConfigFault → Option ConfigFault → Option ConfigFault → Option ConfigFault
parts top clients both = or_first top (or_first clients both)

lone : (o : Option ConfigFault) → first (o ∷ []) ≡ o
lone None = refl
lone (Some e) = refl

module _ (t : Members) where
  pub first-parts : first (faults t) ≡ parts (first (top_faults t)) (first (clients_faults 1 (client_tables t))) (twice (clients_of t))
  unfolding top_faults
  first-parts =
      let clients = clients_faults 1 (client_tables t) in
      let last = twice (clients_of t) ∷ [] in
      first-append (top_faults t) (clients ++ last)
      ∙ ap (or_first (first (top_faults t))) (first-append clients last ∙ ap (or_first (first clients)) (lone (twice (clients_of t))))

  settled-by : (o : Option ConfigFault) → parts (first (top_faults t)) (first (clients_faults 1 (client_tables t))) (twice (clients_of t)) ≡ o
      → settled t ≡ config_unless o (config_of t)
  settled-by o is = ap (λ f. config_unless f (config_of t)) (first-parts ∙ is)

  pub settled-top : (e : ConfigFault) → first (top_faults t) ≡ Some e → settled t ≡ Err e
  settled-top e some = settled-by (Some e) (rw some refl)

  module _ (top : first (top_faults t) ≡ None) where
    pub settled-client : (e : ConfigFault) → first (clients_faults 1 (client_tables t)) ≡ Some e → settled t ≡ Err e
    settled-client e some = settled-by (Some e) (rw (top, some) refl)

    module _ (clients : first (clients_faults 1 (client_tables t)) ≡ None) where
      pub settled-twice : (e : ConfigFault) → twice (clients_of t) ≡ Some e → settled t ≡ Err e
      settled-twice e some = settled-by (Some e) (rw (top, clients, some) refl)

      pub settled-ok : twice (clients_of t) ≡ None → settled t ≡ Ok (config_of t)
      settled-ok none = settled-by None (rw (top, clients, none) refl)

-- ---- the document of a text

pub read-settled : (text : List ℕ) (t : Members) → IsUtf8 text → parse_document text ≡ Some t → settings_in text ≡ settled t
read-settled text t utf8 is =
    let there : document text ≡ Some t = ap (λ b. cond b (parse_document text) None) (is_utf8-from_IsUtf8 text utf8) ∙ is in
    ap (λ d. option_map_or settled d (Err NotToml)) there

pub read-none : (text : List ℕ) → (IsUtf8 text → parse_document text ≡ None) → settings_in text ≡ Err NotToml
read-none text none = by (is_utf8 text) refl
  where
    by : (b : Bool) → is_utf8 text ≡ b → settings_in text ≡ Err NotToml
    by true utf8 =
        let no : document text ≡ None = ap (λ b. cond b (parse_document text) None) utf8 ∙ none (IsUtf8-from_is_utf8 text utf8) in
        ap (λ d. option_map_or settled d (Err NotToml)) no
    by false other =
        let no : document text ≡ None = ap (λ b. cond b (parse_document text) None) other in
        ap (λ d. option_map_or settled d (Err NotToml)) no
