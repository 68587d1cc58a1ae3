-- The words of an agent line and of a client line: what is read of them is what they say.
use Rattle.std.proofs.Common.{◌≡◌, ℕ, ◌≤◌, true, ◌||◌, eqb, inl, inr, List, [], ◌∷◌, length, codes, Some, None, refl, sym, ap, ap₂, subst, ◌∙◌, lit≤, arith, eqb-true}
use Rattle.std.proofs.lemmas.Bool.{cond-true, or_cases}
use Rattle.std.proofs.lemmas.Option.{cond_some, same_Some}
use Rattle.std.proofs.lemmas.Slice.Eq.{bytes_eq-Decides}
use Rattle.agent_settings.specs.declared.client.Client.{Client}
use Rattle.agent_settings.specs.declared.config.Config.{Config}
use Rattle.agent_settings.specs.Config.{are_settings_in_limits, is_client_in_limits}
use Rattle.address_text.specs.Address.{address_in}
use Rattle.agent_settings.proofs.Limits.{in_limits-new}
use Rattle.text_lines.specs.Words.{addresses_word, choice_word, hex_word, number_word}
use Rattle.text_lines.proofs.WordLemmas.{bind-some}
use Rattle.transcript.specs.Grammar.{IsAgent, IsClient, IsPatience}
use Rattle.transcript.specs.Kinds.{begins_with, kind_of}
use Rattle.transcript.specs.Lines.{client_of, first_of, in_limits, patience_of, settings_of}
use Rattle.transcript.specs.declared.kind.Kind.TheVariants as kind
use Rattle.transcript.proofs.Grammar.GrammarJoinLemmas.{address-read, address-spelled, addresses-read, addresses-spelled}
use Rattle.transcript.proofs.Grammar.GrammarWordLemmas.{choice-read, choice-spelled, hex-read, hex-spelled, number-read, number-spelled}

-- ---- the agent line

patience-spelled : (words : List (List ℕ)) (retention patience : ℕ) → length words ≤ 1
    → patience_of retention (first_of words) ≡ Some patience → IsPatience words retention patience
patience-spelled [] retention patience few e = sym (same_Some retention patience e)
patience-spelled (word ∷ []) retention patience few e = number-spelled 18446744073709551615 word patience (lit≤ tt) e
patience-spelled (word ∷ next ∷ words) retention patience few e = absurd (omega (arith, few))

patience-read : (words : List (List ℕ)) (retention patience : ℕ) → IsPatience words retention patience
    → patience_of retention (first_of words) ≡ Some patience
patience-read [] retention patience is = ap Some (sym is)
patience-read (word ∷ []) retention patience is = number-read 18446744073709551615 word patience (lit≤ tt) is
patience-read (word ∷ next ∷ words) retention patience is = absurd is

pub agent-spelled : (words : List (List ℕ)) (config : Config)
    → (eqb (length words) 10 || eqb (length words) 11) ≡ true → begins_with (codes "agent") words ≡ true
    → settings_of words ≡ Some config → IsAgent words config
agent-spelled (line ∷ host ∷ realm ∷ home ∷ address ∷ boot ∷ retention ∷ capacity ∷ backlog ∷ watchdog ∷ more) config count begins e =
    let words : List (List ℕ) = line ∷ host ∷ realm ∷ home ∷ address ∷ boot ∷ retention ∷ capacity ∷ backlog ∷ watchdog ∷ more in
    let few : length more ≤ 1 = elim (or_cases (eqb (length words) 10) (eqb (length words) 11) count) [
      | inl ten ↦ omega (arith, eqb-true (length words) 10 ten)
      | inr eleven ↦ omega (arith, eqb-true (length words) 11 eleven)
    ] in
    let (a, is_a, e1) = bind-some (address_in address) _ config e in
    let (b, is_b, e2) = bind-some (number_word 4294967295 boot) _ config e1 in
    let (r, is_r, e3) = bind-some (number_word 18446744073709551615 retention) _ config e2 in
    let (c, is_c, e4) = bind-some (number_word 4294967295 capacity) _ config e3 in
    let (l, is_l, e5) = bind-some (number_word 4294967295 backlog) _ config e4 in
    let (w, is_w, e6) = bind-some (number_word 18446744073709551615 watchdog) _ config e5 in
    let (p, is_p, e7) = bind-some (patience_of r (first_of more)) _ config e6 in
    let (limits, same) = cond_some _ _ config e7 in
    subst (IsAgent words) same (record {
      address = address;
      boot = boot;
      boot_number = b;
      retention = retention;
      capacity = capacity;
      backlog = backlog;
      watchdog = watchdog;
      patience = more;
      spelled = ap (λ w. w ∷ host ∷ realm ∷ home ∷ address ∷ boot ∷ retention ∷ capacity ∷ backlog ∷ watchdog ∷ more)
          ((bytes_eq-Decides line (codes "agent")).0 begins);
      is_address = address-spelled address a is_a;
      is_boot = number-spelled 4294967295 boot b (lit≤ tt) is_b;
      has_boot = refl;
      is_retention = number-spelled 18446744073709551615 retention r (lit≤ tt) is_r;
      is_capacity = number-spelled 4294967295 capacity c (lit≤ tt) is_c;
      is_backlog = number-spelled 4294967295 backlog l (lit≤ tt) is_l;
      is_watchdog = number-spelled 18446744073709551615 watchdog w (lit≤ tt) is_w;
      is_patience = patience-spelled more r p few is_p;
      no_clients = refl;
      limits = in_limits-new _ limits refl;
    })
agent-spelled words config count begins e = cc

pub agent-read : (words : List (List ℕ)) (config : Config) → IsAgent words config → settings_of words ≡ Some config
agent-read words config w =
    let bare : Config = record config { boot = Some w.boot_number; clients = [] } in
    let same : bare ≡ config = ap₂ (λ b cs. record config { boot = b; clients = cs }) (sym w.has_boot) (sym w.no_clients) in
    ap settings_of w.spelled
    ∙ rw (
      address-read w.address config.address w.is_address,
      number-read 4294967295 w.boot w.boot_number (lit≤ tt) w.is_boot,
      number-read 18446744073709551615 w.retention config.retention (lit≤ tt) w.is_retention,
      number-read 4294967295 w.capacity config.capacity (lit≤ tt) w.is_capacity,
      number-read 4294967295 w.backlog config.backlog (lit≤ tt) w.is_backlog,
      number-read 18446744073709551615 w.watchdog config.watchdog (lit≤ tt) w.is_watchdog,
      patience-read w.patience config.retention config.patience w.is_patience,
    ) (ap in_limits same ∙ cond-true (are_settings_in_limits config) (Some config) None w.limits.settings)

pub agent-kind : (words : List (List ℕ)) (config : Config) → IsAgent words config → kind_of words ≡ Some kind.Agent
agent-kind words config w = ap kind_of w.spelled ∙ by w.patience w.is_patience
  where
    by : (more : List (List ℕ)) → IsPatience more config.retention config.patience
        → kind_of (codes "agent" ∷ config.host ∷ config.realm ∷ config.home_realm ∷ w.address ∷ w.boot ∷ w.retention
        ∷ w.capacity ∷ w.backlog ∷ w.watchdog ∷ more) ≡ Some kind.Agent
    by [] is = refl
    by (word ∷ []) is = refl
    by (word ∷ next ∷ more) is = absurd is

-- ---- a client line

pub client-spelled : (words : List (List ℕ)) (client : Client) → begins_with (codes "client") words ≡ true
    → client_of words ≡ Some client → IsClient words client
client-spelled (line ∷ name ∷ address ∷ secret ∷ host ∷ realm ∷ seal ∷ keys ∷ nas ∷ []) client begins e =
    let (a, is_a, e1) = bind-some (address_in address) _ client e in
    let (s, is_s, e2) = bind-some (hex_word secret) _ client e1 in
    let (r, is_r, e3) = bind-some (choice_word (codes "seal") (codes "plain") seal) _ client e2 in
    let (o, is_o, e4) = bind-some (choice_word (codes "omit") (codes "refuse") keys) _ client e3 in
    let (n, is_n, e5) = bind-some (addresses_word nas) _ client e4 in
    let (limits, same) = cond_some _ _ client e5 in
    subst (IsClient (line ∷ name ∷ address ∷ secret ∷ host ∷ realm ∷ seal ∷ keys ∷ nas ∷ [])) same (record {
      address = address;
      secret = secret;
      seal = seal;
      keys = keys;
      nas = nas;
      spelled = ap (λ w. w ∷ name ∷ address ∷ secret ∷ host ∷ realm ∷ seal ∷ keys ∷ nas ∷ [])
          ((bytes_eq-Decides line (codes "client")).0 begins);
      is_address = address-spelled address a is_a;
      is_secret = hex-spelled secret s is_s;
      is_seal = choice-spelled (codes "seal") (codes "plain") seal r is_r;
      is_keys = choice-spelled (codes "omit") (codes "refuse") keys o is_o;
      is_nas = addresses-spelled nas n is_n;
      limits = limits;
    })
client-spelled words client begins e = cc

pub client-read : (words : List (List ℕ)) (client : Client) → IsClient words client → client_of words ≡ Some client
client-read words client w =
    ap client_of w.spelled
    ∙ rw (
      address-read w.address client.address w.is_address,
      hex-read w.secret client.secret w.is_secret,
      choice-read (codes "seal") (codes "plain") w.seal client.require_seal refl w.is_seal,
      choice-read (codes "omit") (codes "refuse") w.keys client.omit_keys refl w.is_keys,
      addresses-read w.nas client.nas w.is_nas,
    ) (cond-true (is_client_in_limits client) (Some client) None w.limits)

pub client-kind : (words : List (List ℕ)) (client : Client) → IsClient words client → kind_of words ≡ Some kind.Client
client-kind words client w = ap kind_of w.spelled
