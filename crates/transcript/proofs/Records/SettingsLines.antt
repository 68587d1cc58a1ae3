-- Settings that lines can tell are read again from their lines.
use Rattle.std.proofs.Common.{◌≡◌, ◌≢◌, ℕ, ◌+◌, ◌*◌, ◌^◌, ◌<◌, ◌≤◌, Bool, true, false, not, ◌||◌, eqb, List, [], ◌∷◌, ◌++◌, length, map, codes, decimal, unwrap_or, All, Some, None, Ok, IsTrue, refl, sym, ap, subst, ◌∙◌, append_assoc, append-nil, lit≤, arith}
use Rattle.std.specs.List.{AllByRecursion as Each, AllZip, join_with_byte, list_all, list_any}
use Rattle.std.proofs.lemmas.Bool.{and_parts, eq-eqb, leb-true}
use Rattle.std.proofs.lemmas.Fmt.{length-decimal-le}
use Rattle.std.proofs.lemmas.List.{length-append}
use Rattle.std.proofs.lemmas.List.Elements.{All-append, All-cons, All-head, All-nil, All-push, All-tail}
use Rattle.wire_core.specs.Counts.{one_more}
use Rattle.wire_core.specs.Words.{is_identity, is_identity_octet}
use Rattle.agent_settings.specs.declared.client.Client.{Client}
use Rattle.agent_settings.specs.declared.config.Config.{Config}
use Rattle.agent_settings.specs.Config.{ClientInLimits, InLimits, are_addresses_distinct, are_settings_in_limits, is_client_in_limits, is_name}
use Rattle.agent_settings.proofs.Limits.{ClientFacts, SettingsFacts, client_facts, in_limits-new, settings_facts}
use Rattle.printed_lines.specs.SettingsText.{addresses_text, agent_words, client_words, keys_name, seal_name}
use Rattle.printed_lines.specs.Text.{address_text, hex_text}
use Rattle.transcript.specs.Grammar.{IsAddress, IsAddresses, IsChoice, IsLine, IsNumber, Lacks, SaysWords}
use Rattle.transcript.specs.Reading.{At, Said, Step, read_from, read_line, said_on, start}
use Rattle.transcript.specs.Records.{AreTellableSettings, IsTellableClient, SettingsLinesAreRead, behind_settings, client_lines, clients_say, lines_with, says_before, settings_lines, settings_say}
use Rattle.transcript.specs.declared.line.Line.{Line}
use Rattle.transcript.specs.declared.line.Line.TheVariants as line
use Rattle.transcript.specs.declared.position.Section.TheVariants.{Start, Settings}
use Rattle.transcript.proofs.Grammar.GrammarLemmas.{says-read}
use Rattle.transcript.proofs.Records.RecordLemmas.{IsNoWord, address-is, bytes, hex-is, identity-lacks, length-address, length-hex, no-space, number-lacks, octets-lack, place-lacks}

-- ---- words

-- each of these words lacks an octet
abbrev pub EachLacks : ℕ → List (List ℕ) → Type 0
EachLacks c words = Each (Lacks c) words

name-short : (name : List ℕ) → IsTrue (is_name name) → length name ≤ 64
name-short name is = leb-true (length name) 64 (and_parts (is_identity name) _ is).1

number-short : (n : ℕ) → n < 2 ^ 64 → length (decimal n) ≤ 20
number-short n small = length-decimal-le 20 n (omega arith) (omega (arith, small)) (omega (arith, small))

pub all-lack : (c : ℕ) (words : List (List ℕ)) → EachLacks c words → All (Lacks c) words
all-lack c [] each = All-nil (Lacks c)
all-lack c (word ∷ words) each = All-cons (Lacks c) word words each.0 (all-lack c words each.1)

-- the octets of words with a space between them
abbrev total : List (List ℕ) → ℕ
total [] = 0
total (word ∷ words) = length word + 1 + total words

join-short : (words : List (List ℕ)) → length (join_with_byte 32 words) ≤ total words
join-short [] = omega arith
join-short (word ∷ []) = omega arith
join-short (word ∷ next ∷ words) =
    omega (arith, join-short (next ∷ words), length-append word (32 ∷ join_with_byte 32 (next ∷ words)))

-- ---- addresses

each-address : (addresses : List ℕ) → All (λ address. address < 2 ^ 32) addresses → AllZip IsAddress (map address_text addresses) addresses
each-address [] small = tt
each-address (a ∷ addresses) small =
    (address-is a (All-head (λ x. x < 2 ^ 32) a addresses small), each-address addresses (All-tail (λ x. x < 2 ^ 32) a addresses small))

addresses-are : (addresses : List ℕ) → All (λ address. address < 2 ^ 32) addresses → IsAddresses (addresses_text addresses) addresses
addresses-are [] small = refl
addresses-are (a ∷ addresses) small = (map address_text (a ∷ addresses), each-address (a ∷ addresses) small, refl)

module _ (c : ℕ) (free : IsNoWord c) where
  name-lacks : (name : List ℕ) → IsTrue (is_name name) → Lacks c name
  name-lacks name is = identity-lacks c free name (and_parts _ (list_all is_identity_octet name) (and_parts (is_identity name) _ is).0).1

  -- joined by ','
  joined-lacks : (addresses : List ℕ) → All (λ address. address < 2 ^ 32) addresses → Lacks c (join_with_byte 44 (map address_text addresses))
  joined-lacks [] small = All-nil (λ y. y ≢ c)
  joined-lacks (a ∷ []) small = place-lacks c free a (All-head (λ x. x < 2 ^ 32) a [] small)
  joined-lacks (a ∷ b ∷ addresses) small =
      All-append (λ y. y ≢ c) (address_text a) (44 ∷ join_with_byte 44 (map address_text (b ∷ addresses)))
      (place-lacks c free a (All-head (λ x. x < 2 ^ 32) a (b ∷ addresses) small))
      (All-cons (λ y. y ≢ c) 44 (join_with_byte 44 (map address_text (b ∷ addresses))) (λ e. omega (arith, e, free.low))
      (joined-lacks (b ∷ addresses) (All-tail (λ x. x < 2 ^ 32) a (b ∷ addresses) small)))

  addresses-lack : (addresses : List ℕ) → All (λ address. address < 2 ^ 32) addresses → Lacks c (addresses_text addresses)
  addresses-lack [] small = identity-lacks c free (codes "-") refl
  addresses-lack (a ∷ addresses) small = joined-lacks (a ∷ addresses) small

  seal-lacks : (b : Bool) → Lacks c (seal_name b)
  seal-lacks true = identity-lacks c free (codes "seal") refl
  seal-lacks false = identity-lacks c free (codes "plain") refl

  keys-lack : (b : Bool) → Lacks c (keys_name b)
  keys-lack true = identity-lacks c free (codes "omit") refl
  keys-lack false = identity-lacks c free (codes "refuse") refl

joined-short : (addresses : List ℕ) → length (join_with_byte 44 (map address_text addresses)) ≤ 16 * length addresses
joined-short [] = omega arith
joined-short (a ∷ []) = omega (arith, length-address a)
joined-short (a ∷ b ∷ addresses) =
    omega (
      arith,
      length-address a,
      joined-short (b ∷ addresses),
      length-append (address_text a) (44 ∷ join_with_byte 44 (map address_text (b ∷ addresses))),
    )

addresses-short : (addresses : List ℕ) → length (addresses_text addresses) ≤ 16 * length addresses + 1
addresses-short [] = omega arith
addresses-short (a ∷ addresses) = omega (arith, joined-short (a ∷ addresses))

-- ---- the agent line

module _ (config : Config) (boot : ℕ) (is : AreTellableSettings config boot) where
  bare : Config
  bare = record config { clients = [] }

  facts : SettingsFacts config
  facts = settings_facts config is.limits.settings

  boot-word : decimal (unwrap_or config.boot 0) ≡ decimal boot
  boot-word = ap (λ b. decimal (unwrap_or b 0)) is.booted

  pub agent-words-lack : (c : ℕ) → IsNoWord c → EachLacks c (agent_words config)
  agent-words-lack c free =
      let f = facts in (
        identity-lacks c free (codes "agent") refl,
        (
          name-lacks c free config.host f.host,
          (
            name-lacks c free config.realm f.realm,
            (
              name-lacks c free config.home_realm f.home_realm,
              (
                place-lacks c free config.address is.address,
                (
                  subst (Lacks c) (sym boot-word) (number-lacks c free boot (omega (arith, is.boot_fits))),
                  (
                    number-lacks c free config.retention (omega (arith, f.retention_high)),
                    (
                      number-lacks c free config.capacity (omega (arith, f.capacity_high)),
                      (
                        number-lacks c free config.backlog (omega (arith, f.backlog_high)),
                        (
                          number-lacks c free config.watchdog (omega (arith, f.watchdog_high)),
                          (number-lacks c free config.patience (omega (arith, f.patience_high)), tt),
                        ),
                      ),
                    ),
                  ),
                ),
              ),
            ),
          ),
        ),
      )

  agent-line-is : IsLine (join_with_byte 32 (agent_words config)) (agent_words config)
  agent-line-is = record {
    some = omega arith;
    spaceless = all-lack 32 (agent_words config) (agent-words-lack 32 no-space);
    spelled = refl;
  }

  agent-line-short : length (join_with_byte 32 (agent_words config)) ≤ 140000
  agent-line-short =
      let f = facts in
      omega (
        arith,
        join-short (agent_words config),
        name-short config.host f.host,
        name-short config.realm f.realm,
        name-short config.home_realm f.home_realm,
        length-address config.address,
        ap length boot-word,
        number-short boot (omega (arith, is.boot_fits)),
        number-short config.retention (omega (arith, f.retention_high)),
        number-short config.capacity (omega (arith, f.capacity_high)),
        number-short config.backlog (omega (arith, f.backlog_high)),
        number-short config.watchdog (omega (arith, f.watchdog_high)),
        number-short config.patience (omega (arith, f.patience_high)),
      )

  bare-limits : IsTrue (are_settings_in_limits bare)
  unfolding bare are_settings_in_limits
  bare-limits = is.limits.settings

  behind-agent : At
  behind-agent = record { controls = false; section = Settings; addresses = []; stream = []; lines = 1 }

  agent-read : read_line start (join_with_byte 32 (agent_words config)) ≡ Ok (line.Agent 1 bare, behind-agent)
  unfolding bare behind-agent
  agent-read =
      let f = facts in
      says-read start (join_with_byte 32 (agent_words config)) (line.Agent 1 bare) behind-agent (record {
        short = agent-line-short;
        words = agent_words config;
        is_line = agent-line-is;
        says = record {
          first = refl;
          is = record {
            address = address_text config.address;
            boot = decimal (unwrap_or config.boot 0);
            boot_number = boot;
            retention = decimal config.retention;
            capacity = decimal config.capacity;
            backlog = decimal config.backlog;
            watchdog = decimal config.watchdog;
            patience = decimal config.patience ∷ [];
            spelled = refl;
            is_address = address-is config.address is.address;
            is_boot = (boot-word, omega (arith, is.boot_fits));
            has_boot = is.booted;
            is_retention = (refl, omega (arith, f.retention_high));
            is_capacity = (refl, omega (arith, f.capacity_high));
            is_backlog = (refl, omega (arith, f.backlog_high));
            is_watchdog = (refl, omega (arith, f.watchdog_high));
            is_patience = (refl, omega (arith, f.patience_high));
            no_clients = refl;
            limits = in_limits-new bare bare-limits refl;
          };
          counts = refl;
          goes_on = refl;
        };
      })

-- ---- client lines

seal-short : (b : Bool) → length (seal_name b) ≤ 6
seal-short true = omega arith
seal-short false = omega arith

keys-short : (b : Bool) → length (keys_name b) ≤ 6
keys-short true = omega arith
keys-short false = omega arith

seal-is : (b : Bool) → IsChoice (codes "seal") (codes "plain") (seal_name b) b
seal-is true = refl
seal-is false = refl

keys-are : (b : Bool) → IsChoice (codes "omit") (codes "refuse") (keys_name b) b
keys-are true = refl
keys-are false = refl

module _ (client : Client) (within : ClientInLimits client) (is : IsTellableClient client) where
  pub client-words-lack : (c : ℕ) → IsNoWord c → EachLacks c (client_words client)
  client-words-lack c free =
      let f = client_facts client within in (
        identity-lacks c free (codes "client") refl,
        (
          name-lacks c free client.name f.name,
          (
            place-lacks c free client.address is.0,
            (
              octets-lack c free client.secret (bytes client.secret is.1),
              (
                name-lacks c free client.origin_host f.origin_host,
                (
                  name-lacks c free client.origin_realm f.origin_realm,
                  (
                    seal-lacks c free client.require_seal,
                    (keys-lack c free client.omit_keys, (addresses-lack c free client.nas is.2, tt)),
                  ),
                ),
              ),
            ),
          ),
        ),
      )

  client-line-is : IsLine (join_with_byte 32 (client_words client)) (client_words client)
  client-line-is = record {
    some = omega arith;
    spaceless = all-lack 32 (client_words client) (client-words-lack 32 no-space);
    spelled = refl;
  }

  client-line-short : length (join_with_byte 32 (client_words client)) ≤ 140000
  client-line-short =
      let f = client_facts client within in
      omega (
        arith,
        join-short (client_words client),
        name-short client.name f.name,
        length-address client.address,
        length-hex client.secret,
        f.secret_high,
        name-short client.origin_host f.origin_host,
        name-short client.origin_realm f.origin_realm,
        seal-short client.require_seal,
        keys-short client.omit_keys,
        addresses-short client.nas,
        f.nas_high,
      )

  client-read : (at : At) → at.section ≡ Settings → length at.addresses < 1024 → Lacks client.address at.addresses
      → read_line at (join_with_byte 32 (client_words client))
      ≡ Ok (line.Client (one_more at.lines) client, record at { addresses = at.addresses ++ client.address ∷ []; lines = one_more at.lines })
  client-read at follows few own =
      says-read at (join_with_byte 32 (client_words client)) _ _ (record {
        short = client-line-short;
        words = client_words client;
        is_line = client-line-is;
        says = record {
          follows = follows;
          few = few;
          own = own;
          is = record {
            address = address_text client.address;
            secret = hex_text client.secret;
            seal = seal_name client.require_seal;
            keys = keys_name client.omit_keys;
            nas = addresses_text client.nas;
            spelled = refl;
            is_address = address-is client.address is.0;
            is_secret = hex-is client.secret (bytes client.secret is.1);
            is_seal = seal-is client.require_seal;
            is_keys = keys-are client.omit_keys;
            is_nas = addresses-are client.nas is.2;
            limits = within;
          };
          counts = refl;
          goes_on = refl;
        };
      })

-- ---- all of them

-- each client has an address of its own among these
abbrev AreNew : List ℕ → List Client → Type 0
AreNew addresses [] = Unit {0}
AreNew addresses (client ∷ clients) = Lacks client.address addresses × AreNew addresses clients

new-first : (clients : List Client) → AreNew [] clients
new-first [] = tt
new-first (client ∷ clients) = (All-nil (λ y. y ≢ client.address), new-first clients)

new-push : (addresses : List ℕ) (client : Client) (clients : List Client) → not (list_any (λ d. eqb d.address client.address) clients) ≡ true
    → AreNew addresses clients → AreNew (addresses ++ client.address ∷ []) clients
new-push addresses client [] none new = tt
new-push addresses client (d ∷ clients) none new =
    let (other, others) = apart (eqb d.address client.address) (list_any (λ d. eqb d.address client.address) clients) none in (
      All-push (λ y. y ≢ d.address) addresses client.address new.0 (λ same. cc (eq-true client.address d.address same, other)),
      new-push addresses client clients others new.1,
    )
  where
    apart : (a b : Bool) → not (a || b) ≡ true → (a ≡ false) × (not b ≡ true)
    apart true b e = cc
    apart false b e = (refl, e)

    eq-true : (a b : ℕ) → a ≡ b → eqb b a ≡ true
    eq-true a b same = eq-eqb b a (sym same)

clients-read : (at : At) (clients : List Client) (more : List (List ℕ)) → at.section ≡ Settings → length at.addresses + length clients ≤ 1024
    → list_all is_client_in_limits clients ≡ true → are_addresses_distinct clients ≡ true → AreNew at.addresses clients → Each IsTellableClient clients
    → read_from at (client_lines clients ++ more)
    ≡ says_before (clients_say at.lines clients)
    (read_from (record at { addresses = at.addresses ++ map (λ c. c.address) clients; lines = lines_with at.lines clients }) more)
clients-read at [] more follows few within distinct new tell =
    ap (λ addresses. read_from (record at { addresses = addresses }) more) (sym (append-nil at.addresses))
clients-read at (client ∷ clients) more follows few within distinct new tell =
    let (first, others) = and_parts (is_client_in_limits client) (list_all is_client_in_limits clients) within in
    let (apart, rest) = and_parts (not (list_any (λ d. eqb d.address client.address) clients)) (are_addresses_distinct clients) distinct in
    let next : At = record at { addresses = at.addresses ++ client.address ∷ []; lines = one_more at.lines } in
    ap (λ (s : Step). said_on at s (λ next. read_from next (client_lines clients ++ more))) (client-read client first tell.0 at follows (omega (arith, few)) new.0)
    ∙ ap (λ (s : Said). says_before (line.Client (one_more at.lines) client ∷ []) s)
    (clients-read next clients more follows (omega (arith, few, length-append at.addresses (client.address ∷ []))) others rest
    (new-push at.addresses client clients apart new.1) tell.1)
    ∙ ap (λ addresses. says_before (clients_say at.lines (client ∷ clients))
    (read_from (record at { addresses = addresses; lines = lines_with at.lines (client ∷ clients) }) more))
    (append_assoc at.addresses (client.address ∷ []) (map (λ c. c.address) clients))

pub settings-lines-are-read : SettingsLinesAreRead
unfolding bare behind-agent
settings-lines-are-read config boot more is =
    ap (λ (s : Step). said_on start s (λ next. read_from next (client_lines config.clients ++ more))) (agent-read config boot is)
    ∙ ap (λ (s : Said). says_before (line.Agent 1 (record config { clients = [] }) ∷ []) s)
    (clients-read (behind-agent config boot is) config.clients more refl (omega (arith, is.limits.few)) is.limits.clients is.limits.distinct (new-first config.clients) is.clients)
