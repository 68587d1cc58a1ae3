-- A line that was read can be followed.
use Rattle.std.proofs.Common.{◌≡◌, ◌≢◌, ℕ, ◌+◌, ◌<◌, eqb, List, [], ◌∷◌, ◌++◌, length, map, find, append_assoc, Some, None, Ok, refl, sym, ap, ◌∙◌, subst, arith}
use Rattle.std.specs.List.{enumerate_from}
use Rattle.std.proofs.lemmas.Bool.{cond-false, ne_eqb}
use Rattle.std.proofs.lemmas.List.{append-nil, length-map, map_push}
use Rattle.std.proofs.lemmas.List.Elements.{All-head, All-tail}
use Rattle.wire_core.specs.Counts.{one_more}
use Rattle.agent_settings.specs.declared.client.Client.{Client}
use Rattle.agent_settings.specs.declared.config.Config.{Config}
use Rattle.agent_settings.specs.Config.{ClientKeepsLimits, InLimits}
use Rattle.agent_events.specs.declared.events.Input.{Input}
use Rattle.transcript.specs.Grammar.{Lacks, SaysClient, SaysWords}
use Rattle.transcript.specs.Reading.{At, read_line}
use Rattle.transcript.specs.Told.{Agrees, Begun, CanFollow, Settings, Told, after_lines, given_by, told_on}
use Rattle.transcript.specs.declared.line.Line.{Line}
use Rattle.transcript.specs.declared.line.Line.TheVariants as line
use Rattle.transcript.specs.declared.position.Section.TheVariants as section
use Rattle.transcript.proofs.Grammar.GrammarLemmas.{line-says}

-- ---- the clients so far, by their addresses

abbrev addresses_in : List Client → List ℕ
addresses_in clients = map (λ (c : Client). c.address) clients

-- none of them has an address that isn't among theirs
unknown : (address n : ℕ) (clients : List Client) → Lacks address (addresses_in clients)
    → find (λ (p : ℕ × Client). eqb p.1.address address) (enumerate_from n clients) ≡ None
unknown address n [] lack = refl
unknown address n (c ∷ clients) lack =
    cond-false (eqb c.address address) _ _ (ne_eqb c.address address (All-head (λ y. y ≢ address) c.address (addresses_in clients) lack))
    ∙ unknown address (n + 1) clients (All-tail (λ y. y ≢ address) c.address (addresses_in clients) lack)

-- ---- each kind of line

abbrev Goes : Told → Line → At → Type 0
Goes told said next = CanFollow told said × Agrees next (told_on told said)

agent-goes : (at : At) (told : Told) (number : ℕ) (config : Config) → Agrees at told → at.section ≡ section.Start → InLimits config
    → config.clients ≡ [] → Goes told (line.Agent number config) (record at { section = section.Settings; lines = one_more at.lines })
agent-goes at (Settings None) number config agrees starts limits none =
    (limits, (refl, agrees.1 ∙ sym (ap addresses_in none), limits))
agent-goes at (Settings (Some before)) number config agrees starts limits none = absurd cc (sym starts ∙ agrees.0)
agent-goes at Begun number config agrees starts limits none = absurd cc (sym starts ∙ agrees)

client-goes : ClientKeepsLimits → (at : At) (told : Told) (words : List (List ℕ)) (number : ℕ) (client : Client) (next : At)
    → Agrees at told → SaysClient at words number client next
    → Goes told (line.Client number client) (record at { addresses = at.addresses ++ client.address ∷ []; lines = one_more at.lines })
client-goes law at (Settings None) words number client next agrees says = absurd cc (sym agrees.0 ∙ says.follows)
client-goes law at (Settings (Some config)) words number client next agrees says =
    let few : length config.clients < 1024 = omega (arith, says.few, ap length agrees.1, length-map config.clients (λ (c : Client). c.address)) in
    let none = unknown client.address 0 config.clients (subst (Lacks client.address) agrees.1 says.own) in (
      (agrees.2, says.is.limits, few, none),
      (
        agrees.0,
        ap (λ r. r ++ client.address ∷ []) agrees.1 ∙ sym (map_push (λ (c : Client). c.address) config.clients client),
        law config client agrees.2 says.is.limits few none,
      ),
    )
client-goes law at Begun words number client next agrees says = absurd cc (sym agrees ∙ says.follows)

event-goes : (at next : At) (told : Told) (number moment : ℕ) (inputs : List Input) → Agrees at told → at.section ≢ section.Start
    → next.section ≡ section.Events → Goes told (line.Event number moment inputs) next
event-goes at next (Settings None) number moment inputs agrees further events = absurd (further agrees.0)
event-goes at next (Settings (Some config)) number moment inputs agrees further events = (agrees.2, events)
event-goes at next Begun number moment inputs agrees further events = (tt, events)

control-goes : (at next : At) (told : Told) (number moment address port : ℕ) (octets : List ℕ) → Agrees at told
    → at.section ≢ section.Start → next.section ≡ section.Events → Goes told (line.Control number moment address port octets) next
control-goes at next (Settings None) number moment address port octets agrees further events = absurd (further agrees.0)
control-goes at next (Settings (Some config)) number moment address port octets agrees further events = (agrees.2, events)
control-goes at next Begun number moment address port octets agrees further events = (tt, events)

-- ---- any line

says-follows : ClientKeepsLimits → (at : At) (told : Told) (words : List (List ℕ)) (said : Line) (next : At) → Agrees at told
    → SaysWords at words said next → Goes told said next
says-follows law at told words (line.Agent number config) next agrees says =
    subst (Goes told (line.Agent number config)) (sym says.goes_on)
    (agent-goes at told number config agrees says.first says.is.limits says.is.no_clients)
says-follows law at told words (line.Client number client) next agrees says =
    subst (Goes told (line.Client number client)) (sym says.goes_on)
    (client-goes law at told words number client next agrees says)
says-follows law at told words (line.Event number moment inputs) next agrees says =
    event-goes at next told number moment inputs agrees says.further (ap (λ (n : At). n.section) says.goes_on)
says-follows law at told words (line.Control number moment address port octets) next agrees says =
    control-goes at next told number moment address port octets agrees says.further (ap (λ (n : At). n.section) says.goes_on)

pub line-follows : ClientKeepsLimits → (at : At) (told : Told) (octets : List ℕ) (said : Line) (next : At) → Agrees at told
    → read_line at octets ≡ Ok (said, next) → CanFollow told said × Agrees next (told_on told said)
line-follows law at told octets said next agrees e =
    let says = line-says at octets said next e in
    says-follows law at told says.words said next agrees says.says

-- ---- lines, one after another

pub after-append : {S : Type 0} (on : S → Line → S) (stage : S) (lines more : List Line)
    → after_lines on stage (lines ++ more) ≡ after_lines on (after_lines on stage lines) more
after-append on stage [] more = refl
after-append on stage (l ∷ lines) more = after-append on (on stage l) lines more

pub given_by-append : {S X : Type 0} (on : S → Line → S) (gives : S → Line → List X) (stage : S) (lines more : List Line)
    → given_by on gives stage (lines ++ more) ≡ given_by on gives stage lines ++ given_by on gives (after_lines on stage lines) more
given_by-append on gives stage [] more = refl
given_by-append on gives stage (l ∷ lines) more =
    ap (λ r. gives stage l ++ r) (given_by-append on gives (on stage l) lines more)
    ∙ sym (append_assoc (gives stage l) (given_by on gives (on stage l) lines) (given_by on gives (after_lines on (on stage l) lines) more))

-- what one more line gives
pub given_by-more : {S X : Type 0} (on : S → Line → S) (gives : S → Line → List X) (stage : S) (lines : List Line) (said : Line)
    → given_by on gives stage (lines ++ said ∷ []) ≡ given_by on gives stage lines ++ gives (after_lines on stage lines) said
given_by-more on gives stage lines said =
    given_by-append on gives stage lines (said ∷ [])
    ∙ ap (λ r. given_by on gives stage lines ++ r) (append-nil (gives (after_lines on stage lines) said))

-- the same seen from elsewhere
pub after-seen : {S T : Type 0} (on : S → Line → S) (on' : T → Line → T) (seen : S → T)
    → ((stage : S) (said : Line) → seen (on stage said) ≡ on' (seen stage) said) → (stage : S) (lines : List Line)
    → seen (after_lines on stage lines) ≡ after_lines on' (seen stage) lines
after-seen on on' seen same stage [] = refl
after-seen on on' seen same stage (l ∷ lines) =
    after-seen on on' seen same (on stage l) lines ∙ ap (λ t. after_lines on' t lines) (same stage l)
