-- The reader accepts exactly the lines of the grammar, and reads of each what it says.
use Rattle.std.proofs.Common.{◌≡◌, ◌≢◌, ℕ, ◌<◌, Bool, true, false, cond, ltb, eqb, List, length, Option, Some, None, Result, Ok, Err, refl, sym, ap, ap₂, subst, ◌∙◌}
use Rattle.std.specs.List.{list_any}
use Rattle.std.proofs.lemmas.Bool.{cond-false, cond-true, le-ltb, lt-ltb, ltb-false, ltb-true}
use Rattle.std.proofs.lemmas.List.Folds.{list_any_none}
use Rattle.agent_settings.specs.declared.client.Client.{Client}
use Rattle.agent_settings.specs.declared.config.Config.{Config}
use Rattle.text_lines.specs.Words.{words_of}
use Rattle.transcript.specs.Grammar.{IsAgent, IsClient, IsControl, IsEvent, LinesHaveAGrammar, Says, SaysAgent, SaysClient, SaysControl, SaysEvent, SaysWords}
use Rattle.transcript.specs.Kinds.{kind_of}
use Rattle.transcript.specs.Lines.{client_of, control_of, event_of, settings_of}
use Rattle.transcript.specs.Reading.{At, Step, agent_step, client_step, control_step, event_step, kind_step, may_stand, read_line, words_step}
use Rattle.transcript.specs.declared.control.Control.{Control}
use Rattle.transcript.specs.declared.happening.Happening.{Happening}
use Rattle.transcript.specs.declared.kind.EventName.{EventName}
use Rattle.transcript.specs.declared.kind.Kind.{Kind}
use Rattle.transcript.specs.declared.kind.Kind.TheVariants as kind
use Rattle.transcript.specs.declared.line.Line.{Line}
use Rattle.transcript.specs.declared.line.Line.TheVariants as line
use Rattle.transcript.specs.declared.position.Section.{Section}
use Rattle.transcript.specs.declared.position.Section.TheVariants as section
use Rattle.transcript.proofs.Grammar.GrammarEventLemmas.{control-kind, control-read, control-spelled, event-read, event-spelled}
use Rattle.transcript.proofs.Grammar.GrammarJoinLemmas.{any-lacks, line-read, line-spelled, passed}
use Rattle.transcript.proofs.Grammar.GrammarKindLemmas.{IsOfKind, kind-spelled}
use Rattle.transcript.proofs.Grammar.GrammarLineLemmas.{agent-kind, agent-read, agent-spelled, client-kind, client-read, client-spelled}

-- ---- what the line is

choice-ok : {A : Type 0} (b : Bool) (why : ℕ) (r : Result A ℕ) (x : A) → cond b (Err why) r ≡ Ok x → (b ≡ false) × (r ≡ Ok x)
choice-ok true why r x e = cc
choice-ok false why r x e = (refl, e)

choice-then : {A : Type 0} (b : Bool) (why : ℕ) (r : Result A ℕ) (x : A) → cond b r (Err why) ≡ Ok x → (b ≡ true) × (r ≡ Ok x)
choice-then true why r x e = (refl, e)
choice-then false why r x e = cc

pub record IsKind (at : At) (k : Option Kind) (words : List (List ℕ)) (said : Line) (next : At) : Type 0 where
  pub found : Kind
  pub is : k ≡ Some found
  pub stands : may_stand at.controls at.section (length at.addresses) found ≡ true
  pub says : kind_step at found words ≡ Ok (said, next)

pub is-kind : (at : At) (k : Option Kind) (words : List (List ℕ)) (said : Line) (next : At) → words_step at k words ≡ Ok (said, next)
    → IsKind at k words said next
is-kind at None words said next e = cc
is-kind at (Some found) words said next e =
    let (stands, says) = choice-then (may_stand at.controls at.section (length at.addresses) found) 2 _ (said, next) e in
    record { found = found; is = refl; stands = stands; says = says }

pub at-start : (controls : Bool) (s : Section) (clients : ℕ) → may_stand controls s clients kind.Agent ≡ true → s ≡ section.Start
at-start controls section.Start clients e = refl
at-start controls section.Settings clients e = cc
at-start controls section.Events clients e = cc

pub record InSettings (s : Section) (clients : ℕ) : Type 0 where
  pub is : s ≡ section.Settings
  pub few : clients < 1024

pub in-settings : (controls : Bool) (s : Section) (clients : ℕ) → may_stand controls s clients kind.Client ≡ true → InSettings s clients
in-settings controls section.Start clients e = cc
in-settings controls section.Settings clients e = record { is = refl; few = ltb-true _ _ e }
in-settings controls section.Events clients e = cc

pub after-start : (name : EventName) (controls : Bool) (s : Section) (clients : ℕ)
    → may_stand controls s clients (kind.Event name) ≡ true → s ≢ section.Start
after-start name controls section.Start clients e is = cc
after-start name controls section.Settings clients e is = cc
after-start name controls section.Events clients e is = cc

pub record MayControl (controls : Bool) (s : Section) : Type 0 where
  pub asked : controls ≡ true
  pub further : s ≢ section.Start

pub may-control : (controls : Bool) (s : Section) (clients : ℕ) → may_stand controls s clients kind.Control ≡ true → MayControl controls s
may-control controls section.Start clients e = cc
may-control controls section.Settings clients e = record { asked = e; further = λ is. cc }
may-control controls section.Events clients e = record { asked = e; further = λ is. cc }

-- ---- what is read is what the line says

says-same : (at : At) (words : List (List ℕ)) (step : Line × At) (said : Line) (next : At)
    → (let r : Step = Ok step in r ≡ Ok (said, next)) → SaysWords at words step.0 step.1 → SaysWords at words said next
says-same at words step said next e says =
    let same : step ≡ (said, next) = cc in
    subst (λ (s : Line × At). SaysWords at words s.0 s.1) same says

agent-says : (at : At) (words : List (List ℕ)) (read : Option Config) (said : Line) (next : At)
    → at.section ≡ section.Start → ((config : Config) → read ≡ Some config → IsAgent words config)
    → agent_step at read ≡ Ok (said, next) → SaysWords at words said next
agent-says at words None said next first is e = cc
agent-says at words (Some config) said next first is e =
    says-same at words _ said next e (record { first = first; is = is config refl; counts = refl; goes_on = refl })

client-says : (at : At) (words : List (List ℕ)) (read : Option Client) (said : Line) (next : At)
    → InSettings at.section (length at.addresses) → ((client : Client) → read ≡ Some client → IsClient words client)
    → client_step at read ≡ Ok (said, next) → SaysWords at words said next
client-says at words None said next stands is e = cc
client-says at words (Some client) said next stands is e =
    let (own, step) = choice-ok (list_any (λ a. eqb a client.address) at.addresses) 4 _ (said, next) e in
    says-same at words _ said next step (record {
      follows = stands.is;
      few = stands.few;
      own = any-lacks client.address at.addresses own;
      is = is client refl;
      counts = refl;
      goes_on = refl;
    })

event-says : (at : At) (words : List (List ℕ)) (read : Option (ℕ × Happening)) (said : Line) (next : At)
    → at.section ≢ section.Start → ((moment : ℕ) (told : Happening) → read ≡ Some (moment, told) → IsEvent words moment told)
    → event_step at read ≡ Ok (said, next) → SaysWords at words said next
event-says at words None said next further is e = cc
event-says at words (Some told) said next further is e =
    says-same at words _ said next e (record {
      further = further;
      told = told.1;
      is = is told.0 told.1 refl;
      counts = refl;
      gives = refl;
      goes_on = refl;
    })

control-says : (at : At) (words : List (List ℕ)) (read : Option Control) (said : Line) (next : At)
    → MayControl at.controls at.section → ((told : Control) → read ≡ Some told → IsControl words told)
    → control_step at read ≡ Ok (said, next) → SaysWords at words said next
control-says at words None said next may is e = cc
control-says at words (Some told) said next may is e =
    says-same at words _ said next e (record {
      may_stand = may.asked;
      further = may.further;
      is = is told refl;
      counts = refl;
      goes_on = refl;
    })

kind-says : (at : At) (found : Kind) (words : List (List ℕ)) (said : Line) (next : At) → IsOfKind words found
    → may_stand at.controls at.section (length at.addresses) found ≡ true → kind_step at found words ≡ Ok (said, next)
    → SaysWords at words said next
kind-says at kind.Agent words said next is stands e =
    agent-says at words (settings_of words) said next (at-start at.controls at.section _ stands)
    (λ config read. agent-spelled words config is.0 is.1 read) e
kind-says at kind.Client words said next is stands e =
    client-says at words (client_of words) said next (in-settings at.controls at.section _ stands)
    (λ client read. client-spelled words client is.1 read) e
kind-says at (kind.Event name) words said next is stands e =
    event-says at words (event_of name words) said next (after-start name at.controls at.section _ stands)
    (λ moment told read. event-spelled name words moment told is read) e
kind-says at kind.Control words said next is stands e =
    control-says at words (control_of words) said next (may-control at.controls at.section _ stands)
    (λ told read. control-spelled words told is read) e

pub line-says : (at : At) (octets : List ℕ) (said : Line) (next : At) → read_line at octets ≡ Ok (said, next) → Says at octets said next
line-says at octets said next e =
    let (short, step) = choice-ok (ltb 140000 (length octets)) 1 _ (said, next) e in
    let read = is-kind at _ _ said next step in
    let found = kind-spelled (words_of octets) read.found read.is in
    record {
      short = ltb-false 140000 (length octets) short;
      words = words_of octets;
      is_line = line-spelled octets;
      says = kind-says at read.found (words_of octets) said next found read.stands read.says;
    }

-- ---- and what it says is read

same-step : (a b : Line) (x y : At) → a ≡ b → x ≡ y → (let r : Step = Ok (a, x) in r ≡ Ok (b, y))
same-step a b x y same_line same_next = cc

kind-read : (at : At) (words : List (List ℕ)) (found : Kind) → kind_of words ≡ Some found
    → may_stand at.controls at.section (length at.addresses) found ≡ true → words_step at (kind_of words) words ≡ kind_step at found words
kind-read at words found is stands =
    ap (λ k. words_step at k words) is ∙ cond-true (may_stand at.controls at.section (length at.addresses) found) _ _ stands

agent-line : (at : At) (words : List (List ℕ)) (number : ℕ) (config : Config) (next : At) → SaysAgent at words number config next
    → words_step at (kind_of words) words ≡ Ok (line.Agent number config, next)
agent-line at words number config next s =
    kind-read at words kind.Agent (agent-kind words config s.is)
    (ap (λ p. may_stand at.controls p (length at.addresses) kind.Agent) s.first)
    ∙ ap (agent_step at) (agent-read words config s.is)
    ∙ same-step _ _ _ _ (ap (λ n. line.Agent n config) (sym s.counts)) (sym s.goes_on)

client-line : (at : At) (words : List (List ℕ)) (number : ℕ) (client : Client) (next : At) → SaysClient at words number client next
    → words_step at (kind_of words) words ≡ Ok (line.Client number client, next)
client-line at words number client next s =
    kind-read at words kind.Client (client-kind words client s.is)
    (ap (λ p. may_stand at.controls p (length at.addresses) kind.Client) s.follows ∙ lt-ltb (length at.addresses) 1024 s.few)
    ∙ ap (client_step at) (client-read words client s.is)
    ∙ cond-false (list_any (λ a. eqb a client.address) at.addresses) _ _
    (list_any_none (λ a. eqb a client.address) at.addresses (passed client.address at.addresses s.own))
    ∙ same-step _ _ _ _ (ap (λ n. line.Client n client) (sym s.counts)) (sym s.goes_on)

pub events-stand : (name : EventName) (controls : Bool) (s : Section) (clients : ℕ) → s ≢ section.Start
    → may_stand controls s clients (kind.Event name) ≡ true
events-stand name controls section.Start clients further = absurd (further refl)
events-stand name controls section.Settings clients further = refl
events-stand name controls section.Events clients further = refl

event-line : (at : At) (words : List (List ℕ)) (number moment : ℕ) (inputs : _) (next : At)
    → SaysEvent at words number moment inputs next → words_step at (kind_of words) words ≡ Ok (line.Event number moment inputs, next)
event-line at words number moment inputs next s =
    let read = event-read words moment s.told s.is in
    kind-read at words (kind.Event read.name) read.is_kind
    (events-stand read.name at.controls at.section (length at.addresses) s.further)
    ∙ ap (event_step at) read.reads
    ∙ same-step _ _ _ _ (ap₂ (λ n xs. line.Event n moment xs) (sym s.counts) (sym s.gives)) (sym s.goes_on)

pub controls-stand : (controls : Bool) (s : Section) (clients : ℕ) → controls ≡ true → s ≢ section.Start
    → may_stand controls s clients kind.Control ≡ true
controls-stand controls section.Start clients asked further = absurd (further refl)
controls-stand controls section.Settings clients asked further = asked
controls-stand controls section.Events clients asked further = asked

control-line : (at : At) (words : List (List ℕ)) (number : ℕ) (told : Control) (next : At) → SaysControl at words number told next
    → words_step at (kind_of words) words ≡ Ok (line.Control number told.moment told.address told.port told.octets, next)
control-line at words number told next s =
    kind-read at words kind.Control (control-kind words told s.is)
    (controls-stand at.controls at.section (length at.addresses) s.may_stand s.further)
    ∙ ap (control_step at) (control-read words told s.is)
    ∙ same-step _ _ _ _ (ap (λ n. line.Control n told.moment told.address told.port told.octets) (sym s.counts)) (sym s.goes_on)

pub words-read : (at : At) (words : List (List ℕ)) (said : Line) (next : At) → SaysWords at words said next
    → words_step at (kind_of words) words ≡ Ok (said, next)
words-read at words (line.Agent number config) next s = agent-line at words number config next s
words-read at words (line.Client number client) next s = client-line at words number client next s
words-read at words (line.Event number moment inputs) next s = event-line at words number moment inputs next s
words-read at words (line.Control number moment address port octets) next s = control-line at words number _ next s

pub says-read : (at : At) (octets : List ℕ) (said : Line) (next : At) → Says at octets said next
    → read_line at octets ≡ Ok (said, next)
says-read at octets said next s =
    cond-false (ltb 140000 (length octets)) _ _ (le-ltb 140000 (length octets) s.short)
    ∙ ap (λ words. words_step at (kind_of words) words) (line-read octets s.words s.is_line)
    ∙ words-read at s.words said next s.says

pub lines-have-a-grammar : LinesHaveAGrammar
lines-have-a-grammar at octets said next = (line-says at octets said next, says-read at octets said next)
