-- A request is matched once, and settled then.
use Rattle.std.proofs.Common.{◌≡◌, ◌≢◌, ℕ, ◌+◌, ◌≤◌, Bool, true, false, cond, ◌&&◌, not, List, [], ◌∷◌, find, Option, Some, None, Ok, refl, sym, ◌∙◌, ap, subst, arith, ◌++◌, option_map}
use Rattle.std.specs.Prelude.{◌==◌, nat_lt, count_by, is_some, max, option_to_list}
use Rattle.std.specs.List.{AllByRecursion}
use Rattle.std.proofs.lemmas.Bool.{and_parts, eqb-true, eq-eqb, lt-ltb, leb-false}
use Rattle.std.proofs.lemmas.List.Sums.{sum_by-cons}
use Rattle.diameter_message.specs.declared.header.Header.{Header}
use Rattle.diameter_message.specs.Message.{MessageParts, read_message}
use Rattle.session_carrier.specs.declared.kept.Kind2.{Kind2}
use Rattle.session_carrier.specs.declared.kept.Kind2.TheVariants.{Access, Eap, Start, Interim, Stop}
use Rattle.session_carrier.specs.declared.kept.Outcome.{Outcome}
use Rattle.pending_table.specs.declared.key.Key.{Key}
use Rattle.agent_settings.specs.declared.config.Config.{Config}
use Rattle.peer_machine.specs.declared.Phase.{Phase}
use Rattle.peer_machine.specs.declared.Phase.TheVariants.{Closed, Greeting, Serving, Closing}
use Rattle.peer_machine.specs.declared.words.Act.{Act}
use Rattle.peer_machine.specs.declared.words.Act.TheVariants.{Pass}
use Rattle.peer_machine.specs.declared.words.Said.{Said}
use Rattle.peer_machine.specs.declared.words.Said.TheVariants.{CapabilitiesAnswer, WatchdogAnswer, DisconnectAnswer, ApplicationAnswer, OtherAnswer}
use Rattle.peer_machine.specs.declared.words.Event.TheVariants.{Says}
use Rattle.peer_machine.specs.Rules.{on_said, if_room}
use Rattle.peer_machine.specs.Step.{is_pass}
use Rattle.peer_machine.specs.Reading.{said_in, answer_said, request_said, is_application_command}
use Rattle.diameter_avp.specs.Avps.{read_avps}
use Rattle.diameter_message.specs.Results.{result_in}
use Rattle.agent_events.specs.declared.events.Input.{Input}
use Rattle.agent_events.specs.declared.events.Input.TheVariants.{Message}
use Rattle.agent_events.specs.declared.events.Output.TheVariants.{Reply, Send}
use Rattle.agent_core.specs.Places.{Event, Place, Taking, now, link, is_at, match_of, live, waiting, is_request}
use Rattle.agent_core.specs.History.{at_input, place, past, linked, answered, heard, messaged, matches, command_of, link_act, outcome, outcome_outputs, reply_outputs, next_numbers}
use Rattle.agent_core.specs.Rooms.{has_spare}
use Rattle.agent_core.specs.LawsOfRequests.{RequestsAreMatchedOnce, IsMatchedOnce, MatchesOne, AnswersSettle, IsSettled, SettlesAt, answer_outputs, is_open}
use Rattle.agent_core.proofs.ListLemmas.Lists.{AllByRecursion-weaken, find-All}
use Rattle.agent_core.proofs.LinkLemmas.Opened.{filter-true}
use Rattle.agent_core.proofs.StandingLemmas.Numbers.{Alone, numbered, waiting-alone}
use Rattle.agent_core.proofs.StandingLemmas.Histories.{Standing}
use Rattle.agent_core.proofs.LawLemmas.LawPlaces.{place-by, history-by, known}

-- ---- matched once

not-some : (o : Option Place) → not (is_some o) ≡ true → o ≡ None
not-some None e = refl
not-some (Some p) e = absurd (cc)

-- what waits is matched by no earlier place
waits-unmatched : (config : Config) (ps : List Place) (m : ℕ) (q : Taking → Bool) (t : Taking) → find q (waiting config ps m) ≡ Some t → match_of t.place ps ≡ None
waits-unmatched config ps m q t found =
    not-some _ (find-All (λ (u : Taking). not (is_some (match_of u.place ps)) ≡ true) q (waiting config ps m) (filter-true (λ u. not (is_some (match_of u.place ps))) (live config ps m)) t found)

-- a place matches no request that an earlier one matched
abbrev pub MatchesNew : List Place → Place → Type 0
MatchesNew ps p = (n : ℕ) → is_at n p.matched ≡ true → match_of n ps ≡ None

pub matches-new : (config : Config) (ps : List Place) (m : ℕ) (input : Input) → MatchesNew ps (at_input config ps m input)
matches-new config ps m input = place-by (MatchesNew ps) config ps m input (record {
  drained = λ quiet n e. absurd (cc);
  dropped = λ quiet reason n e. absurd (cc);
  repeats = λ quiet t again n e. absurd (cc);
  takes = λ quiet request takes n e. absurd (cc);
  links = λ apart event message begun n e. absurd (cc);
  unmatched = λ octets message comes n e. absurd (cc);
  matched = λ octets message comes t found n e.
      ap (λ k. match_of k ps) (sym (eqb-true _ _ e)) ∙ waits-unmatched config ps m (matches ps message.header) t found;
})

abbrev times : ℕ → List Place → ℕ
times n ps = count_by (λ p. is_at n p.matched) ps

one-more : (n : ℕ) (p : Place) (ps : List Place) → times n (p ∷ ps) ≡ cond (is_at n p.matched) 1 0 + times n ps
one-more n p ps = sum_by-cons (λ (q : Place). cond (is_at n q.matched) 1 0) p ps

-- where none is found, none is counted
never : (n : ℕ) (ps : List Place) → match_of n ps ≡ None → times n ps ≡ 0
never n [] none = refl
never n (p ∷ ps) none =
    one-more n p ps
    ∙ elim (is_at n p.matched) as (λ b. cond b (Some p) (match_of n ps) ≡ None → cond b 1 0 + times n ps ≡ 0) [
      | true ↦ (λ e. absurd (cc))
      | false ↦ (λ e. let h : times n ps ≡ 0 = never n ps e in omega arith)
    ] none

once-by : (n : ℕ) (p : Place) (ps : List Place) → MatchesNew ps p → times n ps ≤ 1 → times n (p ∷ ps) ≤ 1
once-by n p ps anew once =
    subst (λ k. k ≤ 1) (sym (one-more n p ps)) (
    elim (is_at n p.matched) as (λ b. is_at n p.matched ≡ b → cond b 1 0 + times n ps ≤ 1) [
      | true ↦ (λ e. let none = never n ps (anew n e) in omega arith)
      | false ↦ (λ e. let h : times n ps ≤ 1 = once in omega arith)
    ] refl
    )

pub matched_once : (config : Config) (history : List Event) → IsMatchedOnce (past config history)
matched_once config history = history-by config IsMatchedOnce (λ n. omega arith)
    (λ history e once n. once-by n (place config (past config history) e) (past config history) (matches-new config (past config history) (max (now (past config history)) e.moment) e.input) (once n)) history

-- ---- an answer matches one

count-cons : (p : Taking → Bool) (t : Taking) (ts : List Taking) → count_by p (t ∷ ts) ≡ cond (p t) 1 0 + count_by p ts
count-cons p t ts = sum_by-cons (λ (u : Taking). cond (p u) 1 0) t ts

count-none : (q r : Taking → Bool) (ts : List Taking) → AllByRecursion (λ u. q u ≡ false) ts → count_by (λ t. q t && r t) ts ≡ 0
count-none q r [] all = refl
count-none q r (t ∷ ts) all =
    let h : count_by (λ u. q u && r u) ts ≡ 0 = count-none q r ts all.1 in
    count-cons (λ u. q u && r u) t ts ∙ ap (λ b. cond (b && r t) 1 0 + count_by (λ u. q u && r u) ts) all.0 ∙ omega arith

count-alone : (q r : Taking → Bool) (ts : List Taking) → Alone q ts → count_by (λ t. q t && r t) ts ≤ 1
count-alone q r [] only = omega arith
count-alone q r (t ∷ ts) only =
    subst (λ k. k ≤ 1) (sym (count-cons (λ u. q u && r u) t ts)) (
    elim (q t) as (λ b. q t ≡ b → cond (b && r t) 1 0 + count_by (λ u. q u && r u) ts ≤ 1) [
      | true ↦ (λ e.
          let none = count-none q r ts (only.0 e) in
          elim (r t) as (λ c. cond c 1 0 + count_by (λ u. q u && r u) ts ≤ 1) [
            | true ↦ omega arith
            | false ↦ omega arith
          ])
      | false ↦ (λ e. let h : count_by (λ u. q u && r u) ts ≤ 1 = count-alone q r ts only.1 in omega arith)
    ] refl
    )

abbrev is_answer : Header → Taking → Bool
is_answer h t = h.command == command_of t.kept.kind

matches-one : (config : Config) (ps : List Place) → Standing config ps → MatchesOne config ps
matches-one config ps s m h = count-alone (numbered ps h.hop) (is_answer h) (waiting config ps m) (waiting-alone config ps m h.hop s.sound)

pub once : RequestsAreMatchedOnce
once config history within = (matched_once config history, matches-one config (past config history) (known config within history))

-- ---- settled

-- the one that meets both tests is the one that is found
finds : (q r : Taking → Bool) (ts : List Taking) → Alone q ts → AllByRecursion (λ t. (q t && r t) ≡ true → find (λ u. q u && r u) ts ≡ Some t) ts
finds q r [] only = tt
finds q r (t ∷ ts) only =
    elim (q t && r t) as (λ b. (q t && r t) ≡ b → (b ≡ true → cond b (Some t) (find (λ u. q u && r u) ts) ≡ Some t) × AllByRecursion (λ v. (q v && r v) ≡ true → cond b (Some t) (find (λ u. q u && r u) ts) ≡ Some v) ts) [
      | true ↦ (λ is.
          let here : q t ≡ true = (and_parts _ _ is).0 in (
            (λ e. refl),
            AllByRecursion-weaken (λ v. q v ≡ false) (λ v. (q v && r v) ≡ true → Some t ≡ Some v) (λ v off on. let there : q v ≡ true = (and_parts _ _ on).0 in absurd (cc)) ts (only.0 here),
          ))
      | false ↦ (λ is. ((λ e. absurd (cc)), finds q r ts only.1))
    ] refl

-- what an answer says, by its command
abbrev says_by : ℕ → ℕ → ℕ → Said
says_by result hop command =
    cond (command == 257 && hop == 2147483648) (CapabilitiesAnswer result)
    (cond (command == 280) WatchdogAnswer (cond (command == 282) DisconnectAnswer (cond (is_application_command command) ApplicationAnswer OtherAnswer)))

kind-says : (result hop : ℕ) (kind : Kind2) → says_by result hop (command_of kind) ≡ ApplicationAnswer
kind-says result hop Access = refl
kind-says result hop Eap = refl
kind-says result hop Start = refl
kind-says result hop Interim = refl
kind-says result hop Stop = refl

answer-is : (h : Header) (avps : List ℕ) (kind : Kind2) → h.command ≡ command_of kind → answer_said h avps ≡ ApplicationAnswer
unfolding answer_said
answer-is h avps kind is = ap (says_by (result_in (read_avps avps)) h.hop) is ∙ kind-says (result_in (read_avps avps)) h.hop kind

-- an answer of a kind's command is one to the agent
says-answer : (kind : Kind2) (message : MessageParts) → is_request message.header ≡ false → message.header.command == command_of kind ≡ true → said_in message ≡ ApplicationAnswer
unfolding said_in
says-answer kind message low is =
    let less : nat_lt message.header.flags 128 ≡ true = lt-ltb _ _ (leb-false 128 message.header.flags low) in
    ap (λ b. cond b (answer_said message.header message.avps) (request_said message.header.command message.avps)) less
    ∙ answer-is message.header message.avps kind (eqb-true _ _ is)

open-passes : (phase : Phase) (said : Said) → is_open phase ≡ true → said ≡ ApplicationAnswer → on_said phase said ≡ Pass
open-passes Closed said opened is = absurd (cc)
open-passes Greeting said opened is = absurd (cc)
open-passes Serving said opened is = ap (λ s. on_said Serving s) is
open-passes Closing said opened is = ap (λ s. on_said Closing s) is

room-passes : (spare : Bool) (act : Act) → act ≡ Pass → is_pass (if_room spare act) ≡ true
room-passes true act is = ap (λ a. is_pass a) is
room-passes false act is = ap (λ a. is_pass (if_room false a)) is

gone-by : (config : Config) (p : Place) (ps : List Place) (m : ℕ) (t : Taking) → p.matched ≡ Some t → AllByRecursion (λ u. u.place ≢ t.place) (waiting config (p ∷ ps) m)
gone-by config p ps m t matched =
    AllByRecursion-weaken (λ (u : Taking). not (is_some (match_of u.place (p ∷ ps))) ≡ true) (λ u. u.place ≢ t.place)
    (λ u waits same.
    let here : match_of u.place (p ∷ ps) ≡ Some p = ap (λ (o : Option Taking). cond (is_at u.place o) (Some p) (match_of u.place ps)) matched ∙ ap (λ b. cond b (Some p) (match_of u.place ps)) (eq-eqb t.place u.place (sym same)) in
    let none = not-some _ waits in
    absurd (cc)) (waiting config (p ∷ ps) m) (filter-true (λ u. not (is_some (match_of u.place (p ∷ ps)))) (live config (p ∷ ps) m))

reply-is : (key : Key) (reply : Option (List ℕ)) → reply_outputs key reply ≡ option_to_list (option_map (λ octets. Reply key.via key.address key.port octets) reply)
reply-is key None = refl
reply-is key (Some octets) = refl

outcome-is : (key : Key) (o : Outcome) → outcome_outputs key o ≡ answer_outputs key o
outcome-is key o = ap (λ xs. xs ++ option_to_list (option_map Send o.follow)) (reply-is key o.reply)

settles : (config : Config) (ps : List Place) (m : ℕ) (octets : List ℕ) (message : MessageParts) → read_message octets ≡ Ok message → is_request message.header ≡ false → is_open (link ps).phase ≡ true → (t : Taking) → matches ps message.header t ≡ true → find (matches ps message.header) (waiting config ps m) ≡ Some t → IsSettled config ps (at_input config ps m (Message octets)) message t
settles config ps m octets message read low opened t is found =
    let input = Message octets in
    let p = linked config ps m input (Says (said_in message)) (Some message) in
    let passes : is_pass (link_act config ps m input (Says (said_in message))) ≡ true = room-passes (has_spare config ps m input) (on_said (link ps).phase (said_in message)) (open-passes (link ps).phase (said_in message) opened (says-answer t.kept.kind message low (and_parts _ _ is).1)) in
    let at : at_input config ps m input ≡ answered config ps m message p (Some t) =
    ap (messaged config ps m input) read ∙ ap (heard config ps m message p) passes ∙ ap (answered config ps m message p) found
    in
    subst (λ (q : Place). IsSettled config ps q message t) (sym at) (record {
      matched = refl;
      gone = gone-by config (answered config ps m message p (Some t)) ps m t refl;
      outputs = outcome-is t.key (outcome t.kept.kind t.settings t.kept message (next_numbers config ps));
    })

moment-of : (config : Config) (ps : List Place) (m : ℕ) (input : Input) → (at_input config ps m input).moment ≡ m
moment-of config ps m input = place-by (λ p. p.moment ≡ m) config ps m input (record {
  drained = λ quiet. refl;
  dropped = λ quiet reason. refl;
  repeats = λ quiet t again. refl;
  takes = λ quiet request takes. refl;
  links = λ apart event message begun. refl;
  unmatched = λ octets message comes. refl;
  matched = λ octets message comes t found. refl;
})

settles-at : (config : Config) (ps : List Place) (m : ℕ) (octets : List ℕ) (message : MessageParts) → Standing config ps → read_message octets ≡ Ok message → is_request message.header ≡ false → is_open (link ps).phase ≡ true → SettlesAt config ps (at_input config ps m (Message octets)) message
settles-at config ps m octets message s read low opened =
    let q = at_input config ps m (Message octets) in
    subst (λ n. AllByRecursion (λ t. matches ps message.header t ≡ true → IsSettled config ps q message t) (waiting config ps n)) (sym (moment-of config ps m (Message octets)))
    (AllByRecursion-weaken _ _ (λ t finds is. settles config ps m octets message read low opened t is (finds is)) (waiting config ps m)
    (finds (numbered ps message.header.hop) (is_answer message.header) (waiting config ps m) (waiting-alone config ps m message.header.hop s.sound)))

pub settled : AnswersSettle
settled config history m octets message within read low opened =
    settles-at config (past config history) (max (now (past config history)) m) octets message (known config within history) read low opened
