-- The answers that go out are to the requests of the home server.
use Rattle.std.proofs.Common.{◌≡◌, ℕ, ◌+◌, ◌≤◌, Bool, true, false, cond, not, List, [], ◌∷◌, ◌++◌, map, Option, Some, None, option_map, refl, sym, ◌∙◌, ap, subst, arith, max}
use Rattle.std.specs.Prelude.{count_by, option_to_list, ◌==◌, IfSome}
use Rattle.std.specs.List.{AllByRecursion, enumerate_from}
use Rattle.radius_packet.specs.declared.reasons.Reason.TheVariants as reasons
use Rattle.wire_core.specs.Numbers.{AreOctets}
use Rattle.diameter_avp.specs.Avps.{avps_text, readable_avps}
use Rattle.diameter_message.specs.declared.header.Header.{Header}
use Rattle.diameter_message.specs.Message.{MessageParts, IsHeader}
use Rattle.diameter_message.proofs.MessageLemmas.{IsMessage-from_ok}
use Rattle.session_carrier.specs.declared.kept.Kind2.{Kind2}
use Rattle.session_carrier.specs.declared.kept.Kind2.TheVariants.{Access, Eap, Start, Interim, Stop}
use Rattle.session_carrier.specs.declared.kept.Numbers.{Numbers}
use Rattle.agent_settings.specs.declared.config.Config.{Config}
use Rattle.pending_table.specs.declared.key.Key.{Key}
use Rattle.peer_machine.specs.declared.messages.Names.{Names}
use Rattle.peer_machine.specs.declared.words.Event.{Event as LinkEvent}
use Rattle.peer_machine.specs.declared.words.Event.TheVariants.{Says}
use Rattle.peer_machine.specs.declared.words.Act.{Act}
use Rattle.peer_machine.specs.Rules.{act_on, if_room}
use Rattle.peer_machine.specs.Messages.{answer_header, answer_avps, answer_text}
use Rattle.peer_machine.specs.Reading.{said_in}
use Rattle.peer_machine.specs.Step.{link_at}
use Rattle.agent_events.specs.declared.events.Input.{Input}
use Rattle.agent_events.specs.declared.events.Input.TheVariants.{Datagram, Up, Ready as Readied, Message, Broken, Down, Tick, Drain, Leave}
use Rattle.agent_events.specs.declared.events.Output.TheVariants.{Send, Dropped}
use Rattle.agent_core.specs.Settings.{names, end_number}
use Rattle.agent_core.specs.Fits.{header_by}
use Rattle.agent_core.specs.Places.{Place, Taking, now, total, serial, header_of, is_sent, is_request, send_count}
use Rattle.agent_core.specs.Rooms.{has_spare}
use Rattle.agent_core.specs.History.{at_input, past, peer, linked, link_act, link_output, link_outputs, again, resends, reply_outputs, outcome, next_numbers, taking_of}
use Rattle.agent_core.specs.LawsOfLinks.{IfSent, HasOctets, AnswersInput, AnswersOnce, HomeRequestsAreAnsweredOnce, is_answer}
use Rattle.agent_core.proofs.LawLemmas.Counts.{AgainIs, answer-low, again-test, count-sent}
use Rattle.agent_core.proofs.LawLemmas.Soundness.{SentFits}
use Rattle.agent_core.proofs.ListLemmas.Lists.{AllByRecursion-weaken}
use Rattle.agent_core.proofs.ImageLemmas.Headers.{header_of-text, header_of-message}
use Rattle.agent_core.proofs.RequestLemmas.TakenSteps.{sent-header}
use Rattle.agent_core.proofs.LinkLemmas.LinkPlaces.{linked-sends}
use Rattle.agent_core.proofs.LawLemmas.LawOfReplies.{each-append}
use Rattle.agent_core.proofs.LawLemmas.LawOfImages.{Ready, ready, numbers-ready, resent-fits}
use Rattle.agent_core.proofs.LawLemmas.LawPlaces.{known}
use Rattle.agent_core.proofs.LinkLemmas.LinkKinds.{IsEventOf, kind-by, silent-each}
use Rattle.agent_core.proofs.LinkLemmas.LinkActs.{IsAnswerText, each-said, some-weaken, request-looks, is_answering, own-answers, answering-request}
use Rattle.agent_core.proofs.LawLemmas.LawOfLinks.{outcome-counts, follow-test}

-- ---- the header of an answer

answer-header : (names : Names) (m : MessageParts) (code : ℕ) (error : Bool) → IsHeader m.header → header_of (answer_text names m code error) ≡ answer_header m.header error
unfolding answer_text
answer-header names m code error is =
    let low = answer-low m.header error in
    header_of-text (answer_header m.header error) (avps_text (answer_avps names (readable_avps m.avps) code))
    (record { flags = omega arith; command = is.command; application = is.application; hop = is.hop; end = is.end })

some-parts : (a b : MessageParts) → Some a ≡ Some b → a ≡ b
some-parts a b is = cc

-- the link answers the message that came in, where it is a request
answers-message : (config : Config) (ps : List Place) (m : ℕ) (request : List ℕ) (event : LinkEvent) (message : Option MessageParts) → AreOctets request → IsEventOf config ps (Message request) event message → (octets : List ℕ) → IsAnswerText (names config) message (link_act config ps m (Message request) event) octets → AnswersInput (Message request) octets
answers-message config ps m request event message whole is octets text =
    let spoken = is.spoken in
    let parts = spoken.0 in
    let same : text.parts ≡ parts = some-parts _ _ (sym text.is ∙ spoken.1.1.1) in
    let told : octets ≡ answer_text (names config) parts text.code text.error = text.text ∙ ap (λ (p : MessageParts). answer_text (names config) p text.code text.error) same in
    let read = IsMessage-from_ok request parts whole spoken.1.0 in
    let asked : header_of request ≡ parts.header = header_of-message request parts.header parts.avps read in
    let answer : header_of octets ≡ answer_header parts.header text.error = ap header_of told ∙ answer-header (names config) parts text.code text.error read.header in
    let answers : is_answering (if_room (has_spare config ps m (Message request)) (act_on (peer config ps).link config.watchdog m (Says (said_in parts)))) ≡ true =
    sym (ap (λ e. is_answering (link_act config ps m (Message request) e)) spoken.1.1.0) ∙ text.answers
    in (
      ap is_request asked ∙ answering-request (peer config ps).link config.watchdog m (has_spare config ps m (Message request)) parts answers,
      record {
        command = ap (λ (h : Header). h.command) answer ∙ sym (ap (λ (h : Header). h.command) asked);
        hop = ap (λ (h : Header). h.hop) answer ∙ sym (ap (λ (h : Header). h.hop) asked);
        end = ap (λ (h : Header). h.end) answer ∙ sym (ap (λ (h : Header). h.end) asked);
      },
    )

no-message : (config : Config) (message : Option MessageParts) (act : Act) (octets : List ℕ) → message ≡ None → IsAnswerText (names config) message act octets → ⊥
no-message config message act octets none text =
    let some = text.is in absurd (cc)

answers-input : (config : Config) (ps : List Place) (m : ℕ) (input : Input) (event : LinkEvent) (message : Option MessageParts) → HasOctets input → IsEventOf config ps input event message → (octets : List ℕ) → IsAnswerText (names config) message (link_act config ps m input event) octets → AnswersInput input octets
answers-input config ps m (Message request) event message whole is octets text = answers-message config ps m request event message whole is octets text
answers-input config ps m (Datagram via address port packet) event message whole is octets text = no-message config message _ octets is.spoken text
answers-input config ps m Up event message whole is octets text = no-message config message _ octets is.spoken text
answers-input config ps m Readied event message whole is octets text = no-message config message _ octets is.spoken text
answers-input config ps m (Broken fault) event message whole is octets text = no-message config message _ octets is.spoken text
answers-input config ps m Down event message whole is octets text = no-message config message _ octets is.spoken text
answers-input config ps m Tick event message whole is octets text = no-message config message _ octets is.spoken text
answers-input config ps m Drain event message whole is octets text = no-message config message _ octets is.spoken text
answers-input config ps m Leave event message whole is octets text = no-message config message _ octets is.spoken text

-- ---- requests are no answers

again-request : (t : Taking) → SentFits t.sent → (hop : ℕ) → is_request (header_of (again t.sent hop)) ≡ true
again-request t fits hop = again-test is_request request-looks t.sent hop fits

again-no-answer : (t : Taking) → SentFits t.sent → AgainIs is_answer false t
again-no-answer t fits = record { holds = λ hop. ap not (again-request t fits hop) }

-- what every request meets holds of what is sent again
again-each : (P : List ℕ → Type 0) → ((octets : List ℕ) → is_request (header_of octets) ≡ true → P octets) → (n : ℕ) (ts : List Taking) → AllByRecursion (λ t. SentFits t.sent) ts → AllByRecursion (IfSent P) (map (λ (q : ℕ × Taking). Send (again q.1.sent q.0)) (enumerate_from n ts))
again-each P requests n [] fits = tt
again-each P requests n (t ∷ ts) fits =
    (requests (again t.sent n) (again-request t fits.0 n), again-each P requests (n + 1) ts fits.1)

taken-request : (kind : Kind2) (numbers : Numbers) → is_request (header_by kind numbers) ≡ true
taken-request Access numbers = refl
taken-request Eap numbers = refl
taken-request Start numbers = refl
taken-request Interim numbers = refl
taken-request Stop numbers = refl

-- ---- each kind of place

abbrev OwnAnswers : Input → List ℕ → Type 0
OwnAnswers input octets = is_request (header_of octets) ≡ false → AnswersInput input octets

none-answers : (input : Input) (octets : List ℕ) → is_request (header_of octets) ≡ true → OwnAnswers input octets
none-answers input octets asks isnt = absurd (cc)

one-at-most : (test : Header → Bool) (send : Option (List ℕ)) → count-sent test send ≤ 1
one-at-most test None = omega arith
one-at-most test (Some octets) =
    elim (test (header_of octets)) as (λ b. 0 + cond b 1 0 ≤ 1) [
      | true ↦ omega arith
      | false ↦ omega arith
    ]

link-answers : (config : Config) (ps : List Place) (m : ℕ) (input : Input) (event : LinkEvent) (message : Option MessageParts) → Ready config ps m → HasOctets input → IsEventOf config ps input event message → AnswersOnce input (linked config ps m input event message)
link-answers config ps m input event message is whole spoken =
    let p = linked config ps m input event message in
    let o = link_output config ps m input event message in
    let fits = resent-fits config ps m input event message is in
    let one = one-at-most is_answer o.send in
    let count : send_count is_answer p ≡ count-sent is_answer o.send + 0 = linked-sends config ps m input event message is_answer false _ refl (AllByRecursion-weaken _ _ again-no-answer p.resent fits) in
    record {
      once = omega arith;
      own =
          each-append (IfSent (OwnAnswers input)) (link_outputs o) (resends p.resent)
          (each-said (OwnAnswers input) o
          (some-weaken (λ octets. is_request (header_of octets) ≡ false → IsAnswerText (names config) message (link_act config ps m input event) octets) (OwnAnswers input)
          (λ octets text no. answers-input config ps m input event message whole spoken octets (text no)) o.send
          (own-answers (names config) (link_at (peer config ps) m event) (end_number config (total ps)) message (link_act config ps m input event))))
          (again-each (OwnAnswers input) (none-answers input) 0 p.resent fits);
    }

unmatched-answers : (input : Input) (p : Place) (b : Bool) → p.outputs ≡ cond b [] (Dropped reasons.Unmatched ∷ []) → AnswersOnce input p
unmatched-answers input p true is = record {
  once = let none : send_count is_answer p ≡ 0 = ap (count_by (is_sent is_answer)) is in omega arith;
  own = subst (AllByRecursion (IfSent (OwnAnswers input))) (sym is) tt;
}
unmatched-answers input p false is = record {
  once = let none : send_count is_answer p ≡ 0 = ap (count_by (is_sent is_answer)) is in omega arith;
  own = subst (AllByRecursion (IfSent (OwnAnswers input))) (sym is) (tt, tt);
}

follow-own : (input : Input) (key : Key) (reply follow : Option (List ℕ)) → IfSome follow (λ octets. is_answer (header_of octets) ≡ false) → AllByRecursion (IfSent (OwnAnswers input)) (reply_outputs key reply ++ option_to_list (option_map Send follow))
follow-own input key None None none = tt
follow-own input key (Some reply) None none = (tt, tt)
follow-own input key None (Some more) none = ((λ no. absurd (let yes = ap not no in cc)), tt)
follow-own input key (Some reply) (Some more) none = (tt, ((λ no. absurd (let yes = ap not no in cc)), tt))

answers-at : (config : Config) (ps : List Place) (m : ℕ) (input : Input) → Ready config ps m → HasOctets input → AnswersOnce input (at_input config ps m input)
answers-at config ps m input is whole = kind-by (AnswersOnce input) config ps m input (record {
  stays = λ quiet unheard outputs silent. record { once = let none = silent.0 is_answer in omega arith; own = silent-each (OwnAnswers input) outputs silent };
  takes = λ quiet unheard request takes.
      let sent = (taking_of config ps m request).sent in
      let yes : is_request (header_of sent) ≡ true =
      ap is_request (sent-header config request (next_numbers config ps) (serial ps) (numbers-ready config ps m is)) ∙ taken-request request.kind (next_numbers config ps)
      in
      let none : count_by (is_sent is_answer) (Send sent ∷ []) ≡ 0 = ap (λ b. 0 + cond (not b) 1 0) yes in
      record { once = omega arith; own = (none-answers input sent yes, tt) };
  links = λ event message spoken. link-answers config ps m input event message is whole spoken;
  unmatched = λ octets message comes. unmatched-answers input _ (message.header.command == 275) refl;
  matched = λ octets message comes t found.
      let o = outcome t.kept.kind t.settings t.kept message (next_numbers config ps) in
      let follows = follow-test is_answer config ps m t message is (λ more ends. ap is_answer ends.1) in
      record {
        once = let none = outcome-counts is_answer t.key o.reply o.follow follows in omega arith;
        own = follow-own input t.key o.reply o.follow follows;
      };
})

pub answered_once : HomeRequestsAreAnsweredOnce
answered_once config history e within whole =
    let ps = past config history in
    let m = max (now ps) e.moment in
    answers-at config ps m e.input (ready config ps m (omega arith) (known config within history)) whole
