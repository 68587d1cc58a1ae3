-- The application requests that go out.
use Rattle.std.proofs.Common.{◌≡◌, ℕ, ◌+◌, ◌*◌, ◌<◌, ◌≤◌, ◌^◌, Bool, true, false, cond, List, [], ◌∷◌, ◌++◌, length, filter, map, Option, Some, None, option_map, refl, sym, ◌∙◌, ap, subst, arith}
use Rattle.std.specs.Prelude.{◌==◌, count_by, option_to_list, max, bit_and, bit_or, IfSome}
use Rattle.std.specs.List.{AllByRecursion, enumerate_from}
use Rattle.std.proofs.lemmas.List.Elements.{filter-append}
use Rattle.radius_packet.specs.declared.reasons.Reason.TheVariants as reasons
use Rattle.diameter_message.specs.declared.header.Header.{Header}
use Rattle.diameter_message.specs.Message.{MessageParts, IsHeader, message_text, header_text, parts_of}
use Rattle.diameter_message.specs.Retransmission.{retransmission_header}
use Rattle.wire_core.specs.Numbers.{u24, u32}
use Rattle.agent_settings.specs.declared.config.Config.{Config}
use Rattle.pending_table.specs.declared.key.Key.{Key}
use Rattle.peer_machine.specs.declared.Phase.{Phase}
use Rattle.peer_machine.specs.declared.Phase.TheVariants.{Closed, Greeting, Serving, Closing}
use Rattle.peer_machine.specs.declared.words.Event.{Event as LinkEvent}
use Rattle.peer_machine.specs.Step.{link_at}
use Rattle.agent_events.specs.declared.events.Input.{Input}
use Rattle.agent_events.specs.declared.events.Output.{Output}
use Rattle.agent_events.specs.declared.events.Output.TheVariants.{Send, Dropped}
use Rattle.agent_core.specs.declared.ledger.Ledger.{Ledger}
use Rattle.agent_core.specs.Settings.{names, end_number}
use Rattle.agent_core.specs.Places.{Place, Taking, now, opens, link, waiting, used, total, serial, answer_to, header_of, is_sent, is_application_request}
use Rattle.agent_core.specs.History.{at_input, past, repeated, taking_of, linked, link_act, link_output, link_outputs, resends, again, outcome, reply_outputs, next_numbers, peer}
use Rattle.agent_core.specs.Machine.{kept_waiting}
use Rattle.agent_core.specs.LawsOfSends.{SendsAreImages, SendsImages, IsImageOf, IsTermination, application_sends, IsResent}
use Rattle.agent_core.proofs.LawLemmas.Counts.{count-cons, link-count, own-application, again-application}
use Rattle.agent_core.proofs.LawLemmas.Soundness.{SentFits}
use Rattle.agent_core.proofs.ImageLemmas.Headers.{AreNumbers, header_of-text, header_by-counts, EndsSession, termination_header-counts}
use Rattle.agent_core.proofs.AnswerLemmas.FollowHeaders.{follow_ends_session, follow-ends}
use Rattle.agent_core.proofs.AnswerLemmas.HeardPlaces.{heard-resent}
use Rattle.agent_core.proofs.RequestLemmas.TakenSteps.{sent-header}
use Rattle.agent_core.proofs.StandingLemmas.Agreeing.{StandsAt-later, waiting-count}
use Rattle.agent_core.proofs.RoomLemmas.Roomy.{IsRoomy-later}
use Rattle.agent_core.proofs.StandingLemmas.Histories.{Standing}
use Rattle.agent_core.proofs.StandingLemmas.Steps.{waiting-sent}
use Rattle.agent_core.proofs.LawLemmas.LawPlaces.{place-by, known}

-- ---- what is known before a place

-- the next numbers fit, what waits can be numbered, and each that waits sent a message of an application
pub record Ready (config : Config) (ps : List Place) (m : ℕ) : Type 0 where
  pub used : used ps + length (waiting config ps m) ≤ 2147483648
  pub again : 2 * length (waiting config ps m) ≤ config.backlog
  pub sent : AllByRecursion (λ t. SentFits t.sent) (waiting config ps m)

pub ready : (config : Config) (ps : List Place) (m : ℕ) → now ps ≤ m → Standing config ps → Ready config ps m
ready config ps m later s =
    let S = s.ledger in
    let moment : S.moment ≤ m = (let h = s.stands.moment in omega arith) in
    let T : Ledger = record S { moment = m } in
    let count : length (kept_waiting T) ≡ length (waiting S.config ps m) = waiting-count ps m T (StandsAt-later ps S (now ps) m later s.stands) in
    let rooms = (IsRoomy-later S m moment s.roomy).rooms in
    let same : S.used ≡ used ps = s.stands.used in
    let room : T.used + length (kept_waiting T) ≤ 2147483648 = rooms.used in
    let twice : 2 * length (kept_waiting T) ≤ S.config.backlog = rooms.again in
    record {
      used = subst (λ (c : Config). used ps + length (waiting c ps m) ≤ 2147483648) s.same (omega arith);
      again = subst (λ (c : Config). 2 * length (waiting c ps m) ≤ c.backlog) s.same (omega arith);
      sent = waiting-sent config ps m s.sound;
    }

pub numbers-ready : (config : Config) (ps : List Place) (m : ℕ) → Ready config ps m → AreNumbers (next_numbers config ps)
numbers-ready config ps m is =
    let few = is.used in
    record { hop = omega arith; end = omega arith }

-- ---- filters

pub filter-none : (p : Output → Bool) (xs : List Output) → count_by p xs ≡ 0 → filter p xs ≡ []
filter-none p [] none = refl
filter-none p (x ∷ xs) none =
    let split : cond (p x) 1 0 + count_by p xs ≡ 0 = sym (count-cons p x xs) ∙ none in
    elim (p x) as (λ b. cond b 1 0 + count_by p xs ≡ 0 → cond b (x ∷ filter p xs) (filter p xs) ≡ []) [
      | true ↦ (λ e. absurd (omega arith))
      | false ↦ (λ e. filter-none p xs (omega arith))
    ] split

pub append-nil : {X : Type 0} (xs : List X) → xs ++ [] ≡ xs
append-nil [] = refl
append-nil (x ∷ xs) = ap (λ ys. x ∷ ys) (append-nil xs)

again-all : (n : ℕ) (ts : List Taking) → AllByRecursion (λ t. SentFits t.sent) ts → filter (is_sent is_application_request) (map (λ (q : ℕ × Taking). Send (again q.1.sent q.0)) (enumerate_from n ts)) ≡ map (λ (q : ℕ × Taking). Send (again q.1.sent q.0)) (enumerate_from n ts)
again-all n [] all = refl
again-all n (t ∷ ts) all =
    let rest = map (λ (q : ℕ × Taking). Send (again q.1.sent q.0)) (enumerate_from (n + 1) ts) in
    ap (λ b. cond b (Send (again t.sent n) ∷ filter (is_sent is_application_request) rest) (filter (is_sent is_application_request) rest)) ((again-application t all.0).holds n)
    ∙ ap (λ xs. Send (again t.sent n) ∷ xs) (again-all (n + 1) ts all.1)

-- the link itself sends none, and all that is sent again is
pub link-filter : (config : Config) (ps : List Place) (m : ℕ) (input : Input) (event : LinkEvent) (message : Option MessageParts) → AllByRecursion (λ t. SentFits t.sent) (linked config ps m input event message).resent → application_sends (linked config ps m input event message) ≡ resends (linked config ps m input event message).resent
link-filter config ps m input event message fits =
    let o = link_output config ps m input event message in
    let ts = (linked config ps m input event message).resent in
    let test = is_sent is_application_request in
    let none : count_by test (link_outputs o) ≡ 0 = link-count is_application_request o.send o.closed o.dropped ∙ own-application (names config) (link_at (peer config ps) m event) (end_number config (total ps)) message (link_act config ps m input event) in
    filter-append test (link_outputs o) (resends ts)
    ∙ ap (λ xs. xs ++ filter test (resends ts)) (filter-none test (link_outputs o) none)
    ∙ again-all 0 ts fits

-- ---- each kind of place

opens-not : (phase : Phase) → opens phase phase ≡ false
opens-not Closed = refl
opens-not Greeting = refl
opens-not Serving = refl
opens-not Closing = refl

none-again : (config : Config) (ps : List Place) (m : ℕ) → [] ≡ cond (opens (link ps).phase (link ps).phase) (waiting config ps m) []
none-again config ps m = sym (ap (λ b. cond b (waiting config ps m) []) (opens-not (link ps).phase))

repeated-none : (key : Key) (o : Option (Option (List ℕ))) → filter (is_sent is_application_request) (repeated key o) ≡ []
repeated-none key None = refl
repeated-none key (Some None) = refl
repeated-none key (Some (Some octets)) = refl

unmatched-none : (b : Bool) → filter (is_sent is_application_request) (cond b [] (Dropped reasons.Unmatched ∷ [])) ≡ []
unmatched-none true = refl
unmatched-none false = refl

-- what goes out for an answer is its reply and what follows
outcome-filter : (key : Key) (reply follow : Option (List ℕ)) → ((octets : List ℕ) → follow ≡ Some octets → is_application_request (header_of octets) ≡ true) → filter (is_sent is_application_request) (reply_outputs key reply ++ option_to_list (option_map Send follow)) ≡ option_to_list (option_map Send follow)
outcome-filter key None None is = refl
outcome-filter key (Some reply) None is = refl
outcome-filter key None (Some octets) is = ap (λ b. cond b (Send octets ∷ []) []) (is octets refl)
outcome-filter key (Some reply) (Some octets) is = ap (λ b. cond b (Send octets ∷ []) []) (is octets refl)

pub if-some : (P : List ℕ → Type 0) (o : Option (List ℕ)) → ((x : List ℕ) → o ≡ Some x → P x) → IfSome o P
if-some P None all = tt
if-some P (Some x) all = all x refl

sent-if : (b : Bool) (ts : List Taking) → AllByRecursion (λ t. SentFits t.sent) ts → AllByRecursion (λ t. SentFits t.sent) (cond b ts [])
sent-if true ts fits = fits
sent-if false ts fits = tt

-- all that is sent again was sent as a message of an application
pub resent-fits : (config : Config) (ps : List Place) (m : ℕ) (input : Input) (event : LinkEvent) (message : Option MessageParts) → Ready config ps m → AllByRecursion (λ t. SentFits t.sent) (linked config ps m input event message).resent
resent-fits config ps m input event message is =
    sent-if (opens (link ps).phase (linked config ps m input event message).link.phase) (waiting config ps m) is.sent

images-at : (config : Config) (ps : List Place) (m : ℕ) (input : Input) → Ready config ps m → SendsImages config ps (at_input config ps m input)
images-at config ps m input is =
    let numbers = numbers-ready config ps m is in
    place-by (SendsImages config ps) config ps m input (record {
      drained = λ quiet. record { image = tt; again = none-again config ps m; follow = None; terminates = tt; sends = refl };
      dropped = λ quiet reason. record { image = tt; again = none-again config ps m; follow = None; terminates = tt; sends = refl };
      repeats = λ quiet t comes. record { image = tt; again = none-again config ps m; follow = None; terminates = tt; sends = repeated-none t.key (answer_to t.place ps) };
      takes = λ quiet request takes. record {
        image = subst (λ i. IsImageOf config ps i (taking_of config ps m request)) (sym takes.is) (request, (takes.judged, refl));
        again = none-again config ps m;
        follow = None;
        terminates = tt;
        sends =
            let sent = (taking_of config ps m request).sent in
            ap (λ b. cond b (Send sent ∷ []) [])
            (ap is_application_request (sent-header config request (next_numbers config ps) (serial ps) numbers) ∙ (header_by-counts request.kind (next_numbers config ps)).application);
      };
      links = λ apart event message begun. record {
        image = tt;
        again = refl;
        follow = None;
        terminates = tt;
        sends =
            link-filter config ps m input event message (resent-fits config ps m input event message is)
            ∙ sym (append-nil (resends (linked config ps m input event message).resent));
      };
      unmatched = λ octets message comes. record {
        image = tt;
        again = refl;
        follow = None;
        terminates = tt;
        sends =
            unmatched-none (message.header.command == 275)
            ∙ ap (λ ts. resends ts ++ []) (sym (heard-resent config ps m octets message comes.hands));
      };
      matched = λ octets message comes t found.
          let o = outcome t.kept.kind t.settings t.kept message (next_numbers config ps) in
          let ends : (more : List ℕ) → o.follow ≡ Some more → EndsSession (next_numbers config ps) more = λ more is. follow_ends_session t.kept.kind t.settings t.kept message (next_numbers config ps) more numbers is in
          record {
            image = tt;
            again = refl;
            follow = o.follow;
            terminates = if-some (IsTermination config ps (Some t)) o.follow (λ more is. follow-ends t message (next_numbers config ps) more is);
            sends =
                outcome-filter t.key o.reply o.follow (λ more is. let e = ends more is in ap is_application_request e.1 ∙ (termination_header-counts e.0 (next_numbers config ps)).application)
                ∙ ap (λ ts. resends ts ++ option_to_list (option_map Send o.follow)) (sym (heard-resent config ps m octets message comes.hands));
          };
    })

pub image : SendsAreImages
image config history e within =
    let ps = past config history in
    let m = max (now ps) e.moment in
    images-at config ps m e.input (ready config ps m (omega arith) (known config within history))

-- ---- sent again

pub again-header : (octets : List ℕ) (k : ℕ) → k < 2 ^ 32 → SentFits octets → header_of (again octets k) ≡ retransmission_header (header_of octets) k
again-header octets k small fits =
    let h = header_of octets in
    let was = fits.whole.header in
    let flags : bit_or h.flags 16 ≡ 208 = ap (λ f. bit_or f 16) fits.flags in
    let is : IsHeader (retransmission_header h k) = record { flags = omega arith; command = was.command; application = was.application; hop = small; end = was.end } in
    header_of-text (retransmission_header h k) (parts_of octets).avps is

again-avps : (h : Header) (avps : List ℕ) → (parts_of (message_text h avps)).avps ≡ avps
unfolding message_text header_text u24 u32
again-avps h avps = refl

pub is-resent : (octets : List ℕ) (k : ℕ) → k < 2 ^ 32 → SentFits octets → IsResent octets k (again octets k)
is-resent octets k small fits =
    let header = again-header octets k small fits in
    record {
      copy = record {
        end = ap (λ (h : Header). h.end) header;
        avps = again-avps (retransmission_header (header_of octets) k) (parts_of octets).avps;
      };
      flag = ap (λ (h : Header). bit_and h.flags 16) header ∙ ap (λ f. bit_and (bit_or f 16) 16) fits.flags;
      hop = ap (λ (h : Header). h.hop) header;
    }

pub fewer-if : (b : Bool) (ts : List Taking) → length (cond b ts []) ≤ length ts
fewer-if true ts = omega arith
fewer-if false ts = omega arith
