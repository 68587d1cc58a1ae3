-- What goes out where no link is there, before a link serves, and after its end was asked for.
use Rattle.std.proofs.Common.{◌≡◌, ℕ, zero, suc, ◌+◌, ◌≤◌, ◌⊎◌, inl, inr, Bool, true, false, cond, ◌&&◌, ◌||◌, List, [], ◌∷◌, ◌++◌, length, Option, Some, None, option_map, refl, sym, ◌∙◌, ap, subst, arith, max}
use Rattle.std.specs.Prelude.{count_by, nat_lt, option_to_list, ◌==◌, IfSome}
use Rattle.std.specs.List.{AllByRecursion}
use Rattle.std.proofs.lemmas.Bool.{lt-ltb}
use Rattle.radius_packet.specs.declared.reasons.Reason.TheVariants as reasons
use Rattle.radius_packet.specs.declared.reasons.Reason.TheVariants.{WrongPhase}
use Rattle.diameter_message.specs.declared.header.Header.{Header}
use Rattle.diameter_message.specs.Message.{MessageParts}
use Rattle.session_carrier.specs.declared.kept.Kind2.{Kind2}
use Rattle.session_carrier.specs.declared.kept.Kind2.TheVariants.{Access, Eap, Start, Interim, Stop}
use Rattle.session_carrier.specs.declared.kept.Numbers.{Numbers}
use Rattle.agent_settings.specs.declared.config.Config.{Config}
use Rattle.agent_settings.specs.Config.{InLimits}
use Rattle.pending_table.specs.declared.key.Key.{Key}
use Rattle.peer_machine.specs.declared.Phase.TheVariants.{Greeting, Closing}
use Rattle.peer_machine.specs.declared.words.BaseRequest.TheVariants.{CapabilitiesExchange, DisconnectPeer}
use Rattle.peer_machine.specs.declared.words.Event.{Event as LinkEvent}
use Rattle.peer_machine.specs.declared.words.Event.TheVariants.{Opens, Says}
use Rattle.peer_machine.specs.declared.words.Act.{Act}
use Rattle.peer_machine.specs.declared.words.Act.TheVariants.{Nothing, Serve, Discard, Pass, Close, Request, Answer, AnswerAndClose}
use Rattle.peer_machine.specs.declared.words.LinkState.{LinkState}
use Rattle.peer_machine.specs.declared.words.BaseRequest.TheVariants.{DeviceWatchdog}
use Rattle.peer_machine.specs.Rules.{act_on, if_room, after_event, after}
use Rattle.peer_machine.specs.Step.{link_at}
use Rattle.peer_machine.specs.Reading.{said_in, is_application_command}
use Rattle.agent_events.specs.declared.events.Input.{Input}
use Rattle.agent_events.specs.declared.events.Input.TheVariants.{Up, Message}
use Rattle.agent_events.specs.declared.events.Output.TheVariants.{Send, Dropped}
use Rattle.agent_core.specs.Settings.{names, end_number}
use Rattle.agent_core.specs.Fits.{header_by}
use Rattle.agent_core.specs.Verdict.{Request as Asked}
use Rattle.agent_core.specs.Places.{Event, Place, Taking, now, link, begins, is_serving, waiting, outbox, total, serial, header_of, is_sent, is_request, is_application_request, send_count, sent_on_link}
use Rattle.agent_core.specs.Rooms.{rooms, has_spare}
use Rattle.agent_core.specs.History.{at_input, past, peer, linked, link_act, link_output, answered, outcome, reply_outputs, next_numbers}
use Rattle.agent_core.specs.Machine.{count_of}
use Rattle.agent_core.specs.LawsOfRequests.{is_open}
use Rattle.agent_core.specs.LawsOfSends.{IsTermination}
use Rattle.agent_core.specs.LawsOfLinks.{IfSent, EndsWhileClosing, OnlyEnds, NothingIsSentWithoutALink, LinksBeginWithCapabilities, RequestsGoWhereTheLinkServes, DisconnectRequestsAreLast, SentCapabilitiesAlone, is_any, is_capabilities_request, is_disconnect_request, began, grants, is_granted}
use Rattle.agent_core.proofs.RequestLemmas.Refusals.{refusal-none}
use Rattle.agent_core.proofs.LawLemmas.Counts.{LooksAt, Wants, AgainIs, count-sent, link-count, own-application, apart, again-test}
use Rattle.agent_core.proofs.LawLemmas.Soundness.{SentFits}
use Rattle.agent_core.proofs.ListLemmas.Lists.{AllByRecursion-weaken}
use Rattle.agent_core.proofs.ImageLemmas.Headers.{EndsSession}
use Rattle.agent_core.proofs.AnswerLemmas.FollowHeaders.{follow_ends_session, follow-ends}
use Rattle.agent_core.proofs.RequestLemmas.TakenSteps.{sent-header}
use Rattle.agent_core.proofs.LinkLemmas.Opening.{noted-phase}
use Rattle.agent_core.proofs.AnswerLemmas.HeardPlaces.{HandsOn, heard-phase}
use Rattle.agent_core.proofs.LinkLemmas.LinkPlaces.{linked-sends}
use Rattle.agent_core.proofs.LawLemmas.LawOfImages.{Ready, ready, numbers-ready, resent-fits, if-some}
use Rattle.agent_core.proofs.LawLemmas.LawPlaces.{TakesUp, history-by, known}
use Rattle.agent_core.proofs.LinkLemmas.LinkKinds.{IsEventOf, kind-by, silent-each, said_by, shut-says}
use Rattle.agent_core.proofs.LinkLemmas.LinkActs.{asks_for, own-by, each-said, some-weaken, unsent-test, request-looks, idle-shut, idle-phase, idle-unsent, shut-serves, opens-unless, pass-open, is_ending, last-ending, last-phase, last-unasked, ending-serves, closes-open}

-- ---- places where nothing is sent

pub input-at : (config : Config) (ps : List Place) (m : ℕ) (input : Input) → (at_input config ps m input).input ≡ input
input-at config ps m input = kind-by (λ p. p.input ≡ input) config ps m input (record {
  stays = λ quiet unheard outputs silent. refl;
  takes = λ quiet unheard request takes. refl;
  links = λ event message is. refl;
  unmatched = λ octets message comes. sym comes.is;
  matched = λ octets message comes t found. sym comes.is;
})

-- what is taken up is taken up where the link serves
pub takes-serving : (config : Config) (ps : List Place) (m : ℕ) (input : Input) (request : Asked) → TakesUp config ps m input request → is_serving (link ps).phase ≡ true
takes-serving config ps m input request takes = (refusal-none config (rooms config ps m) takes.admits).serving

pub hands-open : (config : Config) (ps : List Place) (m : ℕ) (octets : List ℕ) (message : MessageParts) → HandsOn config ps m octets message → is_open (link ps).phase ≡ true
hands-open config ps m octets message hands =
    pass-open (link ps).phase (said_in message) (has_spare config ps m (Message octets)) hands

-- the link isn't open there, and nothing is sent
record IsDown (p : Place) : Type 0 where
  pub shut : is_open p.link.phase ≡ false
  pub none : (test : Header → Bool) → send_count test p ≡ 0

down-link : (config : Config) (ps : List Place) (m : ℕ) (input : Input) (event : LinkEvent) (message : Option MessageParts) → IsEventOf config ps input event message → is_open (link ps).phase ≡ false → begins ps input ≡ false → ((link ps).phase ≡ Greeting → grants input ≡ false) → IsDown (linked config ps m input event message)
down-link config ps m input event message is shut old ungranted =
    let l = (peer config ps).link in
    let act = link_act config ps m input event in
    let idle = idle-shut l config.watchdog m event (has_spare config ps m input) shut (is.begun ∙ old) (λ greeting. is.granted ∙ ungranted greeting) in
    let before : is_open (after_event l m event).phase ≡ false = ap is_open (noted-phase l m event) ∙ shut in
    let after_it : is_open (after (after_event l m event) m act).phase ≡ false = idle-phase (after_event l m event) m act idle before in
    let says = shut-says config ps m input event message act refl (opens-unless (link ps).phase _ (shut-serves _ after_it)) in
    let o = said_by config ps m event message act in
    record {
      shut = after_it;
      none = λ test.
          ap (count_by (is_sent test)) says
          ∙ link-count test o.send o.closed o.dropped
          ∙ ap (count-sent test) (idle-unsent (names config) (link_at (peer config ps) m event) (end_number config (total ps)) message act idle);
    }

down-at : (config : Config) (ps : List Place) (m : ℕ) (input : Input) → is_open (link ps).phase ≡ false → begins ps input ≡ false → ((link ps).phase ≡ Greeting → grants input ≡ false) → IsDown (at_input config ps m input)
down-at config ps m input shut old ungranted = kind-by IsDown config ps m input (record {
  stays = λ quiet unheard outputs silent. record { shut = shut; none = silent.0 };
  takes = λ quiet unheard request takes.
      absurd (let serves = takes-serving config ps m input request takes in let no = shut-serves (link ps).phase shut in cc);
  links = λ event message is. down-link config ps m input event message is shut old ungranted;
  unmatched = λ octets message comes. absurd (let yes = hands-open config ps m octets message comes.hands in cc);
  matched = λ octets message comes t found. absurd (let yes = hands-open config ps m octets message comes.hands in cc);
})

pub nothing_without : NothingIsSentWithoutALink
nothing_without config history e closed old =
    let ps = past config history in
    (down-at config ps (max (now ps) e.moment) e.input (ap is_open closed) old (λ greeting. absurd (let both = sym closed ∙ greeting in cc))).none is_any

-- ---- a link that greets

capabilities-looks : LooksAt is_capabilities_request
capabilities-looks h g flags command = rw (flags, command) refl

capabilities-wants : Wants is_capabilities_request
capabilities-wants h e = ap (λ b. b && h.command == 257) e

-- the place of an Up that begins a link
record Begins (p : Place) : Type 0 where
  pub shut : is_open p.link.phase ≡ false
  pub any : send_count is_any p ≡ 1
  pub capabilities : send_count is_capabilities_request p ≡ 1

begins-up : (config : Config) (ps : List Place) (m : ℕ) → Ready config ps m → begins ps Up ≡ true → Begins (at_input config ps m Up)
begins-up config ps m is begun =
    let few = is.again in
    let spare : has_spare config ps m Up ≡ true =
    ap (λ b. nat_lt (cond b 0 (outbox ps) + length (waiting config ps m)) (config.backlog + 64)) begun ∙ lt-ltb _ _ (omega arith)
    in
    let act : link_act config ps m Up Opens ≡ Request CapabilitiesExchange =
    ap (λ b. if_room b (act_on (peer config ps).link config.watchdog m Opens)) spare
    ∙ ap (λ b. cond b (Request CapabilitiesExchange) (Discard WrongPhase)) begun
    in
    let says = shut-says config ps m Up Opens None (Request CapabilitiesExchange) act (opens-unless (link ps).phase Greeting refl) in
    let o = said_by config ps m Opens None (Request CapabilitiesExchange) in
    record {
      shut = ap (λ a. is_open (after (link_at (peer config ps) m Opens) m a).phase) act;
      any = ap (count_by (is_sent is_any)) says;
      capabilities =
          ap (count_by (is_sent is_capabilities_request)) says
          ∙ link-count is_capabilities_request o.send o.closed o.dropped
          ∙ own-by is_capabilities_request capabilities-looks capabilities-wants (names config) (link_at (peer config ps) m Opens) (end_number config (total ps)) None (Request CapabilitiesExchange);
    }

-- while no answer of success came nothing else was sent
record Greets (ps : List Place) : Type 0 where
  pub shut : is_open (link ps).phase ≡ false
  pub sent : SentCapabilitiesAlone ps

abbrev Awaits : List Place → Type 0
Awaits ps = began ps ≡ Some Up → is_granted ps ≡ false → Greets ps

record Counted (p : Place) (ps : List Place) (b : Bool) : Type 0 where
  pub shut : is_open p.link.phase ≡ false
  pub any : cond b (send_count is_any p) (sent_on_link is_any ps + send_count is_any p) ≡ 1
  pub capabilities : cond b (send_count is_capabilities_request p) (sent_on_link is_capabilities_request ps + send_count is_capabilities_request p) ≡ 1

or-false : (a b : Bool) → (a || b) ≡ false → (a ≡ false) × (b ≡ false)
or-false true b e = absurd (cc)
or-false false b e = (refl, e)

counted-by : (p : Place) (ps : List Place) (b : Bool) → (b ≡ true → p.input ≡ Up → Begins p) → (b ≡ false → is_open (link ps).phase ≡ false → grants p.input ≡ false → IsDown p) → Awaits ps → cond b (Some p.input) (began ps) ≡ Some Up → cond b false (grants p.input || is_granted ps) ≡ false → Counted p ps b
counted-by p ps true anew down before up ungranted =
    let is_up : p.input ≡ Up = cc in
    let begun = anew refl is_up in
    record { shut = begun.shut; any = begun.any; capabilities = begun.capabilities }
counted-by p ps false anew down before up ungranted =
    let both = or-false (grants p.input) (is_granted ps) ungranted in
    let so_far = before up both.1 in
    let still_down = down refl so_far.shut both.0 in
    let any = so_far.sent.any in
    let capabilities = so_far.sent.capabilities in
    let no_any = still_down.none is_any in
    let no_capabilities = still_down.none is_capabilities_request in
    record { shut = still_down.shut; any = omega arith; capabilities = omega arith }

awaits-on : (config : Config) (ps : List Place) (m : ℕ) (input : Input) → Ready config ps m → Awaits ps → Awaits (at_input config ps m input ∷ ps)
awaits-on config ps m input is before up ungranted =
    let p = at_input config ps m input in
    let same : p.input ≡ input = input-at config ps m input in
    let counted = counted-by p ps (begins ps p.input)
    (λ begun is_up.
    let up_input : input ≡ Up = sym same ∙ is_up in
    subst (λ (i : Input). begins ps i ≡ true → Begins (at_input config ps m i)) (sym up_input) (λ b. begins-up config ps m is b) (sym (ap (begins ps) same) ∙ begun))
    (λ old shut ungranted_here. down-at config ps m input shut (sym (ap (begins ps) same) ∙ old) (λ greeting. sym (ap grants same) ∙ ungranted_here))
    before up ungranted
    in
    record { shut = counted.shut; sent = record { any = counted.any; capabilities = counted.capabilities } }

pub greeted : LinksBeginWithCapabilities
greeted config history within up ungranted =
    (history-by config Awaits (λ e. absurd (cc))
    (λ past_events e before.
    let ps = past config past_events in
    let m = max (now ps) e.moment in
    awaits-on config ps m e.input (ready config ps m (omega arith) (known config within past_events)) before)
    history up ungranted).sent

-- ---- requests where the link doesn't serve

matched-ends : (test : Header → Bool) (config : Config) (ps : List Place) (p : Place) (key : Key) (reply follow : Option (List ℕ)) → IfSome follow (EndsWhileClosing config ps p) → AllByRecursion (IfSent (λ octets. test (header_of octets) ≡ true → EndsWhileClosing config ps p octets)) (reply_outputs key reply ++ option_to_list (option_map Send follow))
matched-ends test config ps p key None None ends = tt
matched-ends test config ps p key (Some reply) None ends = (tt, tt)
matched-ends test config ps p key None (Some more) ends = ((λ e. ends), tt)
matched-ends test config ps p key (Some reply) (Some more) ends = (tt, ((λ e. ends), tt))

unmatched-ends : (P : List ℕ → Type 0) (b : Bool) → AllByRecursion (IfSent P) (cond b [] (Dropped reasons.Unmatched ∷ []))
unmatched-ends P true = tt
unmatched-ends P false = (tt, tt)

-- what follows an answer while the link closes
follow-closing : (config : Config) (ps : List Place) (p : Place) (t : Taking) (message : MessageParts) → p.matched ≡ Some t → (link ps).phase ≡ Closing → IfSome (outcome t.kept.kind t.settings t.kept message (next_numbers config ps)).follow (EndsWhileClosing config ps p)
follow-closing config ps p t message is closing =
    if-some (EndsWhileClosing config ps p) (outcome t.kept.kind t.settings t.kept message (next_numbers config ps)).follow
    (λ more follows. record {
      closing = closing;
      ends = subst (λ (o : Option Taking). IsTermination config ps o more) (sym is) (follow-ends t message (next_numbers config ps) more follows);
    })

-- what the link says itself meets no test, and nothing else goes out
link-ends : (test : Header → Bool) (config : Config) (ps : List Place) (m : ℕ) (input : Input) (event : LinkEvent) (message : Option MessageParts) → is_serving (linked config ps m input event message).link.phase ≡ false → IfSome (link_output config ps m input event message).send (λ octets. test (header_of octets) ≡ false) → OnlyEnds test config ps (linked config ps m input event message)
link-ends test config ps m input event message unserved none =
    let p = linked config ps m input event message in
    let act = link_act config ps m input event in
    let P : List ℕ → Type 0 = λ octets. test (header_of octets) ≡ true → EndsWhileClosing config ps p octets in
    let says = shut-says config ps m input event message act refl (opens-unless (link ps).phase _ unserved) in
    subst (AllByRecursion (IfSent P)) (sym says)
    (each-said P (said_by config ps m event message act)
    (some-weaken (λ octets. test (header_of octets) ≡ false) P (λ octets no yes. absurd (cc)) (link_output config ps m input event message).send none))

serves-at : (config : Config) (ps : List Place) (m : ℕ) (input : Input) → is_serving (link ps).phase ≡ false → is_serving (at_input config ps m input).link.phase ≡ false → OnlyEnds is_application_request config ps (at_input config ps m input)
serves-at config ps m input unserved = kind-by (λ p. is_serving p.link.phase ≡ false → OnlyEnds is_application_request config ps p) config ps m input (record {
  stays = λ quiet unheard outputs silent still_unserved. silent-each _ outputs silent;
  takes = λ quiet unheard request takes still_unserved. absurd (let serves = takes-serving config ps m input request takes in cc);
  links = λ event message is still_unserved.
      link-ends is_application_request config ps m input event message still_unserved
      (unsent-test is_application_request (link_output config ps m input event message).send
      (own-application (names config) (link_at (peer config ps) m event) (end_number config (total ps)) message (link_act config ps m input event)));
  unmatched = λ octets message comes still_unserved. unmatched-ends _ (message.header.command == 275);
  matched = λ octets message comes t found still_unserved.
      let o = outcome t.kept.kind t.settings t.kept message (next_numbers config ps) in
      let p = answered config ps m message (linked config ps m (Message octets) (Says (said_in message)) (Some message)) (Some t) in
      matched-ends is_application_request config ps p t.key o.reply o.follow
      (follow-closing config ps p t message refl (closes-open (link ps).phase (hands-open config ps m octets message comes.hands) unserved));
})

pub requests_go : RequestsGoWhereTheLinkServes
requests_go config history e within unserved still_unserved =
    serves-at config (past config history) (max (now (past config history)) e.moment) e.input unserved still_unserved

-- ---- behind a Disconnect-Peer-Request

disconnect-looks : LooksAt is_disconnect_request
disconnect-looks h g flags command = rw (flags, command) refl

disconnect-wants : Wants is_disconnect_request
disconnect-wants h e = ap (λ b. b && h.command == 282) e

pub request-wants : Wants is_request
request-wants h e = e

pub again-command : (test : Header → Bool) → LooksAt test → (k : ℕ) → is_application_command k ≡ false → ((h : Header) → test (record h { flags = 208 }) ≡ (h.command == k)) → (t : Taking) → SentFits t.sent → AgainIs test false t
again-command test looks k other is t fits = record {
  holds = λ hop.
      again-test test looks t.sent hop fits
      ∙ is (header_of t.sent)
      ∙ apart (header_of t.sent).command _ k other fits.application refl;
}

-- of a link that ends the place leaves no other, and a Disconnect-Peer-Request ends it
record Ends (ps : List Place) (input : Input) (p : Place) : Type 0 where
  pub stays : begins ps input ≡ false → is_ending (link ps).phase ≡ true → is_ending p.link.phase ≡ true
  pub asked : (send_count is_disconnect_request p ≡ 0) ⊎ (is_ending p.link.phase ≡ true)

asked-ends : (l : LinkState) (m : ℕ) (act : Act) → (asks_for is_disconnect_request act ≡ false) ⊎ (is_ending (after l m act).phase ≡ true)
asked-ends l m Nothing = inl refl
asked-ends l m Serve = inl refl
asked-ends l m (Discard reason) = inl refl
asked-ends l m Pass = inl refl
asked-ends l m (Close cause) = inl refl
asked-ends l m (Request CapabilitiesExchange) = inl refl
asked-ends l m (Request DeviceWatchdog) = inl refl
asked-ends l m (Request DisconnectPeer) = inr refl
asked-ends l m (Answer code error) = inl refl
asked-ends l m (AnswerAndClose code cause) = inl refl

disconnects : (config : Config) (ps : List Place) (m : ℕ) (input : Input) (event : LinkEvent) (message : Option MessageParts) → Ready config ps m → send_count is_disconnect_request (linked config ps m input event message) ≡ count_of (asks_for is_disconnect_request (link_act config ps m input event)) + 0
disconnects config ps m input event message is =
    linked-sends config ps m input event message is_disconnect_request false _
    (own-by is_disconnect_request disconnect-looks disconnect-wants (names config) (link_at (peer config ps) m event) (end_number config (total ps)) message (link_act config ps m input event))
    (AllByRecursion-weaken _ _ (again-command is_disconnect_request disconnect-looks 282 refl (λ h. refl)) (linked config ps m input event message).resent (resent-fits config ps m input event message is))

link-asked : (config : Config) (ps : List Place) (m : ℕ) (input : Input) (event : LinkEvent) (message : Option MessageParts) → Ready config ps m → (asks_for is_disconnect_request (link_act config ps m input event) ≡ false) ⊎ (is_ending (linked config ps m input event message).link.phase ≡ true) → (send_count is_disconnect_request (linked config ps m input event message) ≡ 0) ⊎ (is_ending (linked config ps m input event message).link.phase ≡ true)
link-asked config ps m input event message is (inl none) = inl (disconnects config ps m input event message is ∙ ap (λ b. count_of b + 0) none)
link-asked config ps m input event message is (inr ending) = inr ending

taken-disconnects : (kind : Kind2) (numbers : Numbers) → is_disconnect_request (header_by kind numbers) ≡ false
taken-disconnects Access numbers = refl
taken-disconnects Eap numbers = refl
taken-disconnects Start numbers = refl
taken-disconnects Interim numbers = refl
taken-disconnects Stop numbers = refl

pub unmatched-counts : (test : Header → Bool) (b : Bool) → count_by (is_sent test) (cond b [] (Dropped reasons.Unmatched ∷ [])) ≡ 0
unmatched-counts test true = refl
unmatched-counts test false = refl

-- what goes out for an answer meets no test that what follows it doesn't meet
pub outcome-counts : (test : Header → Bool) (key : Key) (reply follow : Option (List ℕ)) → IfSome follow (λ octets. test (header_of octets) ≡ false) → count_by (is_sent test) (reply_outputs key reply ++ option_to_list (option_map Send follow)) ≡ 0
outcome-counts test key None None none = refl
outcome-counts test key (Some reply) None none = refl
outcome-counts test key None (Some more) none = ap (λ b. 0 + cond b 1 0) none
outcome-counts test key (Some reply) (Some more) none = ap (λ b. 0 + cond b 1 0) none

-- what follows is a Session-Termination-Request, and so of no test that this one doesn't meet
pub follow-test : (test : Header → Bool) (config : Config) (ps : List Place) (m : ℕ) (t : Taking) (message : MessageParts) → Ready config ps m → ((octets : List ℕ) → EndsSession (next_numbers config ps) octets → test (header_of octets) ≡ false) → IfSome (outcome t.kept.kind t.settings t.kept message (next_numbers config ps)).follow (λ octets. test (header_of octets) ≡ false)
follow-test test config ps m t message is none =
    if-some (λ octets. test (header_of octets) ≡ false) (outcome t.kept.kind t.settings t.kept message (next_numbers config ps)).follow
    (λ more follows. none more (follow_ends_session t.kept.kind t.settings t.kept message (next_numbers config ps) more (numbers-ready config ps m is) follows))

ends-at : (config : Config) (ps : List Place) (m : ℕ) (input : Input) → Ready config ps m → Ends ps input (at_input config ps m input)
ends-at config ps m input is = kind-by (Ends ps input) config ps m input (record {
  stays = λ quiet unheard outputs silent. record { stays = λ old ending. ending; asked = inl (silent.0 is_disconnect_request) };
  takes = λ quiet unheard request takes. record {
    stays = λ old ending. ending;
    asked = inl (ap (λ b. 0 + cond b 1 0)
        (ap is_disconnect_request (sent-header config request (next_numbers config ps) (serial ps) (numbers-ready config ps m is)) ∙ taken-disconnects request.kind (next_numbers config ps)));
  };
  links = λ event message spoken.
      let l = (peer config ps).link in
      let act = link_act config ps m input event in
      record {
        stays = λ old ending.
            last-phase (after_event l m event) m act (last-ending l config.watchdog m event (has_spare config ps m input) ending (spoken.begun ∙ old))
            (ap is_ending (noted-phase l m event) ∙ ending);
        asked = link-asked config ps m input event message is (asked-ends (after_event l m event) m act);
      };
  unmatched = λ octets message comes. record {
    stays = λ old ending. ap is_ending (heard-phase config ps m octets message comes.hands) ∙ ending;
    asked = inl (unmatched-counts is_disconnect_request (message.header.command == 275));
  };
  matched = λ octets message comes t found.
      let o = outcome t.kept.kind t.settings t.kept message (next_numbers config ps) in
      record {
        stays = λ old ending. ap is_ending (heard-phase config ps m octets message comes.hands) ∙ ending;
        asked = inl (outcome-counts is_disconnect_request t.key o.reply o.follow (follow-test is_disconnect_request config ps m t message is (λ more ends. ap is_disconnect_request ends.1)));
      };
})

abbrev HasEnded : List Place → Type 0
HasEnded ps = 1 ≤ sent_on_link is_disconnect_request ps → is_ending (link ps).phase ≡ true

asked-here : (p : Place) → (send_count is_disconnect_request p ≡ 0) ⊎ (is_ending p.link.phase ≡ true) → 1 ≤ send_count is_disconnect_request p → is_ending p.link.phase ≡ true
asked-here p (inl none) some = absurd (omega arith)
asked-here p (inr ending) some = ending

ended-by : (p : Place) (ps : List Place) (b : Bool) (before : ℕ) → (b ≡ false → is_ending (link ps).phase ≡ true → is_ending p.link.phase ≡ true) → (send_count is_disconnect_request p ≡ 0) ⊎ (is_ending p.link.phase ≡ true) → (1 ≤ before → is_ending (link ps).phase ≡ true) → 1 ≤ cond b (send_count is_disconnect_request p) (before + send_count is_disconnect_request p) → is_ending p.link.phase ≡ true
ended-by p ps true before stays asked ended some = asked-here p asked some
ended-by p ps false zero stays asked ended some = asked-here p asked (omega arith)
ended-by p ps false (suc n) stays asked ended some = stays refl (ended (omega arith))

ended-on : (config : Config) (ps : List Place) (m : ℕ) (input : Input) → Ready config ps m → HasEnded ps → HasEnded (at_input config ps m input ∷ ps)
ended-on config ps m input is before =
    let p = at_input config ps m input in
    let ends = ends-at config ps m input is in
    let same : p.input ≡ input = input-at config ps m input in
    ended-by p ps (begins ps p.input) (sent_on_link is_disconnect_request ps) (λ old. ends.stays (sym (ap (begins ps) same) ∙ old)) ends.asked before

has-ended : (config : Config) → InLimits config → (history : List Event) → HasEnded (past config history)
has-ended config within history = history-by config HasEnded (λ some. absurd (omega arith))
    (λ past_events e before.
    let ps = past config past_events in
    let m = max (now ps) e.moment in
    ended-on config ps m e.input (ready config ps m (omega arith) (known config within past_events)) before) history

last-at : (config : Config) (ps : List Place) (m : ℕ) (input : Input) → is_ending (link ps).phase ≡ true → begins ps input ≡ false → OnlyEnds is_request config ps (at_input config ps m input)
last-at config ps m input ending old = kind-by (OnlyEnds is_request config ps) config ps m input (record {
  stays = λ quiet unheard outputs silent. silent-each _ outputs silent;
  takes = λ quiet unheard request takes.
      absurd (let serves = takes-serving config ps m input request takes in let no = ending-serves (link ps).phase ending in cc);
  links = λ event message spoken.
      let l = (peer config ps).link in
      let act = link_act config ps m input event in
      let last = last-ending l config.watchdog m event (has_spare config ps m input) ending (spoken.begun ∙ old) in
      let phase = last-phase (after_event l m event) m act last (ap is_ending (noted-phase l m event) ∙ ending) in
      link-ends is_request config ps m input event message (ending-serves _ phase)
      (last-unasked is_request request-looks request-wants (names config) (link_at (peer config ps) m event) (end_number config (total ps)) message act last);
  unmatched = λ octets message comes. unmatched-ends _ (message.header.command == 275);
  matched = λ octets message comes t found.
      let o = outcome t.kept.kind t.settings t.kept message (next_numbers config ps) in
      let p = answered config ps m message (linked config ps m (Message octets) (Says (said_in message)) (Some message)) (Some t) in
      matched-ends is_request config ps p t.key o.reply o.follow
      (follow-closing config ps p t message refl (closes-open (link ps).phase (hands-open config ps m octets message comes.hands) (ending-serves (link ps).phase ending)));
})

pub disconnect_is_last : DisconnectRequestsAreLast
disconnect_is_last config history e within asked old =
    let ps = past config history in
    last-at config ps (max (now ps) e.moment) e.input (has-ended config within history asked) old
