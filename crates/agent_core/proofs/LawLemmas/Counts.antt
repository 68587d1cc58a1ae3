-- What is counted of what goes out, by the header of each message.
use Rattle.std.proofs.Common.{◌≡◌, ℕ, ◌+◌, ◌^◌, ◌<◌, Bool, true, false, cond, ◌&&◌, ◌||◌, List, [], ◌∷◌, ◌++◌, length, map, option_map, Option, Some, None, suc, refl, sym, ◌∙◌, ap, subst, arith}
use Rattle.std.specs.Prelude.{count_by, is_some, option_to_list, bit_and, bit_or, ◌==◌}
use Rattle.std.specs.List.{AllByRecursion, enumerate_from}
use Rattle.std.proofs.lemmas.Nat.{or_lt, and_le_r}
use Rattle.std.proofs.lemmas.List.Sums.{sum_by-append, sum_by-cons}
use Rattle.std.proofs.lemmas.Bool.{lt-leb, eqb-true}
use Rattle.radius_packet.specs.declared.reasons.Reason.{Reason}
use Rattle.wire_core.specs.Numbers.{u24, u32}
use Rattle.wire_core.proofs.NumberLemmas.{number-u24}
use Rattle.diameter_avp.specs.Avps.{avps_text, readable_avps}
use Rattle.diameter_message.specs.PlainAvps.{origin_avps}
use Rattle.diameter_message.specs.declared.header.Header.{Header}
use Rattle.diameter_message.specs.Message.{MessageParts, header_text, message_text, parts_of}
use Rattle.diameter_message.specs.Retransmission.{retransmission_header}
use Rattle.peer_machine.specs.declared.LinkCause.{LinkCause}
use Rattle.peer_machine.specs.declared.messages.Names.{Names}
use Rattle.peer_machine.specs.declared.words.LinkState.{LinkState}
use Rattle.peer_machine.specs.declared.words.BaseRequest.{BaseRequest}
use Rattle.peer_machine.specs.declared.words.BaseRequest.TheVariants.{CapabilitiesExchange, DeviceWatchdog, DisconnectPeer}
use Rattle.peer_machine.specs.declared.words.Act.{Act}
use Rattle.peer_machine.specs.declared.words.Act.TheVariants.{Nothing, Serve, Discard, Pass, Close, Request, Answer, AnswerAndClose}
use Rattle.peer_machine.specs.Messages.{command_of, details, request_header, request_text, answer_header, answer_avps, answer_text}
use Rattle.peer_machine.specs.Step.{sent, base_answer, is_request as asks}
use Rattle.agent_events.specs.declared.events.Output.{Output}
use Rattle.agent_events.specs.declared.events.Output.TheVariants.{Send, Closed, Dropped}
use Rattle.agent_core.specs.Places.{Taking, header_of, is_sent, is_request, is_application_request, is_base_request, is_first_request}
use Rattle.agent_core.specs.History.{again, resends}
use Rattle.agent_core.specs.Machine.{count_of}
use Rattle.agent_core.proofs.LawLemmas.Soundness.{SentFits}
use Rattle.peer_machine.specs.Reading.{is_application_command}

-- ---- headers

pub flags-of : (h : Header) (avps : List ℕ) → (header_of (message_text h avps)).flags ≡ h.flags
unfolding message_text header_text u24 u32
flags-of h avps = refl

pub command-in : (h : Header) (avps : List ℕ) → h.command < 2 ^ 24 → (header_of (message_text h avps)).command ≡ h.command
unfolding message_text header_text u24 u32
command-in h avps small = number-u24 h.command small

-- a test that looks at the flags and the command alone
abbrev pub LooksAt : (Header → Bool) → Type 0
LooksAt test = (h g : Header) → h.flags ≡ g.flags → h.command ≡ g.command → test h ≡ test g

pub application-looks : LooksAt is_application_request
application-looks h g flags command = rw (flags, command) refl

pub base-looks : LooksAt is_base_request
base-looks h g flags command = rw (flags, command) refl

pub first-looks : LooksAt is_first_request
first-looks h g flags command = rw flags refl

pub text-test : (test : Header → Bool) → LooksAt test → (h : Header) (avps : List ℕ) → h.command < 2 ^ 24 → test (header_of (message_text h avps)) ≡ test h
text-test test looks h avps small = looks (header_of (message_text h avps)) h (flags-of h avps) (command-in h avps small)

-- ---- lists

pub count-append : (p : Output → Bool) (xs ys : List Output) → count_by p (xs ++ ys) ≡ count_by p xs + count_by p ys
count-append p xs ys = sum_by-append (λ x. cond (p x) 1 0) xs ys

pub count-cons : (p : Output → Bool) (x : Output) (xs : List Output) → count_by p (x ∷ xs) ≡ cond (p x) 1 0 + count_by p xs
count-cons p x xs = sum_by-cons (λ y. cond (p y) 1 0) x xs

-- ---- what the link itself says

pub link-count : (test : Header → Bool) (send : Option (List ℕ)) (closed : Option LinkCause) (dropped : Option Reason) → count_by (is_sent test) (option_to_list (option_map Send send) ++ option_to_list (option_map Closed closed) ++ option_to_list (option_map Dropped dropped)) ≡ count_by (is_sent test) (option_to_list (option_map Send send))
link-count test None None None = refl
link-count test None None (Some r) = refl
link-count test None (Some c) None = refl
link-count test None (Some c) (Some r) = refl
link-count test (Some o) None None = refl
link-count test (Some o) None (Some r) = omega arith
link-count test (Some o) (Some c) None = omega arith
link-count test (Some o) (Some c) (Some r) = omega arith

-- how many messages of the link's own meet the test
abbrev pub count-sent : (Header → Bool) → Option (List ℕ) → ℕ
count-sent test send = count_by (is_sent test) (option_to_list (option_map Send send))

by-bool : (b : Bool) → 0 + cond b 1 0 ≡ count_of b
by-bool true = refl
by-bool false = refl

pub one-sent : (test : Header → Bool) (octets : List ℕ) (b : Bool) → test (header_of octets) ≡ b → count-sent test (Some octets) ≡ count_of b
one-sent test octets b e = ap (λ c. 0 + cond c 1 0) e ∙ by-bool b

any-sent : (send : Option (List ℕ)) → count-sent (λ h. true) send ≡ count_of (is_some send)
any-sent None = refl
any-sent (Some octets) = refl

command-small : (r : BaseRequest) → command_of r < 2 ^ 24
command-small CapabilitiesExchange = omega arith
command-small DeviceWatchdog = omega arith
command-small DisconnectPeer = omega arith

request-base : (r : BaseRequest) (hop end : ℕ) → is_base_request (request_header r hop end) ≡ true
request-base CapabilitiesExchange hop end = refl
request-base DeviceWatchdog hop end = refl
request-base DisconnectPeer hop end = refl

request-application : (r : BaseRequest) (hop end : ℕ) → is_application_request (request_header r hop end) ≡ false
request-application CapabilitiesExchange hop end = refl
request-application DeviceWatchdog hop end = refl
request-application DisconnectPeer hop end = refl

request-first : (r : BaseRequest) (hop end : ℕ) → is_first_request (request_header r hop end) ≡ true
request-first CapabilitiesExchange hop end = refl
request-first DeviceWatchdog hop end = refl
request-first DisconnectPeer hop end = refl

pub base-text : (test : Header → Bool) → LooksAt test → (names : Names) (r : BaseRequest) (hop end : ℕ) → test (header_of (request_text names r hop end)) ≡ test (request_header r hop end)
unfolding request_text
base-text test looks names r hop end =
    text-test test looks (request_header r hop end) (avps_text (origin_avps names.host names.realm ++ details names r)) (command-small r)

-- an answer isn't a request
pub answer-low : (h : Header) (error : Bool) → (answer_header h error).flags < 128
answer-low h true = or_lt 7 (bit_and h.flags 64) 32 (let part = and_le_r h.flags 64 in omega arith) (omega arith)
answer-low h false = or_lt 7 (bit_and h.flags 64) 0 (let part = and_le_r h.flags 64 in omega arith) (omega arith)

not-request : (h : Header) → h.flags < 128 → is_request h ≡ false
not-request h low = lt-leb 128 h.flags low

answer-request : (names : Names) (m : MessageParts) (code : ℕ) (error : Bool) → is_request (header_of (answer_text names m code error)) ≡ false
unfolding answer_text
answer-request names m code error =
    let avps = avps_text (answer_avps names (readable_avps m.avps) code) in
    let h = answer_header m.header error in
    not-request (header_of (message_text h avps)) (subst (λ n. n < 128) (sym (flags-of h avps)) (answer-low m.header error))

-- the base protocol's commands
abbrev is_base_command : ℕ → Bool
is_base_command k = k == 257 || k == 280 || k == 282

-- a test that wants a request
abbrev pub Wants : (Header → Bool) → Type 0
Wants test = (h : Header) → is_request h ≡ false → test h ≡ false

application-wants : Wants is_application_request
application-wants h e = ap (λ b. b && is_application_command h.command) e

base-wants : Wants is_base_request
base-wants h e = ap (λ b. b && is_base_command h.command) e

first-wants : Wants is_first_request
first-wants h e = ap (λ b. b && bit_and h.flags 16 == 0) e

pub answered-none : (test : Header → Bool) → Wants test → (names : Names) (message : Option MessageParts) (code : ℕ) (error : Bool) → count-sent test (base_answer names message code error) ≡ 0
answered-none test wants names None code error = refl
answered-none test wants names (Some m) code error =
    let octets = answer_text names m code error in one-sent test octets false (wants (header_of octets) (answer-request names m code error))

-- what the link itself says is counted by whether it is a request
own-count : (test : Header → Bool) (b : Bool) → LooksAt test → Wants test → ((r : BaseRequest) (hop end : ℕ) → test (request_header r hop end) ≡ b) → (names : Names) (l : LinkState) (end : ℕ) (message : Option MessageParts) (act : Act) → count-sent test (sent names l end message act) ≡ count_of (asks act && b)
own-count test b looks wants is names l end message Nothing = refl
own-count test b looks wants is names l end message Serve = refl
own-count test b looks wants is names l end message (Discard reason) = refl
own-count test b looks wants is names l end message Pass = refl
own-count test b looks wants is names l end message (Close cause) = refl
own-count test b looks wants is names l end message (Request r) =
    one-sent test (request_text names r (2147483648 + l.requests) end) b (base-text test looks names r (2147483648 + l.requests) end ∙ is r (2147483648 + l.requests) end)
own-count test b looks wants is names l end message (Answer code error) = answered-none test wants names message code error
own-count test b looks wants is names l end message (AnswerAndClose code cause) = answered-none test wants names message code false

pub and-true : (b : Bool) → (b && true) ≡ b
and-true true = refl
and-true false = refl

pub and-false : (b : Bool) → (b && false) ≡ false
and-false true = refl
and-false false = refl

pub own-application : (names : Names) (l : LinkState) (end : ℕ) (message : Option MessageParts) (act : Act) → count-sent is_application_request (sent names l end message act) ≡ 0
own-application names l end message act =
    own-count is_application_request false application-looks application-wants request-application names l end message act ∙ ap count_of (and-false (asks act))

pub own-base : (names : Names) (l : LinkState) (end : ℕ) (message : Option MessageParts) (act : Act) → count-sent is_base_request (sent names l end message act) ≡ count_of (asks act)
own-base names l end message act =
    own-count is_base_request true base-looks base-wants request-base names l end message act ∙ ap count_of (and-true (asks act))

pub own-first : (names : Names) (l : LinkState) (end : ℕ) (message : Option MessageParts) (act : Act) → count-sent is_first_request (sent names l end message act) ≡ count_of (asks act)
own-first names l end message act =
    own-count is_first_request true first-looks first-wants request-first names l end message act ∙ ap count_of (and-true (asks act))

pub own-any : (names : Names) (l : LinkState) (end : ℕ) (message : Option MessageParts) (act : Act) → count-sent (λ h. true) (sent names l end message act) ≡ count_of (is_some (sent names l end message act))
own-any names l end message act = any-sent (sent names l end message act)

-- ---- what is sent again

pub record AgainIs (test : Header → Bool) (b : Bool) (t : Taking) : Type 0 where
  pub holds : (hop : ℕ) → test (header_of (again t.sent hop)) ≡ b

one-more : (b : Bool) (n : ℕ) → cond b 1 0 + cond b n 0 ≡ cond b (suc n) 0
one-more true n = omega arith
one-more false n = refl

again-from : (test : Header → Bool) (b : Bool) (n : ℕ) (ts : List Taking) → AllByRecursion (AgainIs test b) ts → count_by (is_sent test) (map (λ p. Send (again p.1.sent p.0)) (enumerate_from n ts)) ≡ cond b (length ts) 0
again-from test true n [] all = refl
again-from test false n [] all = refl
again-from test b n (t ∷ ts) all =
    let rest = map (λ (p : ℕ × Taking). Send (again p.1.sent p.0)) (enumerate_from (n + 1) ts) in
    count-cons (is_sent test) (Send (again t.sent n)) rest
    ∙ ap (λ c. cond c 1 0 + count_by (is_sent test) rest) (all.0.holds n)
    ∙ ap (λ k. cond b 1 0 + k) (again-from test b (n + 1) ts all.1)
    ∙ one-more b (length ts)

pub resends-count : (test : Header → Bool) (b : Bool) (ts : List Taking) → AllByRecursion (AgainIs test b) ts → count_by (is_sent test) (resends ts) ≡ cond b (length ts) 0
resends-count test b ts all = again-from test b 0 ts all

pub apart : (k : ℕ) (b : Bool) (n : ℕ) → is_application_command n ≡ false → is_application_command k ≡ true → (k == n) ≡ b → b ≡ false
apart k true n not_one is e =
    let none : is_application_command k ≡ false = ap is_application_command (eqb-true k n e) ∙ not_one in
    absurd (cc)
apart k false n not_one is e = refl

-- no command is of both
commands-apart : (k : ℕ) → is_application_command k ≡ true → is_base_command k ≡ false
commands-apart k is =
    let a = apart k (k == 257) 257 refl is refl in
    let b = apart k (k == 280) 280 refl is refl in
    let c = apart k (k == 282) 282 refl is refl in
    rw (a, b, c) refl

pub again-test : (test : Header → Bool) → LooksAt test → (octets : List ℕ) (hop : ℕ) → SentFits octets → test (header_of (again octets hop)) ≡ test (record (header_of octets) { flags = 208 })
again-test test looks octets hop fits =
    let h = header_of octets in
    text-test test looks (retransmission_header h hop) (parts_of octets).avps fits.whole.header.command
    ∙ looks (retransmission_header h hop) (record h { flags = 208 }) (ap (λ f. bit_or f 16) fits.flags) refl

pub again-application : (t : Taking) → SentFits t.sent → AgainIs is_application_request true t
again-application t fits = record { holds = λ hop. again-test is_application_request application-looks t.sent hop fits ∙ fits.application }

pub again-base : (t : Taking) → SentFits t.sent → AgainIs is_base_request false t
again-base t fits = record { holds = λ hop. again-test is_base_request base-looks t.sent hop fits ∙ commands-apart (header_of t.sent).command fits.application }

pub again-first : (t : Taking) → SentFits t.sent → AgainIs is_first_request false t
again-first t fits = record { holds = λ hop. again-test is_first_request first-looks t.sent hop fits }

pub again-any : (t : Taking) → AgainIs (λ h. true) true t
again-any t = record { holds = λ hop. refl }
