-- The link's count of its own requests.
use Rattle.std.proofs.Common.{◌≡◌, ℕ, ◌+◌, ◌%◌, ◌<◌, Bool, true, false, cond, refl, ◌∙◌, ap, arith}
use Rattle.peer_machine.specs.declared.Phase.{Phase}
use Rattle.peer_machine.specs.declared.Phase.TheVariants.{Closed, Greeting, Serving, Closing}
use Rattle.peer_machine.specs.declared.words.LinkState.{LinkState}
use Rattle.peer_machine.specs.declared.words.BaseRequest.TheVariants.{CapabilitiesExchange, DeviceWatchdog, DisconnectPeer}
use Rattle.peer_machine.specs.declared.words.Event.{Event as LinkEvent}
use Rattle.peer_machine.specs.declared.words.Event.TheVariants.{Opens, Serves, Says, Breaks, Ends, Ticks, Leaves}
use Rattle.peer_machine.specs.declared.words.Act.{Act}
use Rattle.peer_machine.specs.declared.words.Act.TheVariants.{Nothing, Serve, Discard, Pass, Close, Request, Answer, AnswerAndClose}
use Rattle.peer_machine.specs.Rules.{after, after_event, begun, heard_at, may_begin}
use Rattle.peer_machine.specs.Step.{is_request as asks}
use Rattle.agent_core.specs.Links.{with_requests, without_requests}
use Rattle.agent_core.specs.Machine.{count_of, begins_by}

begun-requests : (l : LinkState) (m : ℕ) (b : Bool) → (cond b (begun l m) l).requests ≡ cond b 0 l.requests
begun-requests l m true = refl
begun-requests l m false = refl

heard-requests : (phase : Phase) (l : LinkState) (m : ℕ) → (heard_at phase l m).requests ≡ l.requests
heard-requests Closed l m = refl
heard-requests Greeting l m = refl
heard-requests Serving l m = refl
heard-requests Closing l m = refl

pub noted-requests : (l : LinkState) (m : ℕ) (event : LinkEvent) → (after_event l m event).requests ≡ cond (begins_by l event) 0 l.requests
noted-requests l m Opens = begun-requests l m (may_begin l.phase l.number)
noted-requests l m Serves = begun-requests l m (may_begin l.phase l.number)
noted-requests l m (Says said) = heard-requests l.phase l m
noted-requests l m (Breaks fault) = refl
noted-requests l m Ends = refl
noted-requests l m Ticks = refl
noted-requests l m Leaves = refl

after-requests : (l : LinkState) (m : ℕ) (act : Act) → l.requests < 2147483648 → (after l m act).requests ≡ (l.requests + count_of (asks act)) % 2147483648
after-requests l m Nothing few = omega arith
after-requests l m Serve few = omega arith
after-requests l m (Discard reason) few = omega arith
after-requests l m Pass few = omega arith
after-requests l m (Close cause) few = omega arith
after-requests l m (Request CapabilitiesExchange) few = refl
after-requests l m (Request DeviceWatchdog) few = refl
after-requests l m (Request DisconnectPeer) few = refl
after-requests l m (Answer code error) few = omega arith
after-requests l m (AnswerAndClose code cause) few = omega arith

counted-anew : (b : Bool) (base n : ℕ) → (cond b 0 (base % 2147483648) + n) % 2147483648 ≡ cond b n (base + n) % 2147483648
counted-anew true base n = omega arith
counted-anew false base n = omega arith

few-anew : (b : Bool) (base : ℕ) → cond b 0 (base % 2147483648) < 2147483648
few-anew true base = omega arith
few-anew false base = omega arith

-- the count after a step is the number of requests since the link began
pub requests-then : (l : LinkState) (base m : ℕ) (event : LinkEvent) (act : Act) → l.requests ≡ base % 2147483648 → (after (after_event l m event) m act).requests ≡ cond (begins_by l event) (count_of (asks act)) (base + count_of (asks act)) % 2147483648
requests-then l base m event act is =
    let b = begins_by l event in
    let before : (after_event l m event).requests ≡ cond b 0 (base % 2147483648) = noted-requests l m event ∙ ap (λ n. cond b 0 n) is in
    let few : (after_event l m event).requests < 2147483648 = rw before (few-anew b base) in
    after-requests (after_event l m event) m act few
    ∙ ap (λ n. (n + count_of (asks act)) % 2147483648) before
    ∙ counted-anew b base (count_of (asks act))

-- the rule's view of a link, and the count beside it, are the link
pub requests-beside : (l : LinkState) (n : ℕ) → l.requests ≡ n % 2147483648 → l ≡ with_requests (without_requests l) n
requests-beside l n is = ap (λ k. record l { requests = k }) is

begun-number : (l : LinkState) (m : ℕ) (b : Bool) → (cond b (begun l m) l).number ≡ cond b (l.number + 1) l.number
begun-number l m true = refl
begun-number l m false = refl

heard-number : (phase : Phase) (l : LinkState) (m : ℕ) → (heard_at phase l m).number ≡ l.number
heard-number Closed l m = refl
heard-number Greeting l m = refl
heard-number Serving l m = refl
heard-number Closing l m = refl

-- and a link that begins has the next number
pub number-noted : (l : LinkState) (m : ℕ) (event : LinkEvent) → (after_event l m event).number ≡ cond (begins_by l event) (l.number + 1) l.number
number-noted l m Opens = begun-number l m (may_begin l.phase l.number)
number-noted l m Serves = begun-number l m (may_begin l.phase l.number)
number-noted l m (Says said) = heard-number l.phase l m
number-noted l m (Breaks fault) = refl
number-noted l m Ends = refl
number-noted l m Ticks = refl
number-noted l m Leaves = refl
