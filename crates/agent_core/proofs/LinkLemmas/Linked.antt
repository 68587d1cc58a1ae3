-- What the code makes of an input of the link is what the machine makes of it.
use Rattle.std.proofs.Common.{◌≡◌, ◌≢◌, ℕ, ◌+◌, ◌≤◌, ◌%◌, Bool, true, false, cond, List, [], ◌++◌, length, Option, sym, ◌∙◌, ap, subst, arith}
use Rattle.std.specs.Prelude.{is_some, All}
use Rattle.std.proofs.lemmas.List.Elements.{All-from_recursion}
use Rattle.diameter_message.specs.Message.{MessageParts}
use Rattle.peer_machine.specs.declared.Phase.{Phase}
use Rattle.peer_machine.specs.declared.words.Event.{Event as LinkEvent}
use Rattle.peer_machine.specs.declared.peer.PeerInput.{PeerInput}
use Rattle.peer_machine.specs.declared.peer.PeerOutput.{PeerOutput}
use Rattle.peer_machine.specs.Step.{PeerParts, event_of, message_in, output_at, peer_after}
use Rattle.pending_table.specs.Table as table
use Rattle.pending_table.specs.Table.{Row}
use Rattle.agent_events.specs.declared.events.Output.{Output}
use Rattle.agent_core.specs.declared.ledger.Ledger.{Ledger}
use Rattle.agent_core.specs.Settings.{end_number}
use Rattle.agent_core.specs.Places.{opens}
use Rattle.agent_core.specs.Machine.{count_of, kept_waiting, kept_resends, keeps_spare, begins_by, peer_then, opens_then, may_open, output_for, on_link, on_link_by}
use Rattle.agent_core.specs.Standing.{IsSteady, EntryFits}
use Rattle.agent_core.proofs.ListLemmas.Lists.{AllByRecursion-weaken}
use Rattle.agent_core.proofs.LinkLemmas.Opening.{opens-silent, opens-may, opens-fresh}
use Rattle.agent_core.proofs.RoomLemmas.Spare.{outbox-all}

-- the counts behind what the link says
abbrev pub counted : Ledger → Bool → Bool → Bool → Ledger
counted S begins sends request = record S {
  used = cond begins 0 S.used;
  outbox = cond begins 0 S.outbox + count_of sends;
  total = (S.total + count_of request) % 4294967296;
}

abbrev pub with_peer : Ledger → PeerParts → Ledger
with_peer S p = record S { peer = p }

-- the link has done its step, and what it says is counted
abbrev pub stepped : Ledger → LinkEvent → PeerOutput → Ledger
stepped S event o = counted (with_peer S (peer_then S event)) (begins_by S.peer.link event) (is_some o.send) o.request

abbrev pub spoken : Ledger → LinkEvent → Option MessageParts → Ledger
spoken S event message = stepped S event (output_for S event message)

-- ---- the code's step is this

pub peer-is : (S : Ledger) (input : PeerInput) (spare : Bool) (peer : PeerParts) → spare ≡ keeps_spare S (event_of input) → peer ≡ peer_after S.peer S.moment input spare → peer ≡ peer_then S (event_of input)
peer-is S input spare peer spares is = is ∙ ap (λ (b : Bool). peer_after S.peer S.moment input b) spares

pub output-is : (S : Ledger) (input : PeerInput) (spare : Bool) (end : ℕ) (o : PeerOutput) → spare ≡ keeps_spare S (event_of input) → end ≡ end_number S.config S.total → o ≡ output_at S.peer S.moment input spare end → o ≡ output_for S (event_of input) (message_in input)
output-is S input spare end o spares ends is =
    is
    ∙ ap (λ (b : Bool). output_at S.peer S.moment input b end) spares
    ∙ ap (λ (n : ℕ). output_at S.peer S.moment input (keeps_spare S (event_of input)) n) ends

pub spoken-is : (S T : Ledger) (event : LinkEvent) (message : Option MessageParts) (begins : Bool) (peer : PeerParts) (o : PeerOutput) → begins ≡ begins_by S.peer.link event → peer ≡ peer_then S event → o ≡ output_for S event message → T ≡ counted (with_peer S peer) begins (is_some o.send) o.request → T ≡ spoken S event message
spoken-is S T event message begins peer o begin peer_is is counts =
    counts
    ∙ ap (λ (b : Bool). counted (with_peer S peer) b (is_some o.send) o.request) begin
    ∙ ap (λ (p : PeerParts). counted (with_peer S p) (begins_by S.peer.link event) (is_some o.send) o.request) peer_is
    ∙ ap (λ (x : PeerOutput). stepped S event x) is

-- the same by what the calls give
pub spoken-by : (S T : Ledger) (input : PeerInput) (begins spare : Bool) (end : ℕ) (peer : PeerParts) (o : PeerOutput) → begins ≡ begins_by S.peer.link (event_of input) → spare ≡ keeps_spare S (event_of input) → end ≡ end_number S.config S.total → peer ≡ peer_after S.peer S.moment input spare → o ≡ output_at S.peer S.moment input spare end → T ≡ counted (with_peer S peer) begins (is_some o.send) o.request → T ≡ spoken S (event_of input) (message_in input)
spoken-by S T input begins spare end peer o begin spares ends peer_is is counts =
    spoken-is S T (event_of input) (message_in input) begins peer o begin
    (peer-is S input spare peer spares peer_is) (output-is S input spare end o spares ends is) counts

-- whether the code sees the link open
pub opens-is : (S T : Ledger) (event : LinkEvent) (message : Option MessageParts) (before after : Phase) (seen : Bool) → T ≡ spoken S event message → before ≡ S.peer.link.phase → after ≡ T.peer.link.phase → seen ≡ opens before after → opens_then S event ≡ seen
opens-is S T event message before after seen is before_is after_is sees =
    let then : after ≡ (spoken S event message).peer.link.phase = after_is ∙ ap (λ (x : Ledger). x.peer.link.phase) is in
    sym (sees ∙ ap (λ (p : Phase). opens p after) before_is ∙ ap (λ (p : Phase). opens S.peer.link.phase p) then)

-- ---- what wants room, and a new link

abbrev pub IsUnused : Ledger → Type 0
IsUnused T = All (λ (r : Row). r.1.link ≢ T.peer.link.number) (table.live T.table T.moment)

spoken-unused : (S : Ledger) (event : LinkEvent) (message : Option MessageParts) → IsSteady S → opens_then S event ≡ true → IsUnused (spoken S event message)
spoken-unused S event message steady opening =
    All-from_recursion (λ (r : Row). r.1.link ≢ (spoken S event message).peer.link.number) (table.live S.table S.moment)
    (AllByRecursion-weaken (λ (r : Row). EntryFits S r.1) (λ (r : Row). r.1.link ≢ (spoken S event message).peer.link.number)
    (λ r. opens-fresh S event steady opening r.1) (table.live S.table S.moment) steady.entries)

pub open-unused : (S T : Ledger) (event : LinkEvent) (message : Option MessageParts) → T ≡ spoken S event message → IsSteady S → opens_then S event ≡ true → IsUnused T
open-unused S T event message is steady opening = subst IsUnused (sym is) (spoken-unused S event message steady opening)

count-one : (b : Bool) → count_of b ≤ 1
count-one true = omega arith
count-one false = omega arith

pub open-outbox : (S T : Ledger) (event : LinkEvent) (message : Option MessageParts) → T ≡ spoken S event message → IsSteady S → T.outbox + length (kept_waiting T) ≤ 4294967295
open-outbox S T event message is steady =
    let sends = is_some (output_for S event message).send in
    subst (λ (x : Ledger). x.outbox + length (kept_waiting x) ≤ 4294967295) (sym is)
    (outbox-all S steady (begins_by S.peer.link event) (count_of sends) (count-one sends))

-- what is sent again goes out where the link opens
pub says-open : (S : Ledger) (event : LinkEvent) (message : Option MessageParts) (resends : List Output) → resends ≡ cond (may_open S.peer.link.phase event) (kept_resends S) [] → opens_then S event ≡ true → resends ≡ (on_link S event message).outputs
says-open S event message resends is opening =
    is
    ∙ ap (λ (b : Bool). cond b (kept_resends S) []) (opens-may S event opening)
    ∙ ap (λ (os : List Output). os ++ kept_resends S) (sym (opens-silent S event message opening))
    ∙ ap (λ (b : Bool). (on_link_by S event b (output_for S event message)).outputs) (sym opening)
