-- How much goes out for one event.
use Rattle.std.proofs.Common.{◌≡◌, ℕ, ◌+◌, ◌≤◌, Bool, true, false, ◌&&◌, not, List, [], length, max, if◌then◌else◌, Option, Some, None, ◌∙◌, arith}
use Rattle.std.specs.Prelude.{◌==◌}
use Rattle.std.specs.List.{enumerate_from}
use Rattle.std.proofs.lemmas.List.{length-append, length-map}
use Rattle.std.proofs.lemmas.List.FromFn.{length-enumerate_from}
use Rattle.diameter_message.specs.Message.{MessageParts}
use Rattle.agent_settings.specs.declared.config.Config.{Config}
use Rattle.pending_table.specs.declared.key.Key.{Key}
use Rattle.peer_machine.specs.declared.words.Event.{Event as LinkEvent}
use Rattle.agent_events.specs.declared.events.Input.{Input}
use Rattle.agent_core.specs.Places.{Place, Taking, now, link, is_serving, waiting, answer_to}
use Rattle.agent_core.specs.History.{repeated, resends, resent_by, link_after, link_output, link_outputs, linked, outcome, next_numbers, past}
use Rattle.agent_core.specs.LawsOfSends.{most_resent, OutputsAreFew}
use Rattle.agent_core.proofs.RoomLemmas.Few.{said-few, outcome-few, unmatched-few}
use Rattle.agent_core.proofs.LawLemmas.LawPlaces.{Cases, place-by}

-- a request that comes again gets one thing
repeated-few : (key : Key) (o : Option (Option (List ℕ))) → length (repeated key o) ≤ 1
repeated-few key None = omega arith
repeated-few key (Some None) = omega arith
repeated-few key (Some (Some octets)) = omega arith

-- nothing is sent again over a link that served before
resent-few : (before after : Bool) (ts : List Taking) → length (if not before && after then ts else []) ≤ (if before then 0 else length ts)
resent-few true after ts = omega arith
resent-few false true ts = omega arith
resent-few false false ts = omega arith

resends-length : (ts : List Taking) → length (resends ts) ≡ length ts
resends-length ts = length-map (enumerate_from 0 ts) _ ∙ length-enumerate_from 0 ts

at-most : (n said again resent most : ℕ) → n ≡ said + again → said ≤ 3 → again ≡ resent → resent ≤ most → n ≤ 3 + most
at-most n said again resent most all few same below = omega (arith, all, few, same, below)

abbrev IsFewAt : Config → List Place → ℕ → Place → Type 0
IsFewAt config ps m p = length p.outputs ≤ 3 + most_resent config ps m

linked-few : (config : Config) (ps : List Place) (m : ℕ) (input : Input) (event : LinkEvent) (message : Option MessageParts) → IsFewAt config ps m (linked config ps m input event message)
linked-few config ps m input event message =
    let o = link_output config ps m input event message in
    let l = link_after config ps m input event in
    let resent = resent_by config ps m l in
    at-most _ (length (link_outputs o)) (length (resends resent)) (length resent) (most_resent config ps m)
    (length-append (link_outputs o) (resends resent)) (said-few o) (resends-length resent)
    (resent-few (is_serving (link ps).phase) (is_serving l.phase) (waiting config ps m))

few-more : (n k most : ℕ) → n ≤ k → k ≤ 3 → n ≤ 3 + most
few-more n k most below small = omega (arith, below, small)

few : (config : Config) (ps : List Place) (m : ℕ) (input : Input) → Cases (IsFewAt config ps m) config ps m input
few config ps m input =
    let most = most_resent config ps m in
    record {
      drained = λ quiet. few-more 0 0 most (omega arith) (omega arith);
      dropped = λ quiet reason. few-more 1 1 most (omega arith) (omega arith);
      repeats = λ quiet t again. few-more _ 1 most (repeated-few t.key (answer_to t.place ps)) (omega arith);
      takes = λ quiet request taken. few-more 1 1 most (omega arith) (omega arith);
      links = λ other event message begun. linked-few config ps m input event message;
      unmatched = λ octets message comes. few-more _ 2 most (unmatched-few (message.header.command == 275)) (omega arith);
      matched = λ octets message comes t found.
          few-more _ 2 most (outcome-few t.key (outcome t.kept.kind t.settings t.kept message (next_numbers config ps))) (omega arith);
    }

pub outputs_are_few : OutputsAreFew
outputs_are_few config history e =
    let ps = past config history in
    let m = max (now ps) e.moment in
    place-by (IsFewAt config ps m) config ps m e.input (few config ps m e.input)
