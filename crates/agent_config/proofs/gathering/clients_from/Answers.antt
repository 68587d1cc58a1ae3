use Rattle.std.proofs.Common.{◌≡◌, ◌∷◌, ◌++◌, List, length, None, rules, is_some, true, false, subst, append_assoc}
use Rattle.std.specs.Vec.Iter.{into_iter_items}
use Rattle.agent_settings.specs.declared.client.Client.{Client}
use Rattle.agent_settings.specs.Config.{find_address}
use Rattle.agent_config.proofs.Twice.{is_some-shown, none-there, seconds, seconds_from, seconds-stop, seconds-pass}
use Rattle.agent_config.proofs.gathering.clients_from.Goals as goal

pub returns-then-is_some-clause-err : goal.returns-then-is_some-clause-err
returns-then-is_some-clause-err c =
    let at = c.loop-client in
    let all = c.args.clients.items in
    let left : into_iter_items at.client-iterator ≡ c.in-Some.client ∷ into_iter_items c.next.new.self = c.in-Some.ensures.steps.0 in
    let found : is_some (find_address c.in-Some.client.address at.made) ≡ true =
    is_some-shown _ true c.by_address.result _ c.by_address.ensures (search rules) in
    let Whole : List Client → Type 0 = λ cs. at.made ++ cs ≡ all in
    let Same : List Client → Type 0 = λ cs. seconds_from all (length at.made) cs ≡ seconds all in
    λ _. rw c.len.ensures (seconds-stop all at.made (into_iter_items c.next.new.self) c.in-Some.client
    (subst Whole left at.invariant.all) found (subst Same left at.invariant.second))

pub loop-client-preserved : goal.loop-client-preserved
loop-client-preserved c =
    let at = c.loop-client in
    let all = c.args.clients.items in
    let left : into_iter_items at.client-iterator ≡ c.in-Some.client ∷ into_iter_items c.next.new.self = c.in-Some.ensures.steps.0 in
    let none : find_address c.in-Some.client.address at.made ≡ None =
    none-there _ (is_some-shown _ false c.by_address.result _ c.by_address.ensures (search rules)) in
    let Whole : List Client → Type 0 = λ cs. at.made ++ cs ≡ all in
    let Same : List Client → Type 0 = λ cs. seconds_from all (length at.made) cs ≡ seconds all in
    let whole : at.made ++ c.in-Some.client ∷ into_iter_items c.next.new.self ≡ all = subst Whole left at.invariant.all in
    rw c.in_ok-push.ensures.ok (record {
      all = simp append_assoc whole;
      second = seconds-pass all at.made (into_iter_items c.next.new.self) c.in-Some.client whole none (subst Same left at.invariant.second);
    })
