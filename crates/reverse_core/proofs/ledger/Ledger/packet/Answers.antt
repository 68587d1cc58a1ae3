use Rattle.std.proofs.Common.{◌≡◌, ◌∙◌, [], ◌∷◌, List, ℕ, Option, ap, sym, subst}
use Rattle.std.specs.Prelude.{find}
use Rattle.reverse_core.specs.declared.events.ReverseOutput.TheVariants.{Answer, Dropped}
use Rattle.reverse_core.specs.declared.events.ReverseReason.TheVariants.{StrangeReply}
use Rattle.reverse_core.specs.History.{Outcome, has_identifier, matched}
use Rattle.reverse_core.specs.Requests.{Closes, Nothing}
use Rattle.reverse_core.specs.State.{Does, Leads, state_of}
use Rattle.reverse_core.specs.Ticking.{Matches}
use Rattle.reverse_core.proofs.ReplyLemmas.{leads-said, matches-none, matches-some}
use Rattle.reverse_core.proofs.ledger.Ledger.packet.Goals as goal

pub returns-in-None-clause-ok : goal.returns-in-None-clause-ok
returns-in-None-clause-ok c =
    let l = c.args.self.now in
    let found = find (has_identifier c.args.packet.now.id) l.open_ones.list in
    let o = matched l.own c.args.packet.now found in
    leads-said c.say.result c.args.moment o (Dropped StrangeReply) (state_of l) (state_of c.say.new.self)
    (matches-none o found (subst (λ (x : Option (List ℕ)). Matches o found x) c.in-None.is c.in_ok-matched.ensures)) c.say.ensures.outputs (c.say.ensures.state Nothing tt)

pub returns-in_ok-outputs-in-Some-clause-ok : goal.returns-in_ok-outputs-in-Some-clause-ok
returns-in_ok-outputs-in-Some-clause-ok c =
    let l = c.args.self.now in
    let found = find (has_identifier c.args.packet.now.id) l.open_ones.list in
    let o = matched l.own c.args.packet.now found in
    let answer = c.in-Some.octets in
    let f = matches-some o found answer (subst (λ (x : Option (List ℕ)). Matches o found x) c.in-Some.is c.in_ok-matched.ensures) in
    let kept : c.in_ok-answer-in-Some.answer ≡ answer = c.in_ok-answer-in-Some.ensures ∙ c.as_slice.ensures in
    let done = c.close.ensures.state f.request (ap (λ id. find (has_identifier id) l.open_ones.list) c.id.ensures ∙ f.found_is) in
    subst (λ (x : Outcome). Leads c.args.moment x (state_of l) (state_of c.close.new.self) c.in_ok-outputs-in-Some.outputs) (sym f.outcome_is)
    (let leads : Leads c.args.moment (record { deed = Closes f.request.taken answer; outputs = Answer answer ∷ [] }) (state_of l) (state_of c.close.new.self) c.in_ok-outputs-in-Some.outputs =
    record {
      outputs = c.in_ok-outputs-in-Some.ensures;
      done = subst (λ a. Does c.args.moment (Closes f.request.taken a) (state_of l) (state_of c.close.new.self)) kept done;
    } in leads)
