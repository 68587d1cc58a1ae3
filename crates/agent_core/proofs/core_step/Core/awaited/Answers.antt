use Rattle.std.proofs.Common.{◌≡◌, ◌∙◌, ap, sym, subst}
use Rattle.diameter_message.specs.View.{message_view}
use Rattle.agent_core.specs.declared.ledger.Ledger.{Ledger}
use Rattle.agent_core.specs.Fits.{KeptFits}
use Rattle.agent_core.specs.Machine.{at_moment, awaited, awaited_by}
use Rattle.agent_core.specs.Promise.{IsCore}
use Rattle.agent_core.proofs.AnswerLemmas.AwaitedLemmas.{awaited-after, client-after}
use Rattle.agent_core.proofs.StandingLemmas.Kept.{Laws}
use Rattle.agent_core.proofs.StandingLemmas.Promises.{core-lasts, core-steady}
use Rattle.agent_core.proofs.core_step.Core.awaited.Goals as goal

pub awaited-requires : goal.awaited-requires
awaited-requires c =
    let laws : Laws = record { found = c.found_stands_at_place.ensures; fresh = c.fresh_sessions_are_short.ensures; clients = c.clients_are_in_limits.ensures } in
    let core : IsCore c.deref-ledger.result.now = subst IsCore (sym c.deref-ledger.ensures) c.self.invariant in
    core-steady laws c.deref-ledger.result.now core

pub returns-clause-rule : goal.returns-clause-rule
returns-clause-rule c = λ history octets stands read.
    let same : c.deref-ledger.result.now ≡ c.args.self.now = c.deref-ledger.ensures ∙ c.self.view_is in
    let core : IsCore c.args.self.now = subst IsCore c.self.view_is c.self.invariant in
    c.awaited.ensures.entry
    ∙ ap (λ (S : Ledger). awaited_by (at_moment S c.args.moment) (message_view c.args.message.now)) same
    ∙ ap (awaited (at_moment c.args.self.now c.args.moment)) (sym read)
    ∙ awaited-after c.found_stands_at_place.ensures c.args.self.now history c.args.moment octets (core-lasts c.args.self.now core) stands

pub returns-clause-client : goal.returns-clause-client
returns-clause-client c = λ history octets stands read.
    let core : IsCore c.args.self.now = subst IsCore c.self.view_is c.self.invariant in
    client-after c.found_stands_at_place.ensures c.args.self.now history c.args.moment octets (core-lasts c.args.self.now core) stands
