-- The ledger's step is the rule's, and the core stands for the history with the event.
use Rattle.std.proofs.Common.{◌∙◌, sym, subst}
use Rattle.agent_core.specs.Places.{Event}
use Rattle.agent_core.specs.Machine.{next}
use Rattle.agent_core.specs.Promise.{IsCore}
use Rattle.agent_core.proofs.RoomLemmas.Few.{few-of}
use Rattle.agent_core.proofs.StandingLemmas.Kept.{Laws}
use Rattle.agent_core.proofs.StandingLemmas.Promises.{core-steady, core-next, core-after, config-after, answers-of, stands-of}
use Rattle.agent_core.proofs.core_step.Core.step.Goals as goal

pub step-requires : goal.step-requires
step-requires c =
    let laws : Laws = record { found = c.found_stands_at_place.ensures; fresh = c.fresh_sessions_are_short.ensures; clients = c.clients_are_in_limits.ensures } in
    let core : IsCore c.deref_mut.result.now = subst IsCore (sym c.deref_mut.ensures.value) c.self.invariant in
    core-steady laws c.deref_mut.result.now core

pub invariant_of-self : goal.invariant_of-self
invariant_of-self c =
    let laws : Laws = record { found = c.found_stands_at_place.ensures; fresh = c.fresh_sessions_are_short.ensures; clients = c.clients_are_in_limits.ensures } in
    let core : IsCore c.deref_mut.result.now = subst IsCore (sym c.deref_mut.ensures.value) c.self.invariant in
    let event : Event = record { moment = c.args.moment; input = c.args.input.now } in
    core-after c.deref_mut.result.now c.step.new.self (next c.deref_mut.result.now c.args.moment c.args.input.now) c.step.result c.step.ensures.ledger c.step.ensures.err core
    (core-next laws c.deref_mut.result.now event c.has_octets.ensures core)

pub returns-clause-answers : goal.returns-clause-answers
returns-clause-answers c =
    let laws : Laws = record { found = c.found_stands_at_place.ensures; fresh = c.fresh_sessions_are_short.ensures; clients = c.clients_are_in_limits.ensures } in
    let core : IsCore c.deref_mut.result.now = subst IsCore (sym c.deref_mut.ensures.value) c.self.invariant in
    answers-of laws c.deref_mut.result.now c.args.self.now (c.deref_mut.ensures.value ∙ c.self.view_is) (record { moment = c.args.moment; input = c.args.input.now }) c.step.result c.step.ensures.outputs core

pub returns-clause-stands : goal.returns-clause-stands
returns-clause-stands c =
    let laws : Laws = record { found = c.found_stands_at_place.ensures; fresh = c.fresh_sessions_are_short.ensures; clients = c.clients_are_in_limits.ensures } in
    let core : IsCore c.deref_mut.result.now = subst IsCore (sym c.deref_mut.ensures.value) c.self.invariant in
    stands-of laws c.deref_mut.result.now c.args.self.now c.step.new.self (c.deref_mut.ensures.value ∙ c.self.view_is) (record { moment = c.args.moment; input = c.args.input.now }) c.step.result c.step.ensures.ledger core

pub returns-clause-config : goal.returns-clause-config
returns-clause-config c =
    let laws : Laws = record { found = c.found_stands_at_place.ensures; fresh = c.fresh_sessions_are_short.ensures; clients = c.clients_are_in_limits.ensures } in
    let core : IsCore c.deref_mut.result.now = subst IsCore (sym c.deref_mut.ensures.value) c.self.invariant in
    config-after laws c.deref_mut.result.now c.args.self.now c.step.new.self (c.deref_mut.ensures.value ∙ c.self.view_is) (record { moment = c.args.moment; input = c.args.input.now }) c.step.result c.step.ensures.ledger c.step.ensures.err core

pub returns-clause-few : goal.returns-clause-few
returns-clause-few c =
    let laws : Laws = record { found = c.found_stands_at_place.ensures; fresh = c.fresh_sessions_are_short.ensures; clients = c.clients_are_in_limits.ensures } in
    let core : IsCore c.deref_mut.result.now = subst IsCore (sym c.deref_mut.ensures.value) c.self.invariant in
    few-of c.deref_mut.result.now c.args.moment c.args.input.now c.step.result c.step.ensures.outputs (core-steady laws c.deref_mut.result.now core)
