use Rattle.std.proofs.Common.{◌&&◌, ◌==◌, [], ◌∷◌, ◌++◌, length, vec_capacity, refl, sym, ap, ◌∙◌, subst}
use Rattle.wire_devices.specs.Telling.{Adds}
use Rattle.agent_core.specs.declared.ledger.Ledger.{Ledger}
use Rattle.agent_core.specs.History.{outputs_after}
use Rattle.agent_core.specs.Places.{Event}
use Rattle.agent_core.specs.LawsOfSends.{leaves_all}
use Rattle.agent_core.specs.Standing.{StandsFor}
use Rattle.agent_server.specs.Desks.{HasRoom, StandsBy}
use Rattle.agent_server.specs.Runs.{history}
use Rattle.agent_server.proofs.DeskLemmas.{blank-of, calm, goes-by, stands-blank, stands-on}
use Rattle.agent_server.proofs.desk.AgentDeskDesk.step.Goals as goal

pub returns-in_err-room-clause-turn : goal.returns-in_err-room-clause-turn
returns-in_err-room-clause-turn g c = λ base turns s.
    let same = c.in_err-room.ensures.same in
    let told = subst (λ k. Adds (g.C.Clock.readings c.args.self.now.clock) (g.C.Clock.readings k) (c.now.result ∷ [])) (sym same.clock) c.now.ensures in
    subst (λ turn. StandsBy g.C.Clock.readings c.make_room.new.self base (turns ++ turn ∷ [])) (sym (blank-of c.args.ask c.from_residual.result c.from_residual.ensures.0))
    (stands-blank g.C.Clock.readings c.past_goes_on.ensures c.args.self.now c.make_room.new.self base turns c.now.result s told same.core same.until same.moment
    same.send_queue same.closed same.left same.entries same.sender)

pub returns-in_err-all-clause-turn : goal.returns-in_err-all-clause-turn
returns-in_err-all-clause-turn g c = λ base turns s.
    let same = c.in_ok-room.ensures.same in
    let new = record c.make_room.new.self { core = c.step.new.self } in
    let told = subst (λ k. Adds (g.C.Clock.readings c.args.self.now.clock) (g.C.Clock.readings k) (c.now.result ∷ [])) (sym same.clock) c.now.ensures in
    subst (λ turn. StandsBy g.C.Clock.readings new base (turns ++ turn ∷ [])) (sym (blank-of c.args.ask c.from_residual-in_err-all.result c.from_residual-in_err-all.ensures.0))
    (stands-blank g.C.Clock.readings c.past_goes_on.ensures c.args.self.now new base turns c.now.result s told (c.in_err-all.ensures.err ∙ same.core) same.until same.moment
    same.send_queue same.closed same.left same.entries same.sender)

pub returns-clause-turn : goal.returns-clause-turn
returns-clause-turn g c = λ base turns s.
    let same = c.in_ok-room.ensures.same in
    let H = history turns in
    let e : Event = record { moment = c.max-moment.result; input = c.args.ask } in
    let stood = subst (λ (k : Ledger). StandsFor k H) (sym same.core) s.core in
    let all_is = c.into_vec.ensures ∙ c.in_ok-all.ensures.answers H stood in
    let all_by_old = all_is ∙ ap (λ (k : Ledger). outputs_after k.config H e) same.core in
    let room = subst (HasRoom (length c.make_room.new.self.send_queue.items) (vec_capacity c.make_room.new.self.send_queue) (vec_capacity c.in_ok-room.room)) (sym all_by_old) (c.in_ok-room.ensures.room H s.core e refl) in
    let quiet = calm c.make_room.new.self.core.config H c.max-moment.result c.args.ask c.begins-begun.result c.into_vec.result.items (c.begins-begun.ensures.rule H stood) all_is in
    let enters = c.enter-heard.ensures c.in_ok-room.ensures.none room quiet in
    let idle_is = c.is_idle-idle.ensures ∙ ap (λ os. leaves_all c.args.ask c.outbox-outbox.result && length os == 0) (c.as_slice.ensures ∙ sym c.into_vec.ensures) in
    stands-on g.C.Clock.readings c.past_goes_on.ensures c.args.self.now c.tell.new.self base turns c.now.result c.max-moment.result c.args.ask c.begins-begun.result c.is_idle-idle.result c.into_vec.result.items c.enter-heard.result s
    (goes-by g.C.Clock.readings c.args.self.now c.make_room.new.self c.enter-heard.new.self c.tell.new.self c.now.new.self c.step.new.self c.now.result c.max-moment.result c.outbox-outbox.result c.args.ask c.begins-begun.result
    c.is_idle-idle.result c.into_vec.result.items c.enter-heard.result c.now.ensures c.max-moment.ensures same enters c.tell.ensures idle_is c.outbox-outbox.ensures.rule c.in_ok-all.ensures.config
    (λ K st. c.into_vec.ensures ∙ c.in_ok-all.ensures.answers K st) c.in_ok-all.ensures.stands c.begins-begun.ensures.rule)
