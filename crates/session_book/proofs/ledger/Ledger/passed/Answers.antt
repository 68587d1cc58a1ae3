use Rattle.std.proofs.Common.{◌≡◌, sym, ◌∙◌, ap, subst}
use Rattle.agent_core.specs.declared.ledger.Ledger.{Ledger as CoreState}
use Rattle.agent_core.specs.History.{outputs_after}
use Rattle.agent_core.specs.Standing.{StandsFor}
use Rattle.session_book.specs.History.{core_event}
use Rattle.session_book.specs.Standing.{BookState}
use Rattle.session_book.specs.State.{state_of, place_after}
use Rattle.session_book.proofs.CorePasses.{SameBook, passes-by}
use Rattle.session_book.proofs.ledger.Ledger.passed.Goals as goal

pub returns-clause-state : goal.returns-clause-state
returns-clause-state c = λ H stands.
    let S : BookState = state_of c.args.self.now in
    let P = c.prepare.new.self in
    let V : BookState = record { core = c.step.new.self; rows = P.sessions.map.entries; aborts = P.aborts; opened = P.opened; moment = P.moment } in
    let core : P.core ≡ c.args.self.now.core = ap (λ (s : BookState). s.core) c.prepare.ensures.state in
    let there : StandsFor P.core H = subst (λ (k : CoreState). StandsFor k H) (sym core) stands in
    let same : SameBook S V = record {
      rows = ap (λ (s : BookState). s.rows) c.prepare.ensures.state;
      aborts = ap (λ (s : BookState). s.aborts) c.prepare.ensures.state;
      opened = ap (λ (s : BookState). s.opened) c.prepare.ensures.state;
      config = c.step.ensures.config ∙ ap (λ (k : CoreState). k.config) core;
    } in
    let is : c.in_ok-from_core.from_core ≡ (place_after S.core H c.args.moment c.args.input.now).outputs =
    c.in_ok-from_core.ensures.answers H there ∙ ap (λ (k : CoreState). outputs_after k.config H (core_event c.args.moment c.args.input.now)) core in
    passes-by H c.args.moment c.args.input.now S V (state_of c.follow.new.self) c.in_ok-from_core.from_core c.requires.limits c.has_octets.ensures same is c.follow.ensures.state c.follow.ensures.core (c.in_ok-from_core.ensures.stands H there)
