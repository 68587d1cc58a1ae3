-- Where nothing refuses, the request is taken up.
use Rattle.std.proofs.Common.{◌≡◌, [], ◌∷◌, ◌∙◌, sym, refl, ap}
use Rattle.session_carrier.specs.declared.kept.Numbers.{Numbers}
use Rattle.agent_events.specs.declared.events.Output.TheVariants.{Send}
use Rattle.agent_core.specs.Requests.{request_sent}
use Rattle.agent_core.specs.Verdicts.{request_with}
use Rattle.agent_core.proofs.RequestLemmas.Considered.{takes-it-up}
use Rattle.agent_core.proofs.ledger.Ledger.admitted.Goals as goal

pub returns-in_ok-outputs-in-None : goal.returns-in_ok-outputs-in-None
returns-in_ok-outputs-in-None c =
    let prepared = c.in_ok-prepared-in-None.prepared in
    let known = c.in_ok-prepared-in-None.ensures in
    let copied : c.in_ok-copy-in-None.copy ≡ prepared.sent = c.in_ok-copy-in-None.ensures ∙ c.as_slice.ensures in
    let numbered = ap (λ (n : Numbers). request_sent c.args.self.now.config (request_with c.args.key c.args.request.now) n c.args.self.now.serial) c.numbers.ensures in
    takes-it-up c.args.self.now (request_with c.args.key c.args.request.now) c.args.key prepared.kept c.in_ok-copy-in-None.copy prepared.fresh c.in_ok-outputs-in-None.outputs
    refl c.requires.unknown (c.in-None.ensures.room refl) (sym c.in-None.ensures.exact) (known.kept c.args.key) (copied ∙ known.sent c.args.key ∙ numbered) (known.fresh c.args.key)
    (c.in_ok-outputs-in-None.ensures ∙ ap (λ s. Send s ∷ []) (sym copied))
