use Rattle.std.proofs.Common.{◌++◌, ◌∙◌, ap, sym}
use Rattle.std.specs.Prelude.{find}
use Rattle.reverse_core.specs.History.{has_identifier}
use Rattle.reverse_core.specs.Windows.{OpenParts, filled}
use Rattle.reverse_core.proofs.WindowLemmas.{find-at, few-slots}
use Rattle.reverse_core.proofs.open_requests.OpenRequests.find.Goals as goal

pub returns : goal.returns
returns c =
    let w = c.self.inside in
    let slots = w.thrice.items ++ w.twice.items ++ w.once.items in
    c.peek_in.ensures
    ∙ sym (find-at w.first c.place_of-place.result slots c.self.invariant.numbered (few-slots w.thrice.items w.twice.items w.once.items c.self.invariant.few) c.place_of-place.ensures.below)
    ∙ ap (λ id. find (has_identifier id) (filled slots)) c.place_of-place.ensures.identifier
    ∙ ap (λ (p : OpenParts). find (has_identifier c.args.id) p.list) c.self.view_is
