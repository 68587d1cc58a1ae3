use Rattle.std.proofs.Common.{[], refl}
use Rattle.translation.specs.Images.{common_piece}
use Rattle.translation.specs.Passing.{common_after, noted, nothing}
use Rattle.translation.proofs.PlaceLemmas.{Places, pieces_after-places}
use Rattle.translation.proofs.SeenLemmas.{Saw, Saw-nothing, Saw-next, Saw-same}
use Rattle.translation.proofs.laws.passes_give_the_pieces.Goals as goal

pub returns : goal.returns
returns c = λ direction all.
    let places : Places (common_after direction all) (noted direction) (common_piece direction all) (Saw direction) all =
    record { next = Saw-next direction; same = Saw-same direction all } in
    pieces_after-places (common_after direction all) (noted direction) (common_piece direction all) (Saw direction) all [] all nothing places (Saw-nothing direction) refl
