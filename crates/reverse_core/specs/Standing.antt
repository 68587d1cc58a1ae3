-- When what is kept stands for a history.
use Rattle.std.specs.Prelude.{◌≡◌, ℕ, List, filter}
use Rattle.reverse_map.specs.declared.own.Reverse.{Reverse}
use Rattle.reverse_core.specs.declared.requests.OpenRequest.{OpenRequest}
use Rattle.reverse_core.specs.declared.requests.KeptAnswer.{KeptAnswer}
use Rattle.reverse_core.specs.Requests.{is_kept}
use Rattle.reverse_core.specs.Places.{ReverseEvent, ReversePlace, now, count, open_requests, kept_answers}
use Rattle.reverse_core.specs.History.{past}

-- what is kept: the settings, how many requests were taken up, those that are open in the order of taking, answers in the
-- order of answering, and the greatest moment
pub record ReverseState : Type 0 where
  pub own : Reverse
  pub count : ℕ
  pub open_ones : List OpenRequest
  pub kept : List KeptAnswer
  pub moment : ℕ

-- What is kept stands for these places. Both sides of the answers are those that are still to be kept, so it doesn't matter
-- when others are dropped.
pub record ReverseStandsAt (ps : List ReversePlace) (S : ReverseState) : Type 0 where
  pub count : S.count ≡ count ps
  pub open_ones : S.open_ones ≡ open_requests ps
  pub kept : filter (is_kept S.own (now ps)) S.kept ≡ kept_answers S.own ps (now ps)
  pub moment : S.moment ≡ now ps

-- what is kept stands for the history whose open requests and kept answers it has
abbrev pub ReverseStandsFor : ReverseState → List ReverseEvent → Type 0
ReverseStandsFor S history = ReverseStandsAt (past S.own history) S
