-- Internal: what a plan does to the book.
use Rattle.std.specs.Prelude.{◌≡◌, ℕ, ◌+◌, ◌≤◌, List, [], Option, Some, None, vec_len, vec_capacity}
use Rattle.agent_events.specs.declared.events.Input.{Input}
use Rattle.session_book.specs.declared.passing.Prepared.{Prepared}
use Rattle.session_book.specs.History.{input_change, deed_outputs, tick_deed}
use Rattle.session_book.specs.Standing.{BookState}
use Rattle.session_book.specs.declared.plans.Plan.{Plan}
use Rattle.session_book.specs.declared.plans.Plan.TheVariants as plans
use Rattle.session_book.specs.Book.{Change, Keep, Append, Remove}

abbrev pub planned : Plan → List ℕ → Change
planned plans.Nothing session = Keep
planned (plans.Start room entry) session = Append session entry
planned plans.Stop session = Remove session

abbrev pub planned_for : Plan → Option (List ℕ) → Change
planned_for plan None = Keep
planned_for plan (Some session) = planned plan session

-- ready for a step of the core that has at most so many outputs
pub record IsPrepared (S : BookState) (at : ℕ) (input : Input) (few : ℕ) (p : Prepared) : Type 0 where
  pub plan : (session : List ℕ) → planned p.plan session ≡ input_change input session
  pub own : p.own.items ≡ deed_outputs S.core.config at (tick_deed input) S.aborts
  pub empty : p.outputs.items ≡ []
  pub none : vec_len p.outputs ≡ 0
  pub room : few + vec_len p.own ≤ vec_capacity p.outputs
