-- How a dialling goes on from dial to dial.
use Rattle.std.proofs.Common.{◌≡◌, ℕ, ◌+◌, ◌<◌, ◌≤◌, Bool, true, List, [], ◌∷◌, ◌++◌, length, Some, None, refl, sym, ap, ◌∙◌, subst, length-append, arith}
use Rattle.wire_core.specs.Counts.{Rose, one_more}
use Rattle.wire_devices.specs.Dialling.{Dials, Dialled as DialledOnce}
use Rattle.wire_devices.specs.Links.{Inlet, IsFreshInlet, IsFreshOutlet, Outlet}
use Rattle.agent_events.specs.declared.events.Input.{Input}
use Rattle.turnstile.specs.declared.view.Known.{Known}
use Rattle.server_workers.specs.declared.heard.Heard.{Heard}
use Rattle.server_workers.specs.declared.link_making.Dialling.TheVariants as dialling
use Rattle.server_workers.specs.Entries.{EachEntry, EndsWith, RunTurn}
use Rattle.server_workers.specs.Going.{Went}
use Rattle.server_workers.specs.Running.{Dialled, IsFinishedTick, RoseBy, TookTick}
use Rattle.server_workers.specs.Serving.{IsTick}
use Rattle.server_workers.proofs.GoingLemmas.{went-none, went-on}

pub each-append : (P : Input → Heard → Type 0) (xs ys : List RunTurn) → EachEntry P xs → EachEntry P ys → EachEntry P (xs ++ ys)
each-append P [] ys one two = two
each-append P (None ∷ xs) ys one two = each-append P xs ys one two
each-append P (Some entry ∷ xs) ys (has, one) two = (has, each-append P xs ys one two)

pub rose-on : (n m a b c : ℕ) → RoseBy n a b → RoseBy m b c → RoseBy (n + m) a c
rose-on n m a b c one two = omega (arith, one, two)

pub rose-none : (a b : ℕ) → b ≡ a → RoseBy 0 a b
rose-none a b same = omega (arith, same)

abbrev IsTicks : Input → Heard → Type 0
IsTicks ask heard = IsTick ask

tick-each : (finished : Bool) (turn : RunTurn) → TookTick finished turn → EachEntry IsTicks (turn ∷ [])
tick-each finished None took = tt
tick-each finished (Some entry) (is, heard) = (is, tt)

tick-last : (turn : RunTurn) (mine : List RunTurn) → TookTick true turn → EndsWith IsFinishedTick (mine ++ turn ∷ [])
tick-last None mine took = cc
tick-last (Some entry) mine took = (mine, Some entry, refl, took)

module _ {T : Type 0} where
  -- so many dials failed, and each was followed by a Tick
  pub record Dialling (k l : Known T Input Heard) (before now : Dials) (count : ℕ) : Type 0 where
    pub mine : List RunTurn
    pub went : Went mine k l
    pub asks : EachEntry IsTicks mine
    pub many : length mine ≡ count
    pub faults : RoseBy count before.faults now.faults
    pub grows : before.faults ≤ now.faults
    pub failed : 0 < count → Rose before.faults now.faults
    pub row : now.row ≡ count

  pub dialling-none : (k : Known T Input Heard) (d : Dials) → d.row ≡ 0 → Dialling k k d d 0
  dialling-none k d low = record {
    mine = [];
    went = went-none k;
    asks = tt;
    many = refl;
    faults = rose-none d.faults d.faults refl;
    grows = omega arith;
    failed = λ some. absurd (omega (arith, some));
    row = low;
  }

  pub dialling-on : {A : Type 0} (k l m : Known T Input Heard) (d e f : Dials) (count : ℕ) (finished : Bool) (turn : RunTurn) → count < 16
      → Dialling k l d e count → DialledOnce {A = A} None e f → Went (turn ∷ []) l m → TookTick finished turn → Dialling k m d f (count + 1)
  dialling-on {A} k l m d e f count finished turn few so_far failed went took = record {
    mine = so_far.mine ++ turn ∷ [];
    went = went-on so_far.mine (turn ∷ []) k l m so_far.went went;
    asks = each-append IsTicks so_far.mine (turn ∷ []) so_far.asks (tick-each finished turn took);
    many = length-append so_far.mine (turn ∷ []) ∙ ap (λ n. n + 1) so_far.many;
    faults = let one : f.faults ≡ one_more e.faults = failed.faults.rises refl in omega (arith, so_far.faults, one);
    grows = omega (arith, so_far.grows, failed.faults.never_falls);
    failed = λ some. let one : f.faults ≡ one_more e.faults = failed.faults.rises refl in omega (arith, so_far.grows, one);
    row = omega (arith, failed.row, so_far.row, few);
  }

  -- the run was at its end by the last Tick
  pub dialling-finished : {I O A : Type 0} (hears : I → Inlet) (speaks : O → Outlet) (k l m : Known T Input Heard) (d e f : Dials) (count : ℕ) (turn : RunTurn)
      → count + 1 < 16 → Dialling k l d e count → DialledOnce {A = A} None e f → Went (turn ∷ []) l m → TookTick true turn
      → (mine : List RunTurn) × Went mine k m × Dialled hears speaks dialling.Finished mine d f
  unfolding dialling-on
  dialling-finished {I} {O} {A} hears speaks k l m d e f count turn few so_far failed went took =
      let all = dialling-on {A = A} k l m d e f count true turn (omega (arith, few)) so_far failed went took in (
        all.mine,
        all.went,
        record {
          asks = all.asks;
          faults = subst (λ n. RoseBy n d.faults f.faults) (sym all.many) all.faults;
          grows = all.grows;
          failed = λ more. all.failed (omega arith);
          ends = (omega (arith, all.row), omega (arith, all.row, few), tick-last turn so_far.mine took);
        },
      )

  -- a link was made
  pub dialling-made : {I O : Type 0} (hears : I → Inlet) (speaks : O → Outlet) (i : I) (o : O) (k l : Known T Input Heard) (d e f : Dials) (count : ℕ)
      → Dialling k l d e count → DialledOnce {A = I × O} (Some (i, o)) e f → IsFreshInlet (hears i) → IsFreshOutlet (speaks o)
      → (mine : List RunTurn) × Went mine k l × Dialled hears speaks (dialling.Made i o) mine d f
  dialling-made hears speaks i o k l d e f count so_far once fresh_in fresh_out = (
    so_far.mine,
    so_far.went,
    record {
      asks = so_far.asks;
      faults = let same : f.faults ≡ e.faults = once.faults.stays (λ none. cc) in omega (arith, so_far.faults, so_far.many, same);
      grows = omega (arith, so_far.grows, once.faults.never_falls);
      failed = λ more. absurd (omega (arith, more, once.row));
      ends = (once.row, fresh_in, fresh_out);
    },
  )

  -- 16 dials failed
  pub dialling-failed : {I O : Type 0} (hears : I → Inlet) (speaks : O → Outlet) (k l : Known T Input Heard) (d e : Dials) → Dialling k l d e 16
      → (mine : List RunTurn) × Went mine k l × Dialled hears speaks dialling.Failed mine d e
  dialling-failed hears speaks k l d e so_far = (
    so_far.mine,
    so_far.went,
    record {
      asks = so_far.asks;
      faults = subst (λ n. RoseBy n d.faults e.faults) (sym so_far.many) so_far.faults;
      grows = so_far.grows;
      failed = λ more. so_far.failed (omega arith);
      ends = so_far.row;
    },
  )
