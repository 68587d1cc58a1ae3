-- What the server did: by all turns, and by what its devices tell. Passes have the numbers 0 of the writer, 1 and 2 of the
-- readers of the sockets, and 3 of the readers of links.
use Rattle.std.specs.Prelude.{◌≡◌, ◌≢◌, ℕ, ◌+◌, ◌⊎◌, Bool, true, false, List, [], ◌∷◌, ◌++◌, Some, None}
use Rattle.wire_devices.specs.Links.{Inlet, Outlet, IsFreshInlet, IsFreshOutlet}
use Rattle.agent_events.specs.declared.events.Input.{Input}
use Rattle.agent_events.specs.declared.events.Input.TheVariants.{Up, Down, Tick, Drain, Leave}
use Rattle.turnstile.specs.Turns.{of}
use Rattle.server_workers.specs.declared.heard.Heard.{Heard}
use Rattle.server_workers.specs.declared.links.Pair.{Pair}
use Rattle.server_workers.specs.Entries.{EachEntry, RunTurn}
use Rattle.server_workers.specs.LinkReading.{ServedLink}
use Rattle.server_workers.specs.LinkWriting.{Wrote}
use Rattle.server_workers.specs.Segments.{ServerTurn, flat}

-- ---- who asks what

-- what the writer asks beside an Up
abbrev pub MayWrite : Input → Type 0
MayWrite Drain = Unit {0}
MayWrite Down = Unit {0}
MayWrite Tick = Unit {0}
MayWrite Leave = Unit {0}
MayWrite ask = ⊥

abbrev pub IsUp : Input → Type 0
IsUp Up = Unit {0}
IsUp ask = ⊥

abbrev pub IsTick : Input → Type 0
IsTick Tick = Unit {0}
IsTick ask = ⊥

abbrev pub is_leave_entry : RunTurn → Bool
is_leave_entry None = false
is_leave_entry (Some (Leave, heard)) = true
is_leave_entry (Some (ask, heard)) = false

-- ---- spans

-- the reader of the span's link took turns
abbrev pub WasRead : List ServerTurn → Type 0
WasRead seg = of 3 seg ≢ []

abbrev pub FirstWasRead : List (List ServerTurn) → Type 0
FirstWasRead [] = ⊥
FirstWasRead (seg ∷ segs) = WasRead seg

-- each but the last has P
abbrev pub AllBut : {A : Type 0} → (A → Type 0) → List A → Type 0
AllBut P [] = Unit {0}
AllBut P (x ∷ []) = Unit {0}
AllBut P (x ∷ y ∷ xs) = P x × AllBut P (y ∷ xs)

module _ {I O : Type 0} (hears : I → Inlet) (speaks : O → Outlet) where
  -- the reader of a link ran from when the link was made, or none could be started and nothing was received
  abbrev pub LinkRead : List RunTurn → Inlet → ℕ → ℕ → Type 0
  LinkRead mine link out retries =
      ((made : Inlet) × IsFreshInlet made × ServedLink mine made link out retries)
      ⊎ (IsFreshInlet link × (mine ≡ []) × (out ≡ 0) × (retries ≡ 0))

  -- The span of a link begins with the writer's Up. It has the writer's further turns, by which the link was handed what was
  -- to be sent, and those of the link's reader; so many inputs of the reader are left out, and so often it let time pass
  -- because it found no memory.
  pub record Span (pair : Pair I O) (seg : List ServerTurn) (out retries : ℕ) : Type 0 where
    pub opened : Heard
    pub rest : List ServerTurn
    pub whole : seg ≡ (0, Some (Up, opened)) ∷ rest
    pub asks : EachEntry (λ ask heard. MayWrite ask) (of 0 rest)
    pub made : Outlet
    pub fresh : IsFreshOutlet made
    pub sound : Bool
    pub wrote : Wrote (of 0 rest) true sound made (speaks pair.link_out)
    pub read : LinkRead (of 3 rest) (hears pair.link_in) out retries

  -- each link has its span, and these are the sums of their counts
  pub data Spans : List (Pair I O) → List (List ServerTurn) → ℕ → ℕ → Type 0 where
    no_more : Spans [] [] 0 0
    one_more : (pair : Pair I O) (seg : List ServerTurn) (n r : ℕ) (pairs : List (Pair I O)) (segs : List (List ServerTurn)) (m q : ℕ)
        → Span pair seg n r → Spans pairs segs m q → Spans (pair ∷ pairs) (seg ∷ segs) (n + m) (r + q)

  -- At first the writer dialled. From then on the turns are the spans of these links.
  pub record Spanned (pairs : List (Pair I O)) (segs : List (List ServerTurn)) (seen : List ServerTurn) (out retries : ℕ) : Type 0 where
    pub front : List ServerTurn
    pub dialled : EachEntry (λ ask heard. IsTick ask) (of 0 front)
    pub alone : of 3 front ≡ []
    pub whole : seen ≡ front ++ flat segs
    pub spans : Spans pairs segs out retries

  -- a link whose Up met want of memory, so that nothing was received of it or handed to it
  abbrev pub AreUnopened : List (Pair I O) → Type 0
  AreUnopened [] = Unit {0}
  AreUnopened (pair ∷ []) = IsFreshInlet (hears pair.link_in) × IsFreshOutlet (speaks pair.link_out)
  AreUnopened (pair ∷ more ∷ pairs) = ⊥
