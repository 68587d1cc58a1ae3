-- The request that waits with a number, in the table and in the history.
use Rattle.std.proofs.Common.{◌≡◌, ℕ, Bool, true, false, cond, ◌&&◌, List, [], ◌∷◌, filter, find, option_map, Option, Some, None, refl, sym, ◌∙◌, ap, arith}
use Rattle.std.specs.Prelude.{◌==◌}
use Rattle.std.specs.List.{AllByRecursion}
use Rattle.std.proofs.lemmas.Bool.{and_parts, eqb-true}
use Rattle.agent_settings.specs.declared.config.Config.{Config}
use Rattle.pending_table.specs.Table as table
use Rattle.pending_table.specs.Table.{Row}
use Rattle.peer_machine.specs.Step.{PeerParts}
use Rattle.agent_core.specs.declared.ledger.Ledger.{Ledger}
use Rattle.agent_core.specs.Places.{Place, Taking, link, number, takings, live, waiting}
use Rattle.agent_core.specs.History.{is_number}
use Rattle.agent_core.specs.Machine.{kept_waiting}
use Rattle.agent_core.specs.Standing.{StandsAt, last_sent, row_of, entry_of}
use Rattle.agent_core.proofs.ListLemmas.Lists.{AllByRecursion-filter, AllByRecursion-weaken, find-map}
use Rattle.agent_core.proofs.StandingLemmas.Agreeing.{waiting-agrees}
use Rattle.agent_core.proofs.LawLemmas.Soundness.{TakingFits}
use Rattle.agent_core.proofs.LawLemmas.Rising.{Rises, Rising}
use Rattle.agent_core.proofs.LawLemmas.Sound.{IsSound}

-- was last sent on the present link with this hop
abbrev pub numbered : List Place → ℕ → Taking → Bool
numbered ps hop t = is_number hop (number ps t)

number-cond : (hop : ℕ) (b : Bool) (n : ℕ) → is_number hop (cond b (Some n) None) ≡ (b && (n == hop))
number-cond hop true n = refl
number-cond hop false n = refl

-- the number is the one of the last Send
pub numbered-is : (config : Config) (ps : List Place) (hop : ℕ) (t : Taking) → TakingFits config ps t → numbered ps hop t ≡ table.has_number (link ps).number hop (entry_of ps t)
numbered-is config ps hop t fits =
    ap (is_number hop) fits.numbered ∙ number-cond hop ((last_sent ps t).0 == (link ps).number) (last_sent ps t).1

pub waiting-fits : (config : Config) (ps : List Place) (m : ℕ) → IsSound config ps → AllByRecursion (TakingFits config ps) (waiting config ps m)
waiting-fits config ps m sound =
    AllByRecursion-filter (TakingFits config ps) _ (live config ps m) (AllByRecursion-filter (TakingFits config ps) _ (takings ps) sound.each)

pub find-alike : {X : Type 0} (p q : X → Bool) (xs : List X) → AllByRecursion (λ x. p x ≡ q x) xs → find p xs ≡ find q xs
find-alike p q [] all = refl
find-alike p q (x ∷ xs) all = let here = all.0 in let rest = find-alike p q xs all.1 in cc

-- the row of a number is the one of the request with this number
pub number-agrees : (ps : List Place) (m : ℕ) (S : Ledger) (hop : ℕ) → StandsAt ps m S → IsSound S.config ps → table.find_number S.table S.peer.link.number hop S.moment ≡ option_map (row_of ps) (find (numbered ps hop) (waiting S.config ps m))
number-agrees ps m S hop stands sound =
    let test = λ (r : Row). table.has_number (link ps).number hop r.1 in
    ap (λ (p : PeerParts). find (λ (r : Row). table.has_number p.link.number hop r.1) (kept_waiting S)) stands.peer
    ∙ ap (find test) (waiting-agrees ps m S stands)
    ∙ find-map test (row_of ps) (waiting S.config ps m)
    ∙ ap (option_map (row_of ps)) (
    find-alike (λ t. table.has_number (link ps).number hop (entry_of ps t)) (numbered ps hop) (waiting S.config ps m)
    (AllByRecursion-weaken (TakingFits S.config ps) _ (λ t f. sym (numbered-is S.config ps hop t f)) (waiting S.config ps m) (waiting-fits S.config ps m sound))
    )

-- ---- no other has this number

-- of those that meet the test, each is the only one
abbrev pub Alone : (Taking → Bool) → List Taking → Type 0
Alone q [] = Unit {0}
Alone q (t ∷ ts) = (q t ≡ true → AllByRecursion (λ u. q u ≡ false) ts) × Alone q ts

record LastIs (ps : List Place) (hop : ℕ) (t : Taking) : Type 0 where
  pub link : (last_sent ps t).0 ≡ (link ps).number
  pub number : (last_sent ps t).1 ≡ hop

last-is : (config : Config) (ps : List Place) (hop : ℕ) (t : Taking) → TakingFits config ps t → numbered ps hop t ≡ true → LastIs ps hop t
last-is config ps hop t fits e =
    let both = and_parts _ _ (sym (numbered-is config ps hop t fits) ∙ e) in
    record { link = eqb-true _ _ both.0; number = eqb-true _ _ both.1 }

other-not : (config : Config) (ps : List Place) (hop : ℕ) (t u : Taking) → TakingFits config ps t → TakingFits config ps u → Rises ps t u → numbered ps hop t ≡ true → (b : Bool) → numbered ps hop u ≡ b → b ≡ false
other-not config ps hop t u fits fits_too rises e false f = refl
other-not config ps hop t u fits fits_too rises e true f =
    let first = last-is config ps hop t fits e in
    let second = last-is config ps hop u fits_too f in
    let less = rises first.link second.link in
    let a = first.number in
    let b = second.number in
    absurd (omega arith)

others-not : (config : Config) (ps : List Place) (hop : ℕ) (t : Taking) → TakingFits config ps t → numbered ps hop t ≡ true → (us : List Taking) → AllByRecursion (TakingFits config ps) us → AllByRecursion (Rises ps t) us → AllByRecursion (λ u. numbered ps hop u ≡ false) us
others-not config ps hop t fits e [] each rises = tt
others-not config ps hop t fits e (u ∷ us) each rises =
    (other-not config ps hop t u fits each.0 rises.0 e (numbered ps hop u) refl, others-not config ps hop t fits e us each.1 rises.1)

alone : (config : Config) (ps : List Place) (hop : ℕ) (ts : List Taking) → AllByRecursion (TakingFits config ps) ts → Rising ps ts → Alone (numbered ps hop) ts
alone config ps hop [] each rising = tt
alone config ps hop (t ∷ ts) each rising =
    ((λ e. others-not config ps hop t each.0 e ts each.1 rising.0), alone config ps hop ts each.1 rising.1)

Rising-filter : (ps : List Place) (p : Taking → Bool) (ts : List Taking) → Rising ps ts → Rising ps (filter p ts)
Rising-filter ps p [] rising = tt
Rising-filter ps p (t ∷ ts) rising =
    elim (p t) as (λ b. Rising ps (cond b (t ∷ filter p ts) (filter p ts))) [
      | true ↦ (AllByRecursion-filter (Rises ps t) p ts rising.0, Rising-filter ps p ts rising.1)
      | false ↦ Rising-filter ps p ts rising.1
    ]

pub waiting-alone : (config : Config) (ps : List Place) (m hop : ℕ) → IsSound config ps → Alone (numbered ps hop) (waiting config ps m)
waiting-alone config ps m hop sound =
    alone config ps hop (waiting config ps m) (waiting-fits config ps m sound) (Rising-filter ps _ (live config ps m) (Rising-filter ps _ (takings ps) sound.rising))

-- what was found, if it meets another test too
abbrev pub kept_if : (Taking → Bool) → Option Taking → Option Taking
kept_if r None = None
kept_if r (Some t) = cond (r t) (Some t) None

find-none : (q r : Taking → Bool) (ts : List Taking) → AllByRecursion (λ u. q u ≡ false) ts → find (λ t. q t && r t) ts ≡ None
find-none q r [] all = refl
find-none q r (t ∷ ts) all = rw all.0 (find-none q r ts all.1)

pub find-alone : (q r : Taking → Bool) (ts : List Taking) → Alone q ts → find (λ t. q t && r t) ts ≡ kept_if r (find q ts)
find-alone q r [] only = refl
find-alone q r (t ∷ ts) only =
    elim (q t) as (λ b. q t ≡ b → cond (b && r t) (Some t) (find (λ u. q u && r u) ts) ≡ kept_if r (cond b (Some t) (find q ts))) [
      | true ↦ (λ e. ap (cond (r t) (Some t)) (find-none q r ts (only.0 e)))
      | false ↦ (λ e. find-alone q r ts only.1)
    ] refl
