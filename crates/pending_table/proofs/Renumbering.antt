-- A closure that is called at each row in turn, and counts, gives out the numbers.
use Rattle.std.proofs.Common.{◌≡◌, ℕ, ◌+◌, ◌%◌, ◌^◌, ◌<◌, Bool, true, false, cond, List, [], ◌∷◌, length, if◌then◌else◌, ap, ◌∙◌, arith}
use Rattle.std.specs.Map.Calls.{RetainsPairs}
use Rattle.pending_table.specs.declared.entry.Entry.{Entry}
use Rattle.pending_table.specs.Table.{Row}
use Rattle.pending_table.specs.Merged.{Held, renumbered}
use Rattle.pending_table.specs.Relinked.{with_number}

small : (n : ℕ) → n < 2 ^ 32 → n % 2 ^ 32 ≡ n
small n below = omega (arith, below)

module _ {F : Type 0} (T : F → ℕ → Row → Bool → Row → F → Type 0) (count : F → ℕ) (Stays : F → Type 0) (test : Entry → Bool) (link : ℕ) where
  -- a call at the row v answers true, leaves w there, and counts it if it meets the test
  pub record Numbers (f : F) (v : Row) (b : Bool) (w : Row) (g : F) : Type 0 where
    pub keeps : b ≡ true
    pub row : w ≡ (if test v.1 then with_number v link (count f) else v)
    pub next : count g ≡ (if test v.1 then (count f + 1) % 2 ^ 32 else count f)
    pub stays : Stays g

  pub renumbered_from_retain :
      ((f : F) (k : ℕ) (v : Row) (b : Bool) (w : Row) (g : F) → Stays f → T f k v b w g → Numbers f v b w g)
      → (f : F) (ps kept : List Held)
      → Stays f
      → count f + length ps < 2 ^ 32
      → RetainsPairs T f ps kept
      → kept ≡ renumbered test link (count f) ps
  renumbered_from_retain told f [] kept stays few ran = ran
  renumbered_from_retain told f (p ∷ ps) kept stays few ran =
      let g = ran.2 in
      let rest = ran.3 in
      let call = told f p.0 p.1 ran.0 ran.1 g stays ran.4 in
      let later = renumbered_from_retain told g ps rest call.stays (within (test p.1.1) g call.next) ran.5 in
      ran.6 ∙ ap (λ b. cond b ((p.0, ran.1) ∷ rest) rest) call.keeps ∙ ap (λ l. (p.0, ran.1) ∷ l) later ∙ by (test p.1.1) g ran.1 call.row call.next
    where
      within : (b : Bool) (g : F) → count g ≡ (if b then (count f + 1) % 2 ^ 32 else count f) → count g + length ps < 2 ^ 32
      within true g next = omega (arith, few, next, small (count f + 1) (omega (arith, few)))
      within false g next = omega (arith, few, next)

      by :
          (b : Bool) (g : F) (w : Row)
          → w ≡ (if b then with_number p.1 link (count f) else p.1)
          → count g ≡ (if b then (count f + 1) % 2 ^ 32 else count f)
          → (p.0, w) ∷ renumbered test link (count g) ps
          ≡ (if b then (p.0, with_number p.1 link (count f)) ∷ renumbered test link (count f + 1) ps else p ∷ renumbered test link (count f) ps)
      by true g w row next =
          ap (λ v. (p.0, v) ∷ renumbered test link (count g) ps) row
          ∙ ap (λ n. (p.0, with_number p.1 link (count f)) ∷ renumbered test link n ps) (next ∙ small (count f + 1) (omega (arith, few)))
      by false g w row next = ap (λ v. (p.0, v) ∷ renumbered test link (count g) ps) row ∙ ap (λ n. p ∷ renumbered test link n ps) next
