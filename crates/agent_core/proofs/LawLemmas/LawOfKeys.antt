-- Requests of one key are apart.
use Rattle.std.proofs.Common.{◌≡◌, ℕ, Bool, true, false, cond, List, [], ◌∷◌, filter, find, Some, None, refl, ◌∙◌, ap, subst}
use Rattle.std.specs.Prelude.{nat_lt, max}
use Rattle.std.specs.List.{AllByRecursion}
use Rattle.std.specs.Cmp.Lexicographic.{bytes_decides}
use Rattle.std.proofs.lemmas.Bool.{eq-eqb, ltb-false, and_from}
use Rattle.radius_packet.specs.declared.reasons.Via.{Via}
use Rattle.radius_packet.specs.declared.reasons.Via.TheVariants.{Auth, Acct}
use Rattle.agent_settings.specs.declared.config.Config.{Config}
use Rattle.pending_table.specs.declared.key.Key.{Key}
use Rattle.pending_table.specs.Table.{same_via, same_key}
use Rattle.agent_events.specs.declared.events.Input.{Input}
use Rattle.agent_core.specs.Places.{Place, Taking, now, takings, ends, live}
use Rattle.agent_core.specs.History.{at_input, taking_of, past}
use Rattle.agent_core.specs.LawsOfRequests.{RequestsOfOneKeyAreApart, ComesApart}
use Rattle.agent_core.proofs.ListLemmas.Lists.{AllByRecursion-weaken}
use Rattle.agent_core.proofs.LawLemmas.LawPlaces.{place-by}

pub same_via-refl : (v : Via) → same_via v v ≡ true
same_via-refl Auth = refl
same_via-refl Acct = refl

-- a key is the same as itself
pub same_key-refl : (k : Key) → same_key k k ≡ true
same_key-refl k =
    and_from _ _ (and_from _ _ (and_from _ _ (same_via-refl k.via) (eq-eqb k.address k.address refl)) (eq-eqb k.port k.port refl)) ((bytes_decides k.octets k.octets).1 refl)

-- where none is found, each that meets the test is filtered out
none-kept : (p q : Taking → Bool) (ts : List Taking) → find q (filter p ts) ≡ None → AllByRecursion (λ t. q t ≡ true → p t ≡ false) ts
none-kept p q [] found = tt
none-kept p q (t ∷ ts) found =
    elim (p t) as (λ b. p t ≡ b → find q (cond b (t ∷ filter p ts) (filter p ts)) ≡ None → (q t ≡ true → p t ≡ false) × AllByRecursion (λ u. q u ≡ true → p u ≡ false) ts) [
      | true ↦ (λ is.
          elim (q t) as (λ c. q t ≡ c → cond c (Some t) (find q (filter p ts)) ≡ None → (q t ≡ true → p t ≡ false) × AllByRecursion (λ u. q u ≡ true → p u ≡ false) ts) [
            | true ↦ (λ has e. absurd (cc))
            | false ↦ (λ has e. ((λ h. absurd (cc)), none-kept p q ts e))
          ] refl)
      | false ↦ (λ is e. ((λ h. is), none-kept p q ts e))
    ] refl found

abbrev ApartAt : Config → List Place → Place → Type 0
ApartAt config ps p = (t : Taking) → p.taken ≡ Some t → ComesApart config ps p.moment t

taken-apart : (config : Config) (ps : List Place) (m : ℕ) (t : Taking) → find (λ (u : Taking). same_key u.key t.key) (live config ps m) ≡ None → ComesApart config ps m t
taken-apart config ps m t none =
    AllByRecursion-weaken _ _ (λ u gone same.
    let dead : nat_lt m (ends config ps u) ≡ false = gone (ap (λ k. same_key k t.key) same ∙ same_key-refl t.key) in
    ltb-false _ _ dead) (takings ps)
    (none-kept (λ u. nat_lt m (ends config ps u)) (λ u. same_key u.key t.key) (takings ps) none)

some-is : (t u : Taking) → Some t ≡ Some u → t ≡ u
some-is t u e = cc

apart-at : (config : Config) (ps : List Place) (m : ℕ) (input : Input) → ApartAt config ps (at_input config ps m input)
apart-at config ps m input = place-by (ApartAt config ps) config ps m input (record {
  drained = λ quiet t e. absurd (cc);
  dropped = λ quiet reason t e. absurd (cc);
  repeats = λ quiet u again t e. absurd (cc);
  takes = λ quiet request takes t e. subst (ComesApart config ps m) (some-is _ _ e) (taken-apart config ps m (taking_of config ps m request) takes.fresh);
  links = λ apart event message begun t e. absurd (cc);
  unmatched = λ octets message comes t e. absurd (cc);
  matched = λ octets message comes u found t e. absurd (cc);
})

pub apart : RequestsOfOneKeyAreApart
apart config history e t is = apart-at config (past config history) (max (now (past config history)) e.moment) e.input t is
