-- Clients one by one, and the first whose address an earlier one has.
use Rattle.std.proofs.Common.{◌≡◌, ℕ, ◌+◌, Bool, true, false, cond, ◌||◌, eqb, List, [], ◌∷◌, ◌++◌, length, take, Option, None, Some, is_some, option_map, refl, sym, ap, subst, ◌∙◌, inl, inr, append-nil, append_assoc, length-append}
use Rattle.std.proofs.lemmas.Bool.{cases_Bool}
use Rattle.std.proofs.lemmas.Option.{none-some}
use Rattle.std.specs.List.{enumerate_from, find, list_any}
use Rattle.agent_settings.specs.declared.client.Client.{Client}
use Rattle.agent_settings.specs.declared.fault.ConfigFault.TheVariants.{TwiceAddress}
use Rattle.agent_settings.specs.Config.{are_addresses_distinct, find_address}
use Rattle.agent_config.specs.Twice.{is_second, twice, DistinctUnlessTwice}
use Rattle.agent_settings.proofs.Limits.{distinct-push, find_from}

-- the first that comes second, among those from a place on, and among all
abbrev pub seconds_from : List Client → ℕ → List Client → Option (ℕ × Client)
seconds_from all place left = find (λ p. is_second all p) (enumerate_from place left)

abbrev pub seconds : List Client → Option (ℕ × Client)
seconds all = seconds_from all 0 all

-- a search by address finds one exactly where some client has the address
any-found : (address first : ℕ) (clients : List Client)
    → list_any (λ (c : Client). eqb c.address address) clients ≡ is_some (find_from address first clients)
any-found address first [] = refl
any-found address first (c ∷ clients) =
    elim (eqb c.address address) as (λ b. (b || list_any (λ (d : Client). eqb d.address address) clients)
    ≡ is_some (cond b (Some (first, c)) (find_from address (first + 1) clients))) [
      | true ↦ refl
      | false ↦ any-found address (first + 1) clients
    ]

take-front : (made left : List Client) → take (length made) (made ++ left) ≡ made
take-front [] left = refl
take-front (c ∷ made) left = ap (λ cs. c ∷ cs) (take-front made left)

second-there : (all made left : List Client) (c : Client) → made ++ left ≡ all
    → is_second all (length made, c) ≡ is_some (find_address c.address made)
second-there all made left c is =
    ap (list_any (λ (d : Client). eqb d.address c.address)) (ap (take (length made)) (sym is) ∙ take-front made left)
    ∙ any-found c.address 0 made

-- the next client comes second, since an earlier one was found
pub seconds-stop : (all made left : List Client) (c : Client) → made ++ c ∷ left ≡ all
    → is_some (find_address c.address made) ≡ true → seconds_from all (length made) (c ∷ left) ≡ seconds all
    → twice all ≡ Some (TwiceAddress (length made + 1))
seconds-stop all made left c is found same =
    let second : is_second all (length made, c) ≡ true = second-there all made (c ∷ left) c is ∙ found in
    let here : seconds_from all (length made) (c ∷ left) ≡ Some (length made, c) = rw second refl in
    ap (option_map (λ p. TwiceAddress (p.0 + 1))) (sym same ∙ here)

-- the next client doesn't
pub seconds-pass : (all made left : List Client) (c : Client) → made ++ c ∷ left ≡ all
    → find_address c.address made ≡ None → seconds_from all (length made) (c ∷ left) ≡ seconds all
    → seconds_from all (length (made ++ c ∷ [])) left ≡ seconds all
seconds-pass all made left c is none same =
    let second : is_second all (length made, c) ≡ false = second-there all made (c ∷ left) c is ∙ ap is_some none in
    let on : seconds_from all (length made) (c ∷ left) ≡ seconds_from all (length made + 1) left = rw second refl in
    let longer : length (made ++ c ∷ []) ≡ length made + 1 = simp length-append in
    rw longer (sym on ∙ same)

-- whether a search found one, seen through what it shows of it
pub is_some-shown : {A B : Type 0} (show : A → B) (there : Bool) (o : Option A) (shown : Option B) → option_map show o ≡ shown
    → is_some o ≡ there → is_some shown ≡ there
is_some-shown show there None shown is h = ap is_some (sym is) ∙ h
is_some-shown show there (Some x) shown is h = ap is_some (sym is) ∙ h

pub none-there : {A : Type 0} (o : Option A) → is_some o ≡ false → o ≡ None
none-there None h = refl
none-there (Some x) h = cc

-- none of all comes second
pub seconds-none : (all made : List Client) → seconds_from all (length made) [] ≡ seconds all → twice all ≡ None
seconds-none all made same = ap (option_map (λ p. TwiceAddress (p.0 + 1))) (sym same)

-- clients go on one by one, none of them second, so that their addresses stay distinct
distinct-on : (all made left : List Client) → made ++ left ≡ all → seconds_from all (length made) left ≡ None
    → are_addresses_distinct made ≡ true → are_addresses_distinct all ≡ true
distinct-on all made [] is none distinct = subst (λ cs. are_addresses_distinct cs ≡ true) (sym (append-nil made) ∙ is) distinct
distinct-on all made (c ∷ left) is none distinct =
    elim (cases_Bool (is_some (find_address c.address made))) [
      | inl found ↦ (let second : is_second all (length made, c) ≡ true = second-there all made (c ∷ left) c is ∙ found in
          let here : seconds_from all (length made) (c ∷ left) ≡ Some (length made, c) = rw second refl in
          absurd (none-some _ (sym none ∙ here)))
      | inr new ↦ (let second : is_second all (length made, c) ≡ false = second-there all made (c ∷ left) c is ∙ new in
          let on : seconds_from all (length made) (c ∷ left) ≡ seconds_from all (length made + 1) left = rw second refl in
          let longer : length (made ++ c ∷ []) ≡ length made + 1 = simp length-append in
          distinct-on all (made ++ c ∷ []) left (append_assoc made (c ∷ []) left ∙ is)
          (ap (λ n. seconds_from all n left) longer ∙ sym on ∙ none)
          (distinct-push 0 made c distinct (none-there _ new)))
    ]

twice-none : (o : Option (ℕ × Client)) → option_map (λ (p : ℕ × Client). TwiceAddress (p.0 + 1)) o ≡ None → o ≡ None
twice-none None h = refl
twice-none (Some p) h = cc

pub distinct_unless_twice : DistinctUnlessTwice
distinct_unless_twice clients none = distinct-on clients [] clients refl (twice-none _ none) refl
