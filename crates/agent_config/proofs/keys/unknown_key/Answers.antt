use Rattle.std.proofs.Common.{◌≡◌, ◌∷◌, ℕ, List, Bool, filter, map, string_bytes, String, Global, true, false, refl, ap, subst, sym, ◌∙◌}
use Rattle.std.specs.List.Sorted.{IsStrictlySortedBy}
use Rattle.std.specs.String.{string_cmp}
use Rattle.toml.specs.View.{table_view}
use Rattle.agent_config.specs.Settings.{first_unknown, is_unknown, least}
use Rattle.agent_config.proofs.KeyLemmas.{keys_in-view, least-first, least-rest, sorted-rest}
use Rattle.agent_config.proofs.keys.unknown_key.Goals as goal

pub loop-key-init : goal.loop-key-init
loop-key-init c =
    let test : List ℕ → Bool = is_unknown (map (λ k. k.now) c.args.known.now) in
    record {
      sorted = rw (c.into_iter-key-iterator.ensures.into_iter_gives, c.keys-key-items.ensures.rest) c.keys-key-items.ensures.ordered;
      least = rw (c.into_iter-key-iterator.ensures.into_iter_gives, c.keys-key-items.ensures.rest)
          (ap (λ (ks : List (List ℕ)). least (filter test ks)) (sym (keys_in-view c.args.table.now.entries)));
    }

pub returns-then-not-is_known : goal.returns-then-not-is_known
returns-then-not-is_known c =
    let known = map (λ k. k.now) c.args.known.now in
    let key = c.in-Some.key.now in
    let rest : List (String Global) = c.next.new.self in
    let is : c.loop-key.key-iterator ≡ key ∷ rest = c.in-Some.ensures.steps in
    let Sorted : List (String Global) → Type 0 = λ ks. IsStrictlySortedBy string_cmp ks in
    let Least : List (String Global) → Type 0 =
    λ ks. least (filter (is_unknown known) (map string_bytes ks)) ≡ first_unknown known (table_view c.args.table.now) in
    let unknown : is_unknown known (string_bytes key) ≡ true =
    rw (← c.as_str.ensures.value, ← c.is_known.ensures, c.if-not-is_known.true) refl in
    rw c.as_str-then-not-is_known.ensures.value
    (sym (least-first (is_unknown known) key rest (subst Sorted is c.loop-key.invariant.sorted) unknown)
    ∙ subst Least is c.loop-key.invariant.least)

pub loop-key-preserved : goal.loop-key-preserved
loop-key-preserved c =
    let known = map (λ k. k.now) c.args.known.now in
    let key = c.in-Some.key.now in
    let rest : List (String Global) = c.next.new.self in
    let is : c.loop-key.key-iterator ≡ key ∷ rest = c.in-Some.ensures.steps in
    let Sorted : List (String Global) → Type 0 = λ ks. IsStrictlySortedBy string_cmp ks in
    let Least : List (String Global) → Type 0 =
    λ ks. least (filter (is_unknown known) (map string_bytes ks)) ≡ first_unknown known (table_view c.args.table.now) in
    let there : is_unknown known (string_bytes key) ≡ false =
    rw (← c.as_str.ensures.value, ← c.is_known.ensures, c.if-not-is_known.false) refl in
    record {
      sorted = sorted-rest (is_unknown known) key rest (subst Sorted is c.loop-key.invariant.sorted);
      least = sym (least-rest (is_unknown known) key rest there) ∙ subst Least is c.loop-key.invariant.least;
    }
