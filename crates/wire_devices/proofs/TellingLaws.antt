-- What several calls in a row tell.
use Rattle.std.proofs.Common.{◌≡◌, ℕ, ◌+◌, min, List, [], ◌++◌, length, take, Option, Some, None, refl, sym, ap, ◌∙◌, append_assoc, arith}
use Rattle.std.proofs.lemmas.List.{append-nil, take-append-le, take_min}
use Rattle.std.proofs.Math.Seq.{take-append-add, take-length}
use Rattle.wire_core.specs.declared.outside.Put.{Put}
use Rattle.wire_core.specs.declared.outside.Put.TheVariants.{Done, Failed}
use Rattle.wire_devices.specs.Telling.{more, Adds, AddsPrefix, TellsOnly}
use Rattle.wire_devices.specs.Links.{HandsOver}

more-nil : {A : Type 0} (known : Option (List A)) → more known [] ≡ known
more-nil None = refl
more-nil (Some xs) = ap Some (append-nil xs)

more-more : {A : Type 0} (known : Option (List A)) (xs ys : List A) → more (more known xs) ys ≡ more known (xs ++ ys)
more-more None xs ys = refl
more-more (Some zs) xs ys = ap Some (append_assoc zs xs ys)

-- what was known, where it is with these
pub more-some : {A : Type 0} (known : Option (List A)) (xs zs : List A) → more known xs ≡ Some zs → (ys : List A) × (known ≡ Some ys) × (ys ++ xs ≡ zs)
more-some None xs zs e = cc
more-some (Some ys) xs zs e = (ys, refl, cc)

-- no call at all
pub Adds-none : {A : Type 0} (known : Option (List A)) → Adds known known []
Adds-none known = record { still = λ ys told. more-nil known ∙ told }

-- a call that changed nothing here
pub Adds-same : {A : Type 0} {before now : Option (List A)} → now ≡ before → Adds before now []
Adds-same {A} {before} {now} same = record { still = λ ys told. more-nil before ∙ sym same ∙ told }

-- some calls, and then some more
pub Adds-append : {A : Type 0} {before then now : Option (List A)} {xs ys : List A} → Adds before then xs → Adds then now ys → Adds before now (xs ++ ys)
Adds-append {A} {before} {then} {now} {xs} {ys} c d =
    record {
      still = λ zs told.
          let (us, was, cut) = more-some then ys zs (d.still zs told) in
          sym (more-more before xs ys) ∙ ap (λ known. more known ys) (c.still us was) ∙ ap Some cut;
    }

-- what is told, from what was
pub Adds-told : {A : Type 0} {before now : Option (List A)} {xs : List A} → Adds before now xs → (zs : List A) → now ≡ Some zs → (ys : List A) × (before ≡ Some ys) × (ys ++ xs ≡ zs)
Adds-told {A} {before} {now} {xs} c zs told = more-some before xs zs (c.still zs told)

-- what is told of a device that was fresh
pub Adds-fresh : {A : Type 0} {before now : Option (List A)} {xs : List A} → TellsOnly before [] → Adds before now xs → TellsOnly now xs
Adds-fresh {A} {before} {now} {xs} fresh c = λ zs told.
    let (ys, was, cut) = Adds-told c zs told in
    sym cut ∙ ap (λ us. us ++ xs) (fresh ys was)

-- some sends, and then a part of one more
pub AddsPrefix-append : {A : Type 0} {before then now : Option (List A)} {xs ys : List A} → Adds before then xs → AddsPrefix then now ys → AddsPrefix before now (xs ++ ys)
AddsPrefix-append {A} {before} {then} {now} {xs} {ys} c d =
    record { count = length xs + d.count; adds = rw (take-append-add xs ys d.count) (Adds-append c d.adds) }

-- the whole is a prefix
pub AddsPrefix-whole : {A : Type 0} {before now : Option (List A)} {xs : List A} → Adds before now xs → AddsPrefix before now xs
AddsPrefix-whole {A} {before} {now} {xs} c = record { count = length xs; adds = rw (take-length xs) c }

-- a prefix of the front is a prefix of the whole
pub AddsPrefix-front : {A : Type 0} {before now : Option (List A)} {xs : List A} (ys : List A) → AddsPrefix before now xs → AddsPrefix before now (xs ++ ys)
AddsPrefix-front {A} {before} {now} {xs} ys c =
    let front = take-append-le (min c.count (length xs)) xs ys (omega arith) ∙ take_min c.count xs in
    record { count = min c.count (length xs); adds = rw front c.adds }

-- whatever a send answers, a prefix was sent
pub AddsPrefix-put : (put : Put) {before now : Option (List ℕ)} {xs : List ℕ} → HandsOver put before now xs → AddsPrefix before now xs
AddsPrefix-put Done sent = AddsPrefix-whole sent
AddsPrefix-put Failed sent = sent
