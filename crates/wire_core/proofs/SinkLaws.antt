-- What several writes in a row wrote.
use Rattle.std.proofs.Common.{◌≡◌, ℕ, ◌+◌, min, List, [], ◌++◌, length, Option, Some, None, sym, ap, ◌∙◌, refl, append_assoc, arith}
use Rattle.std.proofs.lemmas.List.{append-nil, take-append-le, take_min}
use Rattle.std.proofs.Math.Seq.{take-append-add, take-length}
use Rattle.std.specs.Io.KnownBytes.{append_known}
use Rattle.wire_core.specs.declared.outside.Put.{Put}
use Rattle.wire_core.specs.declared.outside.Put.TheVariants.{Done, Failed}
use Rattle.wire_core.specs.Sink.{Appends, AppendsPrefix, PutWrites}

append-known-nil : (written : Option (List ℕ)) → append_known written [] ≡ written
append-known-nil None = refl
append-known-nil (Some xs) = ap Some (append-nil xs)

append-known-append : (written : Option (List ℕ)) (xs ys : List ℕ) → append_known (append_known written xs) ys ≡ append_known written (xs ++ ys)
append-known-append None xs ys = refl
append-known-append (Some zs) xs ys = ap Some (append_assoc zs xs ys)

-- no write at all
pub Appends-none : (written : Option (List ℕ)) → Appends written written []
Appends-none written = record { after = sym (append-known-nil written) }

pub AppendsPrefix-none : (written : Option (List ℕ)) (text : List ℕ) → AppendsPrefix written written text
AppendsPrefix-none written text = record { count = 0; appends = Appends-none written }

-- some writes, and then some more
pub Appends-append : {before then now : Option (List ℕ)} {xs ys : List ℕ} → Appends before then xs → Appends then now ys → Appends before now (xs ++ ys)
Appends-append {before} {then} {now} {xs} {ys} c d =
    record { after = d.after ∙ ap (λ written. append_known written ys) c.after ∙ append-known-append before xs ys }

-- some writes, and then a part of one more
pub AppendsPrefix-append : {before then now : Option (List ℕ)} {xs ys : List ℕ} → Appends before then xs → AppendsPrefix then now ys → AppendsPrefix before now (xs ++ ys)
AppendsPrefix-append {before} {then} {now} {xs} {ys} c d =
    record { count = length xs + d.count; appends = rw (take-append-add xs ys d.count) (Appends-append c d.appends) }

-- the whole is a prefix
pub AppendsPrefix-whole : {before now : Option (List ℕ)} {xs : List ℕ} → Appends before now xs → AppendsPrefix before now xs
AppendsPrefix-whole {before} {now} {xs} c = record { count = length xs; appends = rw (take-length xs) c }

-- a prefix of the front is a prefix of the whole
pub AppendsPrefix-front : {before now : Option (List ℕ)} {xs : List ℕ} (ys : List ℕ) → AppendsPrefix before now xs → AppendsPrefix before now (xs ++ ys)
AppendsPrefix-front {before} {now} {xs} ys c =
    let front = take-append-le (min c.count (length xs)) xs ys (omega arith) ∙ take_min c.count xs in
    record { count = min c.count (length xs); appends = rw front c.appends }

-- whatever a write answers, it wrote a prefix
pub AppendsPrefix-put : (put : Put) {before now : Option (List ℕ)} {xs : List ℕ} → PutWrites put before now xs → AppendsPrefix before now xs
AppendsPrefix-put Done w = AppendsPrefix-whole w
AppendsPrefix-put Failed w = w

-- what is written, from what was
pub Appends-told : {before now : Option (List ℕ)} {xs : List ℕ} → Appends before now xs → (all : List ℕ) → before ≡ Some all → now ≡ Some (all ++ xs)
Appends-told {before} {now} {xs} c all told = c.after ∙ ap (λ written. append_known written xs) told
