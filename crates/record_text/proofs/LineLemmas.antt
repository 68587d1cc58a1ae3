-- What is written of a record, line by line.
use Rattle.std.proofs.Common.{◌≡◌, ℕ, ◌+◌, ◌<◌, Bool, true, false, ◌-◌, ◌^◌, ◌≤◌, min, List, [], ◌∷◌, ◌++◌, length, take, get_or, zero, suc, arith, append_assoc, Option, sym, ap, ◌∙◌, subst}
use Rattle.std.proofs.lemmas.List.{append-nil, take_more}
use Rattle.std.proofs.lemmas.Grind.{flat_map-append}
use Rattle.wire_core.specs.Sink.{Appends, AppendsPrefix}
use Rattle.wire_core.proofs.SinkLaws.{Appends-append, Appends-none, AppendsPrefix-append, AppendsPrefix-front}
use Rattle.printed_lines.specs.EventText.{event_line}
use Rattle.run_record.specs.declared.entry.Entry.{Entry}
use Rattle.record_text.specs.Lines.{WroteLines, has_failed, text_of}

-- behind lines that were written whole
pub wrote-on : (broken : Bool) (before then now : Option (List ℕ)) (xs ys : List ℕ) → Appends before then xs → WroteLines broken then now ys
    → WroteLines broken before now (xs ++ ys)
wrote-on false before then now xs ys so_far more = Appends-append so_far more
wrote-on true before then now xs ys so_far more = AppendsPrefix-append so_far more

-- the line of one entry more
pub next-line : (entries : List Entry) (i : ℕ) (x : Entry) → i < length entries → x ≡ get_or entries i x
    → text_of (take i entries) ++ event_line x.moment x.input ≡ text_of (take (i + 1) entries)
next-line entries i x inside is =
    let items : take i entries ++ x ∷ [] ≡ take (i + 1) entries =
    ap (λ y. take i entries ++ y ∷ []) is ∙ sym (take_more entries i x inside) in
    let one : text_of (x ∷ []) ≡ event_line x.moment x.input = append-nil (event_line x.moment x.input) in
    ap (λ t. text_of (take i entries) ++ t) (sym one) ∙ sym (flat_map-append (λ e. event_line e.moment e.input) (take i entries) (x ∷ [])) ∙ ap text_of items

-- behind a write that failed nothing more is
pub still-cut : (entries more : List Entry) (before now : Option (List ℕ)) → AppendsPrefix before now (text_of entries) → AppendsPrefix before now (text_of (entries ++ more))
still-cut entries more before now part =
    subst (AppendsPrefix before now) (sym (flat_map-append (λ e. event_line e.moment e.input) entries more)) (AppendsPrefix-front (text_of more) part)

-- and behind one that didn't
pub wrote-more : (broken : Bool) (entries more : List Entry) (before then now : Option (List ℕ)) → Appends before then (text_of entries) → WroteLines broken then now (text_of more)
    → WroteLines broken before now (text_of (entries ++ more))
wrote-more broken entries more before then now so_far wrote =
    subst (WroteLines broken before now) (sym (flat_map-append (λ e. event_line e.moment e.input) entries more)) (wrote-on broken before then now _ _ so_far wrote)

-- All of these entries but the rest were written.
pub record WroteTo (before now : Option (List ℕ)) (entries rest : List Entry) : Type 0 where
  pub done : List Entry
  pub split : done ++ rest ≡ entries
  pub wrote : Appends before now (text_of done)

pub wrote-none : (before : Option (List ℕ)) (entries rest : List Entry) → rest ≡ entries → WroteTo before before entries rest
wrote-none before entries rest all = record { done = []; split = all; wrote = Appends-none before }

module _ (before then now : Option (List ℕ)) (entries rest piece more : List Entry) (cut : rest ≡ piece ++ more) (w : WroteTo before then entries rest) where
  all-split : (w.done ++ piece) ++ more ≡ entries
  all-split = append_assoc w.done piece more ∙ ap (λ xs. w.done ++ xs) (sym cut) ∙ w.split

  pub next-piece : Appends then now (text_of piece) → WroteTo before now entries more
  next-piece wrote = record { done = w.done ++ piece; split = all-split; wrote = wrote-more false w.done piece before then now w.wrote wrote }

  pub last-piece : AppendsPrefix then now (text_of piece) → AppendsPrefix before now (text_of entries)
  last-piece part =
      subst (λ xs. AppendsPrefix before now (text_of xs)) all-split
      (still-cut (w.done ++ piece) more before now (wrote-more true w.done piece before then now w.wrote part))

pub wrote-all : (before now : Option (List ℕ)) (entries rest : List Entry) → length rest ≡ 0 → WroteTo before now entries rest → Appends before now (text_of entries)
wrote-all before now entries [] none w = subst (λ xs. Appends before now (text_of xs)) (sym (append-nil w.done) ∙ w.split) w.wrote
wrote-all before now entries (x ∷ xs) none w = absurd (omega (arith, none))

-- the same by how many writes failed
pub stays-cut : (f f' : ℕ) (entries more : List Entry) (before now : Option (List ℕ)) → 0 < f → f' ≡ min (f + 1) (2 ^ 64 - 1) → WroteLines (has_failed f) before now (text_of entries)
    → WroteLines (has_failed f') before now (text_of (entries ++ more))
stays-cut zero f' entries more before now some is part = absurd (omega (arith, some))
stays-cut (suc f) zero entries more before now some is part = absurd (omega (arith, is))
stays-cut (suc f) (suc f') entries more before now some is part = still-cut entries more before now part

pub none-failed : (f : ℕ) (entries : List Entry) (before now : Option (List ℕ)) → f ≤ 0 → WroteLines (has_failed f) before now (text_of entries) → Appends before now (text_of entries)
none-failed zero entries before now none wrote = wrote
none-failed (suc f) entries before now none wrote = absurd (omega (arith, none))

pub failed-none : (f : ℕ) (entries : List Entry) (before now : Option (List ℕ)) → f ≤ 0 → Appends before now (text_of entries) → WroteLines (has_failed f) before now (text_of entries)
failed-none zero entries before now none wrote = wrote
failed-none (suc f) entries before now none wrote = absurd (omega (arith, none))
