-- The kinds of places, by what they leave of the requests that were taken up.
use Rattle.std.proofs.Common.{◌≡◌, ℕ, false, cond, List, [], ◌∷◌, map, filter, Option, Some, None, refl, ◌∙◌, ap}
use Rattle.std.specs.Option.{option_map_or}
use Rattle.std.specs.Prelude.{nat_lt}
use Rattle.agent_settings.specs.declared.config.Config.{Config}
use Rattle.pending_table.specs.Table.{Row}
use Rattle.agent_core.specs.Places.{Place, Taking, takings, with_taking, match_of, is_at, hop_at, rank, ends, end_by, live}
use Rattle.agent_core.specs.Standing.{last_sent, answer_in, row_of, entry_of}
use Rattle.agent_core.proofs.ListLemmas.Lists.{filter-same}
use Rattle.agent_core.proofs.LawLemmas.Soundness.{hop-elsewhere}
use Rattle.std.specs.List.{AllByRecursion}

-- takes nothing up, matches nothing, and sends nothing again
pub record IsPlain (p : Place) : Type 0 where
  pub taken : p.taken ≡ None
  pub matched : p.matched ≡ None
  pub resent : p.resent ≡ []

pub match-past : (p : Place) (ps : List Place) (n : ℕ) → p.matched ≡ None → match_of n (p ∷ ps) ≡ match_of n ps
match-past p ps n unmatched = ap (λ (m : Option Taking). cond (is_at n m) (Some p) (match_of n ps)) unmatched

pub takings-past : (p : Place) (ps : List Place) → p.taken ≡ None → takings (p ∷ ps) ≡ takings ps
takings-past p ps untaken = ap (λ o. with_taking o (takings ps)) untaken

-- where nothing is taken up or matched, what lives stays
pub live-past : (config : Config) (p : Place) (ps : List Place) (m : ℕ) → p.taken ≡ None → p.matched ≡ None → live config (p ∷ ps) m ≡ live config ps m
live-past config p ps m untaken unmatched =
    ap (filter (λ t. nat_lt m (ends config (p ∷ ps) t))) (takings-past p ps untaken)
    ∙ filter-same (λ t. nat_lt m (ends config (p ∷ ps) t)) (λ t. nat_lt m (ends config ps t)) (λ t. ap (λ o. nat_lt m (end_by config t.moment o)) (match-past p ps t.place unmatched)) (takings ps)

-- the row of a request by what the place sent of it, and by what matches it
abbrev pub row-by : Place → List Place → Taking → Option ℕ → Option Place → Row
row-by p ps t hop found = (
  t.key,
  record (entry_of ps t) {
    link = (option_map_or (λ k. (p.link.number, k)) hop (last_sent ps t)).0;
    number = (option_map_or (λ k. (p.link.number, k)) hop (last_sent ps t)).1;
    answer = answer_in t.sent found;
  },
)

-- the row after a place that matches nothing
pub row-then : (p : Place) (ps : List Place) (t : Taking) (hop : Option ℕ) → p.matched ≡ None → hop_at t p ≡ hop → row_of (p ∷ ps) t ≡ row-by p ps t hop (match_of t.place ps)
row-then p ps t hop unmatched is =
    ap (λ o. row-by p ps t o (match_of t.place (p ∷ ps))) is ∙ ap (row-by p ps t hop) (match-past p ps t.place unmatched)

-- a place that matches nothing and sends nothing of a request again leaves its row
pub row-apart : (p : Place) (ps : List Place) (t : Taking) → is_at t.place p.taken ≡ false → p.matched ≡ None → p.resent ≡ [] → row_of (p ∷ ps) t ≡ row_of ps t
row-apart p ps t apart unmatched resent =
    row-then p ps t None unmatched (hop-elsewhere t p apart ∙ ap (rank t.place 0) resent)

pub rows-apart : (p : Place) (ps : List Place) → p.matched ≡ None → p.resent ≡ [] → (ts : List Taking) → AllByRecursion (λ t. is_at t.place p.taken ≡ false) ts → map (row_of (p ∷ ps)) ts ≡ map (row_of ps) ts
rows-apart p ps unmatched resent [] all = refl
rows-apart p ps unmatched resent (t ∷ ts) all =
    ap (λ r. r ∷ map (row_of (p ∷ ps)) ts) (row-apart p ps t all.0 unmatched resent) ∙ ap (λ rs. row_of ps t ∷ rs) (rows-apart p ps unmatched resent ts all.1)

-- and so do the rows of all where nothing is taken up
row-past : (p : Place) (ps : List Place) (t : Taking) → IsPlain p → row_of (p ∷ ps) t ≡ row_of ps t
row-past p ps t plain = row-apart p ps t (ap (λ o. is_at t.place o) plain.taken) plain.matched plain.resent

rows-all : (p : Place) (ps : List Place) → IsPlain p → (ts : List Taking) → map (row_of (p ∷ ps)) ts ≡ map (row_of ps) ts
rows-all p ps plain [] = refl
rows-all p ps plain (t ∷ ts) =
    ap (λ r. r ∷ map (row_of (p ∷ ps)) ts) (row-past p ps t plain) ∙ ap (λ rs. row_of ps t ∷ rs) (rows-all p ps plain ts)

pub rows-past : (config : Config) (p : Place) (ps : List Place) (m : ℕ) → IsPlain p → map (row_of (p ∷ ps)) (live config (p ∷ ps) m) ≡ map (row_of ps) (live config ps m)
rows-past config p ps m plain =
    ap (map (row_of (p ∷ ps))) (live-past config p ps m plain.taken plain.matched) ∙ rows-all p ps plain (live config ps m)
