-- What holds of each request that was taken up, in every past: the number of its last Send, and what it sent.
use Rattle.std.proofs.Common.{◌≡◌, ℕ, ◌+◌, ◌<◌, ◌≤◌, ◌⊎◌, Bool, true, false, cond, List, [], ◌∷◌, length, Option, Some, None, refl, sym, ◌∙◌, ap, arith}
use Rattle.std.specs.Prelude.{slice_get, ◌==◌}
use Rattle.std.specs.Option.{option_or, option_map_or}
use Rattle.std.proofs.lemmas.Bool.{ne_eqb, eq-eqb}
use Rattle.diameter_message.specs.Message.{IsHeader}
use Rattle.agent_settings.specs.declared.config.Config.{Config}
use Rattle.agent_core.specs.Places.{Place, Taking, now, link, begins, is_at, hop_at, rank, number, send_count, used, is_application_request, header_of}
use Rattle.peer_machine.specs.Reading.{is_application_command}
use Rattle.agent_core.specs.Standing.{last_sent}
use Rattle.agent_core.proofs.LawLemmas.Orders.{Ascending}

-- these octets begin with a header
pub record IsHeaded (octets : List ℕ) : Type 0 where
  pub header : IsHeader (header_of octets)

-- a message of an application that isn't sent again
pub record SentFits (octets : List ℕ) : Type 0 where
  pub whole : IsHeaded octets
  pub flags : (header_of octets).flags ≡ 192
  pub application : is_application_command (header_of octets).command ≡ true

-- what holds of a request that was taken up in a past
pub record TakingFits (config : Config) (ps : List Place) (t : Taking) : Type 0 where
  pub placed : t.place < length ps
  pub linked : (last_sent ps t).0 ≤ (link ps).number
  pub within : (last_sent ps t).0 ≡ (link ps).number → (last_sent ps t).1 < used ps
  pub numbered : number ps t ≡ cond ((last_sent ps t).0 == (link ps).number) (Some (last_sent ps t).1) None
  pub moment : t.moment ≤ now ps
  pub settings : slice_get config.clients t.kept.client ≡ Some t.settings
  pub sent : SentFits t.sent

-- what is sent again is sent over a link that has sent nothing yet
abbrev pub IsUnused : List Place → Place → Type 0
IsUnused ps p = (p.resent ≡ []) ⊎ ((begins ps p.input ≡ true) ⊎ (used ps ≡ 0))

-- what a place does to the numbers of the present link
pub record Goes (ps : List Place) (p : Place) : Type 0 where
  pub later : now ps ≤ p.moment
  pub number : p.link.number ≡ cond (begins ps p.input) ((link ps).number + 1) (link ps).number
  pub resent : length p.resent ≤ send_count is_application_request p
  pub order : Ascending p.resent
  pub unused : IsUnused ps p

rank-within : (place n : ℕ) (ts : List Taking) (k : ℕ) → rank place n ts ≡ Some k → k < n + length ts
rank-within place n [] k e = absurd (cc)
rank-within place n (t ∷ ts) k e =
    elim (t.place == place) as (λ b. cond b (Some n) (rank place (n + 1) ts) ≡ Some k → k < n + length (t ∷ ts)) [
      | true ↦ (λ f. let same : n ≡ k = cc in omega arith)
      | false ↦ (λ f. let h = rank-within place (n + 1) ts k f in omega arith)
    ] e

-- the last Send by what this place sends, and the number
abbrev pub last-by : Place → ℕ × ℕ → Option ℕ → ℕ × ℕ
last-by p before o = option_map_or (λ hop. (p.link.number, hop)) o before

record Numbered (last : ℕ × ℕ) (now_number : Option ℕ) (link used : ℕ) : Type 0 where
  pub linked : last.0 ≤ link
  pub within : last.0 ≡ link → last.1 < used
  pub numbered : now_number ≡ cond (last.0 == link) (Some last.1) None

numbered-by : (p : Place) (o : Option ℕ) (b : Bool) (last : ℕ × ℕ) (before : Option ℕ) (link used sent : ℕ) → Numbered last before link used → p.link.number ≡ cond b (link + 1) link → ((k : ℕ) → o ≡ Some k → k < sent) → Numbered (last-by p last o) (option_or o (cond b None before)) p.link.number (cond b sent (used + sent))
numbered-by p (Some k) true last before link used sent was is few = record {
  linked = omega arith;
  within = λ _. few k refl;
  numbered = rw (eq-eqb p.link.number p.link.number refl) refl;
}
numbered-by p (Some k) false last before link used sent was is few = record {
  linked = omega arith;
  within = λ _. let h = few k refl in omega arith;
  numbered = rw (eq-eqb p.link.number p.link.number refl) refl;
}
numbered-by p None true last before link used sent was is few = record {
  linked = let h = was.linked in omega arith;
  within = λ same. absurd (let h = was.linked in omega arith);
  numbered = rw (ne_eqb last.0 p.link.number (λ (e : last.0 ≡ p.link.number). let h = was.linked in omega arith)) refl;
}
numbered-by p None false last before link used sent was is few = record {
  linked = let h = was.linked in omega arith;
  within = λ same. let h = was.within (same ∙ is) in omega arith;
  numbered = was.numbered ∙ ap (λ n. cond (last.0 == n) (Some last.1) None) (sym is);
}

or-none : (o : Option ℕ) → option_or o None ≡ o
or-none None = refl
or-none (Some n) = refl

pub hop-elsewhere : (t : Taking) (p : Place) → is_at t.place p.taken ≡ false → hop_at t p ≡ rank t.place 0 p.resent
hop-elsewhere t p apart = ap (λ b. option_or (rank t.place 0 p.resent) (cond b (Some t.hop) None)) apart ∙ or-none (rank t.place 0 p.resent)

-- what fits goes on to fit
pub TakingFits-on : (config : Config) (ps : List Place) (p : Place) (t : Taking) → Goes ps p → is_at t.place p.taken ≡ false → TakingFits config ps t → TakingFits config (p ∷ ps) t
TakingFits-on config ps p t goes apart fits =
    let hop = hop-elsewhere t p apart in
    let few : (k : ℕ) → hop_at t p ≡ Some k → k < send_count is_application_request p =
    (λ k e. let h = rank-within t.place 0 p.resent k (sym hop ∙ e) in let g = goes.resent in omega arith)
    in
    let n = numbered-by p (hop_at t p) (begins ps p.input) (last_sent ps t) (number ps t) (link ps).number (used ps) (send_count is_application_request p) (record { linked = fits.linked; within = fits.within; numbered = fits.numbered }) goes.number few in
    record {
      placed = let h = fits.placed in omega arith;
      linked = n.linked;
      within = n.within;
      numbered = n.numbered;
      moment = let h = fits.moment in let g = goes.later in omega arith;
      settings = fits.settings;
      sent = fits.sent;
    }

-- a request that is taken up now: its hop is the next one
pub TakingFits-new : (config : Config) (ps : List Place) (p : Place) (t : Taking) → is_at t.place p.taken ≡ true → rank t.place 0 p.resent ≡ None → t.place < length (p ∷ ps) → t.moment ≤ p.moment → t.hop < used (p ∷ ps) → slice_get config.clients t.kept.client ≡ Some t.settings → SentFits t.sent → TakingFits config (p ∷ ps) t
TakingFits-new config ps p t here alone placed by next settings sent =
    let hop : hop_at t p ≡ Some t.hop = ap (λ o. option_or o (cond (is_at t.place p.taken) (Some t.hop) None)) alone ∙ ap (λ b. cond b (Some t.hop) None) here in
    let last : last_sent (p ∷ ps) t ≡ (p.link.number, t.hop) = ap (λ o. option_map_or (λ k. (p.link.number, k)) o (last_sent ps t)) hop in
    let now_number : number (p ∷ ps) t ≡ Some t.hop = ap (λ o. option_or o (cond (begins ps p.input) None (number ps t))) hop in
    record {
      placed = placed;
      linked = rw last (omega arith);
      within = rw last (λ _. next);
      numbered = rw (last, now_number, eq-eqb p.link.number p.link.number refl) refl;
      moment = by;
      settings = settings;
      sent = sent;
    }
