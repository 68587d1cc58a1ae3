-- What is sent again of a request is the request as it was sent first.
use Rattle.std.proofs.Common.{◌≡◌, ℕ, suc, ◌+◌, ◌<◌, ◌≤◌, Bool, true, false, cond, List, [], ◌∷◌, length, map, Option, Some, None, refl, sym, ◌∙◌, ap, subst, arith, max}
use Rattle.std.specs.Prelude.{◌==◌, nat_lt, not, is_some, IfSome, slice_get}
use Rattle.std.specs.List.{AllByRecursion, enumerate_from}
use Rattle.std.proofs.lemmas.Bool.{eqb-true}
use Rattle.agent_settings.specs.declared.config.Config.{Config}
use Rattle.peer_machine.specs.declared.words.Event.TheVariants.{Says}
use Rattle.peer_machine.specs.Reading.{said_in}
use Rattle.agent_events.specs.declared.events.Input.{Input}
use Rattle.agent_events.specs.declared.events.Input.TheVariants.{Message}
use Rattle.agent_events.specs.declared.events.Output.TheVariants.{Send}
use Rattle.agent_core.specs.Places.{Place, Taking, now, link, opens, takings, rank, ends, live, match_of, waiting}
use Rattle.agent_core.specs.History.{at_input, past, linked, answered, again, resends}
use Rattle.agent_core.specs.LawsOfSends.{RequestsReachOverLinks, ReachesAt, SendsAgain, application_sends}
use Rattle.agent_core.proofs.ListLemmas.Lists.{AllByRecursion-weaken, AllByRecursion-filter}
use Rattle.agent_core.proofs.LawLemmas.Orders.{Ascending}
use Rattle.agent_core.proofs.LawLemmas.Soundness.{SentFits, TakingFits}
use Rattle.agent_core.proofs.AnswerLemmas.HeardPlaces.{heard-resent}
use Rattle.agent_core.proofs.StandingLemmas.Histories.{Standing}
use Rattle.agent_core.proofs.LawLemmas.LawOfMatches.{matched_once}
use Rattle.agent_core.proofs.LawLemmas.LawOfImages.{Ready, ready, resent-fits, link-filter, is-resent, fewer-if}
use Rattle.agent_core.proofs.LawLemmas.LawPlaces.{place-by, known}

-- ---- one request of a place

-- a request of the same place is this one
abbrev IsOne : Taking → Taking → Type 0
IsOne t u = u.place ≡ t.place → u ≡ t

both-each : (P Q : Taking → Type 0) (ts : List Taking) → AllByRecursion P ts → AllByRecursion Q ts → AllByRecursion (λ t. P t × Q t) ts
both-each P Q [] all more = tt
both-each P Q (t ∷ ts) all more = ((all.0, more.0), both-each P Q ts all.1 more.1)

each-one : (ts : List Taking) → Ascending ts → AllByRecursion (λ t. AllByRecursion (IsOne t) ts) ts
each-one [] up = tt
each-one (x ∷ ts) up = (
  ((λ same. refl), AllByRecursion-weaken (λ u. x.place < u.place) (IsOne x) (λ u later same. absurd (omega arith)) ts up.0),
  AllByRecursion-weaken (λ t. (x.place < t.place) × AllByRecursion (IsOne t) ts) (λ t. AllByRecursion (IsOne t) (x ∷ ts))
      (λ t both. let later = both.0 in ((λ same. absurd (omega arith)), both.1)) ts (both-each _ _ ts up.0 (each-one ts up.1)),
)

-- where it stands among those that are sent again, and what is sent there
record FoundAt (t : Taking) (n k : ℕ) (us : List Taking) : Type 0 where
  pub index : ℕ
  pub at : k ≡ n + index
  pub within : index < length us
  pub there : slice_get (map (λ (q : ℕ × Taking). Send (again q.1.sent q.0)) (enumerate_from n us)) index ≡ Some (Send (again t.sent k))

some-is : (n k : ℕ) → Some n ≡ Some k → n ≡ k
some-is n k e = cc

found-at : (t : Taking) (n k : ℕ) (us : List Taking) → AllByRecursion (IsOne t) us → rank t.place n us ≡ Some k → FoundAt t n k us
found-at t n k [] one e = absurd (cc)
found-at t n k (u ∷ us) one e =
    elim (u.place == t.place) as (λ b. u.place == t.place ≡ b → cond b (Some n) (rank t.place (n + 1) us) ≡ Some k → FoundAt t n k (u ∷ us)) [
      | true ↦ (λ here f.
          let same : u ≡ t = one.0 (eqb-true _ _ here) in
          let is : n ≡ k = some-is n k f in
          record {
            index = 0;
            at = omega arith;
            within = omega arith;
            there = ap (λ (v : Taking). Some (Send (again v.sent n))) same ∙ ap (λ j. Some (Send (again t.sent j))) is;
          })
      | false ↦ (λ here f.
          let rest = found-at t (n + 1) k us one.1 f in
          let at = rest.at in
          let within = rest.within in
          record { index = suc rest.index; at = omega arith; within = omega arith; there = rest.there })
    ] refl e

-- ---- at a place

none-reaches : (p : Place) → p.resent ≡ [] → (t : Taking) → ReachesAt p t
none-reaches p none t =
    subst (λ us. IfSome (rank t.place 0 us) (SendsAgain p t)) (sym none) tt

if-some : (P : ℕ → Type 0) (o : Option ℕ) → ((k : ℕ) → o ≡ Some k → P k) → IfSome o P
if-some P None all = tt
if-some P (Some k) all = all k refl

link-reaches : (p : Place) (t : Taking) → application_sends p ≡ resends p.resent → length p.resent ≤ 2147483648 → SentFits t.sent → AllByRecursion (IsOne t) p.resent → ReachesAt p t
link-reaches p t sends few fits one =
    if-some (SendsAgain p t) (rank t.place 0 p.resent)
    (λ k e.
    let found = found-at t 0 k p.resent one e in
    let at = found.at in
    let within = found.within in
    let same : found.index ≡ k = omega arith in
    let there : slice_get (resends p.resent) k ≡ Some (Send (again t.sent k)) = subst (λ j. slice_get (resends p.resent) j ≡ Some (Send (again t.sent k))) same found.there in
    (again t.sent k, (ap (λ os. slice_get os k) sends ∙ there, is-resent t.sent k (omega arith) fits)))

one-if : (t : Taking) (b : Bool) (us : List Taking) → AllByRecursion (IsOne t) us → AllByRecursion (IsOne t) (cond b us [])
one-if t true us one = one
one-if t false us one = tt

reaches-at : (config : Config) (ps : List Place) (m : ℕ) (input : Input) → Ready config ps m → (t : Taking) → SentFits t.sent → AllByRecursion (IsOne t) (takings ps) → ReachesAt (at_input config ps m input) t
reaches-at config ps m input is t fits one = place-by (λ p. ReachesAt p t) config ps m input (record {
  drained = λ quiet. tt;
  dropped = λ quiet reason. tt;
  repeats = λ quiet u comes. tt;
  takes = λ quiet request takes. tt;
  links = λ apart event message begun.
      let p = linked config ps m input event message in
      let few = is.used in
      let fewer : length p.resent ≤ length (waiting config ps m) = fewer-if (opens (link ps).phase p.link.phase) (waiting config ps m) in
      let among : AllByRecursion (IsOne t) (waiting config ps m) = AllByRecursion-filter (IsOne t) (λ u. not (is_some (match_of u.place ps))) (live config ps m) (AllByRecursion-filter (IsOne t) (λ u. nat_lt m (ends config ps u)) (takings ps) one) in
      link-reaches p t (link-filter config ps m input event message (resent-fits config ps m input event message is)) (omega arith) fits
      (one-if t (opens (link ps).phase p.link.phase) (waiting config ps m) among);
  unmatched = λ octets message comes. none-reaches (answered config ps m message (linked config ps m (Message octets) (Says (said_in message)) (Some message)) None) (heard-resent config ps m octets message comes.hands) t;
  matched = λ octets message comes u found. none-reaches (answered config ps m message (linked config ps m (Message octets) (Says (said_in message)) (Some message)) (Some u)) (heard-resent config ps m octets message comes.hands) t;
})

all-reach : (config : Config) (ps : List Place) (m : ℕ) (input : Input) → now ps ≤ m → Standing config ps → AllByRecursion (ReachesAt (at_input config ps m input)) (takings ps)
all-reach config ps m input later s =
    AllByRecursion-weaken (λ t. TakingFits config ps t × AllByRecursion (IsOne t) (takings ps)) (ReachesAt (at_input config ps m input))
    (λ t both. reaches-at config ps m input (ready config ps m later s) t both.0.sent both.1) (takings ps)
    (both-each _ _ (takings ps) s.sound.each (each-one (takings ps) s.sound.ascending))

pub reach : RequestsReachOverLinks
reach config history e within =
    let ps = past config history in
    (all-reach config ps (max (now ps) e.moment) e.input (omega arith) (known config within history), matched_once config history)
