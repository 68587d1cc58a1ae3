-- What a history says of the live entries is what a step wants of them.
use Rattle.std.proofs.Common.{◌≡◌, ℕ, ◌≤◌, List, [], ◌∷◌, Option, Some, None, refl, ◌∙◌, ap, arith}
use Rattle.std.specs.List.{AllByRecursion}
use Rattle.pending_table.specs.Table as table
use Rattle.peer_machine.specs.Step.{PeerParts}
use Rattle.agent_core.specs.declared.ledger.Ledger.{Ledger}
use Rattle.agent_core.specs.Places.{Event, Place, Taking, now, takings, match_of, reply_in, live}
use Rattle.agent_core.specs.History.{past}
use Rattle.agent_core.specs.Standing.{StandsAt, StandsFor, IsSteady, IsRoomy, EntryFits, IsSendable, IsWhole, answer_in, row_of, entry_of}
use Rattle.agent_core.specs.Promise.{IsReal}
use Rattle.agent_core.proofs.ListLemmas.Lists.{AllByRecursion-filter, AllByRecursion-map}
use Rattle.agent_core.proofs.StandingLemmas.Agreeing.{live-agrees}
use Rattle.agent_core.proofs.LawLemmas.Soundness.{TakingFits}
use Rattle.agent_core.proofs.LawLemmas.Sound.{IsSound}
use Rattle.agent_core.proofs.StandingLemmas.Steps.{Lasts}
use Rattle.agent_core.proofs.StandingLemmas.Histories.{past-standing}
use Rattle.agent_core.proofs.StandingLemmas.Kept.{Laws, CoreSettings}
use Rattle.agent_core.proofs.StandingLemmas.KeptPlaces.{Keeps, past-kept}

settled-by : (taken at m : ℕ) (reply : Option (List ℕ)) → at ≤ m → table.last_change taken (table.answer_of at reply) ≤ m
settled-by taken at m None by = by
settled-by taken at m (Some reply) by = by

-- an entry was taken and settled by the moment by which its request was taken up and matched
answer-by : (sent : List ℕ) (taken m : ℕ) (o : Option Place) → taken ≤ m → ((p : Place) → o ≡ Some p → p.moment ≤ m) → table.last_change taken (answer_in sent o) ≤ m
answer-by sent taken m None by matched = by
answer-by sent taken m (Some p) by matched = settled-by taken p.moment m (reply_in p.outputs) (matched p refl)

settled-sendable : (at : ℕ) (reply : Option (List ℕ)) → IsSendable (table.answer_of at reply)
settled-sendable at None = tt
settled-sendable at (Some reply) = tt

answer-sendable : (sent : List ℕ) (o : Option Place) → IsWhole sent → IsSendable (answer_in sent o)
answer-sendable sent None whole = whole
answer-sendable sent (Some p) whole = settled-sendable p.moment (reply_in p.outputs)

entry-fits : (ps : List Place) (S : Ledger) → StandsAt ps (now ps) S → IsSound S.config ps → (t : Taking) → TakingFits S.config ps t → Keeps S.config t → EntryFits S (entry_of ps t)
entry-fits ps S stands sound t fits kept =
    let number = ap (λ (p : PeerParts). p.link.number) stands.peer in
    record {
      linked = let h = fits.linked in omega arith;
      numbered = λ same. let h = fits.within (same ∙ number) in let u = stands.used in omega arith;
      by = rw stands.moment (answer-by t.sent t.moment (now ps) (match_of t.place ps) fits.moment (sound.matched_by t.place));
      kept = kept.fits;
      sendable = answer-sendable t.sent (match_of t.place ps) kept.whole;
    }

entries-fit : (ps : List Place) (S : Ledger) → StandsAt ps (now ps) S → IsSound S.config ps → (ts : List Taking) → AllByRecursion (TakingFits S.config ps) ts → AllByRecursion (Keeps S.config) ts → AllByRecursion (λ t. EntryFits S (entry_of ps t)) ts
entries-fit ps S stands sound [] fits kept = tt
entries-fit ps S stands sound (t ∷ ts) fits kept = (entry-fits ps S stands sound t fits.0 kept.0, entries-fit ps S stands sound ts fits.1 kept.1)

-- all that a step wants
pub history-steady : Laws → (S : Ledger) (history : List Event) → CoreSettings S.config → Lasts S.config → IsRoomy S → StandsFor S history → AllByRecursion (λ e. IsReal e.input) history → IsSteady S
history-steady laws S history settings lasts roomy stands real =
    let ps = past S.config history in
    let sound = (past-standing laws.found S.config lasts history).sound in
    let kept = past-kept laws S.config settings lasts history real in
    record {
      limits = settings.limits;
      capacity = stands.capacity;
      rooms = roomy.rooms;
      greeting = roomy.greeting;
      entries = rw (live-agrees ps (now ps) S stands) (
          AllByRecursion-map (λ r. EntryFits S r.1) (row_of ps) (live S.config ps (now ps)) (
          AllByRecursion-filter (λ t. EntryFits S (entry_of ps t)) _ (takings ps) (entries-fit ps S stands sound (takings ps) sound.each kept)
          )
          );
    }
