-- What is dropped leaves all that comes later as it is.
use Rattle.std.proofs.Common.{◌≡◌, ℕ, true, false, List, [], ◌∷◌, ◌++◌, Some, refl, sym, ◌∙◌, ap}
use Rattle.std.specs.Prelude.{max}
use Rattle.radius_packet.specs.declared.reasons.Reason.{Reason}
use Rattle.agent_settings.specs.declared.config.Config.{Config}
use Rattle.agent_events.specs.declared.events.Input.{Input}
use Rattle.agent_events.specs.declared.events.Input.TheVariants.{Datagram, Up, Ready, Message, Broken, Down, Tick, Drain, Leave}
use Rattle.agent_events.specs.declared.events.Output.TheVariants.{Dropped}
use Rattle.agent_core.specs.Places.{Event, Place, now}
use Rattle.agent_core.specs.History.{at_input, past, still, outputs_after}
use Rattle.agent_core.specs.LawsOfSends.{DropsAreQuiet, IsDropped, is_datagram}
use Rattle.agent_core.proofs.StandingLemmas.Simulation.{dropped-unsent}
use Rattle.agent_core.proofs.LawLemmas.LawPlaces.{place-by}
use Rattle.agent_core.proofs.LawLemmas.LeftOut.{LeavesAll, left-out}

abbrev Drops : Config → List Place → ℕ → Input → Place → Type 0
Drops config ps m input p = is_datagram input ≡ true → (reason : Reason) → p.outputs ≡ Dropped reason ∷ [] → p ≡ still config ps m input (Dropped reason ∷ [])

drops-at : (config : Config) (ps : List Place) (m : ℕ) (input : Input) → Drops config ps m input (at_input config ps m input)
drops-at config ps m input = place-by (Drops config ps m input) config ps m input (record {
  drained = λ quiet is reason e. absurd (cc);
  dropped = λ quiet other is reason e. ap (still config ps m input) e;
  repeats = λ quiet t comes is reason e. ap (still config ps m input) e;
  takes = λ quiet request takes is reason e. absurd (cc);
  links = λ apart event message begun is reason e. absurd (cc);
  unmatched = λ octets message comes is reason e. let no : false ≡ true = sym (ap is_datagram comes.is) ∙ is in absurd (cc);
  matched = λ octets message comes t found is reason e. let no : false ≡ true = sym (ap is_datagram comes.is) ∙ is in absurd (cc);
})

datagram-leaves : (ps : List Place) (input : Input) (reason : Reason) → is_datagram input ≡ true → LeavesAll ps input (Dropped reason ∷ [])
datagram-leaves ps (Datagram via address port octets) reason is = record { begins_none = refl; unsent = dropped-unsent reason; drains_none = λ e. absurd (cc) }
datagram-leaves ps Up reason is = absurd (cc)
datagram-leaves ps Ready reason is = absurd (cc)
datagram-leaves ps (Message octets) reason is = absurd (cc)
datagram-leaves ps (Broken fault) reason is = absurd (cc)
datagram-leaves ps Down reason is = absurd (cc)
datagram-leaves ps Tick reason is = absurd (cc)
datagram-leaves ps Drain reason is = absurd (cc)
datagram-leaves ps Leave reason is = absurd (cc)

-- whichever is dropped, all goes on as without it
pub quiet : DropsAreQuiet
quiet config history more m one other e is too first second =
    let ps = past config history in
    let at = max (now ps) m in
    left-out config history more m one (Dropped first.0 ∷ []) e (drops-at config ps at one is first.0 first.1) (datagram-leaves ps one first.0 is)
    ∙ sym (left-out config history more m other (Dropped second.0 ∷ []) e (drops-at config ps at other too second.0 second.1) (datagram-leaves ps other second.0 too))
