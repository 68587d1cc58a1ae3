-- Each input: the step is the place, and the past is sound with it.
use Rattle.std.proofs.Common.{ℕ, List, refl}
use Rattle.agent_settings.specs.Config.{FoundStandsAtPlace}
use Rattle.peer_machine.specs.Reading.{said_in}
use Rattle.peer_machine.specs.declared.words.Event.TheVariants.{Says}
use Rattle.agent_events.specs.declared.events.Input.{Input}
use Rattle.agent_events.specs.declared.events.Input.TheVariants.{Datagram, Up, Ready, Message, Broken, Down, Tick, Drain, Leave}
use Rattle.agent_core.specs.declared.ledger.Ledger.{Ledger}
use Rattle.agent_core.specs.Places.{Place}
use Rattle.agent_core.specs.Rooms.{rooms}
use Rattle.agent_core.specs.History.{at_input, link_act}
use Rattle.agent_core.specs.Machine.{on_input}
use Rattle.agent_core.proofs.RequestLemmas.Refusals.{refusal-none}
use Rattle.agent_core.proofs.StandingLemmas.Simulation.{drain-follows}
use Rattle.agent_core.proofs.StandingLemmas.NextPlaces.{Rest, input-by}
use Rattle.agent_core.proofs.RoomLemmas.RoomySteps.{pass-act}
use Rattle.agent_core.proofs.StandingLemmas.Steps.{Before, Reaches, still-reaches, drain-reaches, linked-reaches}
use Rattle.agent_core.proofs.AnswerLemmas.AnswerSteps.{answer-reaches}
use Rattle.agent_core.proofs.RequestLemmas.TakenSteps.{taken-reaches}
use Rattle.agent_core.proofs.RequestLemmas.VerdictFacts.{verdict-fits}

-- a request that is taken up, and an answer that is passed on
rest-reaches : FoundStandsAtPlace → (ps : List Place) (m : ℕ) (S : Ledger) → Before ps m S → (input : Input) → Rest (Reaches ps m S) ps m S input
rest-reaches law ps m S b (Datagram via address port octets) = λ request is unknown admits.
    taken-reaches ps m S b via address port octets request
    (record { settings = (verdict-fits law S.config via address port octets request is).settings })
    (refusal-none S.config (rooms S.config ps m) admits)
rest-reaches law ps m S b (Message octets) = λ message is passes.
    answer-reaches ps m S b octets message (pass-act (link_act S.config ps m (Message octets) (Says (said_in message))) passes)
rest-reaches law ps m S b Up = tt
rest-reaches law ps m S b Ready = tt
rest-reaches law ps m S b (Broken fault) = tt
rest-reaches law ps m S b Down = tt
rest-reaches law ps m S b Tick = tt
rest-reaches law ps m S b Drain = tt
rest-reaches law ps m S b Leave = tt

pub input-reaches : FoundStandsAtPlace → (ps : List Place) (m : ℕ) (S : Ledger) → Before ps m S → (input : Input) → Reaches ps m S (at_input S.config ps m input) (on_input S input)
input-reaches law ps m S b input = input-by (Reaches ps m S) ps m S b.stands input (record {
  stills = λ quiet kept outputs unsent. still-reaches ps m S b input quiet kept outputs unsent;
  drains = drain-reaches ps m S Drain b refl (drain-follows ps m S b.stands);
  links = λ kept event message begun. linked-reaches ps m S b input event message begun kept;
  rest = rest-reaches law ps m S b input;
})
