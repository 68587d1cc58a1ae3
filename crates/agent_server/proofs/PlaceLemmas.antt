-- The moment and the input of a place are those of its event.
use Rattle.std.proofs.Common.{◌≡◌, ℕ, Bool, true, false, max, List, find, Option, Some, None, Result, Ok, Err, refl}
use Rattle.agent_settings.specs.declared.config.Config.{Config}
use Rattle.radius_packet.specs.declared.reasons.Reason.{Reason}
use Rattle.diameter_message.specs.declared.fault.MessageFault.{MessageFault}
use Rattle.diameter_message.specs.Message.{MessageParts, read_message}
use Rattle.pending_table.specs.Table.{same_key}
use Rattle.peer_machine.specs.Step.{is_pass}
use Rattle.peer_machine.specs.Reading.{said_in}
use Rattle.peer_machine.specs.declared.words.Event.TheVariants.{Says}
use Rattle.agent_events.specs.declared.events.Input.{Input}
use Rattle.agent_events.specs.declared.events.Input.TheVariants.{Datagram, Up, Ready, Message, Broken, Down, Tick, Drain, Leave}
use Rattle.agent_core.specs.Places.{Event, Place, Taking, live, now, waiting}
use Rattle.agent_core.specs.Rooms.{refusal, rooms}
use Rattle.agent_core.specs.Verdict.{Request, verdict}
use Rattle.agent_core.specs.History.{admitted, answered, at_input, datagram, heard, link_act, linked, matches, messaged, place, requested}

pub record IsAt (m : ℕ) (x : Input) (p : Place) : Type 0 where
  pub moment : p.moment ≡ m
  pub input : p.input ≡ x

module _ (config : Config) (ps : List Place) (m : ℕ) where
  admitted-at : (input : Input) (request : Request) (reason : Option Reason) → IsAt m input (admitted config ps m input request reason)
  admitted-at input request (Some reason) = record { moment = refl; input = refl }
  admitted-at input request None = record { moment = refl; input = refl }

  requested-at : (input : Input) (request : Request) (found : Option Taking) → IsAt m input (requested config ps m input request found)
  requested-at input request (Some t) = record { moment = refl; input = refl }
  requested-at input request None = admitted-at input request (refusal config (rooms config ps m))

  datagram-at : (input : Input) (said : Result Request Reason) → IsAt m input (datagram config ps m input said)
  datagram-at input (Err reason) = record { moment = refl; input = refl }
  datagram-at input (Ok request) = requested-at input request (find (λ t. same_key t.key request.key) (live config ps m))

  answered-at : (input : Input) (message : MessageParts) (p : Place) (found : Option Taking) → IsAt m input p
      → IsAt m input (answered config ps m message p found)
  answered-at input message p None is = record { moment = is.moment; input = is.input }
  answered-at input message p (Some t) is = record { moment = is.moment; input = is.input }

  heard-at : (input : Input) (message : MessageParts) (p : Place) (application : Bool) → IsAt m input p
      → IsAt m input (heard config ps m message p application)
  heard-at input message p true is = answered-at input message p (find (matches ps message.header) (waiting config ps m)) is
  heard-at input message p false is = is

  messaged-at : (input : Input) (said : Result MessageParts MessageFault) → IsAt m input (messaged config ps m input said)
  messaged-at input (Err fault) = record { moment = refl; input = refl }
  messaged-at input (Ok message) =
      heard-at input message (linked config ps m input (Says (said_in message)) (Some message))
      (is_pass (link_act config ps m input (Says (said_in message)))) (record { moment = refl; input = refl })

  input-at : (input : Input) → IsAt m input (at_input config ps m input)
  input-at (Datagram via address port octets) = datagram-at (Datagram via address port octets) (verdict config via address port octets)
  input-at Up = record { moment = refl; input = refl }
  input-at Ready = record { moment = refl; input = refl }
  input-at (Message octets) = messaged-at (Message octets) (read_message octets)
  input-at (Broken fault) = record { moment = refl; input = refl }
  input-at Down = record { moment = refl; input = refl }
  input-at Tick = record { moment = refl; input = refl }
  input-at Drain = record { moment = refl; input = refl }
  input-at Leave = record { moment = refl; input = refl }

pub place-at : (config : Config) (ps : List Place) (e : Event) → IsAt (max (now ps) e.moment) e.input (place config ps e)
place-at config ps e = input-at config ps (max (now ps) e.moment) e.input
