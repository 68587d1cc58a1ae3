-- The devices over memory, and the adapters, as contracts see them.
use Rattle.std.specs.Prelude.{◌≡◌, ℕ, zero, suc, ◌+◌, ◌-◌, ◌^◌, ◌==◌, min, Bool, false, not, ◌&&◌, List, [], ◌∷◌, ◌++◌, length, take, drop, slice_get, Option, Some, None, option_map, unwrap_or, is_some, if◌then◌else◌}
use Rattle.std.specs.Option.{option_flatten}
use Rattle.wire_core.specs.Forms.{is_listed}
use Rattle.wire_devices.specs.declared.devices.Datagram.{Datagram}
use Rattle.wire_devices.specs.declared.devices.Took.{Took}
use Rattle.wire_devices.specs.declared.devices.Took.TheVariants as took
use Rattle.wire_devices.specs.declared.devices.LinkGot.{LinkGot}
use Rattle.wire_devices.specs.declared.devices.LinkGot.TheVariants as got
use Rattle.wire_devices.specs.Sockets.{Socket}
use Rattle.wire_devices.specs.Links.{Inlet, Outlet}
use Rattle.wire_devices.specs.Dialling.{Dials}

-- the numbers of the calls that are to fail, counted from 0, and how many calls there were
pub record Plan : Type 0 where
  pub failing : List ℕ
  pub calls : ℕ

abbrev pub plan_of : List ℕ → Plan
plan_of failing = record { failing = failing; calls = 0 }

abbrev pub is_due : Plan → Bool
is_due plan = is_listed plan.calls plan.failing

abbrev pub next_call : Plan → Plan
next_call plan = record plan { calls = min (plan.calls + 1) (2 ^ 64 - 1) }

-- a clock of these moments, and how often it was read, as long as that can be counted
pub record Moments : Type 0 where
  pub moments : List ℕ
  pub reads : Option ℕ

-- the moment of the n-th reading, counted from 0: the last moment stays, and without moments it is 0
abbrev pub moment_at : List ℕ → ℕ → ℕ
moment_at moments n = unwrap_or (slice_get moments (min n (length moments - 1))) 0

-- the first n readings
abbrev pub first_readings : List ℕ → ℕ → List ℕ
first_readings moments zero = []
first_readings moments (suc n) = first_readings moments n ++ moment_at moments n ∷ []

abbrev pub readings_of : Moments → Option (List ℕ)
readings_of c = option_map (first_readings c.moments) c.reads

-- a socket that never fails: what each coming look finds, and what is told
pub record Post : Type 0 where
  pub looks : List (Option Datagram)
  pub received : Option (List Datagram)
  pub handed : Option (List Datagram)
  pub idle : Option ℕ

-- what the next look finds; after the looks that are listed there is nothing
abbrev pub next_find : List (Option Datagram) → Option Datagram
next_find looks = option_flatten (slice_get looks 0)

abbrev pub told_of_post : Post → ℕ → ℕ → Socket
told_of_post s faults row = record {
  received = s.received;
  handed = s.handed;
  ready = Some (is_some (next_find s.looks));
  idle = s.idle;
  faults = faults;
  row = row;
  port = None;
}

-- what such a look answers, where there is so much room; what doesn't fit is lost
abbrev pub next_took : Option Datagram → ℕ → Took
next_took (Some d) room = took.From d.address d.port (min (length d.octets) room)
next_took None room = took.Nothing

-- these octets over the front of a buffer, as many as fit
abbrev pub overlaid : List ℕ → List ℕ → List ℕ
overlaid octets buf = take (min (length octets) (length buf)) octets ++ drop (min (length octets) (length buf)) buf

-- the buffer after such a look
abbrev pub filled : Option Datagram → List ℕ → List ℕ
filled (Some d) buf = overlaid d.octets buf
filled None buf = buf

abbrev pub fresh_post : List (Option Datagram) → Post
fresh_post looks = record { looks = looks; received = Some []; handed = Some []; idle = Some 0 }

-- a socket of which some receives, sends and twins fail
pub record PlannedPost : Type 0 where
  pub post : Post
  pub receives : Plan
  pub sends : Plan
  pub twins : Plan
  pub faults : ℕ
  pub row : ℕ

abbrev pub planned_post : List (Option Datagram) → List ℕ → List ℕ → List ℕ → PlannedPost
planned_post looks receives sends twins = record {
  post = fresh_post looks;
  receives = plan_of receives;
  sends = plan_of sends;
  twins = plan_of twins;
  faults = 0;
  row = 0;
}

abbrev pub told_of_planned_post : PlannedPost → Socket
told_of_planned_post s = told_of_post s.post s.faults s.row

-- the end of a link that never fails: how many octets each coming look may find, of those that are left
pub record Stream : Type 0 where
  pub received : List ℕ
  pub left : List ℕ
  pub looks : List ℕ
  pub idle : Option ℕ
  pub ends : ℕ
  pub number : Option ℕ

-- a look that finds nothing, though something may be left
abbrev pub is_quiet : Option ℕ → Bool
is_quiet (Some n) = n == 0
is_quiet None = false

-- where the looks are used up, a look finds all that is left
abbrev pub next_got : Option ℕ → List ℕ → ℕ → LinkGot
next_got look left room =
    if is_quiet look then got.Nothing
    else (if length left == 0 then got.Ended else got.Bytes (min (min (unwrap_or look (length left)) (length left)) room))

abbrev pub told_of_stream : Stream → ℕ → Inlet
told_of_stream s faults = record {
  received = Some s.received;
  left = Some s.left;
  ready = Some (not (is_quiet (slice_get s.looks 0)) && not (length s.left == 0));
  idle = s.idle;
  ends = s.ends;
  faults = faults;
  number = s.number;
}

abbrev pub fresh_stream : List ℕ → List ℕ → Stream
fresh_stream octets looks = record { received = []; left = octets; looks = looks; idle = Some 0; ends = 0; number = None }

-- the end of a link of which some receives fail
pub record PlannedStream : Type 0 where
  pub stream : Stream
  pub receives : Plan
  pub faults : ℕ

abbrev pub planned_stream : List ℕ → List ℕ → List ℕ → PlannedStream
planned_stream octets looks receives = record { stream = fresh_stream octets looks; receives = plan_of receives; faults = 0 }

abbrev pub told_of_planned_stream : PlannedStream → Inlet
told_of_planned_stream s = told_of_stream s.stream s.faults

-- what the other end of a link was handed, as long as it is told, and for how many octets there is room
pub record Wall : Type 0 where
  pub handed : Option (List ℕ)
  pub room : ℕ

abbrev pub told_of_wall : Wall → ℕ → Outlet
told_of_wall w faults = record { handed = w.handed; faults = faults }

abbrev pub fresh_wall : ℕ → Wall
fresh_wall room = record { handed = Some []; room = room }

-- such an end of which some sends fail
pub record PlannedWall : Type 0 where
  pub wall : Wall
  pub sends : Plan
  pub faults : ℕ

abbrev pub planned_wall : ℕ → List ℕ → PlannedWall
planned_wall room sends = record { wall = fresh_wall room; sends = plan_of sends; faults = 0 }

abbrev pub told_of_planned_wall : PlannedWall → Outlet
told_of_planned_wall w = told_of_wall w.wall w.faults

-- what a link is made of: what comes, by which looks, and the room for what is handed in
pub record Script : Type 0 where
  pub octets : List ℕ
  pub looks : List ℕ
  pub room : ℕ

-- a link that ends at once
abbrev pub empty_script : Script
empty_script = record { octets = []; looks = []; room = 0 }

-- the n-th link of a dialer
abbrev pub made_of : ℕ → Script → Stream × Wall
made_of n s = (record (fresh_stream s.octets s.looks) { number = Some n }, fresh_wall s.room)

-- a script with the receives and sends that are to fail
pub record PlannedScript : Type 0 where
  pub script : Script
  pub receives : List ℕ
  pub sends : List ℕ

abbrev pub empty_planned_script : PlannedScript
empty_planned_script = record { script = empty_script; receives = []; sends = [] }

abbrev pub made_of_planned : ℕ → PlannedScript → PlannedStream × PlannedWall
made_of_planned n s = (record (planned_stream s.script.octets s.script.looks s.receives) { stream = record (fresh_stream s.script.octets s.script.looks) { number = Some n } }, planned_wall s.script.room s.sends)

-- a dialer that never fails: what its coming links are made of, and how many it made
pub record SteadyDials : Type 0 where
  pub lines : List Script
  pub made : ℕ

-- a dialer of which some dials fail
pub record PlannedDials : Type 0 where
  pub lines : List PlannedScript
  pub dials : Plan
  pub told : Dials
  pub made : ℕ

-- a crew of which some starts are refused
pub record PlannedStarts : Type 0 where
  pub starts : Plan
  pub faults : ℕ
  pub started : ℕ

-- the adapter of a socket: it tells nothing of content
abbrev pub told_of_counts : Dials → Socket
told_of_counts c = record { received = None; handed = None; ready = None; idle = None; faults = c.faults; row = c.row; port = None }

-- the same with the port that it was opened at, unless the system chose it
pub record PortCounts : Type 0 where
  pub port : Option ℕ
  pub faults : ℕ
  pub row : ℕ

abbrev pub told_of_port : PortCounts → Socket
told_of_port c = record { received = None; handed = None; ready = None; idle = None; faults = c.faults; row = c.row; port = c.port }

-- the adapter of the end of a link that octets come from
pub record EndCounts : Type 0 where
  pub faults : ℕ
  pub ends : ℕ
  pub number : Option ℕ

abbrev pub told_of_ends : EndCounts → Inlet
told_of_ends c = record { received = None; left = None; ready = None; idle = None; ends = c.ends; faults = c.faults; number = c.number }
