-- When what a core keeps stands for a history.
use Rattle.std.specs.Prelude.{◌≡◌, ℕ, ◌+◌, ◌*◌, ◌%◌, ◌<◌, ◌≤◌, List, [], ◌∷◌, map, length, Option, Some, None}
use Rattle.std.specs.Option.{option_map_or}
use Rattle.std.specs.List.{AllByRecursion}
use Rattle.diameter_message.specs.Message.{IsMessage, parts_of}
use Rattle.agent_settings.specs.declared.config.Config.{Config}
use Rattle.agent_settings.specs.Config.{InLimits}
use Rattle.peer_machine.specs.declared.Phase.{Phase}
use Rattle.peer_machine.specs.declared.Phase.TheVariants.{Closed, Greeting, Serving, Closing}
use Rattle.peer_machine.specs.Step.{unlinked}
use Rattle.pending_table.specs.declared.entry.Entry.{Entry}
use Rattle.pending_table.specs.declared.entry.Answer.{Answer}
use Rattle.pending_table.specs.declared.entry.Answer.TheVariants.{Waiting, Silent, Replied}
use Rattle.pending_table.specs.Table as table
use Rattle.agent_core.specs.declared.ledger.Ledger.{Ledger}
use Rattle.agent_core.specs.Settings.{names}
use Rattle.agent_core.specs.Places.{Event, Place, Taking, now, used, outbox, total, serial, live, match_of, reply_in, hop_at}
use Rattle.agent_core.specs.History.{peer, past}
use Rattle.agent_core.specs.Fits.{KeptFits}
use Rattle.agent_core.specs.Machine.{kept_waiting}

-- the link and the hop with which a request was last sent
abbrev pub last_sent : List Place → Taking → ℕ × ℕ
last_sent [] t = (0, t.hop)
last_sent (p ∷ ps) t = option_map_or (λ hop. (p.link.number, hop)) (hop_at t p) (last_sent ps t)

-- what became of a request that sent this message, by the place that matches it
abbrev pub answer_in : List ℕ → Option Place → Answer
answer_in sent None = Waiting sent
answer_in sent (Some p) = table.answer_of p.moment (reply_in p.outputs)

-- the entry of a request that was taken up
abbrev pub entry_of : List Place → Taking → Entry
entry_of ps t = record {
  via = t.key.via;
  address = t.key.address;
  port = t.key.port;
  link = (last_sent ps t).0;
  number = (last_sent ps t).1;
  kept = t.kept;
  taken = t.moment;
  answer = answer_in t.sent (match_of t.place ps);
}

abbrev pub row_of : List Place → Taking → table.Row
row_of ps t = (t.key, entry_of ps t)

-- What is kept stands for the places ps at the moment m. Both sides of the entries are those that are live, so it doesn't matter when
-- dead ones are dropped.
pub record StandsAt (ps : List Place) (m : ℕ) (S : Ledger) : Type 0 where
  pub moment : S.moment ≡ m
  pub peer : S.peer ≡ peer S.config ps
  pub used : S.used ≡ used ps
  pub outbox : S.outbox ≡ outbox ps
  pub total : S.total ≡ total ps % 4294967296
  pub serial : S.serial ≡ serial ps
  pub capacity : S.table.capacity ≡ S.config.capacity
  pub patience : S.table.patience ≡ S.config.patience
  pub retention : S.table.retention ≡ S.config.retention
  pub entries : table.live S.table m ≡ map (row_of ps) (live S.config ps m)

-- a core stands for the history whose link, numbers and live entries it keeps
abbrev pub StandsFor : Ledger → List Event → Type 0
StandsFor S history = StandsAt (past S.config history) (now (past S.config history)) S

-- ---- what a step wants

-- these octets are a message
abbrev pub IsWhole : List ℕ → Type 0
IsWhole octets = IsMessage octets (parts_of octets).header (parts_of octets).avps

-- what waits can be sent again
abbrev pub IsSendable : Answer → Type 0
IsSendable (Waiting sent) = IsWhole sent
IsSendable (Silent at) = Unit {0}
IsSendable (Replied at reply) = Unit {0}

-- what a table and a map want of an entry that lives
pub record EntryFits (S : Ledger) (e : Entry) : Type 0 where
  pub linked : e.link ≤ S.peer.link.number
  pub numbered : e.link ≡ S.peer.link.number → e.number < S.used
  pub by : table.IsBy S.moment e
  pub kept : KeptFits S.config e.kept
  pub sendable : IsSendable e.answer

-- the room that is left to what waits
pub record RoomsFit (S : Ledger) : Type 0 where
  pub outbox : S.outbox + length (kept_waiting S) ≤ S.config.backlog + 64
  pub again : 2 * length (kept_waiting S) ≤ S.config.backlog
  pub used : S.used + length (kept_waiting S) ≤ 2147483648

-- nothing was sent over a link that greets
abbrev pub IsFreshIn : Phase → ℕ → Type 0
IsFreshIn Greeting used = used ≡ 0
IsFreshIn Closed used = Unit {0}
IsFreshIn Serving used = Unit {0}
IsFreshIn Closing used = Unit {0}

-- and little is to be handed over
abbrev pub IsEarly : Phase → ℕ → Type 0
IsEarly Greeting outbox = outbox ≤ 64
IsEarly Closed outbox = Unit {0}
IsEarly Serving outbox = Unit {0}
IsEarly Closing outbox = Unit {0}

-- the counts of a ledger have room, whatever comes next
pub record IsRoomy (S : Ledger) : Type 0 where
  pub rooms : RoomsFit S
  pub greeting : IsFreshIn S.peer.link.phase S.used
  pub early : IsEarly S.peer.link.phase S.outbox

-- what a step wants of a ledger
pub record IsSteady (S : Ledger) : Type 0 where
  pub limits : InLimits S.config
  pub capacity : S.table.capacity ≡ S.config.capacity
  pub rooms : RoomsFit S
  pub greeting : IsFreshIn S.peer.link.phase S.used
  pub entries : AllByRecursion (λ r. EntryFits S r.1) (table.live S.table S.moment)

-- what is kept before anything came in
abbrev pub start : Config → Ledger
start config = record {
  config = config;
  moment = 0;
  peer = record { names = names config; watchdog = config.watchdog; link = unlinked };
  used = 0;
  outbox = 0;
  total = 0;
  serial = 0;
  table = record { capacity = config.capacity; patience = config.patience; retention = config.retention; entries = [] };
}
