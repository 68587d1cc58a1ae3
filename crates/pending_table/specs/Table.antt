-- The table of requests that were taken up, as the list of its entries in the order of taking, each with its key (profile).
use Rattle.std.specs.Prelude.{ℕ, ◌+◌, ◌≤◌, Bool, true, false, nat_lt, ◌==◌, nat_eq, ◌&&◌, List, [], ◌∷◌, filter, find, map, slice_get, Option, Some, None, option_and_then, unwrap_or, if◌then◌else◌}
use Rattle.std.specs.Cmp.Lexicographic.{pointwise}
use Rattle.radius_packet.specs.declared.reasons.Via.{Via}
use Rattle.radius_packet.specs.declared.reasons.Via.TheVariants.{Auth, Acct}
use Rattle.session_carrier.specs.declared.kept.Kept.{Kept}
use Rattle.pending_table.specs.declared.key.Key.{Key}
use Rattle.pending_table.specs.declared.entry.Entry.{Entry}
use Rattle.pending_table.specs.declared.entry.Answer.{Answer}
use Rattle.pending_table.specs.declared.entry.Answer.TheVariants.{Waiting, Silent, Replied}
use Rattle.pending_table.specs.declared.entry.Found.{Found}
use Rattle.pending_table.specs.declared.entry.Found.TheVariants as found

-- an entry beside its key
abbrev pub Row : Type 0
Row = Key × Entry

pub record TableParts : Type 0 where
  pub capacity : ℕ
  pub patience : ℕ
  pub retention : ℕ
  pub entries : List Row

abbrev pub same_via : Via → Via → Bool
same_via Auth Auth = true
same_via Acct Acct = true
same_via Auth Acct = false
same_via Acct Auth = false

-- one request: all four parts are equal
abbrev pub same_key : Key → Key → Bool
same_key k l = same_via k.via l.via && k.address == l.address && k.port == l.port && pointwise nat_eq k.octets l.octets

abbrev pub is_waiting : Answer → Bool
is_waiting (Waiting sent) = true
is_waiting (Silent at) = false
is_waiting (Replied at reply) = false

-- when something last became of an entry taken at `taken`: it was taken, or settled
abbrev pub last_change : ℕ → Answer → ℕ
last_change taken (Waiting sent) = taken
last_change taken (Silent at) = at
last_change taken (Replied at reply) = at

-- the moment from which it is dead: the patience after its taking while it waits, the retention after it was settled
abbrev pub ends : ℕ → ℕ → ℕ → Answer → ℕ
ends patience retention taken (Waiting sent) = taken + patience
ends patience retention taken (Silent at) = at + retention
ends patience retention taken (Replied at reply) = at + retention

abbrev pub is_live : ℕ → ℕ → ℕ → Entry → Bool
is_live patience retention moment e = nat_lt moment (ends patience retention e.taken e.answer)

abbrev pub live : TableParts → ℕ → List Row
live t moment = filter (λ r. is_live t.patience t.retention moment r.1) t.entries

-- a live one that has no answer yet
abbrev pub is_live_waiting : ℕ → ℕ → ℕ → Entry → Bool
is_live_waiting patience retention moment e = is_live patience retention moment e && is_waiting e.answer

abbrev pub waiting : TableParts → ℕ → List Row
waiting t moment = filter (λ r. is_live_waiting t.patience t.retention moment r.1) t.entries

-- the live one with this key
abbrev pub find_key : TableParts → Key → ℕ → Option Row
find_key t key moment = find (λ r. same_key r.0 key) (live t moment)

abbrev pub has_number : ℕ → ℕ → Entry → Bool
has_number link number e = e.link == link && e.number == number

-- the live one that waits for the answer with this number on this link
abbrev pub find_number : TableParts → ℕ → ℕ → ℕ → Option Row
find_number t link number moment = find (λ r. has_number link number r.1) (waiting t moment)

-- it was neither taken nor settled after this moment
abbrev pub IsBy : ℕ → Entry → Type 0
IsBy moment e = last_change e.taken e.answer ≤ moment

-- what an entry that waits sent
abbrev pub sent_of : Answer → Option (List ℕ)
sent_of (Waiting sent) = Some sent
sent_of (Silent at) = None
sent_of (Replied at reply) = None

-- what the k-th of the waiting ones sent, counted from 0
abbrev pub sent_at : TableParts → ℕ → ℕ → Option (List ℕ)
sent_at t k moment = option_and_then (λ r. sent_of r.1.answer) (slice_get (waiting t moment) k)

-- what each of these rows, which wait, sent
abbrev pub sent_by : List Row → List (List ℕ)
sent_by rs = map (λ r. unwrap_or (sent_of r.1.answer) []) rs

-- what the waiting ones sent, in the order of taking
abbrev pub sends : TableParts → ℕ → List (List ℕ)
sends t moment = sent_by (waiting t moment)

-- a request that was taken up at this moment
abbrev pub new_entry : Key → ℕ → ℕ → Kept → List ℕ → ℕ → Entry
new_entry key link number kept sent moment =
    record { via = key.via; address = key.address; port = key.port; link = link; number = number; kept = kept; taken = moment; answer = Waiting sent }

abbrev pub answer_of : ℕ → Option (List ℕ) → Answer
answer_of moment None = Silent moment
answer_of moment (Some reply) = Replied moment reply

-- the list with its first element that meets the test changed
abbrev pub update_first : (Entry → Bool) → (Entry → Entry) → List Row → List Row
update_first test change [] = []
update_first test change (r ∷ rs) = if test r.1 then (r.0, change r.1) ∷ rs else r ∷ update_first test change rs

-- a live one that waits for the answer with this number on this link
abbrev pub awaits : ℕ → ℕ → ℕ → ℕ → ℕ → Entry → Bool
awaits patience retention moment link number e = is_live_waiting patience retention moment e && has_number link number e

-- the entries once the one that waits for this answer has it
abbrev pub settled : TableParts → ℕ → ℕ → ℕ → Option (List ℕ) → List Row
settled t link number moment reply =
    update_first (awaits t.patience t.retention moment link number) (λ e. record e { answer = answer_of moment reply }) t.entries

-- those that meet the test get this link and, in their order, the numbers n, n + 1 and so on
abbrev pub numbered : (Entry → Bool) → ℕ → ℕ → List Row → List Row
numbered test link n [] = []
numbered test link n (r ∷ rs) = if test r.1
    then (r.0, record r.1 { link = link; number = n }) ∷ numbered test link (n + 1) rs
    else r ∷ numbered test link n rs

-- the entries once the live waiting ones are sent anew over this link, numbered from 0
abbrev pub relinked : TableParts → ℕ → ℕ → List Row
relinked t link moment = numbered (is_live_waiting t.patience t.retention moment) link 0 t.entries

-- what a look tells: no live entry, or what became of the request
pub data Told : Type 0 where
  Nothing : Told
  StillWaiting : Told
  NoReply : Told
  Reply : List ℕ → Told

abbrev pub told_of : Answer → Told
told_of (Waiting sent) = StillWaiting
told_of (Silent at) = NoReply
told_of (Replied at reply) = Reply reply

abbrev pub told : Option Row → Told
told None = Nothing
told (Some r) = told_of r.1.answer

abbrev pub told_by : Found → Told
told_by found.New = Nothing
told_by found.Waiting = StillWaiting
told_by found.Silent = NoReply
told_by (found.Kept reply) = Reply reply.now
