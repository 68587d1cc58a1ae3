-- How the writer of a link goes on from round to round.
use Rattle.std.proofs.Common.{◌≡◌, ◌≢◌, ℕ, ◌+◌, ◌<◌, Bool, true, false, not, ◌&&◌, List, [], ◌∷◌, ◌++◌, length, get_or, take, drop, Option, Some, None, if◌then◌else◌, inl, inr, refl, sym, ap, ◌∙◌, subst, append_assoc, arith}
use Rattle.std.proofs.lemmas.Bool.{true≢false}
use Rattle.std.proofs.lemmas.List.{append-nil, take-append-drop, take_more}
use Rattle.std.proofs.lemmas.List.Sums.{sum_by-append}
use Rattle.wire_core.specs.Counts.{Rose, one_more}
use Rattle.wire_core.specs.declared.outside.Put.{Put}
use Rattle.wire_core.specs.declared.outside.Put.TheVariants as puts
use Rattle.wire_devices.specs.Links.{Outlet, Speaks}
use Rattle.wire_devices.proofs.TellingLaws.{Adds-append, Adds-none}
use Rattle.peer_machine.specs.declared.LinkCause.{LinkCause}
use Rattle.agent_events.specs.declared.events.Input.{Input}
use Rattle.agent_events.specs.declared.events.Input.TheVariants.{Down, Drain, Leave}
use Rattle.agent_events.specs.declared.events.Output.{Output}
use Rattle.agent_events.specs.declared.events.Output.TheVariants.{Closed as Shut, Dropped, Reply, Send}
use Rattle.turnstile.specs.declared.view.Known.{Known}
use Rattle.turnstile.specs.Turns.{StartsWith}
use Rattle.server_workers.specs.declared.heard.Heard.{Heard}
use Rattle.server_workers.specs.declared.link_writer.WriterEnd.{WriterEnd}
use Rattle.server_workers.specs.declared.link_writer.WriterEnd.TheVariants.{Closed, Done, NoMemory}
use Rattle.server_workers.specs.Entries.{EachEntry, RunTurn, blanks, downs, handed_at, octets_in, octets_of, sends, turn_of}
use Rattle.server_workers.specs.Going.{Went}
use Rattle.server_workers.specs.LinkWriting.{EndTurns, GoesFor, HasBroken, IsQuiet, IsWriterAsk, KeepsWriting, LeaveTurns, SentOn, TakesLeave, TookLeave, Wrote, WroteLink, WroteRound, round}
use Rattle.server_workers.proofs.GoingLemmas.{went-none, went-on}

-- ---- octets

octets_in-append : (xs ys : List Output) → octets_in (xs ++ ys) ≡ octets_in xs ++ octets_in ys
octets_in-append [] ys = refl
octets_in-append (o ∷ xs) ys =
    ap (λ bs. octets_of o ++ bs) (octets_in-append xs ys) ∙ sym (append_assoc (octets_of o) (octets_in xs) (octets_in ys))

sends-append : (mine more : List RunTurn) → sends (mine ++ more) ≡ sends mine ++ sends more
sends-append [] more = refl
sends-append (None ∷ mine) more = sends-append mine more
sends-append (Some entry ∷ mine) more =
    ap (λ bs. handed_at entry.0 entry.1 ++ bs) (sends-append mine more) ∙ sym (append_assoc (handed_at entry.0 entry.1) (sends mine) (sends more))

downs-append : (mine more : List RunTurn) → downs (mine ++ more) ≡ downs mine + downs more
downs-append mine more = sum_by-append _ mine more

blanks-append : (mine more : List RunTurn) → blanks (mine ++ more) ≡ blanks mine + blanks more
blanks-append mine more = sum_by-append _ mine more

-- beginnings of two lists, of which the first is whole or the second is empty
starts-on : (xs ys us vs : List ℕ) (b : Bool) → (b ≡ true → us ≡ xs) → (b ≡ false → vs ≡ []) → StartsWith xs us → StartsWith ys vs
    → StartsWith (xs ++ ys) (us ++ vs)
starts-on xs ys us vs true whole none one (rest, is) =
    (rest, ap (λ bs. xs ++ bs) is ∙ ap (λ bs. bs ++ (vs ++ rest)) (sym (whole refl)) ∙ sym (append_assoc us vs rest))
starts-on xs ys us vs false whole none (rest, is) two = (
  rest ++ ys,
  ap (λ bs. bs ++ ys) is ∙ append_assoc us rest ys ∙ ap (λ bs. bs ++ (rest ++ ys)) (sym (append-nil us) ∙ ap (λ bs. us ++ bs) (sym (none refl))),
)

-- ---- sending

-- what was sent, and then some more
sent-on : (whole : Bool) (xs ys : List Output) (o p q : Outlet) → SentOn true xs o p → SentOn whole ys p q
    → SentOn whole (xs ++ ys) o q
sent-on whole xs ys o p q one two =
    let (sent_is, faults_are) = one.all refl in
    record {
      sent = one.sent ++ two.sent;
      handed = Adds-append one.handed two.handed;
      all = λ is. (
        ap (λ bs. bs ++ two.sent) sent_is ∙ ap (λ bs. octets_in xs ++ bs) (two.all is).0 ∙ sym (octets_in-append xs ys),
        (two.all is).1 ∙ faults_are,
      );
      part = λ is. (
        subst (λ bs. StartsWith bs (one.sent ++ two.sent)) (sym (octets_in-append xs ys))
            (starts-on (octets_in xs) (octets_in ys) one.sent two.sent true (λ _. sent_is) (λ e. absurd (true≢false e))
            ([], sym sent_is ∙ sym (append-nil one.sent)) (two.part is).0),
        subst (λ n. Rose n q.faults) faults_are (two.part is).1,
      );
    }

-- after a send that failed nothing more is sent
sent-part : (xs ys : List Output) (o p : Outlet) → SentOn false xs o p → SentOn false (xs ++ ys) o p
sent-part xs ys o p one =
    record {
      sent = one.sent;
      handed = one.handed;
      all = λ is. absurd (true≢false (sym is));
      part = λ is.
          let ((rest, is), rose) = one.part refl in (
            (rest ++ octets_in ys, octets_in-append xs ys ∙ ap (λ bs. bs ++ octets_in ys) is ∙ append_assoc one.sent rest (octets_in ys)),
            rose,
          );
    }

-- one more was sent, or a send failed there
pub sent-next : (whole : Bool) (outputs : List Output) (i : ℕ) (x : Output) (o p q : Outlet) → i < length outputs → x ≡ get_or outputs i x
    → SentOn true (take i outputs) o p → SentOn whole (x ∷ []) p q → SentOn whole (take (i + 1) outputs) o q
sent-next whole outputs i x o p q inside is so_far one =
    let items : take i outputs ++ x ∷ [] ≡ take (i + 1) outputs =
    ap (λ y. take i outputs ++ y ∷ []) is ∙ sym (take_more outputs i x inside) in
    subst (λ os. SentOn whole os o q) items (sent-on whole (take i outputs) (x ∷ []) o p q so_far one)

pub sent-stopped : (outputs : List Output) (n : ℕ) (o p : Outlet) → SentOn false (take n outputs) o p → SentOn false outputs o p
sent-stopped outputs n o p so_far =
    subst (λ os. SentOn false os o p) (take-append-drop n outputs) (sent-part (take n outputs) (drop n outputs) o p so_far)

-- one message more stands behind the others
pub octets-next : (outputs : List Output) (i : ℕ) (x : Output) (piece : List ℕ) → i < length outputs → x ≡ get_or outputs i x
    → piece ≡ octets_in (take i outputs) → piece ++ octets_of x ≡ octets_in (take (i + 1) outputs)
octets-next outputs i x piece inside is so_far =
    let items : take i outputs ++ x ∷ [] ≡ take (i + 1) outputs =
    ap (λ y. take i outputs ++ y ∷ []) is ∙ sym (take_more outputs i x inside) in
    ap (λ bs. bs ++ octets_of x) so_far ∙ ap (λ bs. octets_in (take i outputs) ++ bs) (sym (append-nil (octets_of x)))
    ∙ sym (octets_in-append (take i outputs) (x ∷ [])) ∙ ap octets_in items

-- what is no message has no octets
pub octets-none : (x : Output) → ((octets : List ℕ) → x ≡ Send octets → ⊥) → octets_of x ≡ []
octets-none (Send octets) not = absurd (not octets refl)
octets-none (Reply via address port octets) not = refl
octets-none (Shut cause) not = refl
octets-none (Dropped reason) not = refl

-- all in one piece
pub sent-whole : (outputs : List Output) (o p : Outlet) → Speaks puts.Done o p (octets_in outputs) → SentOn true outputs o p
sent-whole outputs o p spoke =
    record {
      sent = octets_in outputs;
      handed = spoke.handed;
      all = λ is. (refl, spoke.faults.stays (λ failed. failed));
      part = λ is. absurd (true≢false is);
    }

pub sent-cut : (put : Put) (outputs : List Output) (o p : Outlet) → put ≢ puts.Done → Speaks put o p (octets_in outputs)
    → SentOn false outputs o p
sent-cut puts.Done outputs o p failed spoke = absurd (failed refl)
sent-cut puts.Failed outputs o p failed spoke =
    let octets = octets_in outputs in
    let rose : p.faults ≡ one_more o.faults = spoke.faults.rises tt in
    record {
      sent = take spoke.handed.count octets;
      handed = spoke.handed.adds;
      all = λ is. absurd (true≢false (sym is));
      part = λ is. ((drop spoke.handed.count octets, sym (take-append-drop spoke.handed.count octets)), omega (arith, rose));
    }

-- one message, whose send failed
pub sent-failed : (put : Put) (octets : List ℕ) (o p : Outlet) → put ≢ puts.Done → Speaks put o p octets
    → SentOn false (Send octets ∷ []) o p
sent-failed put octets o p failed spoke =
    sent-cut put (Send octets ∷ []) o p failed (subst (λ bs. Speaks put o p bs) (sym (append-nil octets)) spoke)

-- ---- entries

abbrev IsWriters : Input → Heard → Type 0
IsWriters ask heard = IsWriterAsk ask

entries-append : (P : Input → Heard → Type 0) (mine more : List RunTurn) → EachEntry P mine → EachEntry P more → EachEntry P (mine ++ more)
entries-append P [] more one two = two
entries-append P (None ∷ mine) more one two = entries-append P mine more one two
entries-append P (Some entry ∷ mine) more one two = (one.0, entries-append P mine more one.1 two)

-- what holds of every answer to this ask holds of its turn
entry-alone : (P : Input → Heard → Type 0) (ask : Input) (answer : Option Heard) → ((heard : Heard) → P ask heard)
    → EachEntry P (turn_of ask answer ∷ [])
entry-alone P ask None is = tt
entry-alone P ask (Some heard) is = (is heard, tt)

down-entries : (P : Input → Heard → Type 0) (failed : Bool) (told : Option Heard) → ((heard : Heard) → P Down heard)
    → EachEntry P (if failed then turn_of Down told ∷ [] else [])
down-entries P true told is = entry-alone P Down told is
down-entries P false told is = tt

round-entries : (P : Input → Heard → Type 0) (before now : Bool) (heard told : Option Heard) → EachEntry P (turn_of Drain heard ∷ [])
    → ((heard : Heard) → P Down heard) → EachEntry P (round before now heard told)
round-entries P before now heard told drain down =
    entries-append P (turn_of Drain heard ∷ []) (if before && not now then turn_of Down told ∷ [] else []) drain
    (down-entries P (before && not now) told down)

round-asks : (before now : Bool) (heard told : Option Heard) → EachEntry IsWriters (round before now heard told)
round-asks before now heard told =
    round-entries IsWriters before now heard told (entry-alone IsWriters Drain heard (λ h. tt)) (λ h. tt)

writer-ask : (ask : Input) (heard : Heard) → KeepsWriting ask heard → IsWriterAsk ask
writer-ask Drain heard is = tt
writer-ask Down heard is = tt
writer-ask ask heard is = absurd is

rounds-asks : (turns : List RunTurn) → EachEntry KeepsWriting turns → EachEntry IsWriters turns
rounds-asks [] is = tt
rounds-asks (None ∷ turns) is = rounds-asks turns is
rounds-asks (Some entry ∷ turns) is = (writer-ask entry.0 entry.1 is.0, rounds-asks turns is.1)

leave-asks : (end : WriterEnd) (before now : Bool) (turns : List RunTurn) → LeaveTurns end before now turns → EachEntry IsWriters turns
leave-asks (Closed cause) before now turns leave = absurd leave
leave-asks Done before now turns (left, last, told, is) = subst (EachEntry IsWriters) (sym is) (tt, round-asks before now (Some last) told)
leave-asks NoMemory before now turns (same, inl is) = subst (EachEntry IsWriters) (sym is) tt
leave-asks NoMemory before now turns (same, inr (left, is)) = subst (EachEntry IsWriters) (sym is) (tt, tt)

-- ---- rounds

round-same : (sound : Bool) (heard told : Option Heard) → round sound sound heard told ≡ turn_of Drain heard ∷ []
round-same true heard told = refl
round-same false heard told = refl

-- a link that is sound was so before
sound-before : (b c : Bool) → (b ≡ false → c ≡ false) → c ≡ true → b ≡ true
sound-before true c falls is = refl
sound-before false c falls is = absurd (true≢false (sym is ∙ falls refl))

same-between : (a b c : Bool) → (a ≡ false → b ≡ false) → (b ≡ false → c ≡ false) → a ≡ c → (a ≡ b) × (b ≡ c)
same-between true b c first second same =
    let is = sound-before b c second (sym same) in (sym is, is ∙ same)
same-between false b c first second same =
    let is = first refl in (sym is, is ∙ same)

quiet-on : (mine more : List RunTurn) (o p q : Outlet) → IsQuiet mine o p → IsQuiet more p q → IsQuiet (mine ++ more) o q
quiet-on mine more o p q one two = (omega (arith, downs-append mine more, one.0, two.0), two.1 ∙ one.1)

broken-on : (mine more : List RunTurn) (o p q : Outlet) (b : Bool) → (b ≡ true → IsQuiet mine o p × HasBroken more p q)
    → (b ≡ false → HasBroken mine o p × IsQuiet more p q) → HasBroken (mine ++ more) o q
broken-on mine more o p q true late early =
    let ((none, same), (few, some, rose)) = late refl in (
      omega (arith, downs-append mine more, none, few),
      omega (arith, downs-append mine more, blanks-append mine more, some),
      subst (λ n. Rose n q.faults) same rose,
    )
broken-on mine more o p q false late early =
    let ((few, some, rose), (none, same)) = early refl in (
      omega (arith, downs-append mine more, none, few),
      omega (arith, downs-append mine more, blanks-append mine more, some),
      subst (λ n. Rose o.faults n) (sym same) rose,
    )

leave-ends : (end : WriterEnd) (heard : Heard) (a b : Bool) (turns : List RunTurn) → TakesLeave heard → LeaveTurns end a b turns
    → EndTurns end heard a b turns
leave-ends (Closed cause) heard a b turns takes leave = absurd leave
leave-ends Done heard a b turns takes leave = (takes, leave)
leave-ends NoMemory heard a b turns takes leave = (takes, leave)

pub wrote-on : (mine more : List RunTurn) (a b c : Bool) (o p q : Outlet)
    → Wrote mine a b o p → Wrote more b c p q → Wrote (mine ++ more) a c o q
wrote-on mine more a b c o p q one two =
    let falls : a ≡ false → b ≡ false = λ is. (one.none is).1 in
    let falls_on : b ≡ false → c ≡ false = λ is. (two.none is).1 in
    record {
      sent = one.sent ++ two.sent;
      handed = Adds-append one.handed two.handed;
      all = λ is.
          ap (λ bs. bs ++ two.sent) (one.all (sound-before b c falls_on is)) ∙ ap (λ bs. sends mine ++ bs) (two.all is) ∙ sym (sends-append mine more);
      part = subst (λ bs. StartsWith bs (one.sent ++ two.sent)) (sym (sends-append mine more))
          (starts-on (sends mine) (sends more) one.sent two.sent b one.all (λ is. (two.none is).0) one.part two.part);
      none = λ is. (ap (λ bs. bs ++ two.sent) (one.none is).0 ∙ (two.none (falls is)).0, falls_on (falls is));
      quiet = λ same.
          let (first, second) = same-between a b c falls falls_on same in
          quiet-on mine more o p q (one.quiet first) (two.quiet second);
      broke = λ was is.
          broken-on mine more o p q b (λ e. (one.quiet (was ∙ sym e), two.broke e is)) (λ e. (one.broke was e, two.quiet (e ∙ sym is)));
    }

wrote-none : (sound : Bool) (o : Outlet) → Wrote [] sound sound o o
wrote-none sound o =
    record {
      sent = [];
      handed = Adds-none o.handed;
      all = λ is. refl;
      part = ([], refl);
      none = λ is. (refl, is);
      quiet = λ same. (refl, refl);
      broke = λ was is. absurd (true≢false (sym was ∙ is));
    }

-- a turn that hands nothing over and is no Down
wrote-turn : (turn : RunTurn) (sound : Bool) (o : Outlet) → sends (turn ∷ []) ≡ [] → downs (turn ∷ []) ≡ 0
    → Wrote (turn ∷ []) sound sound o o
wrote-turn turn sound o nothing no_down =
    record {
      sent = [];
      handed = Adds-none o.handed;
      all = λ is. sym nothing;
      part = (sends (turn ∷ []), refl);
      none = λ is. (refl, is);
      quiet = λ same. (no_down, refl);
      broke = λ was is. absurd (true≢false (sym was ∙ is));
    }

module _ {T : Type 0} where
  -- ---- a round, by how it went

  pub round-blank : (sound : Bool) (k l : Known T Input Heard) (o : Outlet) → Went (turn_of Drain None ∷ []) k l
      → WroteRound None sound sound k l o o
  round-blank sound k l o went =
      record {
        told = None;
        went = subst (λ turns. Went turns k l) (sym (round-same sound None None)) went;
        wrote = subst (λ turns. Wrote turns sound sound o o) (sym (round-same sound None None)) (wrote-turn None sound o refl refl);
        blank = λ is. refl;
      }

  -- the link wasn't sound
  pub round-unsent : (heard : Heard) (k l : Known T Input Heard) (o : Outlet) → Went (turn_of Drain (Some heard) ∷ []) k l
      → WroteRound (Some heard) false false k l o o
  round-unsent heard k l o went =
      record {
        told = None;
        went = went;
        wrote = record {
          sent = [];
          handed = Adds-none o.handed;
          all = λ is. absurd (true≢false (sym is));
          part = (sends (turn_of Drain (Some heard) ∷ []), refl);
          none = λ is. (refl, refl);
          quiet = λ same. (refl, refl);
          broke = λ was is. absurd (true≢false (sym was));
        };
        blank = λ is. refl;
      }

  -- all was sent
  pub round-sent : (heard : Heard) (k l : Known T Input Heard) (o p : Outlet) → Went (turn_of Drain (Some heard) ∷ []) k l
      → SentOn true heard.sends o p → WroteRound (Some heard) true true k l o p
  round-sent heard k l o p went sent =
      let (sent_is, faults_are) = sent.all refl in
      let whole : sent.sent ≡ sends (turn_of Drain (Some heard) ∷ []) = sent_is ∙ sym (append-nil (octets_in heard.sends)) in
      record {
        told = None;
        went = went;
        wrote = record {
          sent = sent.sent;
          handed = sent.handed;
          all = λ is. whole;
          part = ([], sym whole ∙ sym (append-nil sent.sent));
          none = λ is. absurd (true≢false is);
          quiet = λ same. (refl, faults_are);
          broke = λ was is. absurd (true≢false is);
        };
        blank = λ is. refl;
      }

  -- a send failed
  pub round-broken : (heard : Heard) (told : Option Heard) (k l m : Known T Input Heard) (o p : Outlet) → Went (turn_of Drain (Some heard) ∷ []) k l
      → SentOn false heard.sends o p → Went (turn_of Down told ∷ []) l m → WroteRound (Some heard) true false k m o p
  round-broken heard told k l m o p went sent said =
      let ((rest, is), rose) = sent.part refl in
      record {
        told = told;
        went = went-on (turn_of Drain (Some heard) ∷ []) (turn_of Down told ∷ []) k l m went said;
        wrote = record {
          sent = sent.sent;
          handed = sent.handed;
          all = λ is. absurd (true≢false (sym is));
          part = (rest, down-sends told heard ∙ is);
          none = λ is. absurd (true≢false is);
          quiet = λ same. absurd (true≢false same);
          broke = λ was is. down-breaks told heard o p rose;
        };
        blank = λ is. cc;
      }
    where
      down-sends : (told : Option Heard) (heard : Heard) → sends (turn_of Drain (Some heard) ∷ turn_of Down told ∷ []) ≡ octets_in heard.sends
      down-sends None heard = append-nil (octets_in heard.sends)
      down-sends (Some told) heard = append-nil (octets_in heard.sends)

      down-breaks : (told : Option Heard) (heard : Heard) (o p : Outlet) → Rose o.faults p.faults
          → HasBroken (turn_of Drain (Some heard) ∷ turn_of Down told ∷ []) o p
      down-breaks None heard o p rose = (omega arith, omega arith, rose)
      down-breaks (Some told) heard o p rose = (omega arith, omega arith, rose)

  -- ---- leave

  pub leave-blank : (sound : Bool) (k l : Known T Input Heard) (o : Outlet) → Went (turn_of Leave None ∷ []) k l
      → TookLeave NoMemory sound sound k l o o
  leave-blank sound k l o went = record { mine = None ∷ []; went = went; wrote = wrote-turn None sound o refl refl; turns = (refl, inl refl) }

  pub leave-undrained : (left : Heard) (a b : Bool) (k l m : Known T Input Heard) (o p : Outlet) → Went (turn_of Leave (Some left) ∷ []) k l
      → WroteRound None a b l m o p → TookLeave NoMemory a b k m o p
  leave-undrained left a b k l m o p went last =
      let same : b ≡ a = last.blank refl in
      let blank : round a b None last.told ≡ None ∷ [] = ap (λ now. round a now None last.told) same ∙ round-same a None last.told in
      record {
        mine = Some (Leave, left) ∷ round a b None last.told;
        went = went-on (Some (Leave, left) ∷ []) (round a b None last.told) k l m went last.went;
        wrote = wrote-on (Some (Leave, left) ∷ []) (round a b None last.told) a a b o o p
            (wrote-turn (Some (Leave, left)) a o refl refl) last.wrote;
        turns = (same, inr (left, ap (λ ts. Some (Leave, left) ∷ ts) blank));
      }

  pub leave-done : (left last : Heard) (a b : Bool) (k l m : Known T Input Heard) (o p : Outlet) → Went (turn_of Leave (Some left) ∷ []) k l
      → WroteRound (Some last) a b l m o p → TookLeave Done a b k m o p
  leave-done left last a b k l m o p went drained =
      record {
        mine = Some (Leave, left) ∷ round a b (Some last) drained.told;
        went = went-on (Some (Leave, left) ∷ []) (round a b (Some last) drained.told) k l m went drained.went;
        wrote = wrote-on (Some (Leave, left) ∷ []) (round a b (Some last) drained.told) a a b o o p
            (wrote-turn (Some (Leave, left)) a o refl refl) drained.wrote;
        turns = (left, last, drained.told, refl);
      }

  -- ---- the loop

  -- what a writer did so far, and went on
  pub record Rounds (now : Bool) (k k' : Known T Input Heard) (o o' : Outlet) : Type 0 where
    pub mine : List RunTurn
    pub went : Went mine k k'
    pub wrote : Wrote mine true now o o'
    pub went_on : EachEntry KeepsWriting mine

  pub rounds-none : (k : Known T Input Heard) (o : Outlet) → Rounds true k k o o
  rounds-none k o = record { mine = []; went = went-none k; wrote = wrote-none true o; went_on = tt }

  pub rounds-on : (heard : Option Heard) (a b : Bool) (k l m : Known T Input Heard) (o p q : Outlet) → Rounds a k l o p
      → WroteRound heard a b l m p q → EachEntry KeepsWriting (turn_of Drain heard ∷ []) → Rounds b k m o q
  rounds-on heard a b k l m o p q so_far one goes_on =
      record {
        mine = so_far.mine ++ round a b heard one.told;
        went = went-on so_far.mine (round a b heard one.told) k l m so_far.went one.went;
        wrote = wrote-on so_far.mine (round a b heard one.told) true a b o p q so_far.wrote one.wrote;
        went_on = entries-append KeepsWriting so_far.mine (round a b heard one.told) so_far.went_on
            (round-entries KeepsWriting a b heard one.told goes_on (λ h. tt));
      }

  -- by the answer of the last round the link is closed
  pub wrote-closed : (heard : Heard) (cause : LinkCause) (a b : Bool) (k l m : Known T Input Heard) (o p q : Outlet) → Rounds a k l o p
      → WroteRound (Some heard) a b l m p q → GoesFor cause heard → WroteLink (Closed cause) k m o q
  wrote-closed heard cause a b k l m o p q so_far one goes =
      let last = round a b (Some heard) one.told in
      record {
        mine = so_far.mine ++ last;
        sound = b;
        went = went-on so_far.mine last k l m so_far.went one.went;
        wrote = wrote-on so_far.mine last true a b o p q so_far.wrote one.wrote;
        asks = entries-append IsWriters so_far.mine last (rounds-asks so_far.mine so_far.went_on) (round-asks a b (Some heard) one.told);
        last = record {
          rounds = so_far.mine;
          heard = heard;
          told = one.told;
          rest = [];
          before = a;
          after = b;
          mine_is = ap (λ ts. so_far.mine ++ ts) (sym (append-nil last));
          went_on = so_far.went_on;
          end_turns = (goes, refl, refl);
        };
      }

  -- by the answer of the last round the run is finished, and the leave was taken
  pub wrote-left : (end : WriterEnd) (heard : Heard) (a b c : Bool) (k l m n : Known T Input Heard) (o p q r : Outlet) → Rounds a k l o p
      → WroteRound (Some heard) a b l m p q → TakesLeave heard → TookLeave end b c m n q r → WroteLink end k n o r
  wrote-left end heard a b c k l m n o p q r so_far one takes took =
      let last = round a b (Some heard) one.told in
      record {
        mine = so_far.mine ++ (last ++ took.mine);
        sound = c;
        went = went-on so_far.mine (last ++ took.mine) k l n so_far.went (went-on last took.mine l m n one.went took.went);
        wrote = wrote-on so_far.mine (last ++ took.mine) true a c o p r so_far.wrote
            (wrote-on last took.mine a b c p q r one.wrote took.wrote);
        asks = entries-append IsWriters so_far.mine (last ++ took.mine) (rounds-asks so_far.mine so_far.went_on)
            (entries-append IsWriters last took.mine (round-asks a b (Some heard) one.told) (leave-asks end b c took.mine took.turns));
        last = record {
          rounds = so_far.mine;
          heard = heard;
          told = one.told;
          rest = took.mine;
          before = a;
          after = b;
          mine_is = refl;
          went_on = so_far.went_on;
          end_turns = leave-ends end heard b c took.mine takes took.turns;
        };
      }
