-- What one more turn makes of a reader of a link.
use Rattle.std.proofs.Common.{◌≡◌, ℕ, zero, suc, ◌+◌, ◌-◌, ◌^◌, ◌<◌, ◌≤◌, ◌⊎◌, min, Bool, true, false, cond, if◌then◌else◌, List, [], ◌∷◌, ◌++◌, flat_map, count_by, All, Option, Some, None, option_map, refl, sym, ap, ◌∙◌, subst, inl, inr, arith}
use Rattle.std.proofs.lemmas.Grind.{flat_map-append}
use Rattle.std.proofs.lemmas.List.{append-nil}
use Rattle.std.proofs.lemmas.List.Elements.{All-push}
use Rattle.std.proofs.lemmas.List.Sums.{sum_by-append}
use Rattle.wire_core.specs.Counts.{one_more}
use Rattle.radius_packet.specs.declared.reasons.Via.{Via}
use Rattle.radius_packet.specs.declared.reasons.Via.TheVariants.{Auth, Acct}
use Rattle.agent_events.specs.declared.events.Input.{Input}
use Rattle.agent_events.specs.declared.events.Input.TheVariants.{Message, Broken}
use Rattle.agent_events.specs.declared.events.Output.{Output}
use Rattle.turnstile.specs.Passes.{known}
use Rattle.wire_devices.specs.declared.devices.Datagram.{Datagram}
use Rattle.wire_devices.specs.Links.{Inlet}
use Rattle.wire_devices.specs.Sockets.{Socket}
use Rattle.wire_devices.specs.Telling.{Adds}
use Rattle.wire_devices.proofs.TellingLaws.{Adds-append, Adds-none}
use Rattle.server_workers.specs.declared.heard.Heard.{Heard}
use Rattle.server_workers.specs.declared.link_reader.Visitor.{Visitor}
use Rattle.server_workers.specs.Entries.{Less, RunTurn, blanks, downs, entry_replies, is_blank, is_down, is_entry_of, is_tick, reply_by, ticks, turn_of}
use Rattle.server_workers.specs.Entries.Less.{empty, loses}
use Rattle.server_workers.specs.LinkReading.{AddsSome, Did, EndsAt, HasEnded, KeepsReading, LinkMayAsk, LinkMayTake, ReadsOctets, Sight, Visits, entry_framed, framed, framed_in, is_framed, is_last_of, missed}
use Rattle.server_workers.proofs.EntryLemmas.{less-append, less-same}
use Rattle.server_workers.proofs.GoingLemmas.{went-on}

-- ---- lists and counts

some-of : (a b : ℕ) → 0 < a + b → (0 < a) ⊎ (0 < b)
some-of zero b some = inr (omega (arith, some))
some-of (suc a) b some = inl (omega arith)

adds_some-on : (a b c : Option ℕ) (n m : ℕ) → AddsSome a b n → AddsSome b c m → AddsSome a c (n + m)
adds_some-on a b c n m one two = record { still = λ z is. by a b z one (two.still z is) }
  where
    by : (a b : Option ℕ) (z : ℕ) → AddsSome a b n → option_map (λ k. k + m) b ≡ Some z → option_map (λ k. k + (n + m)) a ≡ Some z
    by a None z one is = absurd cc
    by None (Some y) z one is = absurd (let e : None ≡ Some y = one.still y refl in cc)
    by (Some x) (Some y) z one is =
        let first : Some (x + n) ≡ Some y = one.still y refl in
        let low : x + n ≡ y = cc in
        let high : y + m ≡ z = cc in
        ap Some (omega (arith, low, high))

pub adds_some-same : (a b : Option ℕ) → b ≡ a → AddsSome a b 0
adds_some-same a b same = record { still = λ z is. by a z (sym same ∙ is) }
  where
    by : (a : Option ℕ) (z : ℕ) → a ≡ Some z → option_map (λ k. k + 0) a ≡ Some z
    by None z is = absurd cc
    by (Some x) z is = let e : x + 0 ≡ x = omega arith in ap Some e ∙ is

-- ---- one turn

abbrev pub number : Bool → ℕ
number b = if b then 1 else 0

number-some : (b : Bool) → 0 < number b → b ≡ true
number-some true some = refl
number-some false some = absurd (omega (arith, some))

number-true : (b : Bool) → b ≡ true → 0 < number b
number-true b is = rw is (omega arith)

number-few : (b : Bool) → number b ≤ 1
number-few true = omega arith
number-few false = omega arith

-- what a turn adds, whether or not it is blank
record Adding (ask : Input) (heard : Option Heard) : Type 0 where
  less : Less (framed_in ask) (framed (turn_of ask heard ∷ [])) (number (missed ask heard))
  blank : number (missed ask heard) ≤ blanks (turn_of ask heard ∷ [])
  tick : ticks (turn_of ask heard ∷ []) ≤ number (is_tick ask)
  took : number (is_tick ask) ≤ ticks (turn_of ask heard ∷ []) + blanks (turn_of ask heard ∷ [])
  down : 0 < downs (turn_of ask heard ∷ []) → is_down ask ≡ true
  shows : is_down ask ≡ true → (0 < downs (turn_of ask heard ∷ [])) ⊎ (0 < blanks (turn_of ask heard ∷ []))
  may : LinkMayAsk ask → LinkMayTake (turn_of ask heard)

lost-turn : (ask : Input) → Less (framed_in ask) [] (number (is_framed ask))
lost-turn (Message octets) = loses (Message octets) [] [] 0 empty
lost-turn (Broken fault) = loses (Broken fault) [] [] 0 empty
lost-turn ask = empty

adding : (ask : Input) (heard : Option Heard) → Adding ask heard
adding ask None = record {
  less = lost-turn ask;
  blank = number-few (is_framed ask);
  tick = omega arith;
  took = let e = number-few (is_tick ask) in omega (arith, e);
  down = λ some. absurd (omega (arith, some));
  shows = λ is. inr (omega arith);
  may = λ may. tt;
}
adding ask (Some heard) = record {
  less = less-same (framed_in ask);
  blank = omega arith;
  tick = omega arith;
  took = omega arith;
  down = λ some. number-some (is_down ask) (omega (arith, some));
  shows = λ is. inl (let e = number-true (is_down ask) is in omega (arith, e));
  may = λ may. may;
}

-- what was handed over of an answer's outputs
pub handed-by : {before now : Option (List Datagram)} {outputs : List Output} (via : Via) (heard : Heard) → outputs ≡ heard.outputs
    → Adds before now (flat_map (reply_by via) outputs) → Adds before now (flat_map (reply_by via) heard.outputs ++ [])
handed-by {before} {now} {outputs} via heard same adds =
    subst (λ (xs : List Datagram). Adds before now xs)
    (ap (flat_map (reply_by via)) same ∙ sym (append-nil (flat_map (reply_by via) heard.outputs))) adds

-- ---- one visit more

-- how the link went on beside a visit
pub record Beside (ask : Input) (looks retries : ℕ) (link link' : Inlet) : Type 0 where
  pub received : Adds link.received link'.received []
  pub idle : AddsSome link.idle link'.idle looks
  pub ticks : number (is_tick ask) ≤ looks + retries
  pub retried : retries ≤ number (is_tick ask)
  pub down : is_down ask ≡ true → HasEnded link'
  pub stays : HasEnded link → HasEnded link'
  pub rises : HasEnded link' → HasEnded link ⊎ (is_down ask ≡ true)
  pub may : LinkMayAsk ask
  pub number : link'.number ≡ link.number

-- the link didn't change
pub beside-same : (ask : Input) (retries : ℕ) (link : Inlet) → number (is_tick ask) ≡ retries → is_down ask ≡ false → LinkMayAsk ask
    → Beside ask 0 retries link link
beside-same ask retries link counts up may = record {
  received = Adds-none link.received;
  idle = adds_some-same link.idle link.idle refl;
  ticks = omega (arith, counts);
  retried = omega (arith, counts);
  down = λ is. absurd (let e : true ≡ false = sym is ∙ up in cc);
  stays = λ over. over;
  rises = λ over. inl over;
  may = may;
  number = refl;
}

either-weaker : (a b a' b' : ℕ) → (0 < a) ⊎ (0 < b) → a ≤ a' → b ≤ b' → (0 < a') ⊎ (0 < b')
either-weaker a b a' b' (inl some) low high = inl (omega (arith, some, low))
either-weaker a b a' b' (inr some) low high = inr (omega (arith, some, high))

count-push : (test : RunTurn → Bool) (mine : List RunTurn) (turn : RunTurn)
    → count_by test (mine ++ turn ∷ []) ≡ count_by test mine + count_by test (turn ∷ [])
count-push test mine turn = sum_by-append (λ t. cond (test t) 1 0) mine (turn ∷ [])

-- a turn more, and how the link went on beside it
reads-turn : (mine : List RunTurn) (got : List ℕ) (heeded : List Input) (start link link' : Inlet) (out again looks retries : ℕ) (ask : Input) (heard : Option Heard)
    → ReadsOctets mine got heeded start link out again → Beside ask looks retries link link'
    → ReadsOctets (mine ++ turn_of ask heard ∷ []) got (heeded ++ framed_in ask) start link' (out + number (missed ask heard)) (again + retries)
reads-turn mine got heeded start link link' out again looks retries ask heard reads beside =
    let turn = turn_of ask heard in
    let add = adding ask heard in
    let n : ℕ = number (missed ask heard) in
    let tick_count : ticks (mine ++ turn ∷ []) ≡ ticks mine + ticks (turn ∷ []) = count-push (is_entry_of is_tick) mine turn in
    let down_count : downs (mine ++ turn ∷ []) ≡ downs mine + downs (turn ∷ []) = count-push (is_entry_of is_down) mine turn in
    let blank_count : blanks (mine ++ turn ∷ []) ≡ blanks mine + blanks (turn ∷ []) = count-push is_blank mine turn in
    record {
      looks = reads.looks + looks;
      received = subst (λ (xs : List ℕ). Adds start.received link'.received xs) (append-nil got) (Adds-append reads.received beside.received);
      idle = adds_some-on start.idle link.idle link'.idle reads.looks looks reads.idle beside.idle;
      entered = subst (λ (xs : List Input). Less (heeded ++ framed_in ask) xs (out + n))
          (sym (flat_map-append entry_framed mine (turn ∷ [])))
          (less-append heeded (framed mine) out (framed_in ask) (framed (turn ∷ [])) n reads.entered add.less);
      blank = omega (arith, reads.blank, add.blank, blank_count);
      retried = omega (arith, reads.retried, add.took, beside.retried, tick_count, blank_count);
      few_ticks = omega (arith, reads.few_ticks, add.tick, beside.ticks, tick_count);
      down = λ some. is-over (some-of (downs mine) (downs (turn ∷ [])) (omega (arith, some, down_count)));
      ended = λ over. ended-by (beside.rises over);
      asks = All-push LinkMayTake mine turn reads.asks (add.may beside.may);
      number = beside.number ∙ reads.number;
    }
  where
    is-over : (0 < downs mine) ⊎ (0 < downs (turn_of ask heard ∷ [])) → HasEnded link'
    is-over (inl some) = beside.stays (reads.down some)
    is-over (inr some) = beside.down ((adding ask heard).down some)

    ended-by : HasEnded link ⊎ (is_down ask ≡ true)
        → (0 < downs (mine ++ turn_of ask heard ∷ [])) ⊎ (0 < blanks (mine ++ turn_of ask heard ∷ []))
    ended-by (inl was) =
        either-weaker (downs mine) (blanks mine) _ _ (reads.ended was)
        (omega (arith, count-push (is_entry_of is_down) mine (turn_of ask heard)))
        (omega (arith, count-push is_blank mine (turn_of ask heard)))
    ended-by (inr down) =
        either-weaker (downs (turn_of ask heard ∷ [])) (blanks (turn_of ask heard ∷ [])) _ _ ((adding ask heard).shows down)
        (omega (arith, count-push (is_entry_of is_down) mine (turn_of ask heard)))
        (omega (arith, count-push is_blank mine (turn_of ask heard)))

module _ {T D : Type 0} (told : D → Socket) where
  -- a visit more, after which so many Ticks are counted
  pub did-on : (mine : List RunTurn) (got : List ℕ) (heeded : List Input) (start : Sight T) (old new : Visitor T D) (link link' : Inlet)
      (again' looks retries : ℕ) (ask : Input) (over : Bool) (v : Visits told ask over old new)
      → Did told mine got heeded start old link → Beside ask looks retries link link' → again' ≡ min (old.again + retries) (2 ^ 64 - 1)
      → Did told (mine ++ turn_of ask v.heard ∷ []) got (heeded ++ framed_in ask) start (record new { again = again' }) link'
  did-on mine got heeded start old new link link' again' looks retries ask over v did beside counts =
      let turn = turn_of ask v.heard in
      record {
        out = did.out + number (missed ask v.heard);
        retries = did.retries + retries;
        went = went-on mine (turn ∷ []) start.known (known old.pass) (known new.pass) did.went v.went;
        reads = reads-turn mine got heeded start.link link link' did.out did.retries looks retries ask v.heard did.reads beside;
        lost_is = lost-on (missed ask v.heard) did.out old.lost new.lost did.lost_is v.lost;
        again_is = omega (arith, did.again_is, counts);
        auth = subst (λ (xs : List Datagram). Adds start.auth.handed (told new.auth_twin).handed xs)
            (sym (flat_map-append (entry_replies (reply_by Auth)) mine (turn ∷ []))) (Adds-append did.auth v.auth);
        acct = subst (λ (xs : List Datagram). Adds start.acct.handed (told new.acct_twin).handed xs)
            (sym (flat_map-append (entry_replies (reply_by Acct)) mine (turn ∷ []))) (Adds-append did.acct v.acct);
        ports = (v.ports.0 ∙ did.ports.0, v.ports.1 ∙ did.ports.1);
      }
    where
      lost-on : (b : Bool) (out lost lost' : ℕ) → lost ≡ min out (2 ^ 64 - 1) → lost' ≡ (if b then one_more lost else lost)
          → lost' ≡ min (out + number b) (2 ^ 64 - 1)
      lost-on true out lost lost' is is' = omega (arith, is, is')
      lost-on false out lost lost' is is' = omega (arith, is, is')

-- ---- the last turn

goes-on : (ask : Input) (heard : Option Heard) → false ≡ is_last_of heard → KeepsReading (turn_of ask heard)
goes-on ask None last = tt
goes-on ask (Some heard) last = sym last

pub goes-push : (mine : List RunTurn) (ask : Input) (heard : Option Heard) → All KeepsReading mine → false ≡ is_last_of heard
    → All KeepsReading (mine ++ turn_of ask heard ∷ [])
goes-push mine ask heard goes last = All-push KeepsReading mine (turn_of ask heard) goes (goes-on ask heard last)

pub ends-by : (P : Input → Type 0) (mine : List RunTurn) (ask : Input) (heard : Option Heard) → All KeepsReading mine → true ≡ is_last_of heard → P ask
    → EndsAt P (mine ++ turn_of ask heard ∷ [])
ends-by P mine ask None goes last has = absurd (let e : true ≡ false = last in cc)
ends-by P mine ask (Some heard) goes last has =
    record { front = mine; goes = goes; ask = ask; heard = heard; whole = refl; last = sym last; has = has }

pub ends-weaker : (P Q : Input → Type 0) (mine : List RunTurn) → ((ask : Input) → P ask → Q ask) → EndsAt P mine → EndsAt Q mine
ends-weaker P Q mine weaker ends =
    record {
      front = ends.front;
      goes = ends.goes;
      ask = ends.ask;
      heard = ends.heard;
      whole = ends.whole;
      last = ends.last;
      has = weaker ends.ask ends.has;
    }
