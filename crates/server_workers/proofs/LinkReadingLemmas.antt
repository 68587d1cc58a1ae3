-- How the reader of a link goes on from step to step.
use Rattle.std.proofs.Common.{◌≡◌, ◌≢◌, ℕ, ◌+◌, ◌-◌, ◌^◌, ◌<◌, ◌⊎◌, min, Bool, true, false, is_some, List, [], ◌∷◌, ◌++◌, take, map, All, Option, Some, None, MatchBool, refl, sym, ap, ◌∙◌, subst, append_assoc, inl, inr, arith}
use Rattle.std.specs.List.{concat}
use Rattle.std.proofs.lemmas.List.{append-nil, append_cancel_left, map-append}
use Rattle.std.proofs.lemmas.List.Elements.{All-nil}
use Rattle.diameter_message.specs.declared.fault.FrameFault.{FrameFault}
use Rattle.diameter_message.specs.declared.next.Next.{Next}
use Rattle.diameter_message.specs.declared.next.Next.TheVariants as nexts
use Rattle.diameter_message.specs.Framing.{FramerParts, IsNext, StandsFor, fed, given_with, messages_of, next_after, next_in, next_of, rest_of, stream_fault, without}
use Rattle.diameter_message.specs.Stream.{Stream, frame_fault}
use Rattle.diameter_message.proofs.StreamLemmas.{Stream-of, given-first, next-stream, stands-fed}
use Rattle.agent_events.specs.declared.events.Input.{Input}
use Rattle.agent_events.specs.declared.events.Input.TheVariants.{Message, Broken, Down, Tick}
use Rattle.wire_devices.specs.Links.{Brought, FailedToHear, HeardNone, HeardTheEnd, Inlet}
use Rattle.wire_devices.specs.Sockets.{Socket}
use Rattle.wire_devices.specs.Telling.{Adds}
use Rattle.wire_devices.proofs.TellingLaws.{Adds-append, Adds-none, Adds-same}
use Rattle.server_workers.specs.declared.link_reader.Visitor.{Visitor}
use Rattle.server_workers.specs.Entries.{RunTurn, turn_of}
use Rattle.server_workers.specs.Entries.Less.{empty}
use Rattle.server_workers.specs.LinkReading.{AddsSome, Did, Gives, HasEnded, HeededAll, HoldsOnly, KeepsReading, LinkMayTake, ReadsLink, Sight, SoFar, Stops, Visits, fault_inputs, framed_in, is_message, sight_of, stream_inputs}
use Rattle.server_workers.proofs.GoingLemmas.{went-none}
use Rattle.server_workers.proofs.LinkTurnLemmas.{Beside, adds_some-same, beside-same, did-on, ends-by, ends-weaker, goes-push}

-- ---- what a framer shows

none-shown : (shown : Option FrameFault) (left : List ℕ) (next : Next) → next ≡ next_after shown left
    → ((fault : FrameFault) → next ≡ nexts.Fault fault → ⊥) → shown ≡ None
none-shown None left next is other = refl
none-shown (Some fault) left next is other = absurd (other fault is)

same-shown : (shown : Option FrameFault) (left : List ℕ) (fault : FrameFault) → nexts.Fault fault ≡ next_after shown left
    → is_some shown ≡ true → shown ≡ Some fault
same-shown None left fault is some = absurd cc
same-shown (Some other) left fault is some = cc

not-shown : (shown : Option FrameFault) → is_some shown ≡ false → shown ≡ None
not-shown None none = refl
not-shown (Some fault) none = absurd cc

fed-shown : (left piece : List ℕ) (shown : Option FrameFault) → (let f : FramerParts = record { left = left; shown = shown } in (fed f piece).shown ≡ f.shown)
fed-shown left piece None = refl
fed-shown left piece (Some fault) = refl

none-next : next_in [] ≡ nexts.Wait
unfolding next_in frame_fault
none-next = refl

-- the stream of no octets holds nothing
holds-none : HoldsOnly [] [] None
holds-none messages rest fault is =
    let f : FramerParts = record { left = []; shown = None } in
    let stands : StandsFor f [] [] = record { rest = []; text = refl; each = tt; left = refl } in
    subst (λ (next : Next). IsNext next [] messages fault) none-next (next-stream [] [] messages rest fault is f stands)

-- ---- the inputs of a stream

inputs-message : (given : List (List ℕ)) (m : List ℕ) → stream_inputs given None ++ Message m ∷ [] ≡ stream_inputs (given ++ m ∷ []) None
inputs-message given m =
    ap (λ (xs : List Input). xs ++ Message m ∷ []) (append-nil (map (λ o. Message o) given))
    ∙ sym (map-append (λ o. Message o) given (m ∷ []))
    ∙ sym (append-nil (map (λ o. Message o) (given ++ m ∷ [])))

inputs-fault : (given : List (List ℕ)) (fault : FrameFault) → stream_inputs given None ++ Broken fault ∷ [] ≡ stream_inputs given (Some fault)
inputs-fault given fault = ap (λ (xs : List Input). xs ++ Broken fault ∷ []) (append-nil (map (λ o. Message o) given))

inputs-more : (given more : List (List ℕ)) (fault : Option FrameFault) → stream_inputs (given ++ more) fault ≡ stream_inputs given None ++ stream_inputs more fault
inputs-more given more fault =
    ap (λ (xs : List Input). xs ++ fault_inputs fault) (map-append (λ o. Message o) given more)
    ∙ append_assoc (map (λ o. Message o) given) (map (λ o. Message o) more) (fault_inputs fault)
    ∙ ap (λ (xs : List Input). xs ++ stream_inputs more fault) (sym (append-nil (map (λ o. Message o) given)))

-- ---- the framer's calls

module _ {T D : Type 0} (told : D → Socket) (start : Sight T) (visitor : Visitor T D) (link : Inlet) where
  did-inputs : {heeded heeded' : List Input} (mine : List RunTurn) (got : List ℕ) → heeded ≡ heeded'
      → Did told mine got heeded start visitor link → Did told mine got heeded' start visitor link
  did-inputs {heeded} {heeded'} mine got same did = subst (λ (xs : List Input). Did told mine got xs start visitor link) same did

  -- a piece was fed
  pub feeds : (piece : List ℕ) (framer before framer' : FramerParts) → before ≡ framer → framer' ≡ fed before piece
      → ((octets : List ℕ) (given : List (List ℕ)) → StandsFor before octets given → StandsFor framer' (octets ++ piece) given)
      → SoFar told piece start visitor link framer → SoFar told [] start visitor link framer'
  feeds piece framer before framer' same fed_is stands s =
      let stood : StandsFor before s.fed s.given = subst (λ (f : FramerParts). StandsFor f s.fed s.given) (sym same) s.stands in
      let then_shown : framer'.shown ≡ before.shown = ap (λ (f : FramerParts). f.shown) fed_is ∙ fed-shown before.left piece before.shown in
      let shown : framer.shown ≡ framer'.shown = ap (λ (f : FramerParts). f.shown) (sym same) ∙ sym then_shown in
      record {
        mine = s.mine;
        goes = s.goes;
        got = s.got;
        fed = s.fed ++ piece;
        given = s.given;
        text = s.text ∙ sym (append-nil (s.fed ++ piece));
        stands = stands s.fed s.given stood;
        did = did-inputs s.mine s.got (ap (stream_inputs s.given) shown) s.did;
      }

  -- the framer answered what comes next
  pub gives : (framer before framer' : FramerParts) (next : Next) → before ≡ framer → next ≡ next_of before → framer' ≡ without next before
      → ((octets : List ℕ) (given : List (List ℕ)) → StandsFor before octets given → StandsFor framer' octets (given_with next given))
      → ((octets rest : List ℕ) (given messages : List (List ℕ)) (fault : Option FrameFault) → StandsFor before octets given → Stream octets messages rest fault
      → IsNext next given messages fault)
      → SoFar told [] start visitor link framer → Gives told next start visitor link framer
  gives framer before framer' next same is left stands fits s =
      let stood : StandsFor before s.fed s.given = subst (λ (f : FramerParts). StandsFor f s.fed s.given) (sym same) s.stands in
      let left_is : framer' ≡ without next framer = left ∙ ap (without next) same in
      record {
        mine = s.mine;
        goes = s.goes;
        got = s.fed;
        given = s.given;
        is = is ∙ ap next_of same;
        stands = subst (λ (f : FramerParts). StandsFor f s.fed (given_with next s.given)) left_is (stands s.fed s.given stood);
        fits = λ messages rest fault stream. fits s.fed rest s.given messages fault stood stream;
        did = subst (λ (xs : List ℕ). Did told s.mine xs (stream_inputs s.given framer.shown) start visitor link) (s.text ∙ append-nil s.fed) s.did;
      }

  -- nothing comes next
  pub waits : (framer framer' : FramerParts) → framer' ≡ without nexts.Wait framer → Gives told nexts.Wait start visitor link framer
      → HeededAll told start visitor link framer'
  waits framer framer' same g =
      let unshown = none-shown framer.shown framer.left nexts.Wait g.is (λ fault e. cc) in
      subst (λ (f : FramerParts). HeededAll told start visitor link f) (sym same) (record {
        mine = g.mine;
        goes = g.goes;
        got = g.got;
        given = g.given;
        all = λ messages rest fault is. let fits = g.fits messages rest fault is in (fits.0, fits.1 ∙ sym unshown);
        stands = g.stands;
        did = g.did;
      })

  -- a fault that was shown before
  pub stays-broken : (framer framer' : FramerParts) (fault : FrameFault) → framer' ≡ without (nexts.Fault fault) framer
      → is_some framer.shown ≡ true → Gives told (nexts.Fault fault) start visitor link framer → HeededAll told start visitor link framer'
  stays-broken framer framer' fault same some g =
      let shown = same-shown framer.shown framer.left fault g.is some in
      subst (λ (f : FramerParts). HeededAll told start visitor link f) (sym same) (record {
        mine = g.mine;
        goes = g.goes;
        got = g.got;
        given = g.given;
        all = g.fits;
        stands = g.stands;
        did = did-inputs g.mine g.got (ap (stream_inputs g.given) shown) g.did;
      })

  -- the framer gave a message, so it shows no fault
  message-given : (framer : FramerParts) (m : List ℕ) → Gives told (nexts.Message m) start visitor link framer → framer.shown ≡ None
  message-given framer m g = none-shown framer.shown framer.left (nexts.Message m) g.is (λ fault e. cc)

  -- a piece was received
  pub brings : (count : ℕ) (buf : List ℕ) (link' : Inlet) (framer : FramerParts) → count ≢ 0 → Brought count link link' buf
      → HeededAll told start visitor link framer → SoFar told (take count buf) start visitor link' framer
  brings count buf link' framer some brought r =
      let did = r.did in
      let reads = did.reads in
      let ends = brought.ends.stays some in
      let same : link'.ends + link'.faults ≡ link.ends + link.faults = omega (arith, ends, brought.faults) in
      record {
        mine = r.mine;
        goes = r.goes;
        got = r.got ++ take count buf;
        fed = r.got;
        given = r.given;
        text = refl;
        stands = r.stands;
        did = record {
          out = did.out;
          retries = did.retries;
          went = did.went;
          reads = record {
            looks = reads.looks;
            received = Adds-append reads.received brought.received;
            idle = subst (λ (idle : Option ℕ). AddsSome start.link.idle idle reads.looks) (sym brought.idle) reads.idle;
            entered = reads.entered;
            blank = reads.blank;
            retried = reads.retried;
            few_ticks = reads.few_ticks;
            down = λ some_down. omega (arith, same, reads.down some_down);
            ended = λ over. reads.ended (omega (arith, same, over));
            asks = reads.asks;
            number = brought.number ∙ reads.number;
          };
          lost_is = did.lost_is;
          again_is = did.again_is;
          auth = did.auth;
          acct = did.acct;
          ports = did.ports;
        };
      }

-- nothing was done yet
pub rests-fresh : {T D : Type 0} (told : D → Socket) (visitor : Visitor T D) (link : Inlet) (framer : FramerParts)
    → framer ≡ record { left = []; shown = None } → StandsFor framer [] []
    → visitor.lost ≡ 0 → visitor.again ≡ 0 → link.ends ≡ 0 → link.faults ≡ 0 → HeededAll told (sight_of told visitor link) visitor link framer
rests-fresh told visitor link framer is stands lost again ends faults =
    let start = sight_of told visitor link in
    let shown : framer.shown ≡ None = ap (λ (f : FramerParts). f.shown) is in
    record {
      mine = [];
      goes = All-nil KeepsReading;
      got = [];
      given = [];
      all = subst (λ (s : Option FrameFault). HoldsOnly [] [] s) (sym shown) holds-none;
      stands = stands;
      did = did-inputs told start visitor link [] [] (ap (stream_inputs []) (sym shown)) (record {
        out = 0;
        retries = 0;
        went = went-none start.known;
        reads = record {
          looks = 0;
          received = Adds-none link.received;
          idle = adds_some-same link.idle link.idle refl;
          entered = empty;
          blank = omega arith;
          retried = omega arith;
          few_ticks = omega arith;
          down = λ some. absurd (omega (arith, some));
          ended = λ over. absurd (omega (arith, over, ends, faults));
          asks = All-nil LinkMayTake;
          number = refl;
        };
        lost_is = omega (arith, lost);
        again_is = omega (arith, again);
        auth = Adds-none start.auth.handed;
        acct = Adds-none start.acct.handed;
        ports = (refl, refl);
      });
    }

-- ---- visits

module _ {T D : Type 0} (told : D → Socket) (start : Sight T) (old new : Visitor T D) where
  pub ticks-again : (piece : List ℕ) (link : Inlet) (framer : FramerParts) (again' : ℕ) (over : Bool) → Visits told Tick over old new
      → again' ≡ min (new.again + 1) (2 ^ 64 - 1) → SoFar told piece start old link framer
      → MatchBool over (Stops told start (record new { again = again' }) link framer) (SoFar told piece start (record new { again = again' }) link framer)
  ticks-again piece link framer again' over v counts s = by over v
    where
      later : Visitor T D
      later = record new { again = again' }

      now-did : (over : Bool) (v : Visits told Tick over old new)
          → Did told (s.mine ++ turn_of Tick v.heard ∷ []) s.got (stream_inputs s.given framer.shown) start later link
      now-did over v =
          did-inputs told start later link (s.mine ++ turn_of Tick v.heard ∷ []) s.got (append-nil (stream_inputs s.given framer.shown))
          (did-on told s.mine s.got (stream_inputs s.given framer.shown) start old new link link again' 0 1 Tick over v s.did
          (beside-same Tick 1 link refl refl tt) (omega (arith, counts, v.again)))

      by : (over : Bool) → Visits told Tick over old new → MatchBool over (Stops told start later link framer) (SoFar told piece start later link framer)
      by true v = record {
        mine = s.mine ++ turn_of Tick v.heard ∷ [];
        got = s.got;
        fed = s.fed;
        piece = piece;
        given = s.given;
        text = s.text;
        stands = s.stands;
        did = now-did true v;
        ends = ends-by _ s.mine Tick v.heard s.goes v.last (λ _. inr (omega (arith, counts)));
      }
      by false v = record {
        mine = s.mine ++ turn_of Tick v.heard ∷ [];
        goes = goes-push s.mine Tick v.heard s.goes v.last;
        got = s.got;
        fed = s.fed;
        given = s.given;
        text = s.text;
        stands = s.stands;
        did = now-did false v;
      }

  -- a visit that leaves the link as it was and lets no time pass
  did-visit : (link : Inlet) (mine : List RunTurn) (got : List ℕ) (heeded : List Input) (ask : Input) (over : Bool) (v : Visits told ask over old new)
      → Beside ask 0 0 link link → Did told mine got heeded start old link
      → Did told (mine ++ turn_of ask v.heard ∷ []) got (heeded ++ framed_in ask) start new link
  did-visit link mine got heeded ask over v beside did =
      did-on told mine got heeded start old new link link new.again 0 0 ask over v did beside (omega (arith, v.again, did.again_is))

  pub heeds-message : (link : Inlet) (framer framer' : FramerParts) (m : List ℕ) (over : Bool) → framer' ≡ without (nexts.Message m) framer
      → Gives told (nexts.Message m) start old link framer → Visits told (Message m) over old new
      → MatchBool over (Stops told start new link framer') (SoFar told [] start new link framer')
  heeds-message link framer framer' m over same g v = by over v
    where
      shown : framer.shown ≡ None
      shown = message-given told start old link framer m g

      stands' : StandsFor framer' g.got (g.given ++ m ∷ [])
      stands' = subst (λ (f : FramerParts). StandsFor f g.got (g.given ++ m ∷ [])) (sym same) g.stands

      inputs-now : stream_inputs g.given framer.shown ++ Message m ∷ [] ≡ stream_inputs (g.given ++ m ∷ []) framer'.shown
      inputs-now =
          ap (λ (s : Option FrameFault). stream_inputs g.given s ++ Message m ∷ []) shown
          ∙ inputs-message g.given m
          ∙ ap (stream_inputs (g.given ++ m ∷ [])) (sym (ap (λ (f : FramerParts). f.shown) same ∙ shown))

      now-did : (over : Bool) (v : Visits told (Message m) over old new)
          → Did told (g.mine ++ turn_of (Message m) v.heard ∷ []) g.got (stream_inputs (g.given ++ m ∷ []) framer'.shown) start new link
      now-did over v =
          did-inputs told start new link (g.mine ++ turn_of (Message m) v.heard ∷ []) g.got inputs-now
          (did-visit link g.mine g.got (stream_inputs g.given framer.shown) (Message m) over v (beside-same (Message m) 0 link refl refl tt) g.did)

      by : (over : Bool) → Visits told (Message m) over old new → MatchBool over (Stops told start new link framer') (SoFar told [] start new link framer')
      by true v = record {
        mine = g.mine ++ turn_of (Message m) v.heard ∷ [];
        got = g.got;
        fed = g.got;
        piece = [];
        given = g.given ++ m ∷ [];
        text = sym (append-nil g.got);
        stands = stands';
        did = now-did true v;
        ends = ends-by _ g.mine (Message m) v.heard g.goes v.last (λ _. inl refl);
      }
      by false v = record {
        mine = g.mine ++ turn_of (Message m) v.heard ∷ [];
        goes = goes-push g.mine (Message m) v.heard g.goes v.last;
        got = g.got;
        fed = g.got;
        given = g.given ++ m ∷ [];
        text = sym (append-nil g.got);
        stands = stands';
        did = now-did false v;
      }

  -- a visit after which all that was received is heeded
  settled : (mine : List RunTurn) (got : List ℕ) (given : List (List ℕ)) (link : Inlet) (framer : FramerParts) (ask : Input) (over : Bool)
      (v : Visits told ask over old new) → All KeepsReading mine → HoldsOnly got given framer.shown → StandsFor framer got given
      → Did told (mine ++ turn_of ask v.heard ∷ []) got (stream_inputs given framer.shown) start new link
      → MatchBool over (Stops told start new link framer) (HeededAll told start new link framer)
  settled mine got given link framer ask true v goes all stands did = record {
    mine = mine ++ turn_of ask v.heard ∷ [];
    got = got;
    fed = got;
    piece = [];
    given = given;
    text = sym (append-nil got);
    stands = stands;
    did = did;
    ends = ends-by _ mine ask v.heard goes v.last (λ more. absurd (more all));
  }
  settled mine got given link framer ask false v goes all stands did = record {
    mine = mine ++ turn_of ask v.heard ∷ [];
    goes = goes-push mine ask v.heard goes v.last;
    got = got;
    given = given;
    all = all;
    stands = stands;
    did = did;
  }

  pub heeds-fault : (link : Inlet) (framer framer' : FramerParts) (fault : FrameFault) (over : Bool) → framer' ≡ without (nexts.Fault fault) framer
      → is_some framer.shown ≡ false → Gives told (nexts.Fault fault) start old link framer → Visits told (Broken fault) over old new
      → MatchBool over (Stops told start new link framer') (HeededAll told start new link framer')
  heeds-fault link framer framer' fault over same fresh g v =
      let shown = not-shown framer.shown fresh in
      let shown' : framer'.shown ≡ Some fault = ap (λ (f : FramerParts). f.shown) same in
      let inputs_now : stream_inputs g.given framer.shown ++ Broken fault ∷ [] ≡ stream_inputs g.given framer'.shown =
      ap (λ (s : Option FrameFault). stream_inputs g.given s ++ Broken fault ∷ []) shown ∙ inputs-fault g.given fault ∙ ap (stream_inputs g.given) (sym shown') in
      settled g.mine g.got g.given link framer' (Broken fault) over v g.goes
      (subst (λ (s : Option FrameFault). HoldsOnly g.got g.given s) (sym shown') g.fits)
      (subst (λ (f : FramerParts). StandsFor f g.got g.given) (sym same) g.stands)
      (did-inputs told start new link (g.mine ++ turn_of (Broken fault) v.heard ∷ []) g.got inputs_now
      (did-visit link g.mine g.got (stream_inputs g.given framer.shown) (Broken fault) over v (beside-same (Broken fault) 0 link refl refl tt) g.did))

  rests-visit : (link link' : Inlet) (framer : FramerParts) (ask : Input) (looks : ℕ) (over : Bool) → framed_in ask ≡ [] → Beside ask looks 0 link link'
      → HeededAll told start old link framer → Visits told ask over old new
      → MatchBool over (Stops told start new link' framer) (HeededAll told start new link' framer)
  rests-visit link link' framer ask looks over plain beside r v =
      settled r.mine r.got r.given link' framer ask over v r.goes r.all r.stands
      (did-inputs told start new link' (r.mine ++ turn_of ask v.heard ∷ []) r.got
      (ap (λ (xs : List Input). stream_inputs r.given framer.shown ++ xs) plain ∙ append-nil (stream_inputs r.given framer.shown))
      (did-on told r.mine r.got (stream_inputs r.given framer.shown) start old new link link' new.again looks 0 ask over v r.did
      beside (omega (arith, v.again, r.did.again_is))))

  -- a look found nothing
  pub rests-tick : (link link' : Inlet) (framer : FramerParts) (over : Bool) → HeardNone link link'
      → HeededAll told start old link framer → Visits told Tick over old new
      → MatchBool over (Stops told start new link' framer) (HeededAll told start new link' framer)
  rests-tick link link' framer over heard r v =
      let same : link'.ends + link'.faults ≡ link.ends + link.faults = omega (arith, heard.ends, heard.faults) in
      rests-visit link link' framer Tick 1 over refl (record {
        received = Adds-same heard.received;
        idle = record { still = heard.idle.still };
        ticks = omega arith;
        retried = omega arith;
        down = λ is. absurd cc;
        stays = λ was. omega (arith, same, was);
        rises = λ is. inl (omega (arith, same, is));
        may = tt;
        number = heard.number;
      }) r v

  -- the link is over
  rests-down : (link link' : Inlet) (framer : FramerParts) (over : Bool) → Adds link.received link'.received [] → link'.idle ≡ link.idle → link'.number ≡ link.number → HasEnded link'
      → HeededAll told start old link framer → Visits told Down over old new
      → MatchBool over (Stops told start new link' framer) (HeededAll told start new link' framer)
  rests-down link link' framer over received idle number is r v =
      rests-visit link link' framer Down 0 over refl (record {
        received = received;
        idle = adds_some-same link.idle link'.idle idle;
        ticks = omega arith;
        retried = omega arith;
        down = λ _. is;
        stays = λ _. is;
        rises = λ _. inr refl;
        may = tt;
        number = number;
      }) r v

  pub rests-ended : (link link' : Inlet) (framer : FramerParts) (over : Bool) → HeardTheEnd link link'
      → HeededAll told start old link framer → Visits told Down over old new
      → MatchBool over (Stops told start new link' framer) (HeededAll told start new link' framer)
  rests-ended link link' framer over heard r v = rests-down link link' framer over (Adds-same heard.received) heard.idle heard.number (omega (arith, heard.ends)) r v

  pub rests-failed : (link link' : Inlet) (framer : FramerParts) (over : Bool) → FailedToHear link link'
      → HeededAll told start old link framer → Visits told Down over old new
      → MatchBool over (Stops told start new link' framer) (HeededAll told start new link' framer)
  rests-failed link link' framer over heard r v = rests-down link link' framer over (Adds-same heard.received) heard.idle heard.number (omega (arith, heard.faults)) r v

  -- no octet is an end
  pub rests-empty : (count : ℕ) (buf : List ℕ) (link link' : Inlet) (framer : FramerParts) (over : Bool) → count ≡ 0 → Brought count link link' buf
      → HeededAll told start old link framer → Visits told Down over old new
      → MatchBool over (Stops told start new link' framer) (HeededAll told start new link' framer)
  rests-empty count buf link link' framer over is_zero brought r v =
      let risen = brought.ends.rises is_zero in
      rests-down link link' framer over (subst (λ (n : ℕ). Adds link.received link'.received (take n buf)) is_zero brought.received)
      brought.idle brought.number (omega (arith, risen)) r v

-- ---- the whole run

module _ {T D : Type 0} (told : D → Socket) (start : Sight T) (visitor : Visitor T D) (link : Inlet) (framer : FramerParts)
    (s : Stops told start visitor link framer) where
  by-again : (ask : Input) → (is_message ask ≡ true) ⊎ (0 < visitor.again) → (is_message ask ≡ true) ⊎ (0 < s.did.retries)
  by-again ask (inl is) = inl is
  by-again ask (inr some) = inr (omega (arith, some, s.did.again_is))

  -- what was heeded begins the stream, and this was left out
  whole-by : (left_out : List Input) → stream_inputs (messages_of s.got) (stream_fault s.got) ≡ stream_inputs s.given framer.shown ++ left_out
      → ReadsLink start (sight_of told visitor link) visitor.lost visitor.again
  whole-by left_out whole =
      let stream = Stream-of s.got in
      record {
        mine = s.mine;
        out = s.did.out;
        retries = s.did.retries;
        went = s.did.went;
        served = record {
          got = s.got;
          messages = messages_of s.got;
          rest = rest_of s.got;
          fault = stream_fault s.got;
          stream = stream;
          heeded = stream_inputs s.given framer.shown;
          left_out = left_out;
          whole = whole;
          reads = s.did.reads;
          ends = ends-weaker _ _ s.mine (λ ask has some. by-again ask (has (λ all.
              let only = all (messages_of s.got) (rest_of s.got) (stream_fault s.got) stream in
              some (append_cancel_left (stream_inputs s.given framer.shown) left_out []
              (sym whole ∙ ap (λ (ms : List (List ℕ)). stream_inputs ms (stream_fault s.got)) only.0 ∙ ap (stream_inputs s.given) only.1
              ∙ sym (append-nil (stream_inputs s.given framer.shown))))))) s.ends;
        };
        lost_is = s.did.lost_is;
        again_is = s.did.again_is;
        auth = s.did.auth;
        acct = s.did.acct;
        ports = s.did.ports;
      }

  by-shown : (shown : Option FrameFault) → framer.shown ≡ shown → ReadsLink start (sight_of told visitor link) visitor.lost visitor.again
  by-shown None unshown =
      let f : FramerParts = record { left = s.stands.rest ++ s.piece; shown = None } in
      let stands : StandsFor f s.got s.given = record {
        rest = s.stands.rest ++ s.piece;
        text = s.text ∙ ap (λ (o : List ℕ). o ++ s.piece) s.stands.text ∙ append_assoc (concat s.given) s.stands.rest s.piece;
        each = s.stands.each;
        left = refl;
      } in
      let (more, first) = given-first f s.got s.given stands in
      whole-by (stream_inputs more (stream_fault s.got))
      (ap (λ (ms : List (List ℕ)). stream_inputs ms (stream_fault s.got)) first ∙ inputs-more s.given more (stream_fault s.got)
      ∙ ap (λ (o : Option FrameFault). stream_inputs s.given o ++ stream_inputs more (stream_fault s.got)) (sym unshown))
  by-shown (Some fault) some =
      let f : FramerParts = record { left = framer.left; shown = Some fault } in
      let before : StandsFor f s.fed s.given = subst (λ (o : Option FrameFault). StandsFor (record { left = framer.left; shown = o }) s.fed s.given) some s.stands in
      let stands : StandsFor f s.got s.given = subst (λ (o : List ℕ). StandsFor f o s.given) (sym s.text)
      (stands-fed s.fed s.given framer.left (Some fault) s.piece before) in
      let only = next-stream s.got s.given (messages_of s.got) (rest_of s.got) (stream_fault s.got) (Stream-of s.got) f stands in
      whole-by []
      (ap (λ (ms : List (List ℕ)). stream_inputs ms (stream_fault s.got)) only.0 ∙ ap (stream_inputs s.given) (only.1 ∙ sym some)
      ∙ sym (append-nil (stream_inputs s.given framer.shown)))

  pub stops-link : ReadsLink start (sight_of told visitor link) visitor.lost visitor.again
  stops-link = by-shown framer.shown refl
