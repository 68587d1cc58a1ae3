-- How a run of the home server goes on, message by message and look by look.
use Rattle.std.proofs.Common.{◌≡◌, ◌≢◌, ℕ, List, [], ◌∷◌, ◌++◌, length, take, Option, Some, None, refl, sym, ap, ◌∙◌, subst, append_assoc, inl, inr, arith}
use Rattle.std.specs.Prelude.{unwrap_or}
use Rattle.std.specs.List.{concat, flat_map}
use Rattle.std.proofs.lemmas.Grind.{flat_map-append}
use Rattle.std.proofs.lemmas.List.{append-nil}
use Rattle.std.proofs.lemmas.List.Concat.{flat_map-cons}
use Rattle.std.proofs.Math.Seq.{take-length}
use Rattle.wire_core.specs.Sink.{Appends, AppendsPrefix}
use Rattle.wire_core.proofs.SinkLaws.{Appends-append, Appends-none}
use Rattle.diameter_message.specs.declared.fault.FrameFault.{FrameFault}
use Rattle.diameter_message.specs.declared.next.Next.{Next}
use Rattle.diameter_message.specs.declared.next.Next.TheVariants.{Message, Wait, Fault}
use Rattle.diameter_message.specs.Framing.{FramerParts, IsNext, StandsFor, given_with, messages_from, messages_of, rest_of, stream_fault}
use Rattle.diameter_message.specs.Message.{read_message}
use Rattle.diameter_message.specs.Stream.{Stream, frame_fault}
use Rattle.diameter_message.proofs.StreamLemmas.{Stream-of, given-first}
use Rattle.wire_devices.specs.Links.{Brought, FailedToHear, HeardNone, HeardTheEnd, Inlet, IsFreshInlet, IsFreshOutlet, Outlet}
use Rattle.wire_devices.specs.Telling.{Adds, TellsOnly}
use Rattle.wire_devices.proofs.TellingLaws.{Adds-told}
use Rattle.agent_status.specs.declared.status.Status.{Status}
use Rattle.agent_status.specs.declared.status.Status.TheVariants.{Done, Usage, BadConfig, BadTranscript, ReadFault, WriteFault, LinkFault, PeerRefused, NoThread, OutOfMemory, DatagramFault, LinkEnded, TooLong}
use Rattle.test_peers.specs.declared.users.User.{User}
use Rattle.peer_runs.specs.HomeRuns.{Answered, AnswersAll, AnswersIn, AnswersPart, Counted, FailsToAnswer, LinkTold, Rests, SoFar, StopsBy, Takes, TakingTold, answer_octets, answer_to, answers, command_line, command_lines, command_of, command_text, line_for}

-- what was told, by its parts in order
abbrev pub linked : Inlet → Outlet → Option (List ℕ) → Option (List ℕ) → LinkTold
linked inlet outlet before now = record { inlet = inlet; outlet = outlet; output = before; output' = now }

abbrev pub taken : Outlet → Outlet → Option (List ℕ) → Option (List ℕ) → TakingTold
taken old new before now = record { outlet = old; outlet' = new; output = before; output' = now }

-- ---- one message

module _ (users : List User) (message answer : List ℕ) (is : answer_to users message ≡ Some answer) (old new : Outlet) (handed : Adds old.handed new.handed answer) where
  octets-are : answer_octets users message ≡ answer
  octets-are = ap (λ (o : Option (List ℕ)). unwrap_or o []) is

  line-is : command_line users message ≡ command_text (command_of (read_message message))
  line-is = ap (λ (o : Option (List ℕ)). line_for o (command_of (read_message message))) is

  whole : Adds old.handed new.handed (take (length answer) (answer_octets users message))
  whole = subst (λ (xs : List ℕ). Adds old.handed new.handed (take (length answer) xs)) (sym octets-are) (rw (take-length answer) handed)

  -- the answer was handed in, and of its line a prefix was written
  pub lined : (before now : Option (List ℕ)) → AppendsPrefix before now (command_text (command_of (read_message message)))
      → AnswersIn (answer_octets users message) (command_line users message) (taken old new before now)
  lined before now wrote = record {
    answer_count = length answer;
    line_count = wrote.count;
    handed = whole;
    written = subst (λ (xs : List ℕ). Appends before now (take wrote.count xs)) (sym line-is) wrote.appends;
    in_order = λ some. omega (arith, ap length octets-are);
  }

  -- its line wasn't begun
  pub unlined : (now : Option (List ℕ)) → AnswersIn (answer_octets users message) (command_line users message) (taken old new now now)
  unlined now = record {
    answer_count = length answer;
    line_count = 0;
    handed = whole;
    written = Appends-none now;
    in_order = λ some. omega (arith, ap length octets-are);
  }

-- ---- what was answered, and one message more

tells-more : {before now : Option (List ℕ)} {xs ys : List ℕ} → TellsOnly before xs → Adds before now ys → TellsOnly now (xs ++ ys)
tells-more {before} {now} {xs} {ys} only adds = λ zs told.
    let (us, was, cut) = Adds-told adds zs told in
    sym cut ∙ ap (λ (os : List ℕ). os ++ ys) (only us was)

flat_map-one : (f : List ℕ → List ℕ) (m : List ℕ) → flat_map f (m ∷ []) ≡ f m
flat_map-one f m = flat_map-cons f m [] ∙ append-nil (f m)

flat_map-push : (f : List ℕ → List ℕ) (ms : List (List ℕ)) (m : List ℕ) → flat_map f ms ++ f m ≡ flat_map f (ms ++ m ∷ [])
flat_map-push f ms m = ap (λ (os : List ℕ). flat_map f ms ++ os) (sym (flat_map-one f m)) ∙ sym (flat_map-append f ms (m ∷ []))

-- what a framer answers, and how it goes on
pub record Gives (next : Next) (framer framer' : FramerParts) : Type 0 where
  pub stands : (octets : List ℕ) (given : List (List ℕ)) → StandsFor framer octets given → StandsFor framer' octets (given_with next given)
  pub fits : (octets rest : List ℕ) (given messages : List (List ℕ)) (fault : Option FrameFault) → StandsFor framer octets given
      → Stream octets messages rest fault → IsNext next given messages fault

module _ (users : List User) (inlet : Inlet) (before : Option (List ℕ)) where
  -- one message more was answered
  answered-more : (octets : List ℕ) (given : List (List ℕ)) (m : List ℕ) (old new : Outlet) (then now : Option (List ℕ)) → Answered users octets given (linked inlet old before then)
      → Takes None (answer_octets users m) (command_line users m) (taken old new then now) → Answered users octets (given ++ m ∷ []) (linked inlet new before now)
  answered-more octets given m old new then now a takes = record {
    received = a.received;
    handed = subst (λ (xs : List ℕ). TellsOnly new.handed xs) (flat_map-push (answer_octets users) given m) (tells-more a.handed takes.0);
    written = subst (λ (xs : List ℕ). Appends before now xs) (flat_map-push (command_line users) given m) (Appends-append a.written takes.1);
  }

  -- a part of what is due to one message more
  answered-part : (octets : List ℕ) (given more : List (List ℕ)) (m : List ℕ) (old new : Outlet) (then now : Option (List ℕ)) → messages_of octets ≡ given ++ m ∷ more
      → Answered users octets given (linked inlet old before then) → AnswersIn (answer_octets users m) (command_line users m) (taken old new then now)
      → AnswersPart users (linked inlet new before now)
  answered-part octets given more m old new then now messages a part =
      let answer : answers users (take 1 (m ∷ more)) ≡ answer_octets users m = flat_map-one (answer_octets users) m in
      let line : command_lines users (take 1 (m ∷ more)) ≡ command_line users m = flat_map-one (command_line users) m in
      record {
        octets = octets;
        front = given;
        more = m ∷ more;
        answer_count = part.answer_count;
        line_count = part.line_count;
        messages = messages;
        received = a.received;
        handed = subst (λ (xs : List ℕ). TellsOnly new.handed (answers users given ++ take part.answer_count xs)) (sym answer) (tells-more a.handed part.handed);
        written = subst (λ (xs : List ℕ). Appends before now (command_lines users given ++ take part.line_count xs)) (sym line) (Appends-append a.written part.written);
        in_order = λ some. omega (arith, ap length answer, part.in_order some);
      }

  counted-with : (sends : ℕ) (old new : Outlet) → Counted 0 0 0 inlet old → new.faults ≡ sends → Counted 0 0 sends inlet new
  counted-with sends old new counted is = record { ends_are = counted.ends_are; failed_receives = counted.failed_receives; failed_sends = is }

  stops-part : (status : Status) (old new : Outlet) (now : Option (List ℕ)) → FailsToAnswer status old new → Counted 0 0 0 inlet old
      → AnswersPart users (linked inlet new before now) → StopsBy status users (linked inlet new before now)
  stops-part LinkFault old new now fails counted part = inr (part, counted-with 1 old new counted (omega (arith, fails, counted.failed_sends)))
  stops-part WriteFault old new now fails counted part = (part, counted-with 0 old new counted (fails ∙ counted.failed_sends))
  stops-part OutOfMemory old new now fails counted part = (part, counted-with 0 old new counted (fails ∙ counted.failed_sends))
  stops-part Done old new now fails counted part = absurd fails
  stops-part Usage old new now fails counted part = absurd fails
  stops-part (BadConfig fault) old new now fails counted part = absurd fails
  stops-part (BadTranscript line reason) old new now fails counted part = absurd fails
  stops-part ReadFault old new now fails counted part = absurd fails
  stops-part (PeerRefused code) old new now fails counted part = absurd fails
  stops-part NoThread old new now fails counted part = absurd fails
  stops-part DatagramFault old new now fails counted part = absurd fails
  stops-part (LinkEnded cause) old new now fails counted part = absurd fails
  stops-part TooLong old new now fails counted part = absurd fails

  -- ---- the framer

  -- memory was wanting: what the framer gave begins the stream of all that was received
  pub stops-wanting : (piece : List ℕ) (framer : FramerParts) (outlet : Outlet) (now : Option (List ℕ)) → SoFar users piece framer (linked inlet outlet before now)
      → StopsBy OutOfMemory users (linked inlet outlet before now)
  stops-wanting piece framer outlet now s =
      let f : FramerParts = record { left = s.stands.rest ++ piece; shown = None } in
      let stands : StandsFor f (s.fed ++ piece) s.given = record {
        rest = s.stands.rest ++ piece;
        text = ap (λ (o : List ℕ). o ++ piece) s.stands.text ∙ append_assoc (concat s.given) s.stands.rest piece;
        each = s.stands.each;
        left = refl;
      } in
      let (more, first) = given-first f (s.fed ++ piece) s.given stands in
      let part : AnswersPart users (linked inlet outlet before now) = record {
        octets = s.fed ++ piece;
        front = s.given;
        more = more;
        answer_count = 0;
        line_count = 0;
        messages = first;
        received = s.answered.received;
        handed = subst (λ (xs : List ℕ). TellsOnly outlet.handed xs) (sym (append-nil (answers users s.given))) s.answered.handed;
        written = subst (λ (xs : List ℕ). Appends before now xs) (sym (append-nil (command_lines users s.given))) s.answered.written;
        in_order = λ some. absurd (omega (arith, some));
      } in
      (part, s.counted)

  -- what was answered, where all that was received was fed
  fed-answered : (framer : FramerParts) (outlet : Outlet) (now : Option (List ℕ)) → (s : SoFar users [] framer (linked inlet outlet before now))
      → (messages : List (List ℕ)) → messages ≡ s.given → Answered users s.fed messages (linked inlet outlet before now)
  fed-answered framer outlet now s messages same =
      subst (λ (ms : List (List ℕ)). Answered users s.fed ms (linked inlet outlet before now)) (sym same)
      (subst (λ (o : List ℕ). Answered users o s.given (linked inlet outlet before now)) (append-nil s.fed) s.answered)

  next-fits : (framer framer' : FramerParts) (next : Next) (outlet : Outlet) (now : Option (List ℕ)) → Gives next framer framer' → (s : SoFar users [] framer (linked inlet outlet before now))
      → IsNext next s.given (messages_of s.fed) (stream_fault s.fed)
  next-fits framer framer' next outlet now gives s = gives.fits s.fed (rest_of s.fed) s.given (messages_of s.fed) (stream_fault s.fed) s.stands (Stream-of s.fed)

  -- nothing comes next
  pub waits : (framer framer' : FramerParts) (outlet : Outlet) (now : Option (List ℕ)) → Gives Wait framer framer'
      → SoFar users [] framer (linked inlet outlet before now) → Rests users framer' (linked inlet outlet before now)
  waits framer framer' outlet now gives s =
      let all = next-fits framer framer' Wait outlet now gives s in
      record {
        all = record { octets = s.fed; answered = fed-answered framer outlet now s (messages_of s.fed) all.0; shows = all.1 };
        stands = subst (λ (ms : List (List ℕ)). StandsFor framer' s.fed ms) (sym all.0) (gives.stands s.fed s.given s.stands);
        counted = s.counted;
      }

  -- the stream shows a fault
  pub stops-broken : (framer framer' : FramerParts) (fault : FrameFault) (outlet : Outlet) (now : Option (List ℕ)) → Gives (Fault fault) framer framer'
      → SoFar users [] framer (linked inlet outlet before now) → StopsBy Done users (linked inlet outlet before now)
  stops-broken framer framer' fault outlet now gives s =
      let all = next-fits framer framer' (Fault fault) outlet now gives s in
      inr (fault, record { octets = s.fed; answered = fed-answered framer outlet now s (messages_of s.fed) all.0; shows = all.1 }, s.counted)

  -- a message comes next, and was answered
  pub takes-whole : (framer framer' : FramerParts) (m : List ℕ) (old new : Outlet) (then now : Option (List ℕ)) → Gives (Message m) framer framer'
      → Takes None (answer_octets users m) (command_line users m) (taken old new then now)
      → SoFar users [] framer (linked inlet old before then) → SoFar users [] framer' (linked inlet new before now)
  takes-whole framer framer' m old new then now gives takes s = record {
    fed = s.fed;
    given = s.given ++ m ∷ [];
    stands = gives.stands s.fed s.given s.stands;
    answered = answered-more (s.fed ++ []) s.given m old new then now s.answered takes;
    counted = counted-with 0 old new s.counted (takes.2 ∙ s.counted.failed_sends);
  }

  -- a message comes next, and the run ends with it
  pub takes-part : (framer framer' : FramerParts) (m : List ℕ) (status : Status) (old new : Outlet) (then now : Option (List ℕ)) → Gives (Message m) framer framer'
      → Takes (Some status) (answer_octets users m) (command_line users m) (taken old new then now)
      → SoFar users [] framer (linked inlet old before then) → StopsBy status users (linked inlet new before now)
  takes-part framer framer' m status old new then now gives takes s =
      let (more, messages) = next-fits framer framer' (Message m) old then gives s in
      stops-part status old new now takes.0 s.counted
      (answered-part s.fed s.given more m old new then now messages (fed-answered framer old then s s.given refl) takes.1)

-- ---- looks

module _ (users : List User) (outlet : Outlet) (before now : Option (List ℕ)) where
  -- a piece was fed
  pub feeds : (piece : List ℕ) (framer framer' : FramerParts) (inlet : Inlet)
      → ((octets : List ℕ) (given : List (List ℕ)) → StandsFor framer octets given → StandsFor framer' (octets ++ piece) given)
      → SoFar users piece framer (linked inlet outlet before now) → SoFar users [] framer' (linked inlet outlet before now)
  feeds piece framer framer' inlet stands s = record {
    fed = s.fed ++ piece;
    given = s.given;
    stands = stands s.fed s.given s.stands;
    answered = subst (λ (o : List ℕ). Answered users o s.given (linked inlet outlet before now)) (sym (append-nil (s.fed ++ piece))) s.answered;
    counted = s.counted;
  }

  module _ (framer : FramerParts) (inlet inlet' : Inlet) (r : Rests users framer (linked inlet outlet before now)) where
    answered-with : (octets' : List ℕ) → TellsOnly inlet'.received octets' → Answered users octets' (messages_of r.all.octets) (linked inlet' outlet before now)
    answered-with octets' received = record { received = received; handed = r.all.answered.handed; written = r.all.answered.written }

    -- no octet more is received
    abbrev all-still : inlet'.received ≡ inlet.received → AnswersAll users (linked inlet' outlet before now) None
    all-still same = record {
      octets = r.all.octets;
      answered = answered-with r.all.octets (subst (λ (known : Option (List ℕ)). TellsOnly known r.all.octets) (sym same) r.all.answered.received);
      shows = r.all.shows;
    }

    counted-by : (ends receives : ℕ) → inlet'.ends ≡ ends → inlet'.faults ≡ receives → Counted ends receives 0 inlet' outlet
    counted-by ends receives ends_are failed = record { ends_are = ends_are; failed_receives = failed; failed_sends = r.counted.failed_sends }

    -- a piece was received
    pub brings : (count : ℕ) (buf : List ℕ) → count ≢ 0 → Brought count inlet inlet' buf → SoFar users (take count buf) framer (linked inlet' outlet before now)
    brings count buf some brought = record {
      fed = r.all.octets;
      given = messages_of r.all.octets;
      stands = r.stands;
      answered = answered-with (r.all.octets ++ take count buf) (tells-more r.all.answered.received brought.received);
      counted = counted-by 0 0 (brought.ends.stays some ∙ r.counted.ends_are) (brought.faults ∙ r.counted.failed_receives);
    }

    pub hears-none : HeardNone inlet inlet' → Rests users framer (linked inlet' outlet before now)
    hears-none heard = record {
      all = all-still heard.received;
      stands = r.stands;
      counted = counted-by 0 0 (heard.ends ∙ r.counted.ends_are) (heard.faults ∙ r.counted.failed_receives);
    }

    pub hears-end : HeardTheEnd inlet inlet' → StopsBy Done users (linked inlet' outlet before now)
    hears-end heard = inl (all-still heard.received, counted-by 1 0 (omega (arith, heard.ends, r.counted.ends_are)) (heard.faults ∙ r.counted.failed_receives))

    pub hears-fault : FailedToHear inlet inlet' → StopsBy LinkFault users (linked inlet' outlet before now)
    hears-fault heard = inl (all-still heard.received, counted-by 0 1 (heard.ends ∙ r.counted.ends_are) (omega (arith, heard.faults, r.counted.failed_receives)))

    pub hears-empty : (count : ℕ) (buf : List ℕ) → count ≡ 0 → Brought count inlet inlet' buf → StopsBy Done users (linked inlet' outlet before now)
    hears-empty count buf none brought =
        let adds : Adds inlet.received inlet'.received [] = subst (λ (n : ℕ). Adds inlet.received inlet'.received (take n buf)) none brought.received in
        let received : TellsOnly inlet'.received r.all.octets = subst (λ (o : List ℕ). TellsOnly inlet'.received o) (append-nil r.all.octets) (tells-more r.all.answered.received adds) in
        let all : AnswersAll users (linked inlet' outlet before now) None = record { octets = r.all.octets; answered = answered-with r.all.octets received; shows = r.all.shows } in
        inl (all, counted-by 1 0 (omega (arith, brought.ends.rises none, r.counted.ends_are)) (brought.faults ∙ r.counted.failed_receives))

-- ---- a link

none-of-none : messages_of [] ≡ []
unfolding messages_of messages_from
none-of-none = refl

no-fault-of-none : stream_fault [] ≡ None
unfolding messages_of messages_from frame_fault
no-fault-of-none = refl

-- nothing was received yet
pub rests-fresh : (users : List User) (framer : FramerParts) (inlet : Inlet) (outlet : Outlet) (written : Option (List ℕ)) → StandsFor framer [] []
    → IsFreshInlet inlet → IsFreshOutlet outlet → Rests users framer (linked inlet outlet written written)
rests-fresh users framer inlet outlet written stands fresh_inlet fresh_outlet =
    let answered : Answered users [] [] (linked inlet outlet written written) = record {
      received = fresh_inlet.received;
      handed = fresh_outlet.handed;
      written = Appends-none written;
    } in
    record {
      all = record {
        octets = [];
        answered = subst (λ (ms : List (List ℕ)). Answered users [] ms (linked inlet outlet written written)) (sym none-of-none) answered;
        shows = no-fault-of-none;
      };
      stands = subst (λ (ms : List (List ℕ)). StandsFor framer [] ms) (sym none-of-none) stands;
      counted = record { ends_are = fresh_inlet.ends; failed_receives = fresh_inlet.faults; failed_sends = fresh_outlet.faults };
    }
