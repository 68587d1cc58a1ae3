-- A stream is cut in one way, and what is given is cut off its front.
use Rattle.std.proofs.Common.{◌≡◌, ℕ, zero, suc, ◌%◌, ◌<◌, ◌≤◌, Bool, true, false, cond, List, [], ◌∷◌, ◌++◌, length, take, drop, Option, Some, None, Result, Ok, Err, refl, sym, ap, subst, ◌∙◌, append_assoc, arith}
use Rattle.std.specs.Prelude.{not, ◌||◌, ◌==◌, nat_lt, slice_index, IfOk, OnOk}
use Rattle.std.specs.List.{concat}
use Rattle.std.proofs.Math.Dec.{eqb-suc-zero}
use Rattle.std.proofs.lemmas.Bool.{le-ltb, ltb-false, eq-eqb, eqb-true, ne_eqb}
use Rattle.std.proofs.lemmas.List.{append-nil, length-append, length-drop, length-take-le, take-append-drop, take_at, drop_at}
use Rattle.std.proofs.lemmas.List.Folds.{concat-append}
use Rattle.diameter_message.specs.declared.fault.FrameFault.{FrameFault}
use Rattle.diameter_message.specs.declared.fault.FrameFault.TheVariants.{BadVersion, BadLength, TooLong}
use Rattle.diameter_message.specs.declared.next.Next.{Next}
use Rattle.diameter_message.specs.declared.next.Next.TheVariants.{Message, Wait, Fault}
use Rattle.diameter_message.specs.Message.{length_of}
use Rattle.diameter_message.specs.Stream.{IsFrame, AreFrames, BeginsNone, length_fault, frame_fault, Stream}
use Rattle.diameter_message.specs.Framing.{FramerParts, fed, message_in, next_by, next_in, next_of, without, Leaves, StandsFor, given_with, IsNext, then_messages, messages_from, messages_of, rest_of, stream_fault}

-- ---- what octets behind others change

-- the first octet, and the length, stand in the first four
first_of : (xs ys : List ℕ) → 0 < length xs → slice_index (xs ++ ys) 0 ≡ slice_index xs 0
first_of [] ys some = absurd (omega arith)
first_of (x ∷ xs) ys some = refl

length_of-append : (xs ys : List ℕ) → 4 ≤ length xs → length_of (xs ++ ys) ≡ length_of xs
length_of-append [] ys four = absurd (omega arith)
length_of-append (a ∷ []) ys four = absurd (omega arith)
length_of-append (a ∷ b ∷ []) ys four = absurd (omega arith)
length_of-append (a ∷ b ∷ c ∷ []) ys four = absurd (omega arith)
length_of-append (a ∷ b ∷ c ∷ d ∷ xs) ys four = refl

-- the fault of octets by three tests
abbrev fault_by : Bool → Bool → Bool → Option FrameFault → Option FrameFault
fault_by none first few fault = cond none None (cond (not first) (Some BadVersion) (cond few None fault))

fault_by-kept : (none first few none' first' few' : Bool) (f g : Option FrameFault) (fault : FrameFault) → fault_by none first few f ≡ Some fault → (none ≡ false → (none' ≡ false) × (first' ≡ first)) → (few ≡ false → (few' ≡ false) × (g ≡ f)) → fault_by none' first' few' g ≡ Some fault
fault_by-kept true first few none' first' few' f g fault e p q = absurd cc
fault_by-kept false false few none' first' few' f g fault e p q =
    let r = p refl in
    rw (r.0, r.1) e
fault_by-kept false true true none' first' few' f g fault e p q = absurd cc
fault_by-kept false true false none' first' few' f g fault e p q =
    let r = p refl in
    let s = q refl in
    rw (r.0, r.1, s.0, s.1) e

none-append : (xs ys : List ℕ) → (length xs == 0) ≡ false → ((length (xs ++ ys) == 0) ≡ false) × ((slice_index (xs ++ ys) 0 == 1) ≡ (slice_index xs 0 == 1))
none-append [] ys some = absurd cc
none-append (x ∷ xs) ys some = (eqb-suc-zero (length (xs ++ ys)), refl)

few-append : (xs ys : List ℕ) → nat_lt (length xs) 4 ≡ false → (nat_lt (length (xs ++ ys)) 4 ≡ false) × (length_fault (length_of (xs ++ ys)) ≡ length_fault (length_of xs))
few-append xs ys few =
    let four : 4 ≤ length xs = ltb-false _ _ few in
    (le-ltb (length (xs ++ ys)) 4 (omega (arith, length-append xs ys)), ap length_fault (length_of-append xs ys four))

-- a fault that is shown stays, whatever comes
pub frame_fault-append : (xs ys : List ℕ) (fault : FrameFault) → frame_fault xs ≡ Some fault → frame_fault (xs ++ ys) ≡ Some fault
unfolding frame_fault
frame_fault-append xs ys fault e =
    fault_by-kept (length xs == 0) (slice_index xs 0 == 1) (nat_lt (length xs) 4) _ _ _ (length_fault (length_of xs)) _ fault e (none-append xs ys) (few-append xs ys)

-- ---- a message at the front is what comes next

length_fault-none : (n : ℕ) → n % 4 ≡ 0 → 20 ≤ n → n ≤ 65536 → length_fault n ≡ None
length_fault-none n words least most =
    let a = le-ltb n 20 least in
    let b = eq-eqb (n % 4) 0 words in
    let c = le-ltb 65536 n most in
    rw (a, b, c) refl

frame_fault-frame : (m rest : List ℕ) → IsFrame m → frame_fault (m ++ rest) ≡ None
unfolding frame_fault
frame_fault-frame m rest is =
    let long = length-append m rest in
    let a : (length (m ++ rest) == 0) ≡ false = ne_eqb (length (m ++ rest)) 0 (λ e. omega (arith, is.least)) in
    let b : (slice_index (m ++ rest) 0 == 1) ≡ true = eq-eqb _ _ (first_of m rest (omega (arith, is.least)) ∙ is.version) in
    let c : nat_lt (length (m ++ rest)) 4 ≡ false = le-ltb (length (m ++ rest)) 4 (omega (arith, is.least)) in
    let d : length_fault (length_of (m ++ rest)) ≡ None =
    ap length_fault (length_of-append m rest (omega (arith, is.least)) ∙ is.counted) ∙ length_fault-none (length m) is.words is.least is.most in
    rw (a, b, c) d

pub next_in-frame : (m rest : List ℕ) → IsFrame m → next_in (m ++ rest) ≡ Message m
unfolding next_in
next_in-frame m rest is =
    let none = frame_fault-frame m rest is in
    let long = length-append m rest in
    let counts : length_of (m ++ rest) ≡ length m = length_of-append m rest (omega (arith, is.least)) ∙ is.counted in
    let a : nat_lt (length (m ++ rest)) 4 ≡ false = le-ltb (length (m ++ rest)) 4 (omega (arith, is.least)) in
    let b : nat_lt (length (m ++ rest)) (length_of (m ++ rest)) ≡ false = le-ltb (length (m ++ rest)) (length_of (m ++ rest)) (omega arith) in
    let c : take (length_of (m ++ rest)) (m ++ rest) ≡ m = take_at m rest (length_of (m ++ rest)) (sym counts) in
    ap (λ (f : Option FrameFault). next_by f (m ++ rest)) none
    ∙ ap (λ (t : Bool). cond (t || nat_lt (length (m ++ rest)) (length_of (m ++ rest))) Wait (Message (take (length_of (m ++ rest)) (m ++ rest)))) a
    ∙ ap (λ (t : Bool). cond t Wait (Message (take (length_of (m ++ rest)) (m ++ rest)))) b
    ∙ ap (λ (t : List ℕ). Message t) c

-- ---- what comes next is a message at the front

message_is : (m n : List ℕ) → Message m ≡ Message n → m ≡ n
message_is m n e = cc

next_by-message : (f : Option FrameFault) (octets m : List ℕ) → next_by f octets ≡ Message m → (f ≡ None) × (message_in octets ≡ Message m)
next_by-message None octets m e = (refl, e)
next_by-message (Some fault) octets m e = absurd cc

message_by : (a b : Bool) (m n : List ℕ) → cond (a || b) Wait (Message m) ≡ Message n → (a ≡ false) × (b ≡ false) × (m ≡ n)
message_by true b m n e = absurd cc
message_by false true m n e = absurd cc
message_by false false m n e = (refl, refl, message_is m n e)

length_by : (a b c : Bool) → (let none : Option FrameFault = None in cond (a || not b) (Some BadLength) (cond c (Some TooLong) None) ≡ none) → (a ≡ false) × (b ≡ true) × (c ≡ false)
length_by true b c e = absurd cc
length_by false false c e = absurd cc
length_by false true true e = absurd cc
length_by false true false e = (refl, refl, refl)

fault_by-none : (none first few : Bool) (f : Option FrameFault) → fault_by none first few f ≡ None → none ≡ false → few ≡ false → (first ≡ true) × (f ≡ None)
fault_by-none true first few f e p q = absurd cc
fault_by-none false false few f e p q = absurd cc
fault_by-none false true true f e p q = absurd cc
fault_by-none false true false f e p q = (refl, e)

sound_front : (octets : List ℕ) → frame_fault octets ≡ None → 4 ≤ length octets → (slice_index octets 0 ≡ 1) × (length_fault (length_of octets) ≡ None)
unfolding frame_fault
sound_front octets e four =
    let r = fault_by-none (length octets == 0) (slice_index octets 0 == 1) (nat_lt (length octets) 4) (length_fault (length_of octets)) e (ne_eqb (length octets) 0 (λ z. omega arith)) (le-ltb (length octets) 4 four) in
    (eqb-true _ _ r.0, r.1)

-- a frame, and what comes after it
pub record BeginsWith (octets message : List ℕ) : Type 0 where
  pub frame : IsFrame message
  pub text : octets ≡ message ++ drop (length message) octets

front_is_frame : (octets : List ℕ) (n : ℕ) → n ≡ length_of octets → slice_index octets 0 ≡ 1 → n % 4 ≡ 0 → 20 ≤ n → n ≤ 65536 → n ≤ length octets → BeginsWith octets (take n octets)
front_is_frame octets n counts version words least most inside =
    let whole = take-append-drop n octets in
    let long : length (take n octets) ≡ n = length-take-le n octets inside in
    record {
      frame = record {
        version = sym (first_of (take n octets) (drop n octets) (omega arith)) ∙ ap (λ (o : List ℕ). slice_index o 0) whole ∙ version;
        counted = sym (length_of-append (take n octets) (drop n octets) (omega arith)) ∙ ap length_of whole ∙ sym counts ∙ sym long;
        words = ap (λ (k : ℕ). k % 4) long ∙ words;
        least = omega arith;
        most = omega arith;
      };
      text = sym (ap (λ (k : ℕ). take n octets ++ drop k octets) long ∙ whole);
    }

pub next_in-message : (octets m : List ℕ) → next_in octets ≡ Message m → BeginsWith octets m
unfolding next_in
next_in-message octets m e =
    let r = next_by-message (frame_fault octets) octets m e in
    let s = message_by _ _ _ _ r.1 in
    let four : 4 ≤ length octets = ltb-false _ _ s.0 in
    let inside : length_of octets ≤ length octets = ltb-false _ _ s.1 in
    let front = sound_front octets r.0 four in
    let sound = length_by (nat_lt (length_of octets) 20) (length_of octets % 4 == 0) (nat_lt 65536 (length_of octets)) front.1 in
    subst (λ (x : List ℕ). BeginsWith octets x) s.2
    (front_is_frame octets (length_of octets) refl front.0 (eqb-true _ _ sound.1) (ltb-false _ _ sound.0) (ltb-false _ _ sound.2) inside)

-- ---- where no message comes next

pub BeginsNone-from : (octets : List ℕ) (r : Next) → next_in octets ≡ r → ((m : List ℕ) → r ≡ Message m → ⊥) → BeginsNone octets
BeginsNone-from octets r e other = λ m rest text is. other m (sym e ∙ ap next_in text ∙ next_in-frame m rest is)

next_by-wait : (f : Option FrameFault) (octets : List ℕ) → next_by f octets ≡ Wait → f ≡ None
next_by-wait None octets e = refl
next_by-wait (Some fault) octets e = absurd cc

no_fault_by : (b : Bool) (m : List ℕ) (fault : FrameFault) → cond b Wait (Message m) ≡ Fault fault → ⊥
no_fault_by true m fault e = cc
no_fault_by false m fault e = cc

next_by-fault : (f : Option FrameFault) (octets : List ℕ) (fault : FrameFault) → next_by f octets ≡ Fault fault → f ≡ Some fault
next_by-fault None octets fault e = absurd (no_fault_by _ _ fault e)
next_by-fault (Some other) octets fault e = cc

pub next_in-wait : (octets : List ℕ) → next_in octets ≡ Wait → frame_fault octets ≡ None
unfolding next_in
next_in-wait octets e = next_by-wait (frame_fault octets) octets e

pub next_in-fault : (octets : List ℕ) (fault : FrameFault) → next_in octets ≡ Fault fault → frame_fault octets ≡ Some fault
unfolding next_in
next_in-fault octets fault e = next_by-fault (frame_fault octets) octets fault e

pub next_in-by_fault : (octets : List ℕ) (fault : FrameFault) → frame_fault octets ≡ Some fault → next_in octets ≡ Fault fault
unfolding next_in
next_in-by_fault octets fault e = ap (λ (f : Option FrameFault). next_by f octets) e

-- ---- messages that were given are the first of the stream's

pub record Continues (given messages : List (List ℕ)) (left rest : List ℕ) : Type 0 where
  pub more : List (List ℕ)
  pub parts : messages ≡ given ++ more
  pub each : AreFrames more
  pub text : left ≡ concat more ++ rest

pub continues : (given messages : List (List ℕ)) (left rest : List ℕ) → AreFrames given → AreFrames messages → BeginsNone rest → concat given ++ left ≡ concat messages ++ rest → Continues given messages left rest
continues [] messages left rest are all ends e = record { more = messages; parts = refl; each = all; text = e }
continues (m ∷ given) [] left rest are all ends e =
    absurd (ends m (concat given ++ left) (sym e ∙ append_assoc m (concat given) left) are.0)
continues (m ∷ given) (n ∷ messages) left rest are all ends e =
    let both : m ++ (concat given ++ left) ≡ n ++ (concat messages ++ rest) =
    sym (append_assoc m (concat given) left) ∙ e ∙ append_assoc n (concat messages) rest in
    let same : m ≡ n = message_is m n (sym (next_in-frame m _ are.0) ∙ ap next_in both ∙ next_in-frame n _ all.0) in
    let behind : concat given ++ left ≡ concat messages ++ rest =
    sym (drop_at m (concat given ++ left) (length m) refl) ∙ ap (λ (o : List ℕ). drop (length m) o) both ∙ drop_at n (concat messages ++ rest) (length m) (ap length (sym same)) in
    let r = continues given messages left rest are.1 all.1 ends behind in
    record { more = r.more; parts = cc (same, r.parts); each = r.each; text = r.text }

AreFrames-push : (messages : List (List ℕ)) (m : List ℕ) → AreFrames messages → IsFrame m → AreFrames (messages ++ m ∷ [])
AreFrames-push [] m are is = (is, tt)
AreFrames-push (n ∷ messages) m are is = (are.0, AreFrames-push messages m are.1 is)

-- no more of them where nothing but the rest is left
none_more : (more : List (List ℕ)) (left rest : List ℕ) → AreFrames more → left ≡ concat more ++ rest → BeginsNone left → (more ≡ []) × (left ≡ rest)
none_more [] left rest are e ends = (refl, e)
none_more (m ∷ more) left rest are e ends = absurd (ends m (concat more ++ rest) (e ∙ append_assoc m (concat more) rest) are.0)

-- ---- a framer

module _ (octets : List ℕ) (given : List (List ℕ)) where
  pub stands-fed : (left : List ℕ) (shown : Option FrameFault) (piece : List ℕ) → (let f : FramerParts = record { left = left; shown = shown } in StandsFor f octets given → StandsFor (fed f piece) (octets ++ piece) given)
  stands-fed left None piece s =
      record {
        rest = s.rest ++ piece;
        text = ap (λ (o : List ℕ). o ++ piece) s.text ∙ append_assoc (concat given) s.rest piece;
        each = s.each;
        left = ap (λ (o : List ℕ). o ++ piece) s.left;
      }
  stands-fed left (Some fault) piece s =
      record {
        rest = s.rest ++ piece;
        text = ap (λ (o : List ℕ). o ++ piece) s.text ∙ append_assoc (concat given) s.rest piece;
        each = s.each;
        left = frame_fault-append s.rest piece fault s.left;
      }

  next_of-stands : (left : List ℕ) (shown : Option FrameFault) → (let f : FramerParts = record { left = left; shown = shown } in (s : StandsFor f octets given) → next_of f ≡ next_in s.rest)
  next_of-stands left None s = ap next_in (sym s.left)
  next_of-stands left (Some fault) s = sym (next_in-by_fault s.rest fault s.left)

  leaves-drop : (left : List ℕ) (shown : Option FrameFault) (rest m : List ℕ) → (let f : FramerParts = record { left = left; shown = shown } in next_of f ≡ Message m → Leaves shown left rest → Leaves shown (drop (length m) left) (drop (length m) rest))
  leaves-drop left None rest m e is = ap (λ (o : List ℕ). drop (length m) o) is
  leaves-drop left (Some fault) rest m e is = absurd cc

  pub stands-by : (f : FramerParts) (n : Next) → next_of f ≡ n → StandsFor f octets given → StandsFor (without n f) octets (given_with n given)
  stands-by f (Message m) e s =
      let begins = next_in-message s.rest m (sym (next_of-stands f.left f.shown s) ∙ e) in
      record {
        rest = drop (length m) s.rest;
        text =
            s.text
            ∙ ap (λ (o : List ℕ). concat given ++ o) begins.text
            ∙ sym (append_assoc (concat given) m (drop (length m) s.rest))
            ∙ ap (λ (o : List ℕ). concat given ++ o ++ drop (length m) s.rest) (sym (append-nil m))
            ∙ ap (λ (o : List ℕ). o ++ drop (length m) s.rest) (sym (concat-append given (m ∷ [])));
        each = AreFrames-push given m s.each begins.frame;
        left = leaves-drop f.left f.shown s.rest m e s.left;
      }
  stands-by f Wait e s = s
  stands-by f (Fault fault) e s =
      record {
        rest = s.rest;
        text = s.text;
        each = s.each;
        left = next_in-fault s.rest fault (sym (next_of-stands f.left f.shown s) ∙ e);
      }

  module _ (messages : List (List ℕ)) (rest : List ℕ) (fault : Option FrameFault) (is : Stream octets messages rest fault) where
    message-next : (m left : List ℕ) → next_in left ≡ Message m → (c : Continues given messages left rest) → (more : List (List ℕ)) → c.more ≡ more → (others : List (List ℕ)) × (messages ≡ given ++ m ∷ others)
    message-next m left e c [] none =
        let begins = next_in-message left m e in
        let same : left ≡ rest = c.text ∙ ap (λ (l : List (List ℕ)). concat l ++ rest) none in
        absurd (is.ends m (drop (length m) left) (sym same ∙ begins.text) begins.frame)
    message-next m left e c (n ∷ more) some =
        let frame : IsFrame n × AreFrames more = subst (λ (l : List (List ℕ)). AreFrames l) some c.each in
        let text : left ≡ n ++ (concat more ++ rest) = c.text ∙ ap (λ (l : List (List ℕ)). concat l ++ rest) some ∙ append_assoc n (concat more) rest in
        let same : n ≡ m = message_is n m (sym (next_in-frame n _ frame.0) ∙ ap next_in (sym text) ∙ e) in
        (more, c.parts ∙ ap (λ (l : List (List ℕ)). given ++ l) some ∙ ap (λ (x : List ℕ). given ++ x ∷ more) same)

    none-next : (left : List ℕ) (shown : Option FrameFault) → BeginsNone left → frame_fault left ≡ shown → Continues given messages left rest → (messages ≡ given) × (fault ≡ shown)
    none-next left shown ends e c =
        let r = none_more c.more left rest c.each c.text ends in
        (c.parts ∙ ap (λ (l : List (List ℕ)). given ++ l) r.0 ∙ append-nil given, is.shows ∙ ap frame_fault (sym r.1) ∙ e)

    next-by : (n : Next) (left : List ℕ) → next_in left ≡ n → Continues given messages left rest → IsNext n given messages fault
    next-by (Message m) left e c = message-next m left e c c.more refl
    next-by Wait left e c = none-next left None (BeginsNone-from left Wait e (λ m w. cc)) (next_in-wait left e) c
    next-by (Fault shown) left e c = none-next left (Some shown) (BeginsNone-from left (Fault shown) e (λ m w. cc)) (next_in-fault left shown e) c

    pub next-stream : (f : FramerParts) → StandsFor f octets given → IsNext (next_of f) given messages fault
    next-stream f s =
        next-by (next_of f) s.rest (sym (next_of-stands f.left f.shown s)) (continues given messages s.rest rest s.each is.each is.ends (sym s.text ∙ is.text))

-- ---- what the calls' clauses say of a framer that stands for a stream

pub fed-stands : {E : Type 0} (r : Result Unit E) (old new : FramerParts) (piece octets : List ℕ) (given : List (List ℕ)) → OnOk r (new ≡ fed old piece) → StandsFor old octets given → OnOk r (StandsFor new (octets ++ piece) given)
fed-stands (Ok x) old new piece octets given e s =
    subst (λ (f : FramerParts). StandsFor f (octets ++ piece) given) (sym e) (stands-fed octets given old.left old.shown piece s)
fed-stands (Err x) old new piece octets given e s = tt

pub next-stands : {E : Type 0} (r : Result Next E) (old new : FramerParts) (octets : List ℕ) (given : List (List ℕ)) → IfOk r (λ n. n ≡ next_of old) → IfOk r (λ n. new ≡ without n old) → StandsFor old octets given → IfOk r (λ n. StandsFor new octets (given_with n given))
next-stands (Ok n) old new octets given value e s =
    subst (λ (f : FramerParts). StandsFor f octets (given_with n given)) (sym e) (stands-by octets given old n (sym value) s)
next-stands (Err x) old new octets given value e s = tt

pub next-is_next : {E : Type 0} (r : Result Next E) (old : FramerParts) (octets rest : List ℕ) (given messages : List (List ℕ)) (fault : Option FrameFault) → IfOk r (λ n. n ≡ next_of old) → StandsFor old octets given → Stream octets messages rest fault → IfOk r (λ n. IsNext n given messages fault)
next-is_next (Ok n) old octets rest given messages fault value s is =
    subst (λ (x : Next). IsNext x given messages fault) (sym value) (next-stream octets given messages rest fault is old s)
next-is_next (Err x) old octets rest given messages fault value s is = tt

-- ---- a whole stream at once

record Cut (octets : List ℕ) (messages : List (List ℕ)) : Type 0 where
  pub rest : List ℕ
  pub text : octets ≡ concat messages ++ rest
  pub each : AreFrames messages
  pub ends : BeginsNone rest

cut-none : (octets : List ℕ) → BeginsNone octets → Cut octets []
cut-none octets ends = record { rest = octets; text = refl; each = tt; ends = ends }

begins-none : (octets : List ℕ) → length octets ≡ 0 → BeginsNone octets
begins-none octets none = λ m rest text is. omega (arith, ap length text, length-append m rest, is.least)

counts-front : (octets m : List ℕ) → BeginsWith octets m → length_of octets ≡ length m
counts-front octets m begins =
    ap length_of begins.text ∙ length_of-append m (drop (length m) octets) (omega (arith, begins.frame.least)) ∙ begins.frame.counted

shorter : (octets m : List ℕ) (n : ℕ) → BeginsWith octets m → length octets ≤ suc n → length (drop (length_of octets) octets) ≤ n
shorter octets m n begins short =
    omega (arith, counts-front octets m begins, begins.frame.least, length-drop (length_of octets) octets)

cut-by : (octets : List ℕ) (r : Next) (others : List (List ℕ)) → next_in octets ≡ r → ((m : List ℕ) → BeginsWith octets m → Cut (drop (length_of octets) octets) others) → Cut octets (then_messages r others)
cut-by octets (Message m) others e behind =
    let begins = next_in-message octets m e in
    let c = behind m begins in
    record {
      rest = c.rest;
      text =
          begins.text
          ∙ ap (λ (k : ℕ). m ++ drop k octets) (sym (counts-front octets m begins))
          ∙ ap (λ (o : List ℕ). m ++ o) c.text
          ∙ sym (append_assoc m (concat others) c.rest);
      each = (begins.frame, c.each);
      ends = c.ends;
    }
cut-by octets Wait others e behind = cut-none octets (BeginsNone-from octets Wait e (λ m w. cc))
cut-by octets (Fault fault) others e behind = cut-none octets (BeginsNone-from octets (Fault fault) e (λ m w. cc))

cut-from : (n : ℕ) (octets : List ℕ) → length octets ≤ n → Cut octets (messages_from n octets)
unfolding messages_from
cut-from zero octets short = cut-none octets (begins-none octets (omega arith))
cut-from (suc n) octets short =
    cut-by octets (next_in octets) (messages_from n (drop (length_of octets) octets)) refl
    (λ m begins. cut-from n (drop (length_of octets) octets) (shorter octets m n begins short))

pub Stream-of : (octets : List ℕ) → Stream octets (messages_of octets) (rest_of octets) (stream_fault octets)
unfolding messages_of
Stream-of octets =
    let c = cut-from (length octets) octets (omega arith) in
    let messages = messages_from (length octets) octets in
    let left : drop (length (concat messages)) octets ≡ c.rest = ap (λ (o : List ℕ). drop (length (concat messages)) o) c.text ∙ drop_at (concat messages) c.rest (length (concat messages)) refl in
    record {
      text = c.text ∙ ap (λ (o : List ℕ). concat messages ++ o) (sym left);
      each = c.each;
      ends = subst (λ (o : List ℕ). BeginsNone o) (sym left) c.ends;
      shows = refl;
    }

pub Stream-only : (octets : List ℕ) (messages others : List (List ℕ)) (rest rest' : List ℕ) (fault fault' : Option FrameFault) → Stream octets messages rest fault → Stream octets others rest' fault' → (messages ≡ others) × (rest ≡ rest') × (fault ≡ fault')
Stream-only octets messages others rest rest' fault fault' s t =
    let c = continues messages others rest rest' s.each t.each t.ends (sym s.text ∙ t.text) in
    let r = none_more c.more rest rest' c.each c.text s.ends in
    (sym (c.parts ∙ ap (λ (l : List (List ℕ)). messages ++ l) r.0 ∙ append-nil messages), r.1, s.shows ∙ ap frame_fault r.1 ∙ sym t.shows)

pub given-first : (f : FramerParts) (octets : List ℕ) (given : List (List ℕ)) → StandsFor f octets given → (more : List (List ℕ)) × (messages_of octets ≡ given ++ more)
given-first f octets given s =
    let t = Stream-of octets in
    let c = continues given (messages_of octets) s.rest (rest_of octets) s.each t.each t.ends (sym s.text ∙ t.text) in
    (c.more, c.parts)
