-- A client step by step, from its first step to its end.
use Rattle.std.proofs.Common.{◌≡◌, ℕ, ◌≤◌, ◌⊎◌, inl, inr, true, false, List, [], ◌∷◌, ◌++◌, length, take, Option, Some, None, option_map, refl, sym, ap, ◌∙◌, subst, append_assoc, flat_map}
use Rattle.std.specs.Prelude.{IfSome}
use Rattle.std.specs.Option.{option_to_list}
use Rattle.std.proofs.lemmas.Grind.{flat_map-append}
use Rattle.std.proofs.lemmas.List.{append-nil, map-append}
use Rattle.std.proofs.lemmas.List.Concat.{flat_map-cons}
use Rattle.wire_devices.specs.declared.devices.Datagram.{Datagram}
use Rattle.wire_devices.specs.Sockets.{Socket}
use Rattle.wire_devices.specs.Telling.{Adds}
use Rattle.wire_devices.proofs.TellingLaws.{Adds-append, Adds-none, Adds-same}
use Rattle.test_peers.specs.declared.nas.NasOutput.{NasOutput}
use Rattle.test_peers.specs.declared.nas.NasOutput.TheVariants.{Send, Wait, Reply, GaveUp}
use Rattle.test_peers.specs.Nas.{NasParts, fresh, nas_after, output_at}
use Rattle.peer_runs.specs.declared.asking.Target.{Target}
use Rattle.peer_runs.specs.Asking.{Asked, Asker, AskingTold, Asks, BeginsWithNone, BreaksOff, Ends, StepsToEnd, GoesOn, Looks, Moves, Step, StepsOnce, answer_by, answer_in, asked, goes_on, moments, octets_got, output_of, received, sent, sent_by, stepped}

-- a client and what was told, by their parts in order
abbrev pub asker : Target → ℕ → List ℕ → Asker
asker place patience packet = record { place = place; patience = patience; packet = packet }

abbrev pub between : Option (List ℕ) → Option (List ℕ) → Socket → Socket → AskingTold
between before now s t = record { clock = before; clock' = now; socket = s; socket' = t }

-- ---- one step more

abbrev pub after : NasParts → List Step → NasParts
after nas [] = nas
after nas (step ∷ steps) = after (stepped nas step) steps

after-push : (nas : NasParts) (steps : List Step) (step : Step) → after nas (steps ++ step ∷ []) ≡ stepped (after nas steps) step
after-push nas [] step = refl
after-push nas (first ∷ steps) step = after-push (stepped nas first) steps step

packet-after : (nas : NasParts) (steps : List Step) → (after nas steps).packet ≡ nas.packet
packet-after nas [] = refl
packet-after nas (first ∷ steps) = packet-after (stepped nas first) steps

GoesOn-push : (nas : NasParts) (steps : List Step) (step : Step) → GoesOn nas steps → goes_on (output_of (after nas steps) step) ≡ true
    → GoesOn nas (steps ++ step ∷ [])
GoesOn-push nas [] step on here = (here, tt)
GoesOn-push nas (first ∷ steps) step on here = (on.0, GoesOn-push (stepped nas first) steps step on.1 here)

Ends-push : (nas : NasParts) (steps : List Step) (step : Step) → GoesOn nas steps → goes_on (output_of (after nas steps) step) ≡ false
    → Ends nas (steps ++ step ∷ [])
Ends-push nas [] step on here = rw here refl
Ends-push nas (first ∷ steps) step on here = rw on.0 (Ends-push (stepped nas first) steps step on.1 here)

answer-on : (o : NasOutput) (got later : Option (List ℕ)) → goes_on o ≡ true → answer_by o got later ≡ later
answer-on Send got later on = refl
answer-on Wait got later on = refl
answer-on Reply got later on = cc
answer-on GaveUp got later on = cc

answer-push : (nas : NasParts) (steps : List Step) (step : Step) → GoesOn nas steps
    → answer_in nas (steps ++ step ∷ []) ≡ answer_by (output_of (after nas steps) step) (octets_got step.got) None
answer-push nas [] step on = refl
answer-push nas (first ∷ steps) step on =
    answer-on (output_of nas first) (octets_got first.got) (answer_in (stepped nas first) (steps ++ step ∷ [])) on.0
    ∙ answer-push (stepped nas first) steps step on.1

sent-push : (place : Target) (nas : NasParts) (steps : List Step) (step : Step)
    → sent place nas (steps ++ step ∷ []) ≡ sent place nas steps ++ sent_by place nas.packet (output_of (after nas steps) step)
sent-push place nas [] step = append-nil (sent_by place nas.packet (output_of nas step))
sent-push place nas (first ∷ steps) step =
    let here = sent_by place nas.packet (output_of nas first) in
    ap (λ r. here ++ r) (sent-push place (stepped nas first) steps step)
    ∙ sym (append_assoc here (sent place (stepped nas first) steps) (sent_by place nas.packet (output_of (after nas (first ∷ steps)) step)))

one-of : {X A : Type 0} (f : X → List A) (x : X) → flat_map f (x ∷ []) ≡ f x
one-of f x = flat_map-cons f x [] ∙ append-nil (f x)

received-push : (steps : List Step) (step : Step) → received (steps ++ step ∷ []) ≡ received steps ++ option_to_list step.got
received-push steps step =
    flat_map-append (λ (s : Step). option_to_list s.got) steps (step ∷ [])
    ∙ ap (λ r. received steps ++ r) (one-of (λ (s : Step). option_to_list s.got) step)

pub still-on : (o : NasOutput) → (o ≡ Send) ⊎ (o ≡ Wait) → goes_on o ≡ true
still-on o (inl is) = ap goes_on is
still-on o (inr is) = ap goes_on is

-- ---- before a step, and after it

-- a client that went on so far, and what its next step gets
pub record Going (place : Target) (nas here : NasParts) (count : Option ℕ) (buf : List ℕ) (before now : Option (List ℕ)) (s t : Socket) : Type 0 where
  pub steps : List Step
  pub pending : Option Datagram
  pub begins : (step : Step) → step.got ≡ pending → BeginsWithNone (steps ++ step ∷ [])
  pub on : GoesOn nas steps
  pub at : here ≡ after nas steps
  pub octets : octets_got pending ≡ option_map (λ n. take n buf) count
  pub within : IfSome count (λ n. n ≤ length buf)
  pub moves : Moves (between before now s t) (moments steps) (received steps ++ option_to_list pending) (sent place nas steps)

-- a client that stepped, and what it did at its last step
pub record Stepped (place : Target) (nas here : NasParts) (output : NasOutput) (got before now : Option (List ℕ)) (s t : Socket) : Type 0 where
  pub steps : List Step
  pub begins : BeginsWithNone steps
  pub at : here ≡ after nas steps
  pub moves : Moves (between before now s t) (moments steps) (received steps) (sent place nas steps)
  pub on : goes_on output ≡ true → GoesOn nas steps
  pub ends : goes_on output ≡ false → Ends nas steps
  pub answer : answer_in nas steps ≡ answer_by output got None

pub going-first : (place : Target) (nas : NasParts) (buf : List ℕ) (before : Option (List ℕ)) (s : Socket) → Going place nas nas None buf before before s s
going-first place nas buf before s = record {
  steps = [];
  pending = None;
  begins = λ step none. none;
  on = tt;
  at = refl;
  octets = refl;
  within = tt;
  moves = record { readings = Adds-none before; received = Adds-none s.received; handed = Adds-none s.handed };
}

pub going-step : {place : Target} {nas here : NasParts} {count : Option ℕ} {buf : List ℕ} {before then : Option (List ℕ)} {s t : Socket} (here' : NasParts) (output : NasOutput) (got now : Option (List ℕ)) (u : Socket)
    → (g : Going place nas here count buf before then s t) → got ≡ option_map (λ n. take n buf) count → StepsOnce place (record { nas = here; nas' = here'; got = got; output = output }) (between then now t u)
    → Stepped place nas here' output got before now s u
going-step {place} {nas} {here} {count} {buf} {before} {then} {s} {t} here' output got now u g is once =
    let step : Step = record { moment = once.moment; got = g.pending } in
    let same : got ≡ octets_got step.got = is ∙ sym g.octets in
    let out : output ≡ output_of (after nas g.steps) step =
    once.output_is ∙ ap (λ o. output_at here once.moment o) same ∙ ap (λ n. output_of n step) g.at in
    let packet : here.packet ≡ nas.packet = ap (λ n. n.packet) g.at ∙ packet-after nas g.steps in
    record {
      steps = g.steps ++ step ∷ [];
      begins = g.begins step refl;
      at = once.after ∙ ap (λ n. nas_after n once.moment output) g.at ∙ ap (λ o. nas_after (after nas g.steps) once.moment o) out ∙ sym (after-push nas g.steps step);
      moves = record {
        readings = subst (Adds before now) (sym (map-append (λ (s : Step). s.moment) g.steps (step ∷ []))) (Adds-append g.moves.readings once.readings);
        received =
            subst (Adds s.received u.received) (append-nil (received g.steps ++ option_to_list g.pending) ∙ sym (received-push g.steps step))
            (Adds-append g.moves.received (Adds-same once.received));
        handed =
            subst (Adds s.handed u.handed) (ap (λ p. sent place nas g.steps ++ sent_by place p output) packet ∙ ap (λ o. sent place nas g.steps ++ sent_by place nas.packet o) out ∙ sym (sent-push place nas g.steps step))
            (Adds-append g.moves.handed once.handed);
      };
      on = λ on. GoesOn-push nas g.steps step g.on (ap goes_on (sym out) ∙ on);
      ends = λ over. Ends-push nas g.steps step g.on (ap goes_on (sym out) ∙ over);
      answer = answer-push nas g.steps step g.on ∙ ap (λ o. answer_by o (octets_got g.pending) None) (sym out) ∙ ap (λ r. answer_by output r None) (sym same);
    }

begins-longer : (steps : List Step) (step : Step) → BeginsWithNone steps → BeginsWithNone (steps ++ step ∷ [])
begins-longer [] step begins = absurd begins
begins-longer (first ∷ steps) step begins = begins

pub going-look : {place : Target} {nas here : NasParts} {output : NasOutput} {got before now : Option (List ℕ)} {s t : Socket} (count : Option ℕ) (buf : List ℕ) (u : Socket)
    → (g : Stepped place nas here output got before now s t) → goes_on output ≡ true → Looks count t u buf → Going place nas here count buf before now s u
going-look {place} {nas} {here} {output} {got} {before} {now} {s} {t} count buf u g on looks = record {
  steps = g.steps;
  pending = looks.got;
  begins = λ step is. begins-longer g.steps step g.begins;
  on = g.on on;
  at = g.at;
  octets = looks.octets;
  within = looks.within;
  moves = record {
    readings = g.moves.readings;
    received = Adds-append g.moves.received looks.received;
    handed = subst (Adds s.handed u.handed) (append-nil (sent place nas g.steps)) (Adds-append g.moves.handed (Adds-same looks.handed));
  };
}

-- ---- at the end

asks-one : {before now : Option (List ℕ)} {s t : Socket} (place : Target) (nas : NasParts) (patience : ℕ) (packet : List ℕ) (steps : List Step) → nas ≡ fresh packet patience
    → Moves (between before now s t) (moments steps) (received steps) (sent place nas steps) → Asks place patience (asked packet steps ∷ []) (between before now s t)
asks-one {before} {now} {s} {t} place nas patience packet steps is moves =
    let one : Asked = asked packet steps in
    record {
      readings = subst (Adds before now) (sym (one-of (λ (a : Asked). moments a.steps) one)) moves.readings;
      received = subst (Adds s.received t.received) (sym (one-of (λ (a : Asked). received a.steps) one)) moves.received;
      handed =
          subst (Adds s.handed t.handed) (ap (λ n. sent place n steps) is ∙ sym (one-of (λ (a : Asked). sent place (fresh a.packet patience) a.steps) one))
          moves.handed;
    }

ends-ok : {place : Target} {nas here : NasParts} {got before now : Option (List ℕ)} {s t : Socket} (output : NasOutput) (count : Option ℕ) (buf : List ℕ)
    → (g : Stepped place nas here output got before now s t) → goes_on output ≡ false → answer_by output got None ≡ option_map (λ n. take n buf) count → IfSome count (λ n. n ≤ length buf)
    → (patience : ℕ) (packet : List ℕ) → nas ≡ fresh packet patience → StepsToEnd (asker place patience packet) count (between before now s t) buf
ends-ok {place} {nas} {here} {got} {before} {now} {s} {t} output count buf g over is within patience packet made = record {
  steps = g.steps;
  answered = record { begins = g.begins; ends = subst (λ n. Ends n g.steps) made (g.ends over) };
  told = asks-one place nas patience packet g.steps made g.moves;
  answer = ap (λ n. answer_in n g.steps) (sym made) ∙ g.answer ∙ is;
  within = within;
}

pub ends-reply : {place : Target} {nas here : NasParts} {got before now : Option (List ℕ)} {s t : Socket} (output : NasOutput) (count : Option ℕ) (buf : List ℕ)
    → (g : Stepped place nas here output got before now s t) → output ≡ Reply → got ≡ option_map (λ n. take n buf) count → IfSome count (λ n. n ≤ length buf)
    → (patience : ℕ) (packet : List ℕ) → nas ≡ fresh packet patience → StepsToEnd (asker place patience packet) count (between before now s t) buf
ends-reply {got = got} output count buf g is octets within =
    ends-ok output count buf g (ap goes_on is) (ap (λ o. answer_by o got None) is ∙ octets) within

pub ends-none : {place : Target} {nas here : NasParts} {got before now : Option (List ℕ)} {s t : Socket} (output : NasOutput) (buf : List ℕ)
    → (g : Stepped place nas here output got before now s t) → output ≡ GaveUp
    → (patience : ℕ) (packet : List ℕ) → nas ≡ fresh packet patience → StepsToEnd (asker place patience packet) None (between before now s t) buf
ends-none {got = got} output buf g is = ends-ok output None buf g (ap goes_on is) (ap (λ o. answer_by o got None) is) tt

none-got : (got : Option Datagram) → octets_got got ≡ None → got ≡ None
none-got None e = refl
none-got (Some d) e = cc

pub ends-err : {place : Target} {nas here : NasParts} {output : NasOutput} {got before now : Option (List ℕ)} {s t : Socket} (count : Option ℕ) (buf : List ℕ) (u : Socket)
    → (g : Stepped place nas here output got before now s t) → goes_on output ≡ true → Looks count t u buf → count ≡ None
    → (patience : ℕ) (packet : List ℕ) → nas ≡ fresh packet patience → BreaksOff (asker place patience packet) (between before now s u)
ends-err {place} {nas} {here} {output} {got} {before} {now} {s} {t} count buf u g on looks none patience packet made =
    let nothing : looks.got ≡ None = none-got looks.got (looks.octets ∙ ap (option_map (λ n. take n buf)) none) in
    record {
      steps = g.steps;
      unanswered = record { begins = g.begins; goes_on = subst (λ n. GoesOn n g.steps) made (g.on on) };
      told = asks-one place nas patience packet g.steps made (record {
        readings = g.moves.readings;
        received =
            subst (Adds s.received u.received) (ap (λ d. received g.steps ++ option_to_list d) nothing ∙ append-nil (received g.steps))
            (Adds-append g.moves.received looks.received);
        handed = subst (Adds s.handed u.handed) (append-nil (sent place nas g.steps)) (Adds-append g.moves.handed (Adds-same looks.handed));
      });
    }
