-- Octets that a look copies out of memory.
use Rattle.std.proofs.Common.{◌≡◌, ℕ, zero, suc, ◌+◌, ◌<◌, ◌≤◌, true, false, List, ◌++◌, length, take, drop, Option, Some, None, unwrap_or, refl, sym, ap, ◌∙◌, arith, length-append, length-drop}
use Rattle.std.proofs.lemmas.List.{drop-drop, length-take-le, take-append-drop, take_at}
use Rattle.std.proofs.Math.Seq.{take-add}
use Rattle.wire_core.specs.Counts.{one_more}
use Rattle.wire_core.specs.Source.{Consumes}
use Rattle.wire_devices.specs.declared.devices.LinkGot.{LinkGot}
use Rattle.wire_devices.specs.declared.devices.LinkGot.TheVariants.{Bytes, Nothing, Ended, Failed}
use Rattle.wire_devices.specs.Forms.{Stream, is_quiet, told_of_stream}
use Rattle.wire_devices.specs.Links.{Brought, Hears}
use Rattle.wire_devices.specs.Telling.{Adds}

-- n octets from a place on, at the front of a buffer
pub front-copied : (octets buf front : List ℕ) (place n : ℕ) → place + n ≤ length octets → front ≡ take n (drop place octets)
    → take n (front ++ drop n buf) ≡ take n (drop place octets)
front-copied octets buf front place n inside is =
    let long : length front ≡ n = ap length is ∙ length-take-le n (drop place octets) (omega (arith, length-drop place octets)) in
    take_at front (drop n buf) n long ∙ is

-- they are the first of those that were left
pub left-copied : (octets : List ℕ) (place n : ℕ) → Consumes (Some (drop place octets)) (Some (drop (place + n) octets)) (take n (drop place octets))
left-copied octets place n =
    record { front = ap Some (sym (ap (λ xs. take n (drop place octets) ++ xs) (sym (drop-drop n place octets)) ∙ take-append-drop n (drop place octets))) }

-- and the next of those that were received
pub received-copied : (octets : List ℕ) (place n : ℕ) → Adds (Some (take place octets)) (Some (take (place + n) octets)) (take n (drop place octets))
received-copied octets place n = record { still = λ ys told. ap Some (sym (take-add place n octets)) ∙ told }

-- what a look brought
pub brought : (octets buf front : List ℕ) (place n : ℕ) (looks looks' : List ℕ) (idle : Option ℕ) (ends : ℕ) (number : Option ℕ)
    → place + n ≤ length octets → n ≤ length buf → 0 < n → front ≡ take n (drop place octets)
    → Brought n
    (told_of_stream (record { received = take place octets; left = drop place octets; looks = looks; idle = idle; ends = ends; number = number }) 0)
    (told_of_stream (record { received = take (place + n) octets; left = drop (place + n) octets; looks = looks'; idle = idle; ends = ends; number = number }) 0)
    (front ++ drop n buf)
brought octets buf front place n looks looks' idle ends number inside room some is =
    let copied = front-copied octets buf front place n inside is in
    let long : length front ≡ n = ap length is ∙ length-take-le n (drop place octets) (omega (arith, length-drop place octets)) in
    record {
      within = omega (arith, long, length-append front (drop n buf));
      received = rw copied (received-copied octets place n);
      left = rw copied (left-copied octets place n);
      end = λ none _. absurd (omega arith);
      ends = record { rises = λ none. absurd (omega arith); stays = λ _. refl; never_falls = omega arith };
      idle = refl;
      faults = refl;
      number = refl;
    }

wrong : true ≡ false → ⊥
wrong e = cc

-- a look that may find something finds it where something is left
pub not-quiet : (look : Option ℕ) (rest : ℕ) → is_quiet look ≡ false → 0 < rest → 0 < unwrap_or look rest
not-quiet None rest loud some = some
not-quiet (Some zero) rest loud some = absurd (wrong loud)
not-quiet (Some (suc n)) rest loud some = omega arith

none_rose : 0 ≡ one_more 0 → ⊥
none_rose e = omega arith

-- a receive that didn't fail, whatever failed before
pub hears-counted : (got : LinkGot) (s t : Stream) (faults : ℕ) (buf : List ℕ)
    → Hears got (told_of_stream s 0) (told_of_stream t 0) buf → Hears got (told_of_stream s faults) (told_of_stream t faults) buf
hears-counted (Bytes n) s t faults buf came =
    record { within = came.within; received = came.received; left = came.left; end = came.end; ends = came.ends; idle = came.idle; faults = refl; number = came.number }
hears-counted Nothing s t faults buf none =
    record { quiet = none.quiet; idle = none.idle; received = none.received; left = none.left; ends = none.ends; faults = refl; number = none.number }
hears-counted Ended s t faults buf ended =
    record { end = ended.end; ends = ended.ends; received = ended.received; left = ended.left; idle = ended.idle; faults = refl; number = ended.number }
hears-counted Failed s t faults buf failed = absurd (none_rose failed.faults)
