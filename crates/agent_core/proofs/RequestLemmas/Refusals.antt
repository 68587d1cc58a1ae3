-- What a refusal that isn't there says.
use Rattle.std.proofs.Common.{◌≡◌, ◌≢◌, ◌+◌, ◌≤◌, Bool, true, false, cond, ◌||◌, not, Option, Some, None, refl, max}
use Rattle.std.specs.Prelude.{◌==◌}
use Rattle.radius_packet.specs.declared.reasons.Reason.TheVariants.{LinkDown, Spent, Full, Backlog}
use Rattle.std.proofs.lemmas.Bool.{not-false, ltb-false, eqb-false}
use Rattle.agent_settings.specs.declared.config.Config.{Config}
use Rattle.agent_core.specs.Places.{is_serving}
use Rattle.agent_core.specs.Rooms.{Rooms, refusal, is_out_of_numbers, is_backed_up}

pub record Admits (config : Config) (r : Rooms) : Type 0 where
  pub serving : is_serving r.phase ≡ true
  pub used : r.used + r.waiting + 2 ≤ 2147483648
  pub serial : r.serial ≢ 18446744073709551615
  pub live : r.live ≢ config.capacity
  pub backlog : max r.outbox r.waiting + r.waiting + 2 ≤ config.backlog

none-of : {X : Type 0} (b : Bool) (x : X) (o : Option X) → cond b (Some x) o ≡ None → (b ≡ false) × (o ≡ None)
none-of true x o e = absurd (cc)
none-of false x o e = (refl, e)

or-false : (a b : Bool) → (a || b) ≡ false → (a ≡ false) × (b ≡ false)
or-false true b e = absurd (cc)
or-false false b e = (refl, e)

pub refusal-none : (config : Config) (r : Rooms) → refusal config r ≡ None → Admits config r
refusal-none config r e =
    let down = none-of (not (is_serving r.phase)) LinkDown _ e in
    let spent = none-of (is_out_of_numbers r) Spent _ down.1 in
    let full = none-of (r.live == config.capacity) Full _ spent.1 in
    let crowded = none-of (is_backed_up config r) Backlog None full.1 in
    let both = or-false _ _ spent.0 in
    record {
      serving = not-false _ down.0;
      used = ltb-false _ _ both.0;
      serial = eqb-false _ _ both.1;
      live = eqb-false _ _ full.0;
      backlog = ltb-false _ _ crowded.0;
    }
