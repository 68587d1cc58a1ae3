use Rattle.std.proofs.Common.{◌≡◌, ap, ◌∙◌, unwrap_or}
use Rattle.wire_devices.specs.Forms.{moment_at}
use Rattle.wire_devices.proofs.ClockLaws.{readings-next}
use Rattle.wire_devices.proofs.times.MemoryClockClock.now.Goals as goal

pub returns-clause-readings : goal.returns-clause-readings
returns-clause-readings c =
    let moments = c.self.inside.moments.items in
    rw (← c.self.view_is) (readings-next moments c.self.inside.reads c.counted_on-self-inside.result c.moment_at.result c.counted_on-self-inside.ensures (λ n told.
    c.moment_at.ensures ∙ ap (λ ms. moment_at ms c.unwrap_or-place.result) c.deref.ensures.value ∙ ap (moment_at moments) (c.unwrap_or-place.ensures ∙ ap (λ r. unwrap_or r 18446744073709551615) told)))
