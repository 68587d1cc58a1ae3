use Rattle.std.proofs.Common.{◌≡◌, ◌+◌, ◌-◌, ◌<◌, ◌≤◌, false, length, take, drop, ap, sym, ◌∙◌, rules, arith}
use Rattle.wire_devices.specs.Forms.{is_quiet}
use Rattle.wire_devices.proofs.LinkLaws.{brought, not-quiet}
use Rattle.wire_devices.proofs.links_in_memory.SteadyLinkInLinkIn.receive.Goals as goal

pub returns-clause-hears : goal.returns-clause-hears
returns-clause-hears c =
    let octets = c.self.inside.octets.items in
    let place = c.self.inside.place in
    let n = c.min-count.result in
    let look = c.next_look-look.result in
    let exact : place + n - place ≡ n = omega arith in
    let front = c.copy_from_slice.ensures.after ∙ ap (λ m. take m (drop place c.deref.result.now)) exact ∙ ap (λ xs. take n (drop place xs)) c.deref.ensures.value in
    let loud : is_quiet look ≡ false = sym c.is_quiet.ensures ∙ c.if-is_quiet.false in
    let rest : 0 < c.len.result - place = search rules in
    let most : 0 < c.unwrap_or.result = search (rules, not-quiet look (c.len.result - place) loud rest) in
    let room : 0 < length c.args.buf.now = search rules in
    let some : 0 < n = omega (arith, most, rest, room, c.min.ensures, c.min-count.ensures) in
    rw (← c.self.view_is) (brought octets c.args.buf.now c.copy_from_slice.new.self place n c.self.inside.looks.items c.next_look-look.new.looks.items c.self.inside.idle c.self.inside.ends c.self.inside.number (search rules) (search rules) some front)
