use Rattle.std.proofs.Common.{◌≡◌, ◌∙◌, ◌&&◌, true, false, nat_lt, not, ap, sym, arith}
use Rattle.pending_table.specs.Stores.{is_live}
use Rattle.pending_table.proofs.Dropping.{first_waits}
use Rattle.pending_table.proofs.stores.Stores.is_first_waiting_dead.Goals as goal

pub returns-then-serial-self : goal.returns-then-serial-self
returns-then-serial-self c =
    let s = c.args.self.now in
    let told = first_waits s c.args.moment c.in-Some.serial.now c.in-Some.row.now s.waiting.entries c.requires.rising c.in-Some.ensures.first in
    let below : nat_lt c.in-Some.serial.now s.next ≡ true = grind (arith, c.if-serial-self.true) in
    sym (told ∙ ap (λ b. b && not (is_live s c.args.moment c.in-Some.row.now)) below ∙ ap not (sym c.is_live.ensures))

pub returns-else-serial-self : goal.returns-else-serial-self
returns-else-serial-self c =
    let s = c.args.self.now in
    let told = first_waits s c.args.moment c.in-Some.serial.now c.in-Some.row.now s.waiting.entries c.requires.rising c.in-Some.ensures.first in
    let past : nat_lt c.in-Some.serial.now s.next ≡ false = grind (arith, c.if-serial-self.false) in
    past ∙ sym (told ∙ ap (λ b. b && not (is_live s c.args.moment c.in-Some.row.now)) past)
