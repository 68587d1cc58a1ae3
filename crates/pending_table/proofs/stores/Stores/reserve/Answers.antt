use Rattle.std.proofs.Common.{◌≡◌, ◌+◌, ◌∙◌, nat_lt, refl, arith, ap, sym, length}
use Rattle.std.proofs.lemmas.List.{length-append}
use Rattle.pending_table.proofs.Entering.{kept-room, filter_short}
use Rattle.pending_table.proofs.stores.Stores.reserve.Goals as goal

pub returns-in_err-reserve-clause-kept : goal.returns-in_err-reserve-clause-kept
returns-in_err-reserve-clause-kept c =
    let s = c.args.self.now in
    kept-room s c.reserve.new.self s.numbers s.settled c.requires c.in_err-reserve.ensures.entries refl refl (omega arith)

pub returns-in_err-reserve-2-clause-kept : goal.returns-in_err-reserve-2-clause-kept
returns-in_err-reserve-2-clause-kept c =
    let s = c.args.self.now in
    kept-room s c.reserve.new.self c.reserve-2.new.self s.settled c.requires c.reserve.ensures.entries c.reserve-2.ensures.entries refl (omega arith)

pub returns-in_err-reserve-3-clause-kept : goal.returns-in_err-reserve-3-clause-kept
returns-in_err-reserve-3-clause-kept c =
    let s = c.args.self.now in
    kept-room s c.reserve.new.self c.reserve-2.new.self c.reserve-3.new.self c.requires c.reserve.ensures.entries c.reserve-2.ensures.entries c.reserve-3.ensures.items c.reserve-3.ensures.capacity

pub returns-clause-kept : goal.returns-clause-kept
returns-clause-kept c =
    let s = c.args.self.now in
    kept-room s c.reserve.new.self c.reserve-2.new.self c.reserve-3.new.self c.requires c.reserve.ensures.entries c.reserve-2.ensures.entries c.reserve-3.ensures.items c.reserve-3.ensures.capacity

-- the two slices are the list
counted : (c : goal.In_ok-reserve-3) → length c.as_slices.result.0.now + length c.as_slices.result.1.now ≡ length c.args.self.now.settled.items
counted c = sym (length-append c.as_slices.result.0.now c.as_slices.result.1.now) ∙ ap length c.as_slices.ensures.items

pub returns-clause-room : goal.returns-clause-room
returns-clause-room c = record {
  keys = c.in_ok-reserve.ensures.ok;
  numbers = c.in_ok-reserve-2.ensures.ok;
  settled = omega (arith, c.in_ok-reserve-3.ensures.ok, c.reserve-3.ensures.len, c.as_slices.ensures.len, counted c, ap length c.reserve-3.ensures.items, c.len.ensures.len, filter_short (λ p. nat_lt p.0 c.args.self.now.next) c.args.self.now.waiting.entries);
}
