-- A password without the zeros at its end is no longer than with them.
use Rattle.std.proofs.Common.{sym, arith}
use Rattle.std.proofs.lemmas.List.{length-take-le}
use Rattle.access_map.proofs.PieceLemmas.{trimmed-length}
use Rattle.access_map.proofs.passwords.put_password.Goals as goal

pub slice_bounds-put_with_room-end : goal.slice_bounds-put_with_room-end
slice_bounds-put_with_room-end c =
    sym (length-take-le c.in-Ok.length c.unhide.new.value (omega (arith, c.in-Ok.ensures.length, trimmed-length c.unhide.new.value)))
