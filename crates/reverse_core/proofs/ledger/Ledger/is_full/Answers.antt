use Rattle.std.proofs.Common.{◌≡◌, ◌+◌, ◌<◌, ◌∙◌, false, ap, arith, length}
use Rattle.std.specs.Prelude.{is_some, nat_le}
use Rattle.std.specs.List.{list_any}
use Rattle.reverse_core.specs.History.{has_identifier}
use Rattle.reverse_core.specs.Requests.{is_kept}
use Rattle.reverse_core.specs.State.{kept_in, state_of}
use Rattle.reverse_core.proofs.ConsiderLemmas.{filter-short, is_some-copied}
use Rattle.reverse_core.proofs.KnownLemmas.{find-any}
use Rattle.reverse_core.proofs.ledger.Ledger.is_full.Goals as goal

pub overflow_add-len : goal.overflow_add-len
overflow_add-len c =
    let l = c.args.self.now in
    let few = c.requires.few in
    omega (arith, c.len.ensures, c.count.ensures, filter-short (is_kept l.own c.args.moment) l.kept.list)

pub returns-else-len-count-ge-MOST : goal.returns-else-len-count-ge-MOST
returns-else-len-count-ge-MOST c =
    let l = c.args.self.now in
    let os = l.open_ones.list in
    let room : nat_le 4096 (length os + length (kept_in (state_of l) c.args.moment)) ≡ false =
    (let below : c.len.result + c.count.result < 4096 = omega arith in
    let ones : c.len.result ≡ length os = c.len.ensures in
    let kept : c.count.result ≡ length (kept_in (state_of l) c.args.moment) = c.count.ensures in
    grind arith) in
    rw room (c.is_some.ensures ∙ is_some-copied c.find.result ∙ ap is_some c.find.ensures ∙ find-any (has_identifier c.next_identifier.result) os
    ∙ ap (λ id. list_any (has_identifier id) os) c.next_identifier.ensures)
