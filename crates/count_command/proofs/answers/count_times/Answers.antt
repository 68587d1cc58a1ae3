use Rattle.std.proofs.Common.{◌≡◌, subst}
use Rattle.std.specs.Prelude.{OnOk}
use Rattle.count_command.specs.Hits.{count_hit, long_bucket_hits, short_bucket_hits, sum_hit}
use Rattle.count_command.proofs.TallyLemmas.{two-behind}
use Rattle.count_command.proofs.answers.count_times.Goals as goal

pub returns : goal.returns
returns c =
    let command = c.args.command in
    let time = c.args.time in
    subst (λ counts. OnOk c.count_time.result (c.count_time.new.counts ≡ counts))
    (two-behind c.args.counts.now c.count_short_buckets.new.counts c.count_long_buckets.new.counts c.count_sum.new.counts
    (short_bucket_hits command time) (long_bucket_hits command time) (sum_hit command time) (count_hit command)
    c.in_ok-count_short_buckets.ensures c.in_ok-count_long_buckets.ensures c.in_ok-count_sum.ensures)
    c.count_time.ensures
