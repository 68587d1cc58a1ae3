use Rattle.std.proofs.Common.{◌≡◌, ◌-◌, ◌∙◌, ap, subst, sym}
use Rattle.std.specs.Prelude.{OnOk}
use Rattle.count_command.specs.Hits.{answer_hit, answer_hits, cause_hits, time_hits}
use Rattle.count_command.specs.Tally.{with_hits}
use Rattle.count_command.proofs.TallyLemmas.{two-lists-behind}
use Rattle.count_command.proofs.answers.count_answer.Goals as goal

pub returns : goal.returns
returns c =
    let answer = c.in-Some.answered in
    subst (λ counts. OnOk c.count_times.result (c.count_times.new.counts ≡ counts))
    (ap (λ time. with_hits c.count_cause.new.counts (time_hits answer.command time)) c.saturating_sub-time.ensures
    ∙ two-lists-behind c.args.counts.now c.count_result.new.counts c.count_cause.new.counts
    (answer_hit answer) (cause_hits answer.command answer.cause) (time_hits answer.command (c.args.moment - answer.taken))
    c.in_ok-count_result.ensures c.in_ok-count_cause.ensures
    ∙ ap (λ given. with_hits c.args.counts.now (answer_hits c.args.moment given)) (sym c.in-Some.is))
    c.count_times.ensures
