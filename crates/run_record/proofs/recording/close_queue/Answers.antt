use Rattle.std.proofs.Common.{◌++◌, append-nil, length, sym, ap, ◌∙◌, subst}
use Rattle.turnstile.specs.Passes.{known}
use Rattle.turnstile.specs.Turns.{Numbered, StartsWith, of, plain}
use Rattle.run_record.specs.Queues.{HoldsFor, puts, takes}
use Rattle.run_record.proofs.RecordingLemmas.{all-numbers, still-carries, taken-begins, taken-unstopped, taken-whole}
use Rattle.run_record.proofs.recording.close_queue.Goals as goal

pub close-queue-requires-clause-all : goal.close-queue-requires-clause-all
close-queue-requires-clause-all c =
    ap length (all-numbers _ _ c.sender.inside.pass c.args.theirs (known c.join.new.pass) c.sender.invariant c.requires.0 c.join.ensures.joined)

pub returns-clause-begins : goal.returns-clause-begins
returns-clause-begins c =
    let joined = known c.join.new.pass in
    let j = c.join.ensures.joined in
    let turns = c.close-queue.ensures.turns in
    let desk = c.close-queue.result.0 in
    let carries = still-carries _ _ c.sender.inside.pass c.args.theirs joined c.sender.invariant c.requires.0 j in
    let h = subst (λ ts. HoldsFor desk (plain ts)) turns.0 (c.close-queue.ensures.stands tt carries) in
    let given = puts (of 0 (known c.sender.inside.pass).seen) in
    let none = ap (λ s. s.held) c.sender.view_is ∙ c.requires.1 in
    let told = sym (ap (λ held. given ++ held) none ∙ append-nil given) ∙ ap (λ s. s.told) c.sender.view_is in
    subst (λ told. StartsWith told (takes (of 3 (known c.args.theirs).seen))) told
    (taken-begins _ _ c.sender.inside.pass c.args.theirs joined c.sender.invariant c.requires.0 j desk (subst Numbered turns.0 turns.1) h)

pub returns-clause-whole : goal.returns-clause-whole
returns-clause-whole c = λ none.
    let joined = known c.join.new.pass in
    let j = c.join.ensures.joined in
    let turns = c.close-queue.ensures.turns in
    let desk = c.close-queue.result.0 in
    let carries = still-carries _ _ c.sender.inside.pass c.args.theirs joined c.sender.invariant c.requires.0 j in
    let h = subst (λ ts. HoldsFor desk (plain ts)) turns.0 (c.close-queue.ensures.stands tt carries) in
    let (closed, empty) = c.first_lost.ensures none in
    let given = puts (of 0 (known c.sender.inside.pass).seen) in
    let held = ap (λ s. s.held) c.sender.view_is ∙ c.requires.1 in
    sym (ap (λ s. s.told) c.sender.view_is) ∙ ap (λ held. given ++ held) held ∙ append-nil given
    ∙ taken-whole _ _ c.sender.inside.pass c.args.theirs joined c.sender.invariant c.requires.0 j desk (subst Numbered turns.0 turns.1) h closed empty

pub returns-clause-unstopped : goal.returns-clause-unstopped
returns-clause-unstopped c = λ none.
    let joined = known c.join.new.pass in
    let j = c.join.ensures.joined in
    let turns = c.close-queue.ensures.turns in
    let desk = c.close-queue.result.0 in
    let carries = still-carries _ _ c.sender.inside.pass c.args.theirs joined c.sender.invariant c.requires.0 j in
    let h = subst (λ ts. HoldsFor desk (plain ts)) turns.0 (c.close-queue.ensures.stands tt carries) in
    taken-unstopped _ _ c.sender.inside.pass c.args.theirs joined c.sender.invariant c.requires.0 j desk h (c.first_lost.ensures none).0
