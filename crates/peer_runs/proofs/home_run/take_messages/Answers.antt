use Rattle.std.proofs.Common.{ℕ, ◌≤◌, List, [], Some, None, ◌∙◌, subst, arith}
use Rattle.diameter_message.specs.declared.next.Next.{Next}
use Rattle.test_peers.specs.declared.users.User.{User}
use Rattle.peer_runs.specs.HomeRuns.{Takes, answer_octets, command_line}
use Rattle.peer_runs.proofs.HomeRunLemmas.{Gives, stops-broken, stops-wanting, taken, takes-part, takes-whole, waits}
use Rattle.peer_runs.proofs.home_run.take_messages.Goals as goal

pub returns-in-Err-clause-answers : goal.returns-in-Err-clause-answers
returns-in-Err-clause-answers g c = λ inlet before s.
    stops-wanting c.args.home.now inlet before [] c.loop.framer (g.O.LinkOut.told c.loop.link) (g.K.Sink.written c.loop.output) (c.loop.invariant.answers inlet before s)

pub returns-in-Ok-Wait-clause-answers : goal.returns-in-Ok-Wait-clause-answers
returns-in-Ok-Wait-clause-answers g c = λ inlet before s.
    let framer = c.loop.framer in
    let framer' = c.next_message.new.self in
    let gives = subst (λ (n : Next). Gives n framer framer') c.in-Ok-Wait.field-0-is (record { stands = c.in-Ok-Wait.ensures.stands; fits = c.in-Ok-Wait.ensures.stream }) in
    waits c.args.home.now inlet before framer framer' (g.O.LinkOut.told c.loop.link) (g.K.Sink.written c.loop.output) gives (c.loop.invariant.answers inlet before s)

pub returns-in-Ok-Fault-clause-answers : goal.returns-in-Ok-Fault-clause-answers
returns-in-Ok-Fault-clause-answers g c = λ inlet before s.
    let framer = c.loop.framer in
    let framer' = c.next_message.new.self in
    let gives = subst (λ (n : Next). Gives n framer framer') c.in-Ok-Fault.field-0-is (record { stands = c.in-Ok-Fault.ensures.stands; fits = c.in-Ok-Fault.ensures.stream }) in
    stops-broken c.args.home.now inlet before framer framer' _ (g.O.LinkOut.told c.loop.link) (g.K.Sink.written c.loop.output) gives (c.loop.invariant.answers inlet before s)

pub returns-in-Some-take_message-clause-answers : goal.returns-in-Some-take_message-clause-answers
returns-in-Some-take_message-clause-answers g c = λ inlet before s.
    let framer = c.loop.framer in
    let framer' = c.next_message.new.self in
    let old = g.O.LinkOut.told c.loop.link in
    let new = g.O.LinkOut.told c.take_message.new.link in
    let then = g.K.Sink.written c.loop.output in
    let now = g.K.Sink.written c.take_message.new.output in
    let gives = subst (λ (n : Next). Gives n framer framer') c.in-Ok-Message.field-0-is (record { stands = c.in-Ok-Message.ensures.stands; fits = c.in-Ok-Message.ensures.stream }) in
    let takes = subst (λ (m : List ℕ). Takes (Some c.in-Some-take_message.status) (answer_octets c.loop.home m) (command_line c.loop.home m) (taken old new then now))
    c.as_slice.ensures c.in-Some-take_message.ensures.takes in
    takes-part c.args.home.now inlet before framer framer' c.in-Ok-Message.message c.in-Some-take_message.status old new then now gives
    (subst (λ (us : List User). Takes (Some c.in-Some-take_message.status) (answer_octets us c.in-Ok-Message.message) (command_line us c.in-Ok-Message.message) (taken old new then now))
    c.loop.invariant.users takes)
    (c.loop.invariant.answers inlet before s)

pub loop-preserved : goal.loop-preserved
loop-preserved g c =
    let framer = c.loop.framer in
    let framer' = c.next_message.new.self in
    let old = g.O.LinkOut.told c.loop.link in
    let new = g.O.LinkOut.told c.take_message.new.link in
    let then = g.K.Sink.written c.loop.output in
    let now = g.K.Sink.written c.take_message.new.output in
    let gives = subst (λ (n : Next). Gives n framer framer') c.in-Ok-Message.field-0-is (record { stands = c.in-Ok-Message.ensures.stands; fits = c.in-Ok-Message.ensures.stream }) in
    let takes = subst (λ (m : List ℕ). Takes None (answer_octets c.loop.home m) (command_line c.loop.home m) (taken old new then now))
    c.as_slice.ensures c.in_default.ensures.takes in
    let faults : g.K.Sink.faults c.args.output.now ≤ g.K.Sink.faults c.take_message.new.output = omega (arith, c.loop.invariant.faults, c.take_message.ensures.faults_stay) in
    record {
      users = c.take_message.ensures.users ∙ c.loop.invariant.users;
      faults = faults;
      answers = λ inlet before s.
          takes-whole c.args.home.now inlet before framer framer' c.in-Ok-Message.message old new then now gives
          (subst (λ (us : List User). Takes None (answer_octets us c.in-Ok-Message.message) (command_line us c.in-Ok-Message.message) (taken old new then now))
          c.loop.invariant.users takes)
          (c.loop.invariant.answers inlet before s);
    }
