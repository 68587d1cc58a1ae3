use Rattle.std.proofs.Common.{sym}
use Rattle.transcript.proofs.Streams.InputLemmas.{given-all, given-more, is-fault, is-wait, shorter}
use Rattle.transcript.proofs.link_stream.give_messages.Goals as goal

pub loop-octets-smaller : goal.loop-octets-smaller
loop-octets-smaller c =
    let value = rw c.in-Message.is at c.in_ok-octets.ensures.value in
    let now = rw c.in-Message.is at c.in_ok-octets.ensures.ok in
    rw now (shorter c.loop-octets.framer c.in-Message.octets (sym value))

pub loop-octets-preserved : goal.loop-octets-preserved
loop-octets-preserved c = λ stream given stands.
    let so_far = c.loop-octets.invariant stream given stands in
    let stands_now = rw c.in-Message.is at (c.in_ok-octets.ensures.stands stream _ so_far.stands) in
    given-more stream given c.loop-octets.framer c.next_message.new.self c.args.inputs.now c.loop-octets.inputs c.push.new.self c.in-Message.octets so_far stands_now c.in_ok-push-in-Message.ensures.ok

pub returns-in-Wait : goal.returns-in-Wait
returns-in-Wait c = λ stream given stands.
    let so_far = c.loop-octets.invariant stream given stands in
    let now = rw c.in-Wait.is at (c.in_ok-octets.ensures.stands stream _ so_far.stands) in
    given-all stream given c.next_message.new.self c.args.inputs.now c.loop-octets.inputs _
    (record { more = so_far.more; stands = now; inputs = so_far.inputs })
    (is-wait stream _ (λ messages rest fault is. rw c.in-Wait.is at (c.in_ok-octets.ensures.stream stream rest _ messages fault so_far.stands is)))

pub returns-in-Fault : goal.returns-in-Fault
returns-in-Fault c = λ stream given stands.
    let so_far = c.loop-octets.invariant stream given stands in
    let now = rw c.in-Fault.is at (c.in_ok-octets.ensures.stands stream _ so_far.stands) in
    given-all stream given c.next_message.new.self c.args.inputs.now c.loop-octets.inputs _
    (record { more = so_far.more; stands = now; inputs = so_far.inputs })
    (is-fault stream _ c.in-Fault.fault (λ messages rest fault is. rw c.in-Fault.is at (c.in_ok-octets.ensures.stream stream rest _ messages fault so_far.stands is)))
