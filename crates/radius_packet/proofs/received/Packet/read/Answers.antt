use Rattle.std.proofs.Common.{◌≡◌, Err, sym, ap, ◌∙◌, arith}
use Rattle.std.proofs.lemmas.Result.{err_from_is_err_and}
use Rattle.radius_packet.specs.Packet.{length_field}
use Rattle.radius_packet.proofs.Packets.{reads_short, reads_low, reads_high, reads_cut, accepted, refused}
use Rattle.radius_packet.proofs.received.Packet.read.Goals as goal
use Rattle.radius_packet.proofs.received.Packet.read.Goals.{then-length-lt-HEADER-via-then-length-lt-HEADER, then-length-lt-HEADER-via-else-length-lt-HEADER+then-length-gt-MOST}

pub returns-then-octets-lt-HEADER-clause-exact : goal.returns-then-octets-lt-HEADER-clause-exact
returns-then-octets-lt-HEADER-clause-exact c = sym (reads_short c.args.octets.now c.if-octets-lt-HEADER.true)

pub returns-then-length-lt-HEADER-clause-exact : goal.returns-then-length-lt-HEADER-clause-exact
returns-then-length-lt-HEADER-clause-exact c =
    let field : c.get_u16-length.result ≡ length_field c.args.octets.now = c.get_u16-length.ensures in
    elim c.then-length-lt-HEADER.branch [
      | then-length-lt-HEADER-via-then-length-lt-HEADER w ↦ sym (reads_low c.args.octets.now (omega arith) (omega arith))
      | then-length-lt-HEADER-via-else-length-lt-HEADER+then-length-gt-MOST w ↦ sym (reads_high c.args.octets.now (omega arith) (omega arith) (omega arith))
    ]

pub returns-then-octets-length-clause-exact : goal.returns-then-octets-length-clause-exact
returns-then-octets-length-clause-exact c =
    let field : c.get_u16-length.result ≡ length_field c.args.octets.now = c.get_u16-length.ensures in
    sym (reads_cut c.args.octets.now (omega arith) (omega arith) (omega arith) (omega arith))

pub returns-in_err-check_attributes-clause-exact : goal.returns-in_err-check_attributes-clause-exact
returns-in_err-check_attributes-clause-exact c =
    let p = err_from_is_err_and c.from_residual.result c.from_residual.ensures.1 in
    p.1 ∙ ap Err p.2 ∙ sym (refused c.args.octets.now c.get_u16-length.result _ c.get_u16-length.ensures (omega arith) (omega arith) (omega arith) c.in_err-check_attributes.ensures)

pub invariant_of-result : goal.invariant_of-result
invariant_of-result c = (accepted c.args.octets.now c.get_u16-length.result (λ i. omega (arith, c.type_inv.octets i)) c.get_u16-length.ensures (omega arith) (omega arith) (omega arith) c.in_ok-check_attributes.ensures).packet

pub returns-clause-found : goal.returns-clause-found
returns-clause-found c = (accepted c.args.octets.now c.get_u16-length.result (λ i. omega (arith, c.type_inv.octets i)) c.get_u16-length.ensures (omega arith) (omega arith) (omega arith) c.in_ok-check_attributes.ensures).found

pub returns-clause-exact : goal.returns-clause-exact
returns-clause-exact c = sym (accepted c.args.octets.now c.get_u16-length.result (λ i. omega (arith, c.type_inv.octets i)) c.get_u16-length.ensures (omega arith) (omega arith) (omega arith) c.in_ok-check_attributes.ensures).read
