-- The pieces are the text of the AVP.
use Rattle.std.proofs.Common.{◌≡◌, ◌-◌, length, ap, arith}
use Rattle.diameter_avp.specs.Avps.{padding}
use Rattle.diameter_avp.specs.View.{avp_view}
use Rattle.diameter_avp.proofs.TextLemmas.{padding-header}
use Rattle.diameter_avp.proofs.WriterLemmas.{pieces}
use Rattle.diameter_avp.proofs.append.append_avp.Goals as goal

pub returns : goal.returns
returns c =
    let zeros : c.padded.result - c.args.counted ≡ padding (length c.args.avp.now.body.now) = omega (arith, c.padded.ensures, c.requires.counted, ap padding c.requires.counted, padding-header c.args.avp.now.vendor (length c.args.avp.now.body.now)) in
    cc (zeros, c.requires.counted, pieces c.args.octets.now.items (avp_view c.args.avp.now))
