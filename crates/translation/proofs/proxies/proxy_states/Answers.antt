-- What is the text of attributes is read as whole attributes.
use Rattle.std.proofs.Common.{◌≡◌, rules}
use Rattle.radius_packet.specs.Packet.{attributes_text}
use Rattle.translation.specs.Judging.{proxy_states}
use Rattle.translation.proofs.ProxyLemmas.{are_whole}
use Rattle.translation.proofs.proxies.proxy_states.Goals as goal

pub returns-clause-whole : goal.returns-clause-whole
returns-clause-whole c =
    let text : c.from_vec.result ≡ attributes_text (proxy_states c.args.packet.now.attributes) = search rules in
    are_whole c.from_vec.result (proxy_states c.args.packet.now.attributes) text
