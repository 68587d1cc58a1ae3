use Rattle.std.proofs.Common.{ap, ◌∙◌, ◌%◌}
use Rattle.diameter_message.proofs.MessageLemmas.{read_message-ok}
use Rattle.diameter_message.proofs.laws.frames_are_read.Goals as goal

pub returns : goal.returns
returns c = λ octets is.
    read_message-ok octets is.least is.version is.counted (ap (λ n. n % 4) is.counted ∙ is.words)
