use Rattle.std.proofs.Common.{◌≡◌, ◌∙◌, ap, sym, subst, true}
use Rattle.std.specs.Prelude.{IsSome}
use Rattle.diameter_message.specs.declared.header.Header.{Header}
use Rattle.diameter_message.specs.View.{message_view}
use Rattle.radius_packet.specs.Checks.{is_reply_right}
use Rattle.reverse_map.specs.Asked.{asked_of, request_in}
use Rattle.reverse_map.specs.Answers.{is_reply_code}
use Rattle.reverse_core.specs.History.{authenticator_of}
use Rattle.reverse_core.proofs.ConsiderLemmas.{some-of}
use Rattle.reverse_core.proofs.ReplyLemmas.{answered-yes, asked-header, message-long}
use Rattle.reverse_core.proofs.ledger.Ledger.answered.Goals as goal

pub returns : goal.returns
returns c =
    let own = c.args.self.now.own in
    let t = c.args.taken.now in
    let p = c.args.packet.now in
    let octets = c.as_slice-request.result.now in
    let found = some-of _ (subst (λ l. IsSome (request_in l)) (sym c.as_slice-request.ensures.value) c.as_slice-request.ensures.asks) in
    let q = found.0 in
    let header = asked-header (message_view c.in-Ok.message) q (ap asked_of c.in-Ok.ensures.exact ∙ found.1) in
    let right : is_reply_right own.secret (authenticator_of t.sent) p ≡ true =
    ap (λ s. is_reply_right s (authenticator_of t.sent) p) (sym c.as_slice.ensures) ∙ ap (λ a. is_reply_right c.as_slice.result.now a p) (sym c.authenticator_of-authenticator.ensures)
    ∙ sym c.check_reply.ensures.exact ∙ c.if-not-check_reply.false in
    let code : is_reply_code q.header p.code ≡ true =
    ap (λ (h : Header). is_reply_code h p.code) header ∙ ap (is_reply_code c.in-Ok.message.header) (sym c.code.ensures) ∙ sym c.is_reply_code.ensures ∙ c.if-not-is_reply_code.false in (
      answered-yes own t p (request_in t.request) q c.in_ok-answer.field-0 (ap request_in (sym c.as_slice-request.ensures.value) ∙ found.1) right code
          (c.in_ok-answer.ensures.exact q found.1),
      message-long (c.in_ok-answer.ensures.message q found.1),
    )
