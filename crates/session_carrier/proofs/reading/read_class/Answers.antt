use Rattle.std.proofs.Common.{Bool, Some, None, sym, ◌∙◌, ap}
use Rattle.std.specs.Prelude.{option_copied, cond}
use Rattle.session_carrier.proofs.CarrierLemmas.{read_class-none, read_class-behind, reads_class}
use Rattle.session_carrier.proofs.reading.read_class.Goals as goal

pub returns-in_err-session : goal.returns-in_err-session
returns-in_err-session c =
    let value = c.args.value.now in
    let none = read_class-none value (sym c.in_err-session.ensures) in
    let all = reads_class c.from_residual.result value (ap option_copied c.from_residual.ensures ∙ sym none) in
    record { exact = all.exact; found = all.found; only = all.only }

pub returns-then-is_session_text : goal.returns-then-is_session_text
returns-then-is_session_text c =
    let value = c.args.value.now in
    let behind = read_class-behind value _ (sym c.in_ok-session.ensures) in
    let shown = ap (λ (b : Bool). cond b (Some c.in_ok-session.session.now) None) c.if-is_session_text.ensures in
    let all = reads_class (Some c.in_ok-session.session) value (shown ∙ sym behind) in
    record { exact = all.exact; found = all.found; only = all.only }

pub returns-else-is_session_text : goal.returns-else-is_session_text
returns-else-is_session_text c =
    let value = c.args.value.now in
    let behind = read_class-behind value _ (sym c.in_ok-session.ensures) in
    let hidden = ap (λ (b : Bool). cond b (Some c.in_ok-session.session.now) None) c.if-is_session_text.ensures in
    let all = reads_class None value (hidden ∙ sym behind) in
    record { exact = all.exact; found = all.found; only = all.only }
