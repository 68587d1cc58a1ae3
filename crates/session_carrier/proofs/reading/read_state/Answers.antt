use Rattle.std.proofs.Common.{sym, ◌∙◌, ap}
use Rattle.std.specs.Prelude.{option_map}
use Rattle.session_carrier.specs.Carriers.{carried_view}
use Rattle.session_carrier.proofs.CarrierLemmas.{read_state-none, read_state-uncut, read_state-half, read_state-cut, reads_state}
use Rattle.session_carrier.proofs.reading.read_state.Goals as goal

pub returns-in_err-text : goal.returns-in_err-text
returns-in_err-text c =
    let value = c.args.value.now in
    let none = read_state-none value (sym c.in_err-text.ensures) in
    let all = reads_state c.from_residual.result value (ap (option_map carried_view) c.from_residual.ensures ∙ sym none) in
    record { exact = all.exact; found = all.found; only = all.only }

pub returns-in_err-host : goal.returns-in_err-host
returns-in_err-host c =
    let value = c.args.value.now in
    let none = read_state-uncut value _ (sym c.in_ok-text.ensures) (sym c.in_err-host.ensures) in
    let all = reads_state c.from_residual-in_err-host.result value (ap (option_map carried_view) c.from_residual-in_err-host.ensures ∙ sym none) in
    record { exact = all.exact; found = all.found; only = all.only }

pub returns-in_err-realm : goal.returns-in_err-realm
returns-in_err-realm c =
    let value = c.args.value.now in
    let none = read_state-half value _ _ _ (sym c.in_ok-text.ensures) (sym c.in_ok-host.ensures) (sym c.in_err-realm.ensures) in
    let all = reads_state c.from_residual-in_err-realm.result value (ap (option_map carried_view) c.from_residual-in_err-realm.ensures ∙ sym none) in
    record { exact = all.exact; found = all.found; only = all.only }

pub returns : goal.returns
returns c =
    let value = c.args.value.now in
    let cut = read_state-cut value _ _ _ _ _ (sym c.in_ok-text.ensures) (sym c.in_ok-host.ensures) (sym c.in_ok-realm.ensures) in
    let all = reads_state c.checked.result value (c.checked.ensures ∙ sym cut) in
    record { exact = all.exact; found = all.found; only = all.only }
