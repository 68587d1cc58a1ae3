use Rattle.std.proofs.lemmas.Result.{err_from_is_err_and}
use Rattle.toml.specs.View.{table_view}
use Rattle.agent_config.proofs.FaultLemmas.{rules-stop, other-key-stops}
use Rattle.agent_config.proofs.reading.read_client.Goals as goal

pub returns-in_err-rules-clause-err : goal.returns-in_err-rules-clause-err
returns-in_err-rules-clause-err c =
    let p = err_from_is_err_and c.from_residual-in_err-rules.result c.from_residual-in_err-rules.ensures.1 in
    rw (p.1, p.2) (λ other. rules-stop c.args.client (table_view c.args.table.now) _ c.in_ok-identity.ensures.ok.0 c.in_ok-origin.ensures.ok.0
    (c.in_err-rules.ensures.err other))

pub returns-in_err-no_others-clause-err : goal.returns-in_err-no_others-clause-err
returns-in_err-no_others-clause-err c =
    let p = err_from_is_err_and c.from_residual-in_err-no_others.result c.from_residual-in_err-no_others.ensures.1 in
    rw (p.1, p.2) (λ other. other-key-stops c.args.client (table_view c.args.table.now) _ c.in_ok-identity.ensures.ok.0 c.in_ok-origin.ensures.ok.0
    c.in_ok-rules.ensures.ok.0 (c.in_err-no_others.ensures.err other))
