use Rattle.std.proofs.lemmas.Result.{err_from_is_err_and}
use Rattle.toml.specs.View.{table_view}
use Rattle.agent_config.proofs.FaultLemmas.{numbers-stop, clients-stop-top, other-key-stops-top}
use Rattle.agent_config.proofs.reading.read_top.Goals as goal

pub returns-in_err-figures-clause-err : goal.returns-in_err-figures-clause-err
returns-in_err-figures-clause-err c =
    let p = err_from_is_err_and c.from_residual-in_err-figures.result c.from_residual-in_err-figures.ensures.1 in
    rw (p.1, p.2) (λ other. numbers-stop (table_view c.args.table.now) _ c.in_ok-names.ensures.ok.0 (c.in_err-figures.ensures.err other))

pub returns-in_err-tables-clause-err : goal.returns-in_err-tables-clause-err
returns-in_err-tables-clause-err c =
    let p = err_from_is_err_and c.from_residual-in_err-tables.result c.from_residual-in_err-tables.ensures.1 in
    rw (p.1, p.2) (λ other. clients-stop-top (table_view c.args.table.now) _ c.in_ok-names.ensures.ok.0 c.in_ok-figures.ensures.ok.0
    (c.in_err-tables.ensures.err other))

pub returns-in_err-no_others-clause-err : goal.returns-in_err-no_others-clause-err
returns-in_err-no_others-clause-err c =
    let p = err_from_is_err_and c.from_residual-in_err-no_others.result c.from_residual-in_err-no_others.ensures.1 in
    rw (p.1, p.2) (λ other. other-key-stops-top (table_view c.args.table.now) _ c.in_ok-names.ensures.ok.0 c.in_ok-figures.ensures.ok.0
    c.in_ok-tables.ensures.ok.0 (c.in_err-no_others.ensures.err other))
