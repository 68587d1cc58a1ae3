use Rattle.std.proofs.Common.{◌≡◌, None, Ok, List, [], map, unwrap_or, sym, ap, ◌∙◌}
use Rattle.std.proofs.lemmas.Result.{err_from_is_err_and}
use Rattle.toml.specs.View.{items_view, table_view}
use Rattle.agent_settings.specs.declared.client.Client.{Client}
use Rattle.agent_settings.specs.declared.config.Config.{Config}
use Rattle.agent_config.specs.Twice.{twice}
use Rattle.agent_config.specs.Settings.{client_of, client_tables, clients_faults, clients_of, first, tables_in}
use Rattle.agent_config.proofs.FaultLemmas.{settled-top, settled-client, settled-twice, settled-ok}
use Rattle.agent_config.proofs.reading.read_table.Goals as goal

pub returns-in_err-config-clause-err : goal.returns-in_err-config-clause-err
returns-in_err-config-clause-err c =
    let p = err_from_is_err_and c.from_residual.result c.from_residual.ensures.1 in
    rw (p.1, p.2) (λ other. settled-top (table_view c.args.table.now) _ (c.in_err-config.ensures.err other))

pub returns-in_err-clients-clause-err : goal.returns-in_err-clients-clause-err
returns-in_err-clients-clause-err c =
    let t = table_view c.args.table.now in
    let tables : client_tables t ≡ tables_in (items_view c.in_ok-config.tables.now) = ap (λ o. unwrap_or o []) c.in_ok-config.ensures.tables in
    let p = err_from_is_err_and c.from_residual-in_err-clients.result c.from_residual-in_err-clients.ensures.1 in
    rw (p.1, p.2) (λ other. settled-client t c.in_ok-config.ensures.ok.0 _
    (ap (λ ts. first (clients_faults 1 ts)) tables ∙ c.in_err-clients.ensures.err other))

pub returns-in_err-config-2-clause-err : goal.returns-in_err-config-2-clause-err
returns-in_err-config-2-clause-err c =
    let t = table_view c.args.table.now in
    let tables : client_tables t ≡ tables_in (items_view c.in_ok-config.tables.now) = ap (λ o. unwrap_or o []) c.in_ok-config.ensures.tables in
    let passed : first (clients_faults 1 (client_tables t)) ≡ None = ap (λ ts. first (clients_faults 1 ts)) tables ∙ c.in_ok-clients.ensures.ok.0 in
    let clients : clients_of t ≡ c.in_ok-clients.clients.items = ap (map client_of) tables ∙ sym c.in_ok-clients.ensures.ok.1 in
    let p = err_from_is_err_and c.from_residual-in_err-config-2.result c.from_residual-in_err-config-2.ensures.1 in
    rw (p.1, p.2) (λ other. settled-twice t c.in_ok-config.ensures.ok.0 passed _
    (ap twice clients ∙ c.in_err-config-2.ensures.err other))

pub returns-clause-ok : goal.returns-clause-ok
returns-clause-ok c =
    let t = table_view c.args.table.now in
    let config = c.in_ok-config.config in
    let tables : client_tables t ≡ tables_in (items_view c.in_ok-config.tables.now) = ap (λ o. unwrap_or o []) c.in_ok-config.ensures.tables in
    let passed : first (clients_faults 1 (client_tables t)) ≡ None = ap (λ ts. first (clients_faults 1 ts)) tables ∙ c.in_ok-clients.ensures.ok.0 in
    let clients : clients_of t ≡ c.in_ok-clients.clients.items = ap (map client_of) tables ∙ sym c.in_ok-clients.ensures.ok.1 in
    settled-ok t c.in_ok-config.ensures.ok.0 passed (ap twice clients ∙ c.in_ok-config-2.ensures.ok.0)
    ∙ ap (λ (top : Config). Ok (record top { clients = clients_of t })) (sym c.in_ok-config.ensures.ok.1)
    ∙ ap (λ (made : List Client). Ok (record config { clients = made })) (clients ∙ sym c.in_ok-config-2.ensures.ok.1)
