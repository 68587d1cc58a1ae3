use Rattle.std.proofs.Common.{◌≡◌, ◌+◌, ◌++◌, Some, map, sym, ap, ◌∙◌, append_assoc, length-append, arith, rules}
use Rattle.std.proofs.lemmas.Result.{err_from_is_err_and}
use Rattle.toml.specs.Data.{as_table}
use Rattle.toml.specs.View.{view, table_view}
use Rattle.agent_config.specs.Settings.{client_of, clients_faults, first}
use Rattle.agent_config.proofs.FaultLemmas.{tables-next, clients-passed, clients-stop}
use Rattle.agent_config.proofs.reading.read_clients.Goals as goal

pub returns-in_err-read_client-clause-err : goal.returns-in_err-read_client-clause-err
returns-in_err-read_client-clause-err c =
    let at = c.loop-place in
    let table : as_table (view c.index-tables-place.result) ≡ Some (table_view c.in-Some.table.now) = search rules in
    let next = tables-next c.args.tables.now at.place c.index-tables-place.result _ c.loop-place-test.true c.index-tables-place.is table at.invariant.tables in
    let p = err_from_is_err_and c.from_residual.result c.from_residual.ensures.1 in
    rw (p.1, p.2) (λ other. sym at.invariant.faults ∙ ap (λ ts. first (clients_faults (at.place + 1) ts)) next.1
    ∙ clients-stop (at.place + 1) _ _ _ (c.in_err-read_client.ensures.err other))

pub loop-place-preserved : goal.loop-place-preserved
loop-place-preserved c =
    let at = c.loop-place in
    let table : as_table (view c.index-tables-place.result) ≡ Some (table_view c.in-Some.table.now) = search rules in
    let next = tables-next c.args.tables.now at.place c.index-tables-place.result _ c.loop-place-test.true c.index-tables-place.is table at.invariant.tables in
    let ok = c.in_ok-read_client.ensures.ok in
    rw c.in_ok-push.ensures.items (record {
      tables = next.0;
      faults = sym (ap (λ ts. first (clients_faults (at.place + 1) ts)) next.1 ∙ clients-passed (at.place + 1) _ _ ok.0) ∙ at.invariant.faults;
      made = rw ok.1 (append_assoc at.clients.items _ _ ∙ sym (ap (λ ts. at.clients.items ++ map client_of ts) next.1) ∙ at.invariant.made);
      few = simp length-append (omega (arith, at.invariant.few));
    })
