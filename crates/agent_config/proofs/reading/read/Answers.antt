use Rattle.std.proofs.Common.{◌≡◌, ◌≢◌, Result, Ok, Err, IfOk, IfErr, true≢false, sym, subst, ◌∙◌}
use Rattle.toml.specs.View.{table_view}
use Rattle.agent_settings.specs.declared.config.Config.{Config}
use Rattle.agent_settings.specs.declared.fault.ConfigFault.{ConfigFault}
use Rattle.agent_settings.specs.declared.fault.ConfigFault.TheVariants.{NoMemory}
use Rattle.agent_config.proofs.FaultLemmas.{read-settled, read-none}
use Rattle.agent_config.proofs.reading.read.Goals as goal

pub returns-in-Ok-clause-ok : goal.returns-in-Ok-clause-ok
returns-in-Ok-clause-ok c =
    let same = read-settled c.args.text.now (table_view c.in-Ok.table) c.in-Ok.ensures.ok.0 c.in-Ok.ensures.ok.1 in
    let P : Result Config ConfigFault → Type 0 = λ read. IfOk c.read_table.result (λ config. read ≡ Ok config) in
    subst P (sym same) c.read_table.ensures.ok

pub returns-in-Ok-clause-err : goal.returns-in-Ok-clause-err
returns-in-Ok-clause-err c =
    let same = read-settled c.args.text.now (table_view c.in-Ok.table) c.in-Ok.ensures.ok.0 c.in-Ok.ensures.ok.1 in
    let P : Result Config ConfigFault → Type 0 = λ read. IfErr c.read_table.result (λ e. e ≢ NoMemory → read ≡ Err e) in
    subst P (sym same) c.read_table.ensures.err

pub returns-else-is_memory-clause-err : goal.returns-else-is_memory-clause-err
returns-else-is_memory-clause-err c =
    λ _. read-none c.args.text.now (c.in-Err.ensures.refused (λ memory. true≢false (sym (c.is_memory.ensures.1 memory) ∙ c.if-is_memory.false)))
