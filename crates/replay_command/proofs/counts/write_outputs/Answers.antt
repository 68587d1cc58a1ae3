-- The lines so far were written, and of the next one a prefix.
use Rattle.std.proofs.Common.{◌≡◌, ◌<◌, take, length, refl, sym, subst, rules}
use Rattle.std.specs.List.{flat_map}
use Rattle.std.proofs.lemmas.List.{take_all}
use Rattle.std.proofs.lemmas.Option.{slice_get_read}
use Rattle.wire_core.specs.Sink.{Appends, AppendsPrefix}
use Rattle.wire_core.proofs.SinkLaws.{AppendsPrefix-append, AppendsPrefix-front, AppendsPrefix-whole}
use Rattle.printed_lines.specs.Text.{output_line}
use Rattle.text_commands.proofs.OutputLemmas.{lines-cut}
use Rattle.replay_command.proofs.counts.write_outputs.Goals as goal

pub returns-in-Err-clause-part : goal.returns-in-Err-clause-part
returns-in-Err-clause-part g c =
    let inside : c.loop-output.output-index < length c.args.outputs.now = search rules in
    let cut = lines-cut (output_line c.args.number) c.args.outputs.now c.loop-output.output-index c.output-item.result (slice_get_read _ (length c.args.outputs.now) _ _ refl inside c.output-item.is) in
    subst (AppendsPrefix _ _) (sym cut) (AppendsPrefix-front _ (AppendsPrefix-append c.loop-output.invariant.0 c.in-Err.ensures.part))

pub returns-clause-part : goal.returns-clause-part
returns-clause-part g c =
    let whole : take c.loop-output.output-index c.args.outputs.now ≡ c.args.outputs.now = search (rules, take_all) in
    AppendsPrefix-whole (subst (λ outputs. Appends (g.K.Sink.written c.args.sink.now) (g.K.Sink.written c.loop-output.sink) (flat_map (output_line c.args.number) outputs)) whole c.loop-output.invariant.0)
