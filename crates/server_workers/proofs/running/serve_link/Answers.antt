use Rattle.std.proofs.Common.{◌∙◌, ap, length}
use Rattle.std.specs.Arc.{arc_value}
use Rattle.turnstile.specs.Passes.{known}
use Rattle.server_workers.specs.declared.running.Twins.{Twins}
use Rattle.server_workers.specs.Running.{number_in, ports_of}
use Rattle.server_workers.proofs.LinkOverLemmas.{length-push, link-over, numbers-push, ran-number, ran-ports}
use Rattle.server_workers.proofs.running.serve_link.Goals as goal

pub returns-clause-over : goal.returns-clause-over
returns-clause-over g c =
    link-over g.I.LinkIn.told g.O.LinkOut.told g.D.Datagrams.told (arc_value c.args.turnstile.now) c.write_link-end.result (known c.args.pass.now) (known c.write_link-end.new.pass)
    (known c.put_past-twins.new.pass) c.args.live.helper c.args.live.link_out c.let_go.new.link_out c.args.past.now c.put_past-twins.new.past c.reader_back-back.result
    c.put_past-twins.result c.requires.started (rw (← c.let_go.ensures) at c.write_link-end.ensures.wrote) c.reader_back-back.ensures.back c.put_past-twins.ensures.joined c.put_past-twins.ensures.twins
    c.put_past-twins.ensures.pairs c.put_past-twins.ensures.room c.put_past-twins.ensures.lost c.put_past-twins.ensures.again

pub returns-clause-kept : goal.returns-clause-kept
returns-clause-kept g c = ap length c.put_past-twins.ensures.pairs ∙ length-push c.args.past.now.pairs.items _

pub returns-clause-ports : goal.returns-clause-ports
returns-clause-ports g c =
    ap (λ (twins : Twins g.row.D.Denot). ports_of g.D.Datagrams.told twins) c.put_past-twins.ensures.twins
    ∙ ran-ports g.D.Datagrams.told g.I.LinkIn.told c.args.live.helper c.reader_back-back.result c.reader_back-back.ensures.back

pub returns-clause-numbers : goal.returns-clause-numbers
returns-clause-numbers g c =
    numbers-push g.I.LinkIn.told c.args.past.now.pairs.items c.put_past-twins.new.past.pairs.items _ (number_in g.I.LinkIn.told c.args.live.helper) c.put_past-twins.ensures.pairs
    (ran-number g.D.Datagrams.told g.I.LinkIn.told c.args.live.helper c.reader_back-back.result c.reader_back-back.ensures.back)
