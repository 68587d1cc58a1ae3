use Rattle.peer_runs.proofs.NasLineLemmas.{broken-off, ended-text, ended-untold}
use Rattle.peer_runs.proofs.nas_run.ask_text.Goals as goal

pub returns-in-Err-ask-clause-text : goal.returns-in-Err-ask-clause-text
returns-in-Err-ask-clause-text g c =
    broken-off c.in-Err-ask.status c.args.number c.args.line.now (c.in-Err-ask.ensures.asks c.args.patience c.in-Ok.packet c.new-nas.ensures) c.in-Err-ask.ensures.many.0 c.in-Ok.ensures.ok

pub front-requires : goal.front-requires
front-requires g c = let ended = c.in-Ok-ask.ensures.asks c.args.patience c.in-Ok.packet c.new-nas.ensures in ended.within

pub returns-in-Ok-answer_line-clause-text : goal.returns-in-Ok-answer_line-clause-text
returns-in-Ok-answer_line-clause-text g c =
    ended-text c.in-Ok-answer_line.text _ c.args.number c.args.line.now (c.in-Ok-ask.ensures.asks c.args.patience c.in-Ok.packet c.new-nas.ensures) c.in-Ok.ensures.ok
    c.in-Ok-answer_line.ensures c.front.ensures

pub returns-clause-text : goal.returns-clause-text
returns-clause-text g c =
    ended-untold c.args.number c.args.line.now (c.in-Ok-ask.ensures.asks c.args.patience c.in-Ok.packet c.new-nas.ensures) c.in-Ok.ensures.ok
