use Rattle.transcript_runs.proofs.SessionLemmas.{client-follows, control-follows}
use Rattle.transcript_runs.proofs.session.Session.follow_line.Goals as goal

pub returns-in-Client-clause-follows : goal.returns-in-Client-clause-follows
returns-in-Client-clause-follows g c = λ stage at.
    rw c.in-Client.is
    (client-follows g.T.Teller.told (g.T.Teller.telling c.args.self.now.teller) c.join.result c.join.new.self stage c.in-Client.number c.in-Client.client (g.K.Sink.written c.args.sink.now) (c.join.ensures.joins stage c.in-Client.number at))

pub returns-clause-follows : goal.returns-clause-follows
returns-clause-follows g c = λ stage at.
    rw c.in-Control.is
    (control-follows g.T.Teller.told (g.T.Teller.telling c.args.self.now.teller) c.begin-in-Control.result c.begin-in-Control.new.self stage c.in-Control.number c.in-Control.moment c.in-Control.address c.in-Control.port c.in-Control.octets (g.K.Sink.written c.args.sink.now) (c.begin-in-Control.ensures.begins stage at))
