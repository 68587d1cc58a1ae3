use Rattle.std.proofs.Common.{refl, ◌∙◌, arith}
use Rattle.turnstile.specs.Passes.{known}
use Rattle.server_workers.proofs.SocketReadingLemmas.{all-read, more-read, none-read}
use Rattle.server_workers.proofs.socket_reader.read_socket.Goals as goal

pub loop-init : goal.loop-init
loop-init g c = record { table = refl; so_far = none-read c.args.via (known c.args.pass.now) (g.D.Datagrams.told c.args.socket.now) c.requires.row }

pub read_once-requires : goal.read_once-requires
read_once-requires g c = let so_far = c.loop.invariant.so_far in record {
  table = c.loop.invariant.table ∙ c.requires.table;
  row = so_far.row;
  few = omega (arith, so_far.row, so_far.low);
  range = omega (arith, so_far.counted);
}

pub loop-preserved : goal.loop-preserved
loop-preserved g c = let told = g.D.Datagrams.told in record {
  table = c.read_once.ensures.table ∙ c.loop.invariant.table;
  so_far = more-read c.args.via (known c.args.pass.now) (told c.args.socket.now) (known c.loop.pass) (known c.read_once.new.pass) (told c.loop.socket) (told c.read_once.new.socket)
      c.loop.counts c.read_once.new.counts c.read_once.result c.if-read_once.false c.loop.invariant.so_far c.read_once.ensures.reads;
}

pub returns-then-read_once-clause-reads : goal.returns-then-read_once-clause-reads
returns-then-read_once-clause-reads g c =
    let told = g.D.Datagrams.told in
    all-read c.args.via (known c.args.pass.now) (told c.args.socket.now) (known c.loop.pass) (known c.read_once.new.pass) (told c.loop.socket) (told c.read_once.new.socket)
    c.loop.counts c.read_once.new.counts c.read_once.result c.if-read_once.true c.loop.invariant.so_far c.read_once.ensures.reads
