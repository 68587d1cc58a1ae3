use Rattle.std.proofs.Common.{refl, ◌∙◌}
use Rattle.turnstile.specs.Passes.{known}
use Rattle.agent_server.proofs.StartingLemmas.{splits-of}
use Rattle.agent_server.proofs.team.make_workers.Goals as goal

pub returns : goal.returns
returns g c =
    let splits = splits-of (known c.args.pass.now) (known c.split.new.pass) (known c.split-2.new.pass) (known c.split-3.new.pass) (known c.split.result)
    (known c.split-2.result) (known c.split-3.result) c.requires.numbers c.split.ensures.left c.split.ensures.right c.split-2.ensures.left
    c.split-2.ensures.right c.split-3.ensures.left c.split-3.ensures.right in
    let first = c.split.ensures.tables in
    let second = c.split-2.ensures.tables in
    let third = c.split-3.ensures.tables in
    let after = second.0 ∙ first.0 ∙ c.requires.table in
    record {
      own = (third.0 ∙ after, splits.own);
      same = (splits.seen, splits.first);
      auth = (
        record {
          shared = c.requires.shares.auth;
          table = third.1 ∙ after;
          numbers = splits.auth_numbers;
          seen = splits.auth_seen;
          first = splits.auth_first;
        },
        refl,
        refl,
      );
      acct = (
        record {
          shared = c.requires.shares.acct;
          table = second.1 ∙ first.0 ∙ c.requires.table;
          numbers = splits.acct_numbers;
          seen = splits.acct_seen;
          first = splits.acct_first;
        },
        refl,
        refl,
      );
      link = (
        record {
          shared = c.requires.shares.link;
          table = first.1 ∙ c.requires.table;
          numbers = splits.link_numbers;
          seen = splits.link_seen;
          first = splits.link_first;
        },
        refl,
        refl,
        refl,
      );
    }
