-- What a worker may be run on, and what its run gives: by its own turns, and by what its own devices tell.
use Rattle.std.specs.Prelude.{◌≡◌, Bool, nat_lt}
use Rattle.std.specs.Bool.{then_some}
use Rattle.std.specs.Arc.{arc_value}
use Rattle.wire_devices.specs.Links.{Inlet}
use Rattle.wire_devices.specs.Sockets.{Socket}
use Rattle.agent_status.specs.declared.status.Status.TheVariants.{DatagramFault, LinkFault}
use Rattle.turnstile.specs.Passes.{known, table_of}
use Rattle.server_workers.specs.declared.workers.Worker.{Worker}
use Rattle.server_workers.specs.declared.workers.Worker.TheVariants as worker
use Rattle.server_workers.specs.declared.workers.Ended.{Ended}
use Rattle.server_workers.specs.declared.workers.Ended.TheVariants as ended
use Rattle.server_workers.specs.LinkReading.{ReadsLink, sight}
use Rattle.server_workers.specs.SocketReading.{ReadsSocket}

module _ {T D I : Type 0} (told : D → Socket) (hears : I → Inlet) where
  -- the pass is one of the turnstile; no receive of the socket failed just before; nothing ended or failed on the link
  abbrev pub CanRun : Worker T D I → Type 0
  CanRun (worker.Reader alloc turnstile pass via socket) = (table_of pass ≡ arc_value turnstile) × ((told socket).row ≡ 0)
  CanRun (worker.Link alloc turnstile pass link auth acct) =
      (table_of pass ≡ arc_value turnstile) × (((hears link).ends ≡ 0) × ((hears link).faults ≡ 0))

  abbrev pub Ran : Worker T D I → Ended T D I → Type 0
  Ran (worker.Reader alloc turnstile pass via socket) (ended.Reader socket' pass' lost fault) =
      (table_of pass' ≡ table_of pass)
      × ((failed : Bool) × (fault ≡ then_some failed DatagramFault)
      × ReadsSocket via (known pass) (known pass') (told socket) (told socket') lost failed)
  Ran (worker.Link alloc turnstile pass link auth acct) (ended.Link link' auth' acct' pass' lost again fault) =
      (table_of pass' ≡ table_of pass)
      × (fault ≡ then_some (nat_lt 0 (hears link').faults) LinkFault)
      × ReadsLink (sight (known pass) (hears link) (told auth) (told acct))
      (sight (known pass') (hears link') (told auth') (told acct')) lost again
  Ran begun done = ⊥
