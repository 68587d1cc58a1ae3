-- The passes that come back with the workers of a run.
use Rattle.std.proofs.Common.{◌≡◌, ℕ, ◌+◌, [], ◌∷◌, length, Result, Ok, Err, MatchResult, sym, ap, ◌∙◌, subst}
use Rattle.std.proofs.lemmas.List.{length-append}
use Rattle.wire_devices.specs.Sockets.{Socket}
use Rattle.atomic_table.specs.Seated.{TableId}
use Rattle.turnstile.specs.declared.view.Known.{Known}
use Rattle.turnstile.specs.Knowing.{Joined}
use Rattle.turnstile.specs.Passes.{known, table_of}
use Rattle.agent_events.specs.declared.events.Input.{Input}
use Rattle.agent_server.specs.declared.desk.AgentDesk.{AgentDesk}
use Rattle.server_workers.specs.declared.heard.Heard.{Heard}
use Rattle.server_workers.specs.declared.running.ReaderBack.{ReaderBack}
use Rattle.agent_server.specs.declared.team.SocketBack.{SocketBack}
use Rattle.server_workers.specs.declared.workers.Worker.{Worker}
use Rattle.server_workers.specs.declared.workers.Worker.TheVariants as worker
use Rattle.server_workers.specs.Running.{IsLinkWorker, ReaderNeverRan}
use Rattle.agent_server.specs.Starting.{IsPassOf, IsLinkReader, IsReader, IsSocketBack, IsSocketWorker}

-- a pass with one number was joined
pub joined-more : {C : Type 0} (n : ℕ) (k r l : Known (AgentDesk C) Input Heard) → r.numbers ≡ n ∷ [] → Joined k r l → length l.numbers ≡ length k.numbers + 1
joined-more n k r l numbers joined =
    ap length joined.numbers ∙ length-append k.numbers r.numbers ∙ ap (λ ns. length k.numbers + length ns) numbers

module _ {C D I : Type 0} (turnstile : TableId) (n : ℕ) where
  pub reader-worker : (reader : Worker (AgentDesk C) D I) → IsReader turnstile n reader → IsSocketWorker reader
  reader-worker (worker.Reader alloc shared pass via socket) at = tt
  reader-worker (worker.Link alloc shared pass link auth acct) at = absurd at

  pub start-worker : (start : Result (Worker (AgentDesk C) D I) (Worker (AgentDesk C) D I)) → MatchResult start (IsReader turnstile n) (IsReader turnstile n)
      → MatchResult start IsSocketWorker IsSocketWorker
  start-worker (Ok reader) at = reader-worker reader at
  start-worker (Err reader) at = reader-worker reader at

  pub link-worker : (reader : Worker (AgentDesk C) D I) → IsLinkReader turnstile n reader → IsLinkWorker reader
  link-worker (worker.Reader alloc shared pass via socket) at = absurd at
  link-worker (worker.Link alloc shared pass link auth acct) at = tt

  -- the pass of the reader of a socket, which has the number that it began with
  pub back-at : (told : D → Socket) (start : Result (Worker (AgentDesk C) D I) (Worker (AgentDesk C) D I)) (back : SocketBack C D)
      → MatchResult start (IsReader turnstile n) (IsReader turnstile n) → IsSocketBack told start back → IsPassOf turnstile n (table_of back.pass) (known back.pass)
  back-at told (Ok (worker.Reader alloc shared pass via socket)) back at (table, reads) = (table ∙ at.0, reads.went.numbers ∙ at.1)
  back-at told (Err (worker.Reader alloc shared pass via socket)) back at is =
      subst (λ (b : SocketBack C D). IsPassOf turnstile n (table_of b.pass) (known b.pass)) (sym is) at
  back-at told (Ok (worker.Link alloc shared pass link auth acct)) back at is = absurd at
  back-at told (Err (worker.Link alloc shared pass link auth acct)) back at is = absurd at

  -- the pass of the reader of a link that never ran
  pub unstarted-at : (reader : Worker (AgentDesk C) D I) (back : ReaderBack (AgentDesk C) D I) → IsLinkReader turnstile n reader → ReaderNeverRan reader back
      → IsPassOf turnstile n (table_of back.pass) (known back.pass)
  unstarted-at (worker.Link alloc shared pass link auth acct) back at is =
      subst (λ (b : ReaderBack (AgentDesk C) D I). IsPassOf turnstile n (table_of b.pass) (known b.pass)) (sym is) at
  unstarted-at (worker.Reader alloc shared pass via socket) back at is = absurd at
