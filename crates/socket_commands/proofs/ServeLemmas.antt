-- How `serve` ends.
use Rattle.std.proofs.Common.{◌≡◌, ℕ, ◌⊎◌, inl, inr, List, [], ◌∷◌, ◌++◌, length, arith, Option, Some, None, IfSome, IfNone, refl, sym, ap, ◌∙◌, subst}
use Rattle.std.proofs.lemmas.List.{append-nil, length-append}
use Rattle.wire_core.specs.Counts.{Rose}
use Rattle.wire_core.proofs.SourceLaws.{Consumes-told}
use Rattle.agent_settings.specs.declared.config.Config.{Config}
use Rattle.agent_settings.specs.Config.{InLimits, are_settings_in_limits}
use Rattle.peer_machine.specs.declared.LinkCause.{LinkCause}
use Rattle.agent_status.specs.declared.status.Status.{Status}
use Rattle.agent_status.specs.declared.status.Status.TheVariants.{Done, Usage, BadConfig, BadTranscript, ReadFault, WriteFault, OutOfMemory, TooLong, LinkFault, PeerRefused, NoThread, DatagramFault, LinkEnded}
use Rattle.wire_devices.specs.Dialling.{Dials}
use Rattle.wire_devices.specs.Links.{Inlet, Outlet}
use Rattle.wire_devices.specs.Sockets.{Socket}
use Rattle.wire_devices.specs.Telling.{Adds}
use Rattle.agent_server.specs.Desks.{AreRead, HasRead}
use Rattle.server_workers.specs.Entries.{RunTurn}
use Rattle.agent_server.specs.Server.{Because, EndsEarly}
use Rattle.agent_settings.specs.declared.fault.ConfigFault.{ConfigFault}
use Rattle.text_commands.specs.SettingsInput.{SettingsNot}
use Rattle.text_commands.specs.Tasks.{EndsCounts}
use Rattle.agent_core.specs.Places.{Event}
use Rattle.agent_server.specs.declared.server.Finish.{Finish}
use Rattle.agent_server.specs.declared.server.World.{World}
use Rattle.agent_server.specs.Ran.{HasToldOnly, RanFrom, Run, run_by}
use Rattle.socket_commands.specs.Serves.{HasToldFirst, IsRunEnd, IsSoundEnd, Reports, after_failure}
use Rattle.socket_commands.specs.Streams.{HasSettings, InputTold}

pub either : {A B C : Type 0} → (A → C) → (B → C) → A ⊎ B → C
either f g (inl a) = f a
either f g (inr b) = g b

-- ---- the clock

none-read : (readings : List ℕ) → AreRead 0 [] readings → readings ≡ []
none-read [] read = refl
none-read (r ∷ readings) read = absurd read

-- the first reading of a run
pub has-read-first : (told now : Option (List ℕ)) (before : List ℕ) (first : ℕ) → HasRead told before [] → Adds told now (first ∷ [])
    → HasRead now (before ++ first ∷ []) []
has-read-first None now before first read adds = λ all is. absurd (cc (adds.still all is))
has-read-first (Some xs) now before first read adds = λ all is.
    let (readings, whole, none) = read xs refl in
    let same : xs ≡ before = whole ∙ ap (λ r. before ++ r) (none-read readings none) ∙ append-nil before in
    let cut : xs ++ first ∷ [] ≡ all = cc (adds.still all is) in
    ([], sym cut ∙ ap (λ r. r ++ first ∷ []) same ∙ sym (append-nil (before ++ first ∷ [])), tt)

-- what a clock told before
pub told-before : (told : Option (List ℕ)) → (before : List ℕ) × HasRead told before []
told-before None = ([], λ all is. absurd (cc is))
told-before (Some xs) = (xs, λ all is. ([], cc (is, append-nil xs), tt))

-- ---- statuses

-- settings were read, and the run ended so
pub counts-read : (status : Status) (a a' b b' d d' : ℕ) → (status ≡ ReadFault → ⊥) → Rose a a' → (status ≡ WriteFault → Rose d d') → EndsCounts status a a' b b' d d'
counts-read Done a a' b b' d d' read ended wrote = ended
counts-read (BadConfig fault) a a' b b' d d' read ended wrote = ended
counts-read ReadFault a a' b b' d d' read ended wrote = absurd (read refl)
counts-read WriteFault a a' b b' d d' read ended wrote = wrote refl
counts-read Usage a a' b b' d d' read ended wrote = tt
counts-read (BadTranscript line reason) a a' b b' d d' read ended wrote = tt
counts-read OutOfMemory a a' b b' d d' read ended wrote = tt
counts-read TooLong a a' b b' d d' read ended wrote = tt
counts-read LinkFault a a' b b' d d' read ended wrote = tt
counts-read (PeerRefused code) a a' b b' d d' read ended wrote = tt
counts-read NoThread a a' b b' d d' read ended wrote = tt
counts-read DatagramFault a a' b b' d d' read ended wrote = tt
counts-read (LinkEnded cause) a a' b b' d d' read ended wrote = tt

-- no settings were read
pub counts-unread : (status : Status) (told left : Option (List ℕ)) (a a' b b' d d' : ℕ) → SettingsNot status told left → (status ≡ ReadFault → Rose b b')
    → ((fault : ConfigFault) → status ≡ BadConfig fault → Rose a a') → EndsCounts status a a' b b' d d'
counts-unread (BadConfig fault) told left a a' b b' d d' not read refused = refused fault refl
counts-unread ReadFault told left a a' b b' d d' not read refused = read refl
counts-unread OutOfMemory told left a a' b b' d d' not read refused = tt
counts-unread TooLong told left a a' b b' d d' not read refused = tt
counts-unread Done told left a a' b b' d d' not read refused = absurd not
counts-unread Usage told left a a' b b' d d' not read refused = absurd not
counts-unread LinkFault told left a a' b b' d d' not read refused = absurd not
counts-unread (PeerRefused code) told left a a' b b' d d' not read refused = absurd not
counts-unread NoThread told left a a' b b' d d' not read refused = absurd not
counts-unread DatagramFault told left a a' b b' d d' not read refused = absurd not
counts-unread (LinkEnded cause) told left a a' b b' d d' not read refused = absurd not
counts-unread (BadTranscript line reason) told left a a' b b' d d' not read refused = absurd not
counts-unread WriteFault told left a a' b b' d d' not read refused = absurd not

pub sound-unread : (status : Status) (input : InputTold) → SettingsNot status input.left input.left' → (status ≡ ReadFault → Rose input.faults input.faults')
    → HasSettings input → (Rose input.faults input.faults' → ⊥) → IsSoundEnd status
sound-unread (BadConfig fault) input not read has reads = absurd (cc (has.read, (not has.octets has.is_told).1))
sound-unread ReadFault input not read has reads = absurd (reads (read refl))
sound-unread OutOfMemory input not read has reads = tt
sound-unread TooLong input (octets, taken, many) read has reads =
    let (ys, still, cut) = Consumes-told taken has.octets has.is_told in
    absurd (omega (arith, has.short, many, ap length cut, length-append octets ys))
sound-unread Done input not read has reads = absurd not
sound-unread Usage input not read has reads = absurd not
sound-unread LinkFault input not read has reads = absurd not
sound-unread (PeerRefused code) input not read has reads = absurd not
sound-unread NoThread input not read has reads = absurd not
sound-unread DatagramFault input not read has reads = absurd not
sound-unread (LinkEnded cause) input not read has reads = absurd not
sound-unread (BadTranscript line reason) input not read has reads = absurd not
sound-unread WriteFault input not read has reads = absurd not

-- ---- a run by settings

-- a status that a run ends with, and what else it is told by
pub end-known : (end : Status) (own turns : List RunTurn) (causes : List LinkCause) (auth acct dials : ℕ) (refused : Type 0) → Because end own turns causes auth acct dials refused → IsRunEnd end
end-known Done own turns causes auth acct dials refused b = tt
end-known LinkFault own turns causes auth acct dials refused b = tt
end-known (PeerRefused code) own turns causes auth acct dials refused b = tt
end-known NoThread own turns causes auth acct dials refused b = tt
end-known OutOfMemory own turns causes auth acct dials refused b = tt
end-known DatagramFault own turns causes auth acct dials refused b = tt
end-known (LinkEnded cause) own turns causes auth acct dials refused b = tt
end-known Usage own turns causes auth acct dials refused b = absurd b
end-known (BadConfig fault) own turns causes auth acct dials refused b = absurd b
end-known (BadTranscript line reason) own turns causes auth acct dials refused b = absurd b
end-known ReadFault own turns causes auth acct dials refused b = absurd b
end-known WriteFault own turns causes auth acct dials refused b = absurd b
end-known TooLong own turns causes auth acct dials refused b = absurd b

-- no run by itself ends with a failed write
pub end-writes : (end : Status) (own turns : List RunTurn) (causes : List LinkCause) (auth acct dials : ℕ) (refused : Type 0) → Because end own turns causes auth acct dials refused → end ≡ WriteFault → ⊥
end-writes WriteFault own turns causes auth acct dials refused b same = b
end-writes Done own turns causes auth acct dials refused b same = cc same
end-writes LinkFault own turns causes auth acct dials refused b same = cc same
end-writes (PeerRefused code) own turns causes auth acct dials refused b same = cc same
end-writes NoThread own turns causes auth acct dials refused b same = cc same
end-writes OutOfMemory own turns causes auth acct dials refused b same = cc same
end-writes DatagramFault own turns causes auth acct dials refused b same = cc same
end-writes (LinkEnded cause) own turns causes auth acct dials refused b same = cc same
end-writes Usage own turns causes auth acct dials refused b same = cc same
end-writes (BadConfig fault) own turns causes auth acct dials refused b same = cc same
end-writes (BadTranscript line reason) own turns causes auth acct dials refused b same = cc same
end-writes ReadFault own turns causes auth acct dials refused b same = cc same
end-writes TooLong own turns causes auth acct dials refused b same = cc same

after-known : (end : Status) → IsRunEnd end → IsRunEnd (after_failure end)
after-known Done known = tt
after-known LinkFault known = tt
after-known (PeerRefused code) known = tt
after-known NoThread known = tt
after-known OutOfMemory known = tt
after-known DatagramFault known = tt
after-known (LinkEnded cause) known = tt
after-known WriteFault known = tt
after-known Usage known = absurd known
after-known (BadConfig fault) known = absurd known
after-known (BadTranscript line reason) known = absurd known
after-known ReadFault known = absurd known
after-known TooLong known = absurd known

pub reported-known : (end status : Status) (line : List ℕ) (before now : Option (List ℕ)) (faults faults' : ℕ) → Reports end status line before now faults faults' → IsRunEnd end → IsRunEnd status
reported-known end status line before now faults faults' (inl (wrote, same)) known = subst IsRunEnd (sym same) known
reported-known end status line before now faults faults' (inr (inl (wrote, rose, same))) known = subst IsRunEnd (sym same) (after-known end known)
reported-known end status line before now faults faults' (inr (inr (same, memory))) known = subst IsRunEnd (sym memory) tt

pub reported-wrote : (end status : Status) (line : List ℕ) (before now : Option (List ℕ)) (faults faults' : ℕ) → Reports end status line before now faults faults' → (end ≡ WriteFault → ⊥)
    → status ≡ WriteFault → Rose faults faults'
reported-wrote end status line before now faults faults' (inl (wrote, same)) not failed = absurd (not (sym same ∙ failed))
reported-wrote end status line before now faults faults' (inr (inl (wrote, rose, same))) not failed = rose
reported-wrote end status line before now faults faults' (inr (inr (same, memory))) not failed = absurd (cc (memory, failed))

pub early-known : (status : Status) (told : Option (List ℕ)) (until : ℕ) (dials dials' : Dials) (twin start : Type 0) → EndsEarly status told until dials dials' twin start → IsRunEnd status
early-known Done told until dials dials' twin start e = absurd e
early-known LinkFault told until dials dials' twin start e = tt
early-known (PeerRefused code) told until dials dials' twin start e = absurd e
early-known NoThread told until dials dials' twin start e = tt
early-known OutOfMemory told until dials dials' twin start e = tt
early-known DatagramFault told until dials dials' twin start e = tt
early-known (LinkEnded cause) told until dials dials' twin start e = absurd e
early-known Usage told until dials dials' twin start e = absurd e
early-known (BadConfig fault) told until dials dials' twin start e = absurd e
early-known (BadTranscript line reason) told until dials dials' twin start e = absurd e
early-known ReadFault told until dials dials' twin start e = absurd e
early-known WriteFault told until dials dials' twin start e = absurd e
early-known TooLong told until dials dials' twin start e = absurd e

pub early-writes : (status : Status) (told : Option (List ℕ)) (until : ℕ) (dials dials' : Dials) (twin start : Type 0) → EndsEarly status told until dials dials' twin start → status ≡ WriteFault → ⊥
early-writes Done told until dials dials' twin start e same = absurd e
early-writes LinkFault told until dials dials' twin start e same = cc same
early-writes (PeerRefused code) told until dials dials' twin start e same = absurd e
early-writes NoThread told until dials dials' twin start e same = cc same
early-writes OutOfMemory told until dials dials' twin start e same = cc same
early-writes DatagramFault told until dials dials' twin start e same = cc same
early-writes (LinkEnded cause) told until dials dials' twin start e same = absurd e
early-writes Usage told until dials dials' twin start e same = absurd e
early-writes (BadConfig fault) told until dials dials' twin start e same = absurd e
early-writes (BadTranscript line reason) told until dials dials' twin start e same = absurd e
early-writes ReadFault told until dials dials' twin start e same = absurd e
early-writes WriteFault told until dials dials' twin start e same = absurd e
early-writes TooLong told until dials dials' twin start e same = absurd e

-- no device failed
pub early-sound : (status : Status) (told : Option (List ℕ)) (until : ℕ) (dials dials' : Dials) (twin start : Type 0) → EndsEarly status told until dials dials' twin start
    → (Rose dials.faults dials'.faults → ⊥) → (twin → ⊥) → (start → ⊥) → IsSoundEnd status
early-sound Done told until dials dials' twin start e links sockets threads = absurd e
early-sound LinkFault told until dials dials' twin start e links sockets threads = absurd (links e.0)
early-sound (PeerRefused code) told until dials dials' twin start e links sockets threads = absurd e
early-sound NoThread told until dials dials' twin start e links sockets threads = absurd (threads e)
early-sound OutOfMemory told until dials dials' twin start e links sockets threads = tt
early-sound DatagramFault told until dials dials' twin start e links sockets threads = absurd (sockets e)
early-sound (LinkEnded cause) told until dials dials' twin start e links sockets threads = absurd e
early-sound Usage told until dials dials' twin start e links sockets threads = absurd e
early-sound (BadConfig fault) told until dials dials' twin start e links sockets threads = absurd e
early-sound (BadTranscript line reason) told until dials dials' twin start e links sockets threads = absurd e
early-sound ReadFault told until dials dials' twin start e links sockets threads = absurd e
early-sound WriteFault told until dials dials' twin start e links sockets threads = absurd e
early-sound TooLong told until dials dials' twin start e links sockets threads = absurd e

pub end-sound : (end : Status) (own turns : List RunTurn) (causes : List LinkCause) (auth acct dials : ℕ) (refused : Type 0) → Because end own turns causes auth acct dials refused
    → (dials ≡ 16 → ⊥) → ((auth ≡ 16) ⊎ (acct ≡ 16) → ⊥) → (refused → ⊥) → IsSoundEnd end
end-sound Done own turns causes auth acct dials refused b links sockets threads = tt
end-sound LinkFault own turns causes auth acct dials refused b links sockets threads = absurd (links b.0)
end-sound (PeerRefused code) own turns causes auth acct dials refused b links sockets threads = tt
end-sound NoThread own turns causes auth acct dials refused b links sockets threads = absurd (threads b.0)
end-sound OutOfMemory own turns causes auth acct dials refused b links sockets threads = tt
end-sound DatagramFault own turns causes auth acct dials refused b links sockets threads = absurd (sockets b)
end-sound (LinkEnded cause) own turns causes auth acct dials refused b links sockets threads = tt
end-sound Usage own turns causes auth acct dials refused b links sockets threads = absurd b
end-sound (BadConfig fault) own turns causes auth acct dials refused b links sockets threads = absurd b
end-sound (BadTranscript line reason) own turns causes auth acct dials refused b links sockets threads = absurd b
end-sound ReadFault own turns causes auth acct dials refused b links sockets threads = absurd b
end-sound WriteFault own turns causes auth acct dials refused b links sockets threads = absurd b
end-sound TooLong own turns causes auth acct dials refused b links sockets threads = absurd b

pub reported-sound : (end status : Status) (line : List ℕ) (before now : Option (List ℕ)) (faults faults' : ℕ) → Reports end status line before now faults faults' → (Rose faults faults' → ⊥)
    → IsSoundEnd end → IsSoundEnd status
reported-sound end status line before now faults faults' (inl (wrote, same)) writes sound = subst IsSoundEnd (sym same) sound
reported-sound end status line before now faults faults' (inr (inl (wrote, rose, same))) writes sound = absurd (writes rose)
reported-sound end status line before now faults faults' (inr (inr (same, memory))) writes sound = subst IsSoundEnd (sym memory) tt

-- ---- where there is a value, or none

pub some-maps : {A : Type 0} (o : Option A) (P Q : A → Type 0) → ((x : A) → P x → Q x) → IfSome o P → IfSome o Q
some-maps None P Q f p = tt
some-maps (Some x) P Q f p = f x p

pub none-maps : {A : Type 0} (o : Option A) (P Q : Type 0) → (P → Q) → IfNone o P → IfNone o Q
none-maps None P Q f p = f p
none-maps (Some x) P Q f p = tt

by-trail : {A : Type 0} (o : Option A) (P : Type 0) (Q : A → Type 0) (R : Type 0) → (P → R) → ((x : A) → Q x → R) → IfNone o P → IfSome o Q → R
by-trail None P Q R none some p q = none p
by-trail (Some x) P Q R none some p q = some x q

-- ---- settings

pub boot-limits : (config : Config) (boot : Option ℕ) → InLimits config → InLimits (record config { boot = boot })
unfolding are_settings_in_limits
boot-limits config boot limits = record {
  settings = limits.settings;
  few = limits.few;
  clients = limits.clients;
  distinct = limits.distinct;
}

-- ---- a run behind one reading

module _ {C D L W I O : Type 0} (readings : C → Option (List ℕ)) (told : D → Socket) (hears : I → Inlet) (speaks : O → Outlet)
    (dials : L → Dials) (made : L → ℕ) (faults started : W → ℕ) where
  -- the clock was read once before the run, of which less is said
  pub ran-after : (world : World C D L W) (clock : C) (first : ℕ) (config : Config) (until : ℕ) (finish : Finish C D L W I O)
      (has has' : List Event → Type 0) → ((events : List Event) → has events → has' events) → Adds (readings world.clock) (readings clock) (first ∷ [])
      → RanFrom readings told hears speaks dials made faults started (HasToldOnly (readings clock)) (run_by config until (record world { clock = clock }) finish) has
      → RanFrom readings told hears speaks dials made faults started (HasToldFirst (readings world.clock) first) (run_by config until world finish) has'
  ran-after world clock first config until finish has has' more adds ran =
      let later : (all : List ℕ) → HasToldFirst (readings world.clock) first all → HasRead (readings clock) all [] =
      λ all (before, read, is). subst (λ b. HasRead (readings clock) b []) (sym is) (has-read-first (readings world.clock) (readings clock) before first read adds) in
      record {
        workers = ran.workers;
        links = ran.links;
        ports = ran.ports;
        order = ran.order;
        began = λ all begun.
            none-maps finish.trail _ _ (λ b. record { turns = b.turns; run = b.run; clock_read = b.clock_read; of_record = more _ b.of_record }) (ran.began all (later all begun));
        served = λ all begun. ran.served all (later all begun);
        recorded = λ all begun. some-maps finish.trail _ _ (λ t recorded. more _ recorded) (ran.recorded all (later all begun));
        early = λ all begun. ran.early all (later all begun);
      }

  -- ---- how such a run ended

  pub ran-known : (begun : List ℕ → Type 0) (run : Run C D L W I O) (has : List Event → Type 0) (before : List ℕ) → begun before
      → RanFrom readings told hears speaks dials made faults started begun run has → IsRunEnd run.status
  ran-known begun run has before is ran = by-trail run.trail _ _ (IsRunEnd run.status)
      (λ early. early-known run.status _ _ _ _ _ _ early)
      (λ t served. end-known run.status _ _ _ _ _ _ _ served.because) (ran.early before is) (ran.served before is)

  pub ran-writes : (begun : List ℕ → Type 0) (run : Run C D L W I O) (has : List Event → Type 0) (before : List ℕ) → begun before
      → RanFrom readings told hears speaks dials made faults started begun run has → run.status ≡ WriteFault → ⊥
  ran-writes begun run has before is ran same = by-trail run.trail _ _ ⊥
      (λ early. early-writes run.status _ _ _ _ _ _ early same)
      (λ t served. end-writes run.status _ _ _ _ _ _ _ served.because same) (ran.early before is) (ran.served before is)

  pub ran-sound : (begun : List ℕ → Type 0) (run : Run C D L W I O) (has : List Event → Type 0) (before : List ℕ) → begun before
      → RanFrom readings told hears speaks dials made faults started begun run has
      → (Rose (told run.world.auth).faults (told run.world'.auth).faults → ⊥) → (Rose (told run.world.acct).faults (told run.world'.acct).faults → ⊥)
      → (Rose (dials run.world.dialer).faults (dials run.world'.dialer).faults → ⊥) → (Rose (faults run.world.crew) (faults run.world'.crew) → ⊥) → IsSoundEnd run.status
  ran-sound begun run has before is ran auths accts links threads = by-trail run.trail _ _ (IsSoundEnd run.status)
      (λ early. early-sound run.status _ _ _ _ _ _ early links (λ twin. either auths accts twin) threads)
      (λ t served. end-sound run.status _ _ _ _ _ _ _ served.because (λ row. links (served.dials_failed row))
      (λ s. either (λ row. auths (served.auth_failed row)) (λ row. accts (served.acct_failed row)) s) threads) (ran.early before is) (ran.served before is)
