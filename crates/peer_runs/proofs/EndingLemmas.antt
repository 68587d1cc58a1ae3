-- How a run of the home server ends.
use Rattle.std.proofs.Common.{◌≡◌, ℕ, ◌≤◌, List, [], ◌∷◌, length, Option, Ok, refl, sym, ap, ◌∙◌, subst, inl, inr, arith}
use Rattle.std.proofs.lemmas.List.{length-append}
use Rattle.wire_core.specs.Counts.{Rose}
use Rattle.wire_core.proofs.SourceLaws.{Consumes-told}
use Rattle.wire_devices.specs.Links.{Inlet, Outlet}
use Rattle.wire_devices.specs.Telling.{Adds}
use Rattle.agent_status.specs.declared.status.Status.{Status}
use Rattle.agent_status.specs.declared.status.Status.TheVariants.{Done, Usage, BadConfig, BadTranscript, ReadFault, WriteFault, LinkFault, PeerRefused, NoThread, OutOfMemory, DatagramFault, LinkEnded, TooLong}
use Rattle.test_peers.specs.declared.users.User.{User}
use Rattle.test_peers.specs.Users.{users_in}
use Rattle.text_commands.specs.WholeInput.{most_whole}
use Rattle.peer_runs.specs.HomeRuns.{FailsToRead, ReadsNone, RunsBy}
use Rattle.peer_runs.specs.Until.{Early, InTime, Late, TimeIsOver, until_of}
use Rattle.peer_runs.proofs.HomeRunLemmas.{linked}
use Rattle.peer_runs.proofs.UntilLemmas.{in-time, time-over}

-- a short list of users is read, but for a failed read and want of memory
pub reading-complete : (status : Status) (X : List ℕ) (users : List User) (left : Option (List ℕ)) (reads reads' : ℕ) → FailsToRead status reads reads' → ReadsNone status X left
    → users_in X ≡ Ok users → length X ≤ most_whole → ¬ Rose reads reads' → status ≡ OutOfMemory
reading-complete (BadTranscript line reason) X users left reads reads' fails none known short sound = absurd cc (sym known ∙ none.1)
reading-complete ReadFault X users left reads reads' fails none known short sound = absurd (sound fails)
reading-complete OutOfMemory X users left reads reads' fails none known short sound = refl
reading-complete TooLong X users left reads reads' fails (octets, consumes, more) known short sound =
    let (ys, still, cut) = Consumes-told consumes X refl in
    absurd (omega (arith, short, more, ap length cut, length-append octets ys))
reading-complete Done X users left reads reads' fails none known short sound = absurd fails
reading-complete Usage X users left reads reads' fails none known short sound = absurd fails
reading-complete (BadConfig fault) X users left reads reads' fails none known short sound = absurd fails
reading-complete WriteFault X users left reads reads' fails none known short sound = absurd fails
reading-complete LinkFault X users left reads reads' fails none known short sound = absurd fails
reading-complete (PeerRefused code) X users left reads reads' fails none known short sound = absurd fails
reading-complete NoThread X users left reads reads' fails none known short sound = absurd fails
reading-complete DatagramFault X users left reads reads' fails none known short sound = absurd fails
reading-complete (LinkEnded cause) X users left reads reads' fails none known short sound = absurd fails

-- a run over a link until a moment, which was counted from the first reading
pub runs-timed : (status : Status) (users : List User) (inlet : Inlet) (outlet : Outlet) (before now : Option (List ℕ)) (first millis until : ℕ) (start then end : Option (List ℕ))
    → Adds start then (first ∷ []) → until ≡ until_of first millis → RunsBy status users (Early until then end) (Late until then end) (linked inlet outlet before now)
    → RunsBy status users (InTime millis start end) (TimeIsOver millis start end) (linked inlet outlet before now)
runs-timed status users inlet outlet before now first millis until start then end adds is (inl runs) =
    inl (in-time first millis adds (subst (λ (u : ℕ). Early u then end) is runs.0), runs.1)
runs-timed status users inlet outlet before now first millis until start then end adds is (inr runs) =
    inr (time-over first millis adds (subst (λ (u : ℕ). Late u then end) is runs.0), runs.1, runs.2, runs.3)
