-- The core's step is followed by what the rule says of it.
use Rattle.std.proofs.Common.{◌≡◌, ℕ, ◌+◌, List, [], ◌∷◌, ◌++◌, Option, Some, None, Result, Ok, Err, refl, sym, ap, ◌∙◌, subst}
use Rattle.std.specs.Prelude.{find, max, option_and_then}
use Rattle.radius_packet.specs.declared.reasons.Reason.{Reason}
use Rattle.radius_packet.specs.declared.reasons.Via.TheVariants.{Acct, Auth}
use Rattle.agent_settings.specs.Config.{InLimits}
use Rattle.agent_settings.specs.declared.config.Config.{Config}
use Rattle.pending_table.specs.declared.key.Key.{Key}
use Rattle.pending_table.specs.Table.{same_key}
use Rattle.agent_core.specs.declared.ledger.Ledger.{Ledger as CoreState}
use Rattle.agent_events.specs.declared.events.Input.{Input}
use Rattle.agent_events.specs.declared.events.Input.TheVariants.{Datagram, Up, Ready, Message, Broken, Down, Tick, Drain, Leave}
use Rattle.agent_events.specs.declared.events.Output.{Output}
use Rattle.agent_core.specs.Verdict.{Request, verdict}
use Rattle.agent_core.specs.Rooms.{rooms, refusal}
use Rattle.agent_core.specs.Places.{Event, Place, Taking, live, answer_to, now}
use Rattle.agent_core.specs.History.{past}
use Rattle.agent_core.specs.History.{at_input, admitted, requested, repeated, datagram}
use Rattle.agent_core.specs.Promise.{IsReal}
use Rattle.agent_core.specs.Standing.{StandsFor}
use Rattle.session_book.specs.Reading.{session_in}
use Rattle.session_book.specs.Book.{Change, Keep, changed}
use Rattle.session_book.specs.History.{taken_session, taken_change, input_change, passed_deed, core_event}
use Rattle.session_book.specs.Holding.{Holds}
use Rattle.session_book.specs.Aborts.{Deed, after}
use Rattle.session_book.specs.Standing.{BookState}
use Rattle.session_book.specs.State.{short_session, sends_session, place_after, Does, Passes, opens}
use Rattle.session_book.proofs.ShortSessions.{sessions-short, logins-keep}

-- ---- a request is taken up exactly where it goes out

abbrev short_taken : Option Taking → Option (List ℕ)
short_taken taken = option_and_then (λ t. short_session t.sent) taken

repeated-session : (key : Key) (o : Option (Option (List ℕ))) → sends_session (repeated key o) ≡ None
repeated-session key None = refl
repeated-session key (Some None) = refl
repeated-session key (Some (Some octets)) = refl

admitted-session : (config : Config) (ps : List Place) (m : ℕ) (input : Input) (request : Request) (o : Option Reason)
    → sends_session (admitted config ps m input request o).outputs ≡ short_taken (admitted config ps m input request o).taken
admitted-session config ps m input request (Some reason) = refl
admitted-session config ps m input request None = refl

requested-session : (config : Config) (ps : List Place) (m : ℕ) (input : Input) (request : Request) (o : Option Taking)
    → sends_session (requested config ps m input request o).outputs ≡ short_taken (requested config ps m input request o).taken
requested-session config ps m input request (Some t) = repeated-session t.key (answer_to t.place ps)
requested-session config ps m input request None = admitted-session config ps m input request (refusal config (rooms config ps m))

datagram-session : (config : Config) (ps : List Place) (m : ℕ) (input : Input) (r : Result Request Reason)
    → sends_session (datagram config ps m input r).outputs ≡ short_taken (datagram config ps m input r).taken
datagram-session config ps m input (Err reason) = refl
datagram-session config ps m input (Ok request) =
    requested-session config ps m input request (find (λ t. same_key t.key request.key) (live config ps m))

keeps : (input : Input) → ((session : List ℕ) → input_change input session ≡ Keep) → (s t : Option (List ℕ)) → taken_change input s ≡ taken_change input t
keeps input keep None None = refl
keeps input keep None (Some t) = sym (keep t)
keeps input keep (Some s) None = keep s
keeps input keep (Some s) (Some t) = keep s ∙ sym (keep t)

keeps-at : (input : Input) → ((session : List ℕ) → input_change input session ≡ Keep) → (q : Place) → taken_change input (sends_session q.outputs) ≡ taken_change input (taken_session q.taken)
keeps-at input keep q = keeps input keep (sends_session q.outputs) (taken_session q.taken)

-- where the session that is taken is the first
first-agrees : (input : Input) (sent : Option (List ℕ)) (taken : Option Taking) → sent ≡ short_taken taken → ((t : Taking) → taken ≡ Some t → short_session t.sent ≡ session_in t.sent)
    → taken_change input sent ≡ taken_change input (taken_session taken)
first-agrees input sent None is first = ap (taken_change input) is
first-agrees input sent (Some t) is first = ap (taken_change input) (is ∙ first t refl)

-- where whatever is taken changes nothing
keeps-taken : (input : Input) (sent : Option (List ℕ)) (taken : Option Taking) → sent ≡ short_taken taken
    → ((t : Taking) → taken ≡ Some t → (session : List ℕ) → input_change input session ≡ Keep) → taken_change input sent ≡ taken_change input (taken_session taken)
keeps-taken input sent None is keep = ap (taken_change input) is
keeps-taken input sent (Some t) is keep = keeps input (keep t refl) sent (taken_session (Some t))

pub change-agrees : (config : Config) (ps : List Place) (m : ℕ) (input : Input) → InLimits config → IsReal input
    → taken_change input (sends_session (at_input config ps m input).outputs) ≡ taken_change input (taken_session (at_input config ps m input).taken)
change-agrees config ps m (Datagram Acct address port octets) within real =
    let input : Input = Datagram Acct address port octets in
    let q = at_input config ps m input in
    first-agrees input (sends_session q.outputs) q.taken (datagram-session config ps m input (verdict config Acct address port octets))
    (λ t e. sessions-short config ps m address port octets t within real e)
change-agrees config ps m (Datagram Auth address port octets) within real =
    let input : Input = Datagram Auth address port octets in
    let q = at_input config ps m input in
    keeps-taken input (sends_session q.outputs) q.taken (datagram-session config ps m input (verdict config Auth address port octets))
    (λ t e. logins-keep config ps m address port octets t e)
change-agrees config ps m Up within real = keeps-at Up (λ s. refl) (at_input config ps m Up)
change-agrees config ps m Ready within real = keeps-at Ready (λ s. refl) (at_input config ps m Ready)
change-agrees config ps m (Message octets) within real = keeps-at (Message octets) (λ s. refl) (at_input config ps m (Message octets))
change-agrees config ps m (Broken fault) within real = keeps-at (Broken fault) (λ s. refl) (at_input config ps m (Broken fault))
change-agrees config ps m Down within real = keeps-at Down (λ s. refl) (at_input config ps m Down)
change-agrees config ps m Tick within real = keeps-at Tick (λ s. refl) (at_input config ps m Tick)
change-agrees config ps m Drain within real = keeps-at Drain (λ s. refl) (at_input config ps m Drain)
change-agrees config ps m Leave within real = keeps-at Leave (λ s. refl) (at_input config ps m Leave)

-- ---- what the book does about it

-- what the core's step leaves of the rest
pub record SameBook (S V : BookState) : Type 0 where
  pub rows : V.rows ≡ S.rows
  pub aborts : V.aborts ≡ S.aborts
  pub opened : V.opened ≡ S.opened
  pub config : V.core.config ≡ S.core.config

does-from : (at : ℕ) (change : Change) (deed : Deed) (S V U : BookState) → SameBook S V → Does at change deed V U → Does at change deed S U
does-from at change deed S V U same d = record {
  rows = λ rows h. subst (λ n. Holds U.rows (changed n change rows)) (ap (λ (c : Config). c.capacity) same.config)
      (d.rows rows (subst (λ k. Holds k rows) (sym same.rows) h));
  aborts = d.aborts ∙ ap (after deed at) same.aborts;
  opened = d.opened ∙ ap (λ n. n + opens deed) same.opened;
  moment = d.moment;
}

pub passes-by : (H : List Event) (at : ℕ) (input : Input) (S V U : BookState) (from : List Output) → InLimits S.core.config → IsReal input → SameBook S V
    → from ≡ (place_after S.core H at input).outputs
    → Does at (taken_change input (sends_session from)) (passed_deed input from) V U
    → U.core ≡ V.core → StandsFor V.core (H ++ core_event at input ∷ []) → Passes H at input S U
passes-by H at input S V U from within real same is done core stands =
    let q = place_after S.core H at input in
    record {
      done = subst (λ (x : Change). Does at x (passed_deed input q.outputs) S U) (change-agrees S.core.config (past S.core.config H) (max (now (past S.core.config H)) at) input within real)
          (subst (λ (os : List Output). Does at (taken_change input (sends_session os)) (passed_deed input os) S U) is
          (does-from at (taken_change input (sends_session from)) (passed_deed input from) S V U same done));
      core = subst (λ (c : CoreState). StandsFor c (H ++ core_event at input ∷ [])) (sym core) stands;
      config = ap (λ (c : CoreState). c.config) core ∙ same.config;
    }
