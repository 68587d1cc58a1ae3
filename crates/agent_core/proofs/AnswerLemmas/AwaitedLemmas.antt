-- The entry that a message would settle is the one of the request that it matches.
use Rattle.std.proofs.Common.{◌≡◌, ℕ, Bool, true, false, cond, max, List, find, option_map, Option, Some, None, Result, Ok, Err, refl, sym, ◌∙◌, ap, subst, arith}
use Rattle.std.specs.Prelude.{◌==◌, IfSome, slice_get}
use Rattle.diameter_message.specs.Message.{MessageParts, read_message}
use Rattle.diameter_message.specs.declared.fault.MessageFault.{MessageFault}
use Rattle.agent_settings.specs.Config.{FoundStandsAtPlace}
use Rattle.pending_table.specs.declared.entry.Entry.{Entry}
use Rattle.pending_table.specs.Table as table
use Rattle.pending_table.specs.Table.{Row}
use Rattle.peer_machine.specs.Reading.{said_in}
use Rattle.peer_machine.specs.Rules.{if_room, on_said}
use Rattle.peer_machine.specs.Step.{is_pass}
use Rattle.peer_machine.specs.declared.words.Act.{Act}
use Rattle.peer_machine.specs.declared.words.Act.TheVariants.{Nothing, Serve, Discard, Pass, Close, Request, Answer, AnswerAndClose}
use Rattle.peer_machine.specs.declared.words.Event.TheVariants.{Says}
use Rattle.agent_events.specs.declared.events.Input.TheVariants.{Message}
use Rattle.agent_core.specs.declared.ledger.Ledger.{Ledger}
use Rattle.agent_core.specs.Places.{Event, Place, Taking, now, waiting}
use Rattle.agent_core.specs.History.{answered, command_of, heard, link_act, linked, matches, messaged, past, place}
use Rattle.agent_core.specs.Machine.{at_moment, awaited, awaited_by, passes, settles}
use Rattle.agent_core.specs.Fits.{KeptFits}
use Rattle.agent_core.specs.Standing.{IsSteady, StandsAt, StandsFor, entry_of, row_of}
use Rattle.agent_core.proofs.StandingLemmas.Agreeing.{StandsAt-later, act-agrees}
use Rattle.agent_core.proofs.StandingLemmas.Histories.{past-standing}
use Rattle.agent_core.proofs.StandingLemmas.Later.{steady-later}
use Rattle.agent_core.proofs.ListLemmas.Lists.{find-All}
use Rattle.agent_core.proofs.StandingLemmas.Numbers.{find-alone, kept_if, number-agrees, numbered, waiting-alone, waiting-fits}
use Rattle.agent_core.proofs.StandingLemmas.Rows.{found-kept}
use Rattle.agent_core.proofs.LawLemmas.Soundness.{TakingFits}
use Rattle.agent_core.proofs.LawLemmas.Sound.{IsSound}
use Rattle.agent_core.proofs.StandingLemmas.Steps.{Lasts}

-- whether the link hands a message on hangs on its phase alone
pass-by : (spare : Bool) (act : Act) → is_pass (if_room spare act) ≡ is_pass act
pass-by true Nothing = refl
pass-by false Nothing = refl
pass-by true Serve = refl
pass-by false Serve = refl
pass-by true (Discard reason) = refl
pass-by false (Discard reason) = refl
pass-by true Pass = refl
pass-by false Pass = refl
pass-by true (Close cause) = refl
pass-by false (Close cause) = refl
pass-by true (Request what) = refl
pass-by false (Request what) = refl
pass-by true (Answer code error) = refl
pass-by false (Answer code error) = refl
pass-by true (AnswerAndClose code cause) = refl
pass-by false (AnswerAndClose code cause) = refl

by-phase : (S : Ledger) (message : MessageParts) → passes S message ≡ is_pass (on_said S.peer.link.phase (said_in message))
by-phase S message = pass-by _ _

pub passes_later : (S : Ledger) (moment : ℕ) (message : MessageParts) → passes (at_moment S moment) message ≡ passes S message
passes_later S moment message = by-phase (at_moment S moment) message ∙ sym (by-phase S message)

-- ---- by the history

settles-is : (message : MessageParts) (ps : List Place) (o : Option Taking)
    → settles message (option_map (row_of ps) o) ≡ option_map (entry_of ps) (kept_if (λ t. message.header.command == command_of t.kept.kind) o)
settles-is message ps None = refl
settles-is message ps (Some t) = elim (message.header.command == command_of t.kept.kind) as
    (λ b. cond b (Some (entry_of ps t)) None ≡ option_map (entry_of ps) (cond b (Some t) None)) [
      | true ↦ refl
      | false ↦ refl
    ]

answered-matched : (S : Ledger) (ps : List Place) (m : ℕ) (message : MessageParts) (p : Place) (o : Option Taking) → p.matched ≡ None → (answered S.config ps m message p o).matched ≡ o
answered-matched S ps m message p None unmatched = unmatched
answered-matched S ps m message p (Some t) unmatched = refl

heard-matched : (S : Ledger) (ps : List Place) (m : ℕ) (message : MessageParts) (p : Place) → p.matched ≡ None → (b : Bool)
    → (heard S.config ps m message p b).matched ≡ cond b (find (matches ps message.header) (waiting S.config ps m)) None
heard-matched S ps m message p unmatched true = answered-matched S ps m message p (find (matches ps message.header) (waiting S.config ps m)) unmatched
heard-matched S ps m message p unmatched false = unmatched

module _ (ps : List Place) (m : ℕ) (S : Ledger) (stands : StandsAt ps m S) (sound : IsSound S.config ps) (octets : List ℕ) where
  found : (message : MessageParts) → settles message (table.find_number S.table S.peer.link.number message.header.hop S.moment)
      ≡ option_map (entry_of ps) (find (matches ps message.header) (waiting S.config ps m))
  found message =
      let hop = message.header.hop in
      ap (settles message) (number-agrees ps m S hop stands sound)
      ∙ settles-is message ps (find (numbered ps hop) (waiting S.config ps m))
      ∙ ap (option_map (entry_of ps)) (sym (find-alone (numbered ps hop) (λ t. message.header.command == command_of t.kept.kind) (waiting S.config ps m) (waiting-alone S.config ps m hop sound)))

  cond-map : (b : Bool) (o : Option Entry) (t : Option Taking) → o ≡ option_map (entry_of ps) t → cond b o None ≡ option_map (entry_of ps) (cond b t None)
  cond-map true o t is = is
  cond-map false o t is = refl

  pub awaited-is : (r : Result MessageParts MessageFault) → awaited S r ≡ option_map (entry_of ps) (messaged S.config ps m (Message octets) r).matched
  awaited-is (Err fault) = refl
  awaited-is (Ok message) =
      let hands = is_pass (link_act S.config ps m (Message octets) (Says (said_in message))) in
      let p = linked S.config ps m (Message octets) (Says (said_in message)) (Some message) in
      ap (λ b. cond b (settles message (table.find_number S.table S.peer.link.number message.header.hop S.moment)) None) (ap is_pass (act-agrees ps m S stands (Message octets) (Says (said_in message)) refl))
      ∙ cond-map hands _ _ (found message)
      ∙ ap (option_map (entry_of ps)) (sym (heard-matched S ps m message p refl hands))

  -- its client is one of the settings'
  fits-client : (test : Taking → Bool) (o : Option Taking) → find test (waiting S.config ps m) ≡ o → IfSome o (λ t. slice_get S.config.clients t.kept.client ≡ Some t.settings)
  fits-client test None is = tt
  fits-client test (Some t) is = (find-All (TakingFits S.config ps) test (waiting S.config ps m) (waiting-fits S.config ps m sound) t is).settings

  cond-client : (b : Bool) (o : Option Taking) → IfSome o (λ t. slice_get S.config.clients t.kept.client ≡ Some t.settings)
      → IfSome (cond b o None) (λ t. slice_get S.config.clients t.kept.client ≡ Some t.settings)
  cond-client true o is = is
  cond-client false o is = tt

  pub matched-client : (r : Result MessageParts MessageFault) → IfSome (messaged S.config ps m (Message octets) r).matched (λ t. slice_get S.config.clients t.kept.client ≡ Some t.settings)
  matched-client (Err fault) = tt
  matched-client (Ok message) =
      let hands = is_pass (link_act S.config ps m (Message octets) (Says (said_in message))) in
      let p = linked S.config ps m (Message octets) (Says (said_in message)) (Some message) in
      subst (λ o. IfSome o (λ t. slice_get S.config.clients t.kept.client ≡ Some t.settings)) (sym (heard-matched S ps m message p refl hands))
      (cond-client hands _ (fits-client (matches ps message.header) _ refl))

-- the same of a ledger that stands for a history
pub client-after : FoundStandsAtPlace → (S : Ledger) (H : List Event) (moment : ℕ) (octets : List ℕ) → Lasts S.config → StandsFor S H
    → IfSome (place S.config (past S.config H) (record { moment = moment; input = Message octets })).matched (λ t. slice_get S.config.clients t.kept.client ≡ Some t.settings)
client-after law S H moment octets lasts stands =
    let ps = past S.config H in
    let m = max (now ps) moment in
    let later = StandsAt-later ps S (now ps) m (omega arith) stands in
    matched-client ps m (record S { moment = m }) later (past-standing law S.config lasts H).sound octets (read_message octets)

-- what the entry keeps fits
settled-kept : (S : Ledger) (message : MessageParts) (o : Option Row) (e : Entry) → settles message o ≡ Some e → option_map (λ (r : Row). r.1) o ≡ Some e
settled-kept S message None e is = cc
settled-kept S message (Some row) e is = elim (message.header.command == command_of row.1.kept.kind) as (λ b. cond b (Some row.1) None ≡ Some e → Some row.1 ≡ Some e) [
  | true ↦ (λ same. same)
  | false ↦ (λ no. cc)
] is

awaited-found : (S : Ledger) (message : MessageParts) (b : Bool) (e : Entry) → cond b (settles message (table.find_number S.table S.peer.link.number message.header.hop S.moment)) None ≡ Some e
    → option_map (λ (r : Row). r.1) (table.find_number S.table S.peer.link.number message.header.hop S.moment) ≡ Some e
awaited-found S message true e is = settled-kept S message _ e is
awaited-found S message false e is = cc

pub awaited-kept : (S : Ledger) (moment : ℕ) (message : MessageParts) (o : Option Entry) → IsSteady S → o ≡ awaited_by (at_moment S moment) message → IfSome o (λ e. KeptFits S.config e.kept)
awaited-kept S moment message None steady is = tt
awaited-kept S moment message (Some e) steady is =
    let T = at_moment S moment in
    found-kept T message.header.hop e (steady-later S moment steady) (awaited-found T message (passes T message) e (sym is))

-- the same of a ledger that stands for a history
pub awaited-after : FoundStandsAtPlace → (S : Ledger) (H : List Event) (moment : ℕ) (octets : List ℕ) → Lasts S.config → StandsFor S H
    → awaited (at_moment S moment) (read_message octets) ≡ option_map (entry_of (past S.config H)) (place S.config (past S.config H) (record { moment = moment; input = Message octets })).matched
awaited-after law S H moment octets lasts stands =
    let ps = past S.config H in
    let m = max (now ps) moment in
    let later = StandsAt-later ps S (now ps) m (omega arith) stands in
    ap (λ n. awaited (record S { moment = max n moment }) (read_message octets)) stands.moment
    ∙ awaited-is ps m (record S { moment = m }) later (past-standing law S.config lasts H).sound octets (read_message octets)
