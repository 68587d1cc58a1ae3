-- The text of a record is a transcript.
use Rattle.std.proofs.Common.{◌≡◌, ◌≢◌, ℕ, ◌^◌, ◌<◌, ◌==◌, true, false, List, [], ◌∷◌, ◌++◌, map, decimal, All, IsTrue, refl, sym, ap, ap₂, ◌∙◌, append_assoc, lit≤, arith}
use Rattle.std.specs.List.{AllByRecursion as Each, flat_map, join_with_byte, list_all}
use Rattle.std.proofs.lemmas.Bool.{and_parts}
use Rattle.std.proofs.lemmas.List.Concat.{flat_map-cons}
use Rattle.std.proofs.lemmas.List.Elements.{All-append, All-cons, All-head, All-nil, All-tail}
use Rattle.std.proofs.lemmas.List.Folds.{list_any_none}
use Rattle.agent_settings.specs.declared.client.Client.{Client}
use Rattle.agent_settings.specs.declared.config.Config.{Config}
use Rattle.agent_settings.specs.Config.{is_client_in_limits}
use Rattle.agent_events.specs.declared.events.Input.{Input}
use Rattle.printed_lines.specs.EventText.{event_line, event_words, input_words}
use Rattle.printed_lines.specs.SettingsText.{agent_text, agent_words, client_text, client_words}
use Rattle.text_lines.specs.Streams.{IsUnended}
use Rattle.text_lines.specs.Words.{lines_of}
use Rattle.text_lines.proofs.LineLemmas.{lines-cut}
use Rattle.transcript.specs.Grammar.{Lacks}
use Rattle.transcript.specs.Reading.{Said, read_from, start}
use Rattle.transcript.specs.Records.{AreTellable, AreTellableSettings, IsTellableClient, RecordsAreTranscripts, behind_settings, client_lines, is_broken_after, record_text, says_before, settings_lines, settings_say, told_lines}
use Rattle.transcript.proofs.Grammar.GrammarJoinLemmas.{passed}
use Rattle.transcript.proofs.Records.RecordLemmas.{event-lines-are-read, no-end, number-lacks, words-lack}
use Rattle.transcript.proofs.Records.SettingsLines.{agent-words-lack, all-lack, client-words-lack, settings-lines-are-read}

-- ---- lines and their ends

abbrev ended : List (List ℕ) → List ℕ
ended [] = []
ended (l ∷ lines) = (l ++ 10 ∷ []) ++ ended lines

ended-append : (first second : List (List ℕ)) → ended (first ++ second) ≡ ended first ++ ended second
ended-append [] second = refl
ended-append (l ∷ first) second =
    ap (λ r. (l ++ 10 ∷ []) ++ r) (ended-append first second) ∙ sym (append_assoc (l ++ 10 ∷ []) (ended first) (ended second))

lines-ended : (lines : List (List ℕ)) → Each IsUnended lines → lines_of (ended lines) ≡ lines
lines-ended [] each = refl
lines-ended (l ∷ lines) each =
    ap lines_of (append_assoc l (10 ∷ []) (ended lines)) ∙ lines-cut l (ended lines) each.0 ∙ ap (λ r. l ∷ r) (lines-ended lines each.1)

clients-ended : (clients : List Client) → flat_map client_text clients ≡ ended (client_lines clients)
clients-ended [] = refl
clients-ended (client ∷ clients) = flat_map-cons client_text client clients ∙ ap (λ r. client_text client ++ r) (clients-ended clients)

events-ended : (events : List (ℕ × Input)) → flat_map (λ e. event_line e.0 e.1) events ≡ ended (told_lines events)
events-ended [] = refl
events-ended (e ∷ events) =
    flat_map-cons (λ (e : ℕ × Input). event_line e.0 e.1) e events ∙ ap (λ r. event_line e.0 e.1 ++ r) (events-ended events)

record-ended : (config : Config) (events : List (ℕ × Input)) → record_text config events ≡ ended (settings_lines config ++ told_lines events)
record-ended config events =
    append_assoc (agent_text config) (flat_map client_text config.clients) (flat_map (λ e. event_line e.0 e.1) events)
    ∙ ap (λ r. agent_text config ++ r)
    (ap₂ (λ a b. a ++ b) (clients-ended config.clients) (events-ended events) ∙ sym (ended-append (client_lines config.clients) (told_lines events)))

-- ---- none of the lines has an end in it

joined-lacks : (words : List (List ℕ)) → All (Lacks 10) words → Lacks 10 (join_with_byte 32 words)
joined-lacks [] lack = All-nil (λ y. y ≢ 10)
joined-lacks (word ∷ []) lack = All-head (Lacks 10) word [] lack
joined-lacks (word ∷ next ∷ words) lack =
    All-append (λ y. y ≢ 10) word (32 ∷ join_with_byte 32 (next ∷ words)) (All-head (Lacks 10) word (next ∷ words) lack)
    (All-cons (λ y. y ≢ 10) 32 (join_with_byte 32 (next ∷ words)) (λ e. omega (arith, e)) (joined-lacks (next ∷ words) (All-tail (Lacks 10) word (next ∷ words) lack)))

unended : (words : List (List ℕ)) → All (Lacks 10) words → IsUnended (join_with_byte 32 words)
unended words lack =
    list_any_none (λ x. x == 10) (join_with_byte 32 words) (passed 10 (join_with_byte 32 words) (joined-lacks words lack))

clients-unended : (clients : List Client) → list_all is_client_in_limits clients ≡ true → Each IsTellableClient clients → Each IsUnended (client_lines clients)
clients-unended [] within tell = tt
clients-unended (client ∷ clients) within tell =
    let (first, others) = and_parts (is_client_in_limits client) (list_all is_client_in_limits clients) within in (
      unended (client_words client) (all-lack 10 (client_words client) (client-words-lack client first tell.0 10 no-end)),
      clients-unended clients others tell.1,
    )

events-unended : (broken : _) (events : List (ℕ × Input)) → AreTellable broken events → Each IsUnended (told_lines events)
events-unended broken [] are = tt
events-unended broken (e ∷ events) (small, is, may, more) = (
  unended (event_words e.0 e.1) (All-cons (Lacks 10) (decimal e.0) (input_words e.1) (number-lacks 10 no-end e.0 small) (words-lack 10 no-end e.1 is)),
  events-unended (is_broken_after broken e.1) events more,
)

each-append : (first second : List (List ℕ)) → Each IsUnended first → Each IsUnended second → Each IsUnended (first ++ second)
each-append [] second a b = b
each-append (l ∷ first) second a b = (a.0, each-append first second a.1 b)

-- ---- a record

pub records-are-transcripts : RecordsAreTranscripts
records-are-transcripts config boot events is are =
    let settings : Each IsUnended (settings_lines config) = (
      unended (agent_words config) (all-lack 10 (agent_words config) (agent-words-lack config boot is 10 no-end)),
      clients-unended config.clients is.limits.clients is.clients,
    ) in
    ap (λ text. read_from start (lines_of text)) (record-ended config events)
    ∙ ap (read_from start) (lines-ended (settings_lines config ++ told_lines events) (each-append (settings_lines config) (told_lines events) settings (events-unended false events are)))
    ∙ settings-lines-are-read config boot (told_lines events) is
    ∙ ap (says_before (settings_say config)) (event-lines-are-read (behind_settings config) false events (λ e. cc) ([], tt, refl) are)
