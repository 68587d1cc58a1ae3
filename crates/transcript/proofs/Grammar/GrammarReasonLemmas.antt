-- The reader refuses exactly the lines that have one of the four reasons, and each for its reason.
use Rattle.std.proofs.Common.{◌≡◌, ◌≢◌, ℕ, ◌+◌, ◌<◌, ◌⊎◌, inl, inr, Bool, true, false, ◌&&◌, ◌||◌, cond, eqb, ltb, List, [], ◌∷◌, length, codes, bytes_eq, Option, Some, None, Ok, Err, refl, sym, ap, ap₂, subst, ◌∙◌, eqb-true, rules, arith}
use Rattle.std.specs.List.{list_any}
use Rattle.std.proofs.lemmas.Bool.{and_parts, cond-false, cond-true, lt-ltb, ltb-false, ltb-true}
use Rattle.std.proofs.lemmas.List.Folds.{list_any_none}
use Rattle.std.proofs.lemmas.Option.{same_Some}
use Rattle.std.proofs.lemmas.Slice.Eq.{bytes_eq-Decides}
use Rattle.agent_settings.specs.declared.client.Client.{Client}
use Rattle.agent_settings.specs.declared.config.Config.{Config}
use Rattle.radius_packet.specs.declared.reasons.Via.TheVariants.{Auth, Acct}
use Rattle.text_lines.specs.Words.{words_of}
use Rattle.transcript.specs.Grammar.{AreBadFor, AreOfKinds, BeginsWith, IsAgentForm, IsBadFor, IsClientForm, IsControlForm, IsEventForm, IsLine, IsNamed, IsSecondClient, Lacks, LinesAreBadForAReason, MayStand, SaysWords}
use Rattle.transcript.specs.Kinds.{begins_with, event_kind, event_name, is_control, kind_of, named_kind, words_behind}
use Rattle.transcript.specs.Lines.{client_of, control_of, event_of, settings_of}
use Rattle.transcript.specs.Reading.{At, Step, agent_step, client_step, control_step, event_step, kind_step, may_stand, read_line, words_step}
use Rattle.transcript.specs.declared.control.Control.{Control}
use Rattle.transcript.specs.declared.happening.Happening.{Happening}
use Rattle.transcript.specs.declared.kind.EventName.{EventName}
use Rattle.transcript.specs.declared.kind.EventName.TheVariants.{Datagram, Link, Up, Ready, Down, Tick, Drain, Leave}
use Rattle.transcript.specs.declared.kind.Kind.{Kind}
use Rattle.transcript.specs.declared.kind.Kind.TheVariants as kind
use Rattle.transcript.specs.declared.line.Line.{Line}
use Rattle.transcript.specs.declared.line.Line.TheVariants as line
use Rattle.transcript.proofs.Grammar.GrammarEventLemmas.{control-kind, control-read, event-read}
use Rattle.transcript.proofs.Grammar.GrammarJoinLemmas.{line-read, line-spelled, passed}
use Rattle.transcript.proofs.Grammar.GrammarKindLemmas.{IsEventOf, IsOfKind, kind-spelled}
use Rattle.transcript.proofs.Grammar.GrammarLemmas.{after-start, at-start, controls-stand, events-stand, in-settings, is-kind, line-says, may-control, words-read}
use Rattle.transcript.proofs.Grammar.GrammarLineLemmas.{agent-kind, agent-read, client-kind, client-read, client-spelled}

-- ---- the form of each kind

abbrev FormOf : Kind → List (List ℕ) → Type 0
FormOf kind.Agent words = IsAgentForm words
FormOf kind.Client words = IsClientForm words
FormOf (kind.Event name) words = IsEventForm words
FormOf kind.Control words = IsControlForm words

begins : (name : List ℕ) (words : List (List ℕ)) → begins_with name words ≡ true → BeginsWith name words
begins name [] e = cc
begins name (word ∷ words) e = (words, ap (λ w. w ∷ words) ((bytes_eq-Decides word name).0 e))

ten-or-more : (n : ℕ) → (eqb n 10 || eqb n 11) ≡ true → (n ≡ 10) ⊎ (n ≡ 11)
ten-or-more n e = by (eqb n 10) (eqb n 11) refl refl e
  where
    by : (a b : Bool) → eqb n 10 ≡ a → eqb n 11 ≡ b → (a || b) ≡ true → (n ≡ 10) ⊎ (n ≡ 11)
    by true b ten eleven e = inl (eqb-true n 10 ten)
    by false true ten eleven e = inr (eqb-true n 11 eleven)
    by false false ten eleven e = cc

event-form : (name : EventName) (words : List (List ℕ)) → IsEventOf words name → IsEventForm words
event-form (Datagram Auth) words is = inl (omega (arith, ap length is.spelled, is.count), inl (is.word, (is.behind, is.spelled)))
event-form (Datagram Acct) words is = inl (omega (arith, ap length is.spelled, is.count), inr (inl (is.word, (is.behind, is.spelled))))
event-form Link words is = inr (inl (omega (arith, ap length is.spelled, is.count), inl (is.word, (is.behind, is.spelled))))
event-form Up words is = inr (inr (omega (arith, ap length is.spelled, is.count), inl (is.word, (is.behind, is.spelled))))
event-form Ready words is = inr (inr (omega (arith, ap length is.spelled, is.count), inr (inl (is.word, (is.behind, is.spelled)))))
event-form Down words is = inr (inr (omega (arith, ap length is.spelled, is.count), inr (inr (inl (is.word, (is.behind, is.spelled))))))
event-form Tick words is = inr (inr (omega (arith, ap length is.spelled, is.count), inr (inr (inr (inl (is.word, (is.behind, is.spelled)))))))
event-form Drain words is =
    inr (inr (omega (arith, ap length is.spelled, is.count), inr (inr (inr (inr (inl (is.word, (is.behind, is.spelled))))))))
event-form Leave words is =
    inr (inr (omega (arith, ap length is.spelled, is.count), inr (inr (inr (inr (inr (inl (is.word, (is.behind, is.spelled)))))))))

control-form : (words : List (List ℕ)) → is_control words ≡ true → IsControlForm words
control-form [] is = cc
control-form (moment ∷ []) is = cc
control-form (moment ∷ name ∷ behind) is =
    let (named, count) = and_parts (bytes_eq name (codes "control")) (eqb (length behind) 3) is in (
      omega (arith, eqb-true (length behind) 3 count),
      inl (moment, (behind, ap (λ w. moment ∷ w ∷ behind) ((bytes_eq-Decides name (codes "control")).0 named))),
    )

kind-form : (words : List (List ℕ)) (found : Kind) → IsOfKind words found → FormOf found words
kind-form words kind.Agent (count, is) = (ten-or-more (length words) count, begins (codes "agent") words is)
kind-form words kind.Client (count, is) = (eqb-true (length words) 9 count, begins (codes "client") words is)
kind-form words (kind.Event name) is = event-form name words is
kind-form words kind.Control is = control-form words is

-- ---- the kind of each form

long-enough : (n : ℕ) → (n ≡ 10) ⊎ (n ≡ 11) → (eqb n 10 || eqb n 11) ≡ true
long-enough n (inl ten) = ap (λ m. eqb m 10 || eqb m 11) ten
long-enough n (inr eleven) = ap (λ m. eqb m 10 || eqb m 11) eleven

agent-of : (words : List (List ℕ)) → IsAgentForm words → kind_of words ≡ Some kind.Agent
agent-of words (count, (behind, is)) =
    cond-true ((eqb (length words) 10 || eqb (length words) 11) && begins_with (codes "agent") words) _ _
    (ap₂ (λ a b. a && b) (long-enough (length words) count) (ap (begins_with (codes "agent")) is))

client-of : (words : List (List ℕ)) → IsClientForm words → kind_of words ≡ Some kind.Client
client-of words (nine, (behind, is)) =
    cond-false ((eqb (length words) 10 || eqb (length words) 11) && begins_with (codes "agent") words) _ _
    (ap (λ n. (eqb n 10 || eqb n 11) && begins_with (codes "agent") words) nine)
    ∙ cond-true (eqb (length words) 9 && begins_with (codes "client") words) _ _
    (ap₂ (λ a b. a && b) (ap (λ n. eqb n 9) nine) (ap (begins_with (codes "client")) is))

-- words of another count are a control line or an event
shorter : (words : List (List ℕ)) (n : ℕ) → length words ≡ n → (eqb n 10 || eqb n 11) ≡ false → eqb n 9 ≡ false
    → kind_of words ≡ cond (is_control words) (Some kind.Control) (event_kind words)
shorter words n size not_long not_nine =
    cond-false ((eqb (length words) 10 || eqb (length words) 11) && begins_with (codes "agent") words) _ _
    (ap (λ m. (eqb m 10 || eqb m 11) && begins_with (codes "agent") words) size ∙ ap (λ b. b && begins_with (codes "agent") words) not_long)
    ∙ cond-false (eqb (length words) 9 && begins_with (codes "client") words) _ _
    (ap (λ m. eqb m 9 && begins_with (codes "client") words) size ∙ ap (λ b. b && begins_with (codes "client") words) not_nine)

named-event : (name : EventName) (n : ℕ) (words : List (List ℕ)) (spelled first : List ℕ) (behind : List (List ℕ)) → words ≡ first ∷ spelled ∷ behind
    → length words ≡ n → (eqb n 10 || eqb n 11) ≡ false → eqb n 9 ≡ false → n ≡ words_behind name + 2
    → bytes_eq spelled (codes "control") ≡ false → event_name spelled ≡ Some name → kind_of words ≡ Some (kind.Event name)
named-event name n words spelled first behind is size not_long not_nine count other named =
    let size' : length behind ≡ words_behind name = omega (arith, ap length is, size, count) in
    let same : eqb (length behind) (words_behind name) ≡ true = search (rules, size') in
    shorter words n size not_long not_nine
    ∙ ap (λ ws. cond (is_control ws) (Some kind.Control) (event_kind ws)) is
    ∙ ap (λ b. cond (b && eqb (length behind) 3) (Some kind.Control) (named_kind (event_name spelled) (length behind))) other
    ∙ ap (λ o. named_kind o (length behind)) named
    ∙ cond-true (eqb (length behind) (words_behind name)) _ _ same

event-of-form : (words : List (List ℕ)) → IsEventForm words → (name : EventName) × (kind_of words ≡ Some (kind.Event name))
event-of-form words (inl (size, inl (first, (behind, is)))) =
    (Datagram Auth, named-event (Datagram Auth) 5 words (codes "auth") first behind is size refl refl refl refl refl)
event-of-form words (inl (size, inr (inl (first, (behind, is))))) =
    (Datagram Acct, named-event (Datagram Acct) 5 words (codes "acct") first behind is size refl refl refl refl refl)
event-of-form words (inl (size, inr (inr none))) = absurd none
event-of-form words (inr (inl (size, inl (first, (behind, is))))) =
    (Link, named-event Link 3 words (codes "link") first behind is size refl refl refl refl refl)
event-of-form words (inr (inl (size, inr none))) = absurd none
event-of-form words (inr (inr (size, inl (first, (behind, is))))) =
    (Up, named-event Up 2 words (codes "up") first behind is size refl refl refl refl refl)
event-of-form words (inr (inr (size, inr (inl (first, (behind, is)))))) =
    (Ready, named-event Ready 2 words (codes "ready") first behind is size refl refl refl refl refl)
event-of-form words (inr (inr (size, inr (inr (inl (first, (behind, is))))))) =
    (Down, named-event Down 2 words (codes "down") first behind is size refl refl refl refl refl)
event-of-form words (inr (inr (size, inr (inr (inr (inl (first, (behind, is)))))))) =
    (Tick, named-event Tick 2 words (codes "tick") first behind is size refl refl refl refl refl)
event-of-form words (inr (inr (size, inr (inr (inr (inr (inl (first, (behind, is))))))))) =
    (Drain, named-event Drain 2 words (codes "drain") first behind is size refl refl refl refl refl)
event-of-form words (inr (inr (size, inr (inr (inr (inr (inr (inl (first, (behind, is)))))))))) =
    (Leave, named-event Leave 2 words (codes "leave") first behind is size refl refl refl refl refl)
event-of-form words (inr (inr (size, inr (inr (inr (inr (inr (inr none)))))))) = absurd none

control-of-form : (words : List (List ℕ)) → IsControlForm words → kind_of words ≡ Some kind.Control
control-of-form words (size, inl (first, (behind, is))) =
    let three : length behind ≡ 3 = omega (arith, ap length is, size) in
    shorter words 5 size refl refl
    ∙ ap (λ ws. cond (is_control ws) (Some kind.Control) (event_kind ws)) is
    ∙ cond-true (bytes_eq (codes "control") (codes "control") && eqb (length behind) 3) _ _ (ap (λ n. eqb n 3) three)
control-of-form words (size, inr none) = absurd none

-- ---- a line that may stand here

record Stands (at : At) (words : List (List ℕ)) : Type 0 where
  found : Kind
  is : kind_of words ≡ Some found
  stands : may_stand at.controls at.section (length at.addresses) found ≡ true

stands-by-form : (at : At) (words : List (List ℕ)) → MayStand at words → Stands at words
stands-by-form at words (inl (first, form)) = record {
  found = kind.Agent;
  is = agent-of words form;
  stands = ap (λ s. may_stand at.controls s (length at.addresses) kind.Agent) first;
}
stands-by-form at words (inr (inl (follows, few, form))) = record {
  found = kind.Client;
  is = client-of words form;
  stands = ap (λ s. may_stand at.controls s (length at.addresses) kind.Client) follows ∙ lt-ltb (length at.addresses) 1024 few;
}
stands-by-form at words (inr (inr (inl (further, form)))) =
    let (name, is) = event-of-form words form in
    record { found = kind.Event name; is = is; stands = events-stand name at.controls at.section (length at.addresses) further }
stands-by-form at words (inr (inr (inr (further, asked, form)))) = record {
  found = kind.Control;
  is = control-of-form words form;
  stands = controls-stand at.controls at.section (length at.addresses) asked further;
}

may-by-kind : (at : At) (words : List (List ℕ)) (found : Kind) → may_stand at.controls at.section (length at.addresses) found ≡ true
    → FormOf found words → MayStand at words
may-by-kind at words kind.Agent stands form = inl (at-start at.controls at.section _ stands, form)
may-by-kind at words kind.Client stands form =
    let may = in-settings at.controls at.section _ stands in inr (inl (may.is, may.few, form))
may-by-kind at words (kind.Event name) stands form = inr (inr (inl (after-start name at.controls at.section _ stands, form)))
may-by-kind at words kind.Control stands form =
    let may = may-control at.controls at.section _ stands in inr (inr (inr (may.further, may.asked, form)))

may-here : (at : At) (words : List (List ℕ)) (found : Kind) → kind_of words ≡ Some found
    → may_stand at.controls at.section (length at.addresses) found ≡ true → MayStand at words
may-here at words found is stands = may-by-kind at words found stands (kind-form words found (kind-spelled words found is))

-- ---- words of their kinds are read

abbrev ReadsAs : Kind → List (List ℕ) → Type 0
ReadsAs kind.Agent words = (config : Config) × (settings_of words ≡ Some config)
ReadsAs kind.Client words = (client : Client) × (client_of words ≡ Some client)
ReadsAs (kind.Event name) words = (told : ℕ × Happening) × (event_of name words ≡ Some told)
ReadsAs kind.Control words = (told : Control) × (control_of words ≡ Some told)

kinds-read : (words : List (List ℕ)) (found : Kind) → kind_of words ≡ Some found → AreOfKinds words → ReadsAs found words
kinds-read words found e (inl (config, is)) =
    subst (λ k. ReadsAs k words) (same_Some kind.Agent found (sym (agent-kind words config is) ∙ e)) (config, agent-read words config is)
kinds-read words found e (inr (inl (client, is))) =
    subst (λ k. ReadsAs k words) (same_Some kind.Client found (sym (client-kind words client is) ∙ e)) (client, client-read words client is)
kinds-read words found e (inr (inr (inl (moment, (told, is))))) =
    let read = event-read words moment told is in
    subst (λ k. ReadsAs k words) (same_Some (kind.Event read.name) found (sym read.is_kind ∙ e)) ((moment, told), read.reads)
kinds-read words found e (inr (inr (inr (told, is)))) =
    subst (λ k. ReadsAs k words) (same_Some kind.Control found (sym (control-kind words told is) ∙ e)) (told, control-read words told is)

-- ---- a line that isn't read has its reason

three : (at : At) (words : List (List ℕ)) (found : Kind) (reason : ℕ) → kind_of words ≡ Some found → MayStand at words → (let r : Step = Err 3 in r ≡ Err reason)
    → (ReadsAs found words → ⊥) → AreBadFor at words reason
three at words found reason is may e none = inr (inl (cc e, may, λ kinds. none (kinds-read words found is kinds)))

kind-bad : (at : At) (words : List (List ℕ)) (found : Kind) (reason : ℕ) → kind_of words ≡ Some found → MayStand at words
    → kind_step at found words ≡ Err reason → AreBadFor at words reason
kind-bad at words kind.Agent reason is may e = by (settings_of words) refl e
  where
    by : (o : Option Config) → settings_of words ≡ o → agent_step at o ≡ Err reason → AreBadFor at words reason
    by None read e = three at words kind.Agent reason is may e (λ some. cc (read, some.1))
    by (Some config) read e = cc
kind-bad at words kind.Client reason is may e = by (client_of words) refl e
  where
    by : (o : Option Client) → client_of words ≡ o → client_step at o ≡ Err reason → AreBadFor at words reason
    by None read e = three at words kind.Client reason is may e (λ some. cc (read, some.1))
    by (Some client) read e = second (list_any (λ a. eqb a client.address) at.addresses) refl e
      where
        second : (b : Bool) → list_any (λ a. eqb a client.address) at.addresses ≡ b → client_step at (Some client) ≡ Err reason → AreBadFor at words reason
        second true known e =
            let spelled = kind-spelled words kind.Client is in
            let lacks : Lacks client.address at.addresses → ⊥ =
            λ lacks. cc (list_any_none (λ a. eqb a client.address) at.addresses (passed client.address at.addresses lacks), known) in
            let r : 4 ≡ reason = cc (sym (cond-true (list_any (λ a. eqb a client.address) at.addresses) _ _ known) ∙ e) in
            inr (inr (sym r, may, (client, client-spelled words client spelled.1 read, lacks)))
        second false known e = cc (sym (cond-false (list_any (λ a. eqb a client.address) at.addresses) _ _ known) ∙ e)
kind-bad at words (kind.Event name) reason is may e = by (event_of name words) refl e
  where
    by : (o : Option (ℕ × Happening)) → event_of name words ≡ o → event_step at o ≡ Err reason → AreBadFor at words reason
    by None read e = three at words (kind.Event name) reason is may e (λ some. cc (read, some.1))
    by (Some told) read e = cc
kind-bad at words kind.Control reason is may e = by (control_of words) refl e
  where
    by : (o : Option Control) → control_of words ≡ o → control_step at o ≡ Err reason → AreBadFor at words reason
    by None read e = three at words kind.Control reason is may e (λ some. cc (read, some.1))
    by (Some told) read e = cc

words-bad : (at : At) (words : List (List ℕ)) (reason : ℕ) → words_step at (kind_of words) words ≡ Err reason → AreBadFor at words reason
words-bad at words reason e = by (kind_of words) refl e
  where
    two : (let r : Step = Err 2 in r ≡ Err reason) → (MayStand at words → ⊥) → AreBadFor at words reason
    two e none = inl (cc e, none)

    by : (o : Option Kind) → kind_of words ≡ o → words_step at o words ≡ Err reason → AreBadFor at words reason
    by None is e = two e (λ m. let s = stands-by-form at words m in cc (s.is, is))
    by (Some found) is e = stands (may_stand at.controls at.section (length at.addresses) found) refl
      where
        stands : (b : Bool) → may_stand at.controls at.section (length at.addresses) found ≡ b → AreBadFor at words reason
        stands true can =
            kind-bad at words found reason is (may-here at words found is can)
            (sym (cond-true (may_stand at.controls at.section (length at.addresses) found) _ _ can) ∙ e)
        stands false not =
            two (sym (cond-false (may_stand at.controls at.section (length at.addresses) found) _ _ not) ∙ e)
            (λ m.
            let s = stands-by-form at words m in
            let same = same_Some s.found found (sym s.is ∙ is) in
            cc (subst (λ k. may_stand at.controls at.section (length at.addresses) k ≡ true) same s.stands, not))

line-bad : (at : At) (octets : List ℕ) (reason : ℕ) → read_line at octets ≡ Err reason → IsBadFor at octets reason
line-bad at octets reason e = by (ltb 140000 (length octets)) refl
  where
    by : (b : Bool) → ltb 140000 (length octets) ≡ b → IsBadFor at octets reason
    by true long =
        let r : 1 ≡ reason = cc (sym (cond-true (ltb 140000 (length octets)) _ _ long) ∙ e) in
        inl (sym r, ltb-true _ _ long)
    by false short =
        inr (
          ltb-false _ _ short,
          (
            words_of octets,
            line-spelled octets,
            words-bad at (words_of octets) reason
                (sym (cond-false (ltb 140000 (length octets)) _ _ short) ∙ e),
          ),
        )

-- ---- and a line with a reason isn't read

-- one reason stands
one-reason : (at : At) (words : List (List ℕ)) (a b : ℕ) → AreBadFor at words a → AreBadFor at words b → a ≡ b
one-reason at words a b (inl (is, none)) (inl (so, cannot)) = is ∙ sym so
one-reason at words a b (inl (is, none)) (inr (inl (so, stands, cannot))) = absurd (none stands)
one-reason at words a b (inl (is, none)) (inr (inr (so, stands, second))) = absurd (none stands)
one-reason at words a b (inr (inl (is, stands, none))) (inl (so, cannot)) = absurd (cannot stands)
one-reason at words a b (inr (inl (is, stands, none))) (inr (inl (so, can, cannot))) = is ∙ sym so
one-reason at words a b (inr (inl (is, stands, none))) (inr (inr (so, can, (client, spelled, known)))) = absurd (none (inr (inl (client, spelled))))
one-reason at words a b (inr (inr (is, stands, second))) (inl (so, cannot)) = absurd (cannot stands)
one-reason at words a b (inr (inr (is, stands, (client, spelled, known)))) (inr (inl (so, can, cannot))) = absurd (cannot (inr (inl (client, spelled))))
one-reason at words a b (inr (inr (is, stands, second))) (inr (inr (so, can, other))) = is ∙ sym so

-- the words of a line are one list
same-words : (octets : List ℕ) (words others : List (List ℕ)) → IsLine octets words → IsLine octets others → words ≡ others
same-words octets words others is are = sym (line-read octets words is) ∙ line-read octets others are

same-reason : (at : At) (octets : List ℕ) (a b : ℕ) → IsBadFor at octets a → IsBadFor at octets b → a ≡ b
same-reason at octets a b (inl (is, long)) (inl (so, over)) = is ∙ sym so
same-reason at octets a b (inl (is, long)) (inr (short, words)) = absurd (omega (arith, long, short))
same-reason at octets a b (inr (short, words)) (inl (so, over)) = absurd (omega (arith, over, short))
same-reason at octets a b (inr (short, (words, line, bad))) (inr (few, (others, other, worse))) =
    one-reason at others a b (subst (λ ws. AreBadFor at ws a) (same-words octets words others line other) bad) worse

says-may : (at : At) (words : List (List ℕ)) (said : Line) (next : At) → SaysWords at words said next → MayStand at words
says-may at words said next says =
    let read = is-kind at (kind_of words) words said next (words-read at words said next says) in
    may-here at words read.found read.is read.stands

says-kinds : (at : At) (words : List (List ℕ)) (said : Line) (next : At) → SaysWords at words said next → AreOfKinds words
says-kinds at words (line.Agent number config) next s = inl (config, s.is)
says-kinds at words (line.Client number client) next s = inr (inl (client, s.is))
says-kinds at words (line.Event number moment inputs) next s = inr (inr (inl (moment, (s.told, s.is))))
says-kinds at words (line.Control number moment address port octets) next s = inr (inr (inr (_, s.is)))

-- a client line that is read has an address of its own
says-own : (at : At) (words : List (List ℕ)) (said : Line) (next : At) → SaysWords at words said next → IsSecondClient at words → ⊥
says-own at words (line.Agent number config) next s (client, is, known) = cc (agent-kind words config s.is, client-kind words client is)
says-own at words (line.Client number own) next s (client, is, known) =
    let same = same_Some own client (sym (client-read words own s.is) ∙ client-read words client is) in
    known (subst (λ (c : Client). Lacks c.address at.addresses) same s.own)
says-own at words (line.Event number moment inputs) next s (client, is, known) =
    let read = event-read words moment s.told s.is in cc (read.is_kind, client-kind words client is)
says-own at words (line.Control number moment address port octets) next s (client, is, known) =
    cc (control-kind words _ s.is, client-kind words client is)

words-not : (at : At) (words : List (List ℕ)) (reason : ℕ) (said : Line) (next : At) → SaysWords at words said next → AreBadFor at words reason → ⊥
words-not at words reason said next says (inl (is, none)) = none (says-may at words said next says)
words-not at words reason said next says (inr (inl (is, can, none))) = none (says-kinds at words said next says)
words-not at words reason said next says (inr (inr (is, can, second))) = says-own at words said next says second

bad-not : (at : At) (octets : List ℕ) (reason : ℕ) (said : Line) (next : At) → read_line at octets ≡ Ok (said, next) → IsBadFor at octets reason → ⊥
bad-not at octets reason said next e (inl (is, long)) = let s = line-says at octets said next e in omega (arith, long, s.short)
bad-not at octets reason said next e (inr (short, (words, line, bad))) =
    let s = line-says at octets said next e in
    words-not at words reason said next (subst (λ ws. SaysWords at ws said next) (same-words octets s.words words s.is_line line) s.says) bad

bad-line : (at : At) (octets : List ℕ) (reason : ℕ) → IsBadFor at octets reason → read_line at octets ≡ Err reason
bad-line at octets reason bad = by (read_line at octets) refl
  where
    by : (r : Step) → read_line at octets ≡ r → r ≡ Err reason
    by (Ok (said, next)) e = absurd (bad-not at octets reason said next e bad)
    by (Err other) e = ap (λ n. Err n) (same-reason at octets other reason (line-bad at octets other e) bad)

pub lines-are-bad-for-a-reason : LinesAreBadForAReason
lines-are-bad-for-a-reason at octets reason = (line-bad at octets reason, bad-line at octets reason)
