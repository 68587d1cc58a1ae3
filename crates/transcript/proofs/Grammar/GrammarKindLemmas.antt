-- Which kind of line words are, from their count and their fixed words, and the other way round.
use Rattle.std.proofs.Common.{◌≡◌, ℕ, Bool, true, false, ◌&&◌, ◌||◌, cond, eqb, List, [], ◌∷◌, length, codes, bytes_eq, Option, Some, None, refl, ap, subst, ◌∙◌, eqb-true}
use Rattle.std.proofs.lemmas.Bool.{and_parts}
use Rattle.std.proofs.lemmas.Option.{cond_some, same_Some}
use Rattle.std.proofs.lemmas.Slice.Eq.{bytes_eq-Decides}
use Rattle.radius_packet.specs.declared.reasons.Via.{Via}
use Rattle.radius_packet.specs.declared.reasons.Via.TheVariants.{Auth, Acct}
use Rattle.printed_lines.specs.Text.{via_name}
use Rattle.transcript.specs.Kinds.{begins_with, event_kind, event_name, is_control, kind_of, named_kind, words_behind}
use Rattle.transcript.specs.declared.kind.EventName.{EventName}
use Rattle.transcript.specs.declared.kind.EventName.TheVariants.{Datagram, Link, Up, Ready, Down, Tick, Drain, Leave}
use Rattle.transcript.specs.declared.kind.Kind.{Kind}
use Rattle.transcript.specs.declared.kind.Kind.TheVariants as kind

-- the word that names what happened
abbrev pub name_text : EventName → List ℕ
name_text (Datagram via) = via_name via
name_text Link = codes "link"
name_text Up = codes "up"
name_text Ready = codes "ready"
name_text Down = codes "down"
name_text Tick = codes "tick"
name_text Drain = codes "drain"
name_text Leave = codes "leave"

pub record IsEventOf (words : List (List ℕ)) (name : EventName) : Type 0 where
  pub word : List ℕ
  pub behind : List (List ℕ)
  pub spelled : words ≡ word ∷ name_text name ∷ behind
  pub count : length behind ≡ words_behind name

abbrev pub IsOfKind : List (List ℕ) → Kind → Type 0
IsOfKind words kind.Agent =
    ((eqb (length words) 10 || eqb (length words) 11) ≡ true) × (begins_with (codes "agent") words ≡ true)
IsOfKind words kind.Client = (eqb (length words) 9 ≡ true) × (begins_with (codes "client") words ≡ true)
IsOfKind words (kind.Event name) = IsEventOf words name
IsOfKind words kind.Control = is_control words ≡ true

-- a word is one name, or a later one
name-or : (word : List ℕ) (name found : EventName) (others : Option EventName) → (others ≡ Some found → word ≡ name_text found)
    → cond (bytes_eq word (name_text name)) (Some name) others ≡ Some found → word ≡ name_text found
name-or word name found others further e = by (bytes_eq word (name_text name)) refl e
  where
    by : (b : Bool) → bytes_eq word (name_text name) ≡ b → cond b (Some name) others ≡ Some found → word ≡ name_text found
    by true is e = (bytes_eq-Decides word (name_text name)).0 is ∙ ap name_text (same_Some name found e)
    by false is e = further e

name-spelled : (word : List ℕ) (name : EventName) → event_name word ≡ Some name → word ≡ name_text name
name-spelled word name =
    name-or word (Datagram Auth) name _
    (name-or word (Datagram Acct) name _
    (name-or word Link name _
    (name-or word Up name _
    (name-or word Ready name _
    (name-or word Down name _
    (name-or word Tick name _
    (name-or word Drain name _
    (name-or word Leave name None (λ e. cc)))))))))

event-of : (words : List (List ℕ)) (found : Kind) → event_kind words ≡ Some found → IsOfKind words found
event-of [] found e = cc
event-of (word ∷ []) found e = cc
event-of (word ∷ second ∷ behind) found e = by (event_name second) refl e
  where
    by : (o : Option EventName) → event_name second ≡ o → named_kind o (length behind) ≡ Some found
        → IsOfKind (word ∷ second ∷ behind) found
    by None is e = cc
    by (Some name) is e =
        let (count, same) = cond_some (eqb (length behind) (words_behind name)) (kind.Event name) found e in
        subst (IsOfKind (word ∷ second ∷ behind)) same (record {
          word = word;
          behind = behind;
          spelled = ap (λ w. word ∷ w ∷ behind) (name-spelled second name is);
          count = eqb-true (length behind) (words_behind name) count;
        })

pub kind-spelled : (words : List (List ℕ)) (found : Kind) → kind_of words ≡ Some found → IsOfKind words found
kind-spelled words found e =
    by (count && begins_with (codes "agent") words) (nine && begins_with (codes "client") words) (is_control words) refl refl refl e
  where
    count : Bool
    count = eqb (length words) 10 || eqb (length words) 11

    nine : Bool
    nine = eqb (length words) 9

    by : (a b c : Bool) → (count && begins_with (codes "agent") words) ≡ a → (nine && begins_with (codes "client") words) ≡ b
        → is_control words ≡ c
        → cond a (Some kind.Agent) (cond b (Some kind.Client) (cond c (Some kind.Control) (event_kind words))) ≡ Some found
        → IsOfKind words found
    by true b c agent client control e = subst (IsOfKind words) (same_Some kind.Agent found e) (and_parts count _ agent)
    by false true c agent client control e = subst (IsOfKind words) (same_Some kind.Client found e) (and_parts nine _ client)
    by false false true agent client control e = subst (IsOfKind words) (same_Some kind.Control found e) control
    by false false false agent client control e = event-of words found e

pub datagram-kind : (via : Via) (word address port hex : List ℕ)
    → kind_of (word ∷ via_name via ∷ address ∷ port ∷ hex ∷ []) ≡ Some (kind.Event (Datagram via))
datagram-kind Auth word address port hex = refl
datagram-kind Acct word address port hex = refl
