-- The words of an event line and of a control line: what is read of them is what they say.
use Rattle.std.proofs.Common.{◌≡◌, ℕ, true, List, [], ◌∷◌, length, codes, Some, refl, sym, ap, subst, ◌∙◌, lit≤, arith}
use Rattle.std.proofs.lemmas.Bool.{and_parts}
use Rattle.std.proofs.lemmas.Option.{same_Some}
use Rattle.std.proofs.lemmas.Slice.Eq.{bytes_eq-Decides}
use Rattle.address_text.specs.Address.{address_in}
use Rattle.agent_events.specs.declared.events.Input.TheVariants as input
use Rattle.text_lines.specs.Words.{hex_word, number_word}
use Rattle.text_lines.proofs.WordLemmas.{bind-some}
use Rattle.printed_lines.specs.Text.{via_name}
use Rattle.transcript.specs.Grammar.{IsControl, IsEvent, IsHappening}
use Rattle.transcript.specs.Kinds.{is_control, kind_of, words_behind}
use Rattle.transcript.specs.Lines.{control_of, event_of, happening_of}
use Rattle.transcript.specs.declared.control.Control.{Control}
use Rattle.transcript.specs.declared.happening.Happening.{Happening}
use Rattle.transcript.specs.declared.happening.Happening.TheVariants as happening
use Rattle.transcript.specs.declared.kind.EventName.{EventName}
use Rattle.transcript.specs.declared.kind.EventName.TheVariants.{Datagram, Link, Up, Ready, Down, Tick, Drain, Leave}
use Rattle.transcript.specs.declared.kind.Kind.TheVariants as kind
use Rattle.transcript.proofs.Grammar.GrammarJoinLemmas.{address-read, address-spelled}
use Rattle.transcript.proofs.Grammar.GrammarKindLemmas.{IsEventOf, datagram-kind, name_text}
use Rattle.transcript.proofs.Grammar.GrammarWordLemmas.{hex-read, hex-spelled, number-read, number-spelled}

-- nothing stands behind the name
bare-spelled : (name : List ℕ) (behind : List (List ℕ)) (x told : Happening) → length behind ≡ 0 → Some x ≡ Some told
    → IsHappening (name ∷ []) x → IsHappening (name ∷ behind) told
bare-spelled name [] x told count e is = subst (IsHappening (name ∷ [])) (same_Some x told e) is
bare-spelled name (word ∷ behind) x told count e is = absurd (omega (arith, count))

told-spelled : (name : EventName) (behind : List (List ℕ)) (told : Happening) → length behind ≡ words_behind name
    → happening_of name behind ≡ Some told → IsHappening (name_text name ∷ behind) told
told-spelled (Datagram via) (address ∷ port ∷ hex ∷ []) told count e =
    let (a, is_a, e1) = bind-some (address_in address) _ told e in
    let (p, is_p, e2) = bind-some (number_word 65535 port) _ told e1 in
    let (o, is_o, e3) = bind-some (hex_word hex) _ told e2 in
    subst (IsHappening (via_name via ∷ address ∷ port ∷ hex ∷ [])) (same_Some _ told e3) (record {
      address_word = address;
      port_word = port;
      hex = hex;
      spelled = refl;
      is_address = address-spelled address a is_a;
      is_port = number-spelled 65535 port p (lit≤ tt) is_p;
      is_hex = hex-spelled hex o is_o;
    })
told-spelled (Datagram via) behind told count e = cc
told-spelled Link (hex ∷ []) told count e =
    let (o, is_o, e1) = bind-some (hex_word hex) _ told e in
    subst (IsHappening (codes "link" ∷ hex ∷ [])) (same_Some _ told e1) (hex, refl, hex-spelled hex o is_o)
told-spelled Link behind told count e = cc
told-spelled Up behind told count e = bare-spelled (codes "up") behind (happening.Input input.Up) told count e refl
told-spelled Ready behind told count e = bare-spelled (codes "ready") behind (happening.Input input.Ready) told count e refl
told-spelled Down behind told count e = bare-spelled (codes "down") behind (happening.Input input.Down) told count e refl
told-spelled Tick behind told count e = bare-spelled (codes "tick") behind (happening.Input input.Tick) told count e refl
told-spelled Drain behind told count e = bare-spelled (codes "drain") behind (happening.Input input.Drain) told count e refl
told-spelled Leave behind told count e = bare-spelled (codes "leave") behind (happening.Input input.Leave) told count e refl

event-words : (name : EventName) (word : List ℕ) (behind : List (List ℕ)) (moment : ℕ) (told : Happening)
    → length behind ≡ words_behind name → event_of name (word ∷ name_text name ∷ behind) ≡ Some (moment, told)
    → IsEvent (word ∷ name_text name ∷ behind) moment told
event-words name word behind moment told count e =
    let (m, is_m, e1) = bind-some (number_word 18446744073709551615 word) _ (moment, told) e in
    let (t, is_t, e2) = bind-some (happening_of name behind) _ (moment, told) e1 in
    let same : (m, t) ≡ (moment, told) = same_Some (m, t) (moment, told) e2 in
    subst (λ (p : ℕ × Happening). IsEvent (word ∷ name_text name ∷ behind) p.0 p.1) same (record {
      word = word;
      behind = name_text name ∷ behind;
      spelled = refl;
      is_moment = number-spelled 18446744073709551615 word m (lit≤ tt) is_m;
      is_told = told-spelled name behind t count is_t;
    })

pub event-spelled : (name : EventName) (words : List (List ℕ)) (moment : ℕ) (told : Happening) → IsEventOf words name
    → event_of name words ≡ Some (moment, told) → IsEvent words moment told
event-spelled name words moment told is e =
    subst (λ w. IsEvent w moment told) (sym is.spelled)
    (event-words name is.word is.behind moment told is.count (ap (event_of name) (sym is.spelled) ∙ e))

-- the kind of an event line, and what is read behind its moment
record Told (words : List (List ℕ)) (told : Happening) : Type 0 where
  name : EventName
  second : List ℕ
  behind : List (List ℕ)
  spelled : words ≡ second ∷ behind
  is_kind : (word : List ℕ) → kind_of (word ∷ second ∷ behind) ≡ Some (kind.Event name)
  is_told : happening_of name behind ≡ Some told

bare-read : (name : EventName) (words : List (List ℕ)) (told : Happening) → words ≡ name_text name ∷ []
    → ((word : List ℕ) → kind_of (word ∷ name_text name ∷ []) ≡ Some (kind.Event name)) → happening_of name [] ≡ Some told
    → Told words told
bare-read name words told is is_kind is_told = record {
  name = name;
  second = name_text name;
  behind = [];
  spelled = is;
  is_kind = is_kind;
  is_told = is_told;
}

told-read : (told : Happening) (words : List (List ℕ)) → IsHappening words told → Told words told
told-read (happening.Input (input.Datagram via address port octets)) words w = record {
  name = Datagram via;
  second = via_name via;
  behind = w.address_word ∷ w.port_word ∷ w.hex ∷ [];
  spelled = w.spelled;
  is_kind = λ word. datagram-kind via word w.address_word w.port_word w.hex;
  is_told = rw (
    address-read w.address_word address w.is_address,
    number-read 65535 w.port_word port (lit≤ tt) w.is_port,
    hex-read w.hex octets w.is_hex,
  ) refl;
}
told-read (happening.Link octets) words (hex, is, is_hex) = record {
  name = Link;
  second = codes "link";
  behind = hex ∷ [];
  spelled = is;
  is_kind = λ word. refl;
  is_told = rw (hex-read hex octets is_hex) refl;
}
told-read (happening.Input input.Up) words is = bare-read Up words _ is (λ word. refl) refl
told-read (happening.Input input.Ready) words is = bare-read Ready words _ is (λ word. refl) refl
told-read (happening.Input input.Down) words is = bare-read Down words _ is (λ word. refl) refl
told-read (happening.Input input.Tick) words is = bare-read Tick words _ is (λ word. refl) refl
told-read (happening.Input input.Drain) words is = bare-read Drain words _ is (λ word. refl) refl
told-read (happening.Input input.Leave) words is = bare-read Leave words _ is (λ word. refl) refl
told-read (happening.Input (input.Message octets)) words is = absurd is
told-read (happening.Input (input.Broken fault)) words is = absurd is

pub record ReadsEvent (words : List (List ℕ)) (moment : ℕ) (told : Happening) : Type 0 where
  pub name : EventName
  pub is_kind : kind_of words ≡ Some (kind.Event name)
  pub reads : event_of name words ≡ Some (moment, told)

pub event-read : (words : List (List ℕ)) (moment : ℕ) (told : Happening) → IsEvent words moment told → ReadsEvent words moment told
event-read words moment told w =
    let t = told-read told w.behind w.is_told in
    let spelled : words ≡ w.word ∷ t.second ∷ t.behind = w.spelled ∙ ap (λ b. w.word ∷ b) t.spelled in
    record {
      name = t.name;
      is_kind = ap kind_of spelled ∙ t.is_kind w.word;
      reads =
          ap (event_of t.name) spelled
          ∙ rw (number-read 18446744073709551615 w.word moment (lit≤ tt) w.is_moment, t.is_told) refl;
    }

-- ---- a control line

pub control-spelled : (words : List (List ℕ)) (told : Control) → is_control words ≡ true → control_of words ≡ Some told
    → IsControl words told
control-spelled (moment ∷ name ∷ address ∷ port ∷ hex ∷ []) told is e =
    let (m, is_m, e1) = bind-some (number_word 18446744073709551615 moment) _ told e in
    let (a, is_a, e2) = bind-some (address_in address) _ told e1 in
    let (p, is_p, e3) = bind-some (number_word 65535 port) _ told e2 in
    let (o, is_o, e4) = bind-some (hex_word hex) _ told e3 in
    subst (IsControl (moment ∷ name ∷ address ∷ port ∷ hex ∷ [])) (same_Some _ told e4) (record {
      moment = moment;
      address = address;
      port = port;
      hex = hex;
      spelled = ap (λ w. moment ∷ w ∷ address ∷ port ∷ hex ∷ []) ((bytes_eq-Decides name (codes "control")).0 (and_parts _ _ is).0);
      is_moment = number-spelled 18446744073709551615 moment m (lit≤ tt) is_m;
      is_address = address-spelled address a is_a;
      is_port = number-spelled 65535 port p (lit≤ tt) is_p;
      is_hex = hex-spelled hex o is_o;
    })
control-spelled words told is e = cc

pub control-read : (words : List (List ℕ)) (told : Control) → IsControl words told → control_of words ≡ Some told
control-read words told w =
    ap control_of w.spelled
    ∙ rw (
      number-read 18446744073709551615 w.moment told.moment (lit≤ tt) w.is_moment,
      address-read w.address told.address w.is_address,
      number-read 65535 w.port told.port (lit≤ tt) w.is_port,
      hex-read w.hex told.octets w.is_hex,
    ) refl

pub control-kind : (words : List (List ℕ)) (told : Control) → IsControl words told → kind_of words ≡ Some kind.Control
control-kind words told w = ap kind_of w.spelled
