-- How turns go on from turn to turn.
use Rattle.std.proofs.Common.{◌≡◌, List, [], ◌∷◌, ◌++◌, Result, Ok, Err, refl, sym, ap, ◌∙◌, subst, append_assoc}
use Rattle.std.proofs.lemmas.List.{append-nil}
use Rattle.std.specs.Result.{result_ok}
use Rattle.agent_events.specs.declared.events.Input.{Input}
use Rattle.turnstile.specs.declared.view.Known.{Known}
use Rattle.turnstile.specs.Knowing.{Visited}
use Rattle.turnstile.specs.Turns.{In, entry_of, least, of}
use Rattle.server_workers.specs.declared.heard.Heard.{Heard}
use Rattle.server_workers.specs.Entries.{RunTurn, turn_of}
use Rattle.server_workers.specs.Going.{SeenLast, Went}

turn-is : {E : Type 0} (ask : Input) (r : Result Heard E) → entry_of ask r ≡ turn_of ask (result_ok r)
turn-is ask (Ok heard) = refl
turn-is ask (Err refusal) = refl

module _ {T : Type 0} where
  pub went-none : (k : Known T Input Heard) → Went [] k k
  went-none k = record {
    own = sym (append-nil (of (least k.numbers) k.seen));
    others = λ n is other. refl;
    begins = ([], sym (append-nil k.seen));
    first = refl;
    numbers = refl;
  }

  pub went-on : (mine more : List RunTurn) (k l m : Known T Input Heard) → Went mine k l → Went more l m → Went (mine ++ more) k m
  went-on mine more k l m one two =
      let same : least l.numbers ≡ least k.numbers = ap least one.numbers in
      let later : of (least k.numbers) m.seen ≡ of (least k.numbers) l.seen ++ more =
      subst (λ n. of n m.seen ≡ of n l.seen ++ more) same two.own in
      let (first, first_is) = one.begins in
      let (second, second_is) = two.begins in
      record {
        own = later ∙ ap (λ os. os ++ more) one.own ∙ append_assoc (of (least k.numbers) k.seen) mine more;
        others = λ n is other.
            two.others n (subst (In n) (sym one.numbers) is) (λ e. other (e ∙ same)) ∙ one.others n is other;
        begins = (first ++ second, second_is ∙ ap (λ s. s ++ second) first_is ∙ append_assoc k.seen first second);
        first = two.first ∙ one.first;
        numbers = two.numbers ∙ one.numbers;
      }

  pub went-by : {E : Type 0} (ask : Input) (r : Result Heard E) (k l : Known T Input Heard) → Visited (entry_of ask r) k l
      → Went (turn_of ask (result_ok r) ∷ []) k l
  went-by ask r k l visited =
      subst (λ turn. Went (turn ∷ []) k l) (turn-is ask r) (record {
        own = visited.own;
        others = visited.others;
        begins = (
          visited.between ++ (least k.numbers, entry_of ask r) ∷ [],
          visited.seen ∙ append_assoc k.seen visited.between ((least k.numbers, entry_of ask r) ∷ []),
        );
        first = visited.same.0;
        numbers = visited.same.1;
      })

  pub last-by : {E : Type 0} (ask : Input) (r : Result Heard E) (k l : Known T Input Heard) → Visited (entry_of ask r) k l
      → SeenLast (turn_of ask (result_ok r)) k l
  last-by ask r k l visited =
      subst (λ turn. SeenLast turn k l) (turn-is ask r) (record { between = visited.between; seen = visited.seen })
