use Rattle.std.proofs.Common.{rules, ◌≡◌, ℕ, ◌-◌, length, List, take, drop, get_or, refl, sym, ap, ◌∙◌, arith}
use Rattle.std.proofs.lemmas.List.{take_rest, length-append}
use Rattle.radius_packet.specs.Packet.{attributes_text, attributes_in}
use Rattle.radius_packet.proofs.Reading.{Front, front, front_value, front_rest, none_left, attributes_in-text}
use Rattle.radius_packet.proofs.attribute_list.AttributesIterator.next.Goals as goal

pub overflow_sub-size : goal.overflow_sub-size
overflow_sub-size c = omega (arith, (front _ c.self.invariant c.in-len2-up.len_at_least).size)

pub split_at-requires : goal.split_at-requires
split_at-requires c =
    let f = front _ c.self.invariant c.in-len2-up.len_at_least in
    rw take_rest (omega (arith, f.size, ap length f.rest, length-append f.first.value (attributes_text f.others)))

-- the octets after the first attribute
rest_is : (xs ys : List ℕ) (f : Front xs) → ys ≡ drop (get_or xs 1 0 - 2) (take (length xs - 2) (drop 2 xs)) → (ys ≡ attributes_text f.others) × (attributes_in ys ≡ f.others)
rest_is xs ys f e =
    let text : ys ≡ attributes_text f.others = e ∙ front_rest xs f in
    (text, ap attributes_in text ∙ attributes_in-text f.others)

pub invariant_of-self : goal.invariant_of-self
invariant_of-self c =
    let r = rest_is _ _ (front _ c.self.invariant c.in-len2-up.len_at_least) c.split_at.ensures.back in
    r.0 ∙ ap attributes_text (sym r.1)

pub returns-in_default-clause-steps : goal.returns-in_default-clause-steps
returns-in_default-clause-steps c =
    let none = sym c.self.view_is ∙ none_left _ _ c.self.invariant c.in_default.len_below in
    (none, none)

pub returns-in-len2-up-clause-steps : goal.returns-in-len2-up-clause-steps
returns-in-len2-up-clause-steps c =
    let f = front _ c.self.invariant c.in-len2-up.len_at_least in
    let r = rest_is _ _ f c.split_at.ensures.back in
    sym c.self.view_is ∙ f.read ∙ rw (f.code, c.split_at.ensures.front, front_value c.self.inside.rest.now f, r.1) refl

pub returns-in-len2-up-clause-goes : goal.returns-in-len2-up-clause-goes
returns-in-len2-up-clause-goes c =
    let steps = returns-in-len2-up-clause-steps c in
    search rules
