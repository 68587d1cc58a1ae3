use Rattle.std.proofs.Common.{◌≡◌, ℕ, Bool, true, false, List, [], ◌∷◌, ◌++◌, replicate, ap, refl, rules, ◌∙◌, arith}
use Rattle.radius_packet.proofs.Drafts.{Drafts, begun, begun_sealed}
use Rattle.radius_packet.proofs.answering.Reply.new.Goals as goal
use Rattle.radius_packet.proofs.answering.Reply.new.Goals.{then-sealed, else-sealed}

begins : (code id : ℕ) (request octets : List ℕ) (sealed b : Bool) → sealed ≡ b → Drafts (record { code = code; id = id; request = request; sealed = b; attributes = [] }) octets
    → Drafts (record { code = code; id = id; request = request; sealed = sealed; attributes = [] }) octets
begins code id request octets sealed b e d = rw e d

header : (code id : ℕ) (request items first second : List ℕ) → items ≡ [] → first ≡ items ++ code ∷ id ∷ 0 ∷ 0 ∷ [] → second ≡ first ++ request → second ≡ (code ∷ id ∷ 0 ∷ 0 ∷ []) ++ request
header code id request items first second e f g = rw (g, f, e) refl

made : (c : goal.Joined-sealed) → Drafts (record { code = c.args.code; id = c.args.id; request = c.args.request; sealed = c.args.sealed; attributes = [] }) c.if-sealed.octets.items
made c =
    let front = header c.args.code c.args.id c.args.request c.in_ok-octets.octets.items c.append.new.octets.items c.append-2.new.octets.items c.in_ok-octets.ensures.items c.append.ensures.items c.append-2.ensures.items in
    elim c.if-sealed.branch [
      | then-sealed w ↦ begins _ _ _ _ c.args.sealed true w.if-sealed.true (begun_sealed c.args.code c.args.id c.args.request c.if-sealed.octets.items (omega arith)
          (ap (λ v. v.items) w.octets-is ∙ w.append-then-sealed-2.ensures.items ∙ ap (λ xs. xs ++ replicate 16 0) (w.append-then-sealed.ensures.items ∙ ap (λ xs. xs ++ 80 ∷ 18 ∷ []) front)))
      | else-sealed w ↦ begins _ _ _ _ c.args.sealed false w.if-sealed.false (begun c.args.code c.args.id c.args.request c.if-sealed.octets.items (omega arith)
          (ap (λ v. v.items) w.octets-is ∙ front))
    ]

pub invariant_of-result : goal.invariant_of-result
invariant_of-result c = ((made c).draft, elim c.if-sealed.branch [ then-sealed w ↦ search rules | else-sealed w ↦ search rules ])

pub returns : goal.returns
returns c = (made c).held
