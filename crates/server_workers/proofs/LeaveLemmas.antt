-- The agent's leave, asked for until it is entered.
use Rattle.std.proofs.Common.{◌≡◌, ◌≢◌, ℕ, ◌+◌, false, cond, List, [], ◌∷◌, ◌++◌, All, Some, None, flat_map, refl, sym, ap, ◌∙◌, subst, append_assoc, arith}
use Rattle.std.proofs.lemmas.Grind.{flat_map-append}
use Rattle.std.proofs.lemmas.List.{append-nil}
use Rattle.std.proofs.lemmas.List.Elements.{All-append, All-cons, All-nil}
use Rattle.std.proofs.lemmas.List.Sums.{sum_by-append}
use Rattle.agent_events.specs.declared.events.Input.{Input}
use Rattle.agent_events.specs.declared.events.Input.TheVariants.{Leave}
use Rattle.radius_packet.specs.declared.reasons.Via.{Via}
use Rattle.server_workers.specs.declared.heard.Heard.{Heard}
use Rattle.server_workers.specs.Entries.{AreBlank, AsksLeave, EachEntry, HasLeave, RunTurn, entry_replies, is_entry_of, is_tick, replies, reply_of, ticks}
use Rattle.server_workers.specs.SocketReading.{SocketMayTake, datagrams, entry_datagram}

-- ---- blank turns

pub blank-each : (P : Input → Heard → Type 0) (blanks : List RunTurn) → AreBlank blanks → EachEntry P blanks
blank-each P [] blank = tt
blank-each P (None ∷ blanks) blank = blank-each P blanks blank
blank-each P (Some entry ∷ blanks) blank = absurd blank

blank-ticks : (blanks : List RunTurn) → AreBlank blanks → ticks blanks ≡ 0
blank-ticks [] blank = refl
blank-ticks (None ∷ blanks) blank = let none = blank-ticks blanks blank in omega (arith, none)
blank-ticks (Some entry ∷ blanks) blank = absurd blank

blank-replies : (blanks : List RunTurn) → AreBlank blanks → replies blanks ≡ []
blank-replies [] blank = refl
blank-replies (None ∷ blanks) blank = blank-replies blanks blank
blank-replies (Some entry ∷ blanks) blank = absurd blank

blank-datagrams : (blanks : List RunTurn) → AreBlank blanks → datagrams blanks ≡ []
blank-datagrams [] blank = refl
blank-datagrams (None ∷ blanks) blank = blank-datagrams blanks blank
blank-datagrams (Some entry ∷ blanks) blank = absurd blank

blank-taken : (via : Via) (row : ℕ) (blanks : List RunTurn) → AreBlank blanks → All (SocketMayTake via row) blanks
blank-taken via row [] blank = All-nil (SocketMayTake via row)
blank-taken via row (None ∷ blanks) blank = All-cons (SocketMayTake via row) None blanks tt (blank-taken via row blanks blank)
blank-taken via row (Some entry ∷ blanks) blank = absurd blank

-- ---- the leave behind them

module _ (left : Heard) (tries : List RunTurn) (asked : AsksLeave left tries) where
  pub leave-ticks : ticks tries ≡ 0
  leave-ticks =
      let both = sum_by-append (λ turn. cond (is_entry_of is_tick turn) 1 0) asked.blanks (Some (Leave, left) ∷ []) in
      let none = blank-ticks asked.blanks asked.blank in
      subst (λ ts. ticks ts ≡ 0) (sym asked.whole) (omega (arith, both, none))

  pub leave-replies : replies tries ≡ flat_map reply_of left.outputs
  leave-replies =
      ap replies asked.whole ∙ flat_map-append (entry_replies reply_of) asked.blanks (Some (Leave, left) ∷ [])
      ∙ ap (λ rs. rs ++ (flat_map reply_of left.outputs ++ [])) (blank-replies asked.blanks asked.blank)
      ∙ append-nil (flat_map reply_of left.outputs)

  pub leave-datagrams : datagrams tries ≡ []
  leave-datagrams =
      ap datagrams asked.whole ∙ flat_map-append entry_datagram asked.blanks (Some (Leave, left) ∷ [])
      ∙ ap (λ ds. ds ++ []) (blank-datagrams asked.blanks asked.blank)

  pub leave-taken : (via : Via) (row : ℕ) → row ≡ 16 → All (SocketMayTake via row) tries
  leave-taken via row full = subst (All (SocketMayTake via row)) (sym asked.whole)
      (All-append (SocketMayTake via row) asked.blanks (Some (Leave, left) ∷ []) (blank-taken via row asked.blanks asked.blank)
      (All-cons (SocketMayTake via row) (Some (Leave, left)) [] full (All-nil (SocketMayTake via row))))

  -- it stands behind other turns too
  pub has-leave : (before : List RunTurn) → HasLeave (before ++ tries)
  has-leave before =
      (before ++ asked.blanks, [], (left, ap (λ ts. before ++ ts) asked.whole ∙ sym (append_assoc before asked.blanks (Some (Leave, left) ∷ []))))

pub has-leave-behind : (before turns : List RunTurn) → HasLeave turns → HasLeave (before ++ turns)
has-leave-behind before turns (front, back, (left, is)) =
    (before ++ front, back, (left, ap (λ ts. before ++ ts) is ∙ sym (append_assoc before front (Some (Leave, left) ∷ back))))
