-- The statuses that one pass finds are those of the whole list.
use Rattle.std.proofs.Common.{◌≡◌, Bool, true, false, cond, List, [], ◌∷◌, refl, ap, ◌∙◌, fold}
use Rattle.std.specs.Prelude.{filter}
use Rattle.radius_packet.specs.Packet.{AttributeParts}
use Rattle.accounting_map.specs.Verdict.{is_status, lone_number, status}
use Rattle.accounting_map.specs.Statuses.{further, statuses_with, status_of}
use Rattle.accounting_map.specs.declared.statuses.Statuses.{Statuses}
use Rattle.accounting_map.specs.declared.statuses.Statuses.TheVariants.{Missing, Lone, Many}

own-step : (found : Statuses) (a : AttributeParts) (rest : List AttributeParts) (is : Bool) → fold further (cond is (further found a) found) rest ≡ fold further found (cond is (a ∷ rest) rest)
own-step found a rest true = refl
own-step found a rest false = refl

statuses-fold : (found : Statuses) (attributes : List AttributeParts) → fold statuses_with found attributes ≡ fold further found (filter is_status attributes)
statuses-fold found [] = refl
statuses-fold found (a ∷ attributes) =
    statuses-fold (statuses_with found a) attributes ∙ own-step found a (filter is_status attributes) (is_status a)

many_stay : (statuses : List AttributeParts) → fold further Many statuses ≡ Many
many_stay [] = refl
many_stay (a ∷ statuses) = many_stay statuses

lone : (statuses : List AttributeParts) → status_of (fold further Missing statuses) ≡ lone_number statuses
lone [] = refl
lone (a ∷ []) = refl
lone (a ∷ b ∷ rest) = ap status_of (many_stay rest)

-- what the loop comes to
pub status_of-fold : (attributes : List AttributeParts) → status_of (fold statuses_with Missing attributes) ≡ status attributes
status_of-fold attributes = ap status_of (statuses-fold Missing attributes) ∙ lone (filter is_status attributes)
