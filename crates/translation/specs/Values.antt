-- The values of a packet's attributes (RFC 2865, section 5; RFC 2866, section 5; RFC 2869, section 5).
use Rattle.std.specs.Prelude.{ℕ, Bool, true, false, ◌==◌, not, ◌&&◌, ◌||◌, List, length, find, Option, Some, None, is_ok}
use Rattle.radius_packet.specs.Packet.{AttributeParts}
use Rattle.attribute_table.specs.declared.row.Row.{Row}
use Rattle.attribute_table.specs.Rows.{row_of}
use Rattle.attribute_table.specs.Images.{forward_image}
use Rattle.translation.specs.declared.direction.Direction.{Direction}
use Rattle.translation.specs.declared.direction.Direction.TheVariants.{Access, Accounting}
use Rattle.translation.specs.Direction.{goes}

-- the numbers of a record that no row copies: octets in and out (42, 43), packets in and out (47, 48), the cause
-- of the end (49), the gigawords (52, 53)
abbrev pub is_count : Direction → ℕ → Bool
is_count Access code = false
is_count Accounting code =
    code == 42 || code == 43 || code == 47 || code == 48 || code == 49 || code == 52 || code == 53

-- a value has the size and the text of its row, where the row is copied
abbrev pub fits_row : Direction → Option Row → List ℕ → Bool
fits_row direction None value = true
fits_row direction (Some row) value = not (goes direction row) || is_ok (forward_image row value)

-- and a number has four octets
abbrev pub is_good : Direction → AttributeParts → Bool
is_good direction a =
    fits_row direction (row_of a.code) a.value && (not (is_count direction a.code) || length a.value == 4)

-- the first attribute that doesn't
abbrev pub first_bad : Direction → List AttributeParts → Option AttributeParts
first_bad direction attributes = find (λ a. not (is_good direction a)) attributes
