-- The two kinds of name that settings and carriers hold (profile).
use Rattle.std.specs.Prelude.{ℕ, Bool, ◌==◌, nat_le, ◌&&◌, ◌||◌, List, length}
use Rattle.std.specs.List.{list_all}

abbrev pub is_letter_or_digit : ℕ → Bool
is_letter_or_digit c = (nat_le 97 c && nat_le c 122) || (nat_le 65 c && nat_le c 90) || (nat_le 48 c && nat_le c 57)

-- a letter, a digit, '-', '.' or '_'
abbrev pub is_identity_octet : ℕ → Bool
is_identity_octet c = is_letter_or_digit c || c == 45 || c == 46 || c == 95

-- a name of a host or a realm: 1 to 255 octets
abbrev pub is_identity : List ℕ → Bool
is_identity xs = nat_le 1 (length xs) && nat_le (length xs) 255 && list_all is_identity_octet xs

-- visible in ASCII: 0x21 to 0x7e
abbrev pub is_visible : ℕ → Bool
is_visible c = nat_le 33 c && nat_le c 126

-- a Session-Id as a carrier holds it: one or more visible octets
abbrev pub is_session_text : List ℕ → Bool
is_session_text xs = nat_le 1 (length xs) && list_all is_visible xs
