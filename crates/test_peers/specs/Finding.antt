-- What the home server looks for among the AVPs of a request.
use Rattle.std.specs.Prelude.{ℕ, Bool, false, ◌&&◌, List, find, Option, Some, None, option_map}
use Rattle.std.specs.List.{list_any}
use Rattle.std.specs.Str.{bytes_eq}
use Rattle.diameter_avp.specs.Avps.{AvpParts}
use Rattle.diameter_message.specs.Finding.{has_code}
use Rattle.test_peers.specs.declared.users.User.{User}

-- the first AVP of this code with V clear, whatever its size
abbrev pub first_avp : ℕ → List AvpParts → Option AvpParts
first_avp code avps = find (has_code code) avps

abbrev pub first_body : ℕ → List AvpParts → Option (List ℕ)
first_body code avps = option_map (λ a. a.body) (first_avp code avps)

-- ---- whether a user is on the list, with this password

abbrev pub is_listed : List User → List ℕ → List ℕ → Bool
is_listed users name password = list_any (λ u. bytes_eq u.name name && bytes_eq u.password password) users

abbrev pub may_enter : List User → Option (List ℕ) → Option (List ℕ) → Bool
may_enter users None password = false
may_enter users (Some name) None = false
may_enter users (Some name) (Some password) = is_listed users name password

-- by the first User-Name and the first User-Password
abbrev pub is_welcome : List User → List AvpParts → Bool
is_welcome users avps = may_enter users (first_body 1 avps) (first_body 2 avps)
