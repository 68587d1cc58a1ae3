-- What the value of a key stands for, where it stands for something (profile).
use Rattle.std.specs.Prelude.{ℕ, ℤ, pos, negsuc, ◌+◌, Bool, true, false, nat_le, List, [], ◌∷◌, length, codes, bytes_eq, Option, None, Some, option_map, option_and_then, if◌then◌else◌}
use Rattle.toml.specs.Data.{Data, Items, no_items, item, Members, as_str, as_integer, as_array, as_table}
use Rattle.address_text.specs.Address.{address_in}
use Rattle.agent_settings.specs.Config.{is_between, is_name}

-- what passes a test
abbrev pub passed : {X : Type 0} → (X → Bool) → X → Option X
passed test x = if test x then Some x else None

-- an identity of at most 64 octets
abbrev pub name_of : Data → Option (List ℕ)
name_of d = option_and_then (passed is_name) (as_str d)

-- 1 to 128 octets
abbrev pub secret_of : Data → Option (List ℕ)
secret_of d = option_and_then (passed (λ text. is_between 1 128 (length text))) (as_str d)

-- an IPv4 address as text
abbrev pub address_of : Data → Option ℕ
address_of d = option_and_then address_in (as_str d)

abbrev pub natural : ℤ → Option ℕ
natural (pos n) = Some n
natural (negsuc n) = None

-- a number of a range
abbrev pub number_of : ℕ → ℕ → Data → Option ℕ
number_of low high d = option_and_then (passed (is_between low high)) (option_and_then natural (as_integer d))

-- whether key attributes are left out
abbrev pub keys_choice : List ℕ → Option Bool
keys_choice text =
    if bytes_eq text (codes "refuse") then Some false
    else if bytes_eq text (codes "omit") then Some true
    else None

abbrev pub keys_choice_of : Data → Option Bool
keys_choice_of d = option_and_then keys_choice (as_str d)

abbrev pub count : Items → ℕ
count no_items = 0
count (item d ds) = count ds + 1

-- each item of an array, where all can be read
abbrev pub each : {X : Type 0} → (Data → Option X) → Items → Option (List X)
each reads no_items = Some []
each reads (item d ds) = option_and_then (λ x. option_map (λ xs. x ∷ xs) (each reads ds)) (reads d)

-- the items of an array, at most so many
abbrev pub items_up_to : ℕ → Data → Option Items
items_up_to limit d = option_and_then (passed (λ ds. nat_le (count ds) limit)) (as_array d)

-- at most 64 addresses
abbrev pub addresses_of : Data → Option (List ℕ)
addresses_of d = option_and_then (each address_of) (items_up_to 64 d)

-- at most 1,024 tables
abbrev pub tables_of : Data → Option (List Members)
tables_of d = option_and_then (each as_table) (items_up_to 1024 d)
