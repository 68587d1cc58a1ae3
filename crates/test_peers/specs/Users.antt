-- The users that a list names, or the first line that is none, and what is wrong with it (profile).
use Rattle.std.specs.Prelude.{◌≡◌, ℕ, ◌+◌, ◌==◌, nat_lt, if◌then◌else◌, List, [], ◌∷◌, length, codes, Option, Some, None, Result, Ok, Err, ⊤}
use Rattle.std.specs.Result.{result_ok}
use Rattle.std.specs.Str.{bytes_eq}
use Rattle.hex.specs.Hex.{decode_of}
use Rattle.test_peers.specs.declared.users.User.{User}
use Rattle.test_peers.specs.declared.fault.HomeFault.{HomeFault}
use Rattle.test_peers.specs.declared.fault.HomeFault.TheVariants.{BadLine, NoMemory}
use Rattle.test_peers.specs.Lines.{lines_of, two_of, words_of}

-- octets as pairs of hex digits of either case, or '-' for no octets
abbrev pub hex_word : List ℕ → Option (List ℕ)
hex_word word =
    if bytes_eq word (codes "-") then Some []
    else if length word == 0 then None
    else result_ok (decode_of word)

-- ---- one line, which has this number

-- reason 3: a word isn't of its kind
abbrev pub with_password : ℕ → List ℕ → Option (List ℕ) → Result User HomeFault
with_password number name None = Err (BadLine number 3)
with_password number name (Some password) = Ok (record { name = name; password = password })

abbrev pub with_words : ℕ → List ℕ → List ℕ → Result User HomeFault
with_words number name hex =
    if length name == 0 then Err (BadLine number 3) else with_password number name (hex_word hex)

-- reason 2: there aren't two words
abbrev pub user_of : ℕ → Option (List ℕ × List ℕ) → Result User HomeFault
user_of number None = Err (BadLine number 2)
user_of number (Some words) = with_words number words.0 words.1

-- reason 1: it is too long
abbrev pub user_in : ℕ → List ℕ → Result User HomeFault
user_in number line = if nat_lt 140000 (length line) then Err (BadLine number 1) else user_of number (two_of (words_of line))

-- ---- all lines

abbrev pub put_first : User → Result (List User) HomeFault → Result (List User) HomeFault
put_first user (Ok users) = Ok (user ∷ users)
put_first user (Err fault) = Err fault

abbrev pub unless_bad : Result User HomeFault → Result (List User) HomeFault → Result (List User) HomeFault
unless_bad (Ok user) others = put_first user others
unless_bad (Err fault) others = Err fault

-- the users of lines of which the first has this number
unfoldable pub users_from : ℕ → List (List ℕ) → Result (List User) HomeFault
users_from number [] = Ok []
users_from number (line ∷ lines) = unless_bad (user_in number line) (users_from (number + 1) lines)

-- lines are counted from 1
abbrev pub users_in : List ℕ → Result (List User) HomeFault
users_in text = users_from 1 (lines_of text)

-- exactly what is read, but for want of memory
abbrev pub Reads : {X : Type 0} → Result X HomeFault → Result X HomeFault → Type 0
Reads (Ok x) read = read ≡ Ok x
Reads (Err (BadLine line reason)) read = read ≡ Err (BadLine line reason)
Reads (Err NoMemory) read = ⊤
