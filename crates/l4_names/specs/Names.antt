-- The names of a script's threads (this profile's own).
use Rattle.std.specs.Prelude.{ℕ, ◌==◌, ◌&&◌, ◌||◌, Bool, false, List, [], ◌∷◌, length, nat_le, Option, Some, None, if◌then◌else◌}
use Rattle.std.specs.List.{list_all}
use Rattle.std.specs.Option.{option_map_or}
use Rattle.std.specs.Str.{bytes_eq}
use Rattle.l4_text.specs.Numbers.{is_in}
use Rattle.l4_names.specs.declared.names.NamedThread.{NamedThread}

-- the most bytes of a name
abbrev pub max_name : ℕ
max_name = 24

-- the most names of a script
abbrev pub max_names : ℕ
max_names = 64

-- THE FORM OF A NAME

abbrev pub is_letter : ℕ → Bool
is_letter byte = is_in 97 122 byte || is_in 65 90 byte

-- a letter, a digit or a hyphen
abbrev pub is_name_byte : ℕ → Bool
is_name_byte byte = is_in 48 57 byte || (byte == 45 || is_letter byte)

abbrev pub begins_with_letter : List ℕ → Bool
begins_with_letter [] = false
begins_with_letter (first ∷ bytes) = is_letter first

-- a letter, and then letters, digits and hyphens, at most 24 in all
unfoldable pub is_name : List ℕ → Bool
is_name token = nat_le (length token) max_name && (begins_with_letter token && list_all is_name_byte token)

abbrev pub name_of : List ℕ → Option (List ℕ)
name_of token = if is_name token then Some token else None

-- THE NAMES OF A SCRIPT: each name once, with the number of its thread
abbrev pub Names : Type 0
Names = List NamedThread

abbrev pub is_named : List ℕ → NamedThread → Bool
is_named name entry = bytes_eq entry.name name

-- the number of the thread that a token names
abbrev pub thread_named : Names → List ℕ → Option ℕ
thread_named [] name = None
thread_named (entry ∷ names) name = if is_named name entry then Some entry.number else thread_named names name

-- the names after this one was given to this thread
abbrev pub with_name : Names → List ℕ → ℕ → Names
with_name [] name number = record { name = name; number = number } ∷ []
with_name (entry ∷ names) name number =
    if is_named name entry then (record { name = entry.name; number = number } ∷ names) else (entry ∷ with_name names name number)

-- the same, if there are not too many
abbrev pub given : Names → List ℕ → ℕ → Option Names
given names name number = if nat_le (length (with_name names name number)) max_names then Some (with_name names name number) else None

-- the names after a line that gives one: the same names if there are too many
abbrev pub after_giving : Names → List ℕ → ℕ → Names
after_giving names name number = option_map_or (λ new. new) (given names name number) names
