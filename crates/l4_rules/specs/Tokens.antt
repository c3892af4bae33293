-- Tokens of a rule, and of the answers that it names (this profile's own).
use Rattle.std.specs.Prelude.{ℕ, ◌==◌, ◌&&◌, ◌||◌, Bool, true, false, List, [], ◌∷◌, length, bytes_eq, decimal}
use Rattle.std.specs.List.{list_all, list_any}
use Rattle.std.specs.Option.{option_map_or}
use Rattle.l4_text.specs.Numbers.{is_in, decimal_number_of}
use Rattle.l4_names.specs.Names.{Names, thread_named}

-- in a rule, a thread's name stands for its number, as answers print it
abbrev pub resolved : Names → List ℕ → List ℕ
resolved names token = option_map_or decimal (thread_named names token) token

-- the tokens of a rule stand for those of an answer, in the same order
abbrev pub same_tokens : Names → List (List ℕ) → List (List ℕ) → Bool
same_tokens names [] [] = true
same_tokens names [] (other ∷ others) = false
same_tokens names (token ∷ tokens) [] = false
same_tokens names (token ∷ tokens) (other ∷ others) = bytes_eq (resolved names token) other && same_tokens names tokens others

-- one of the tokens of a rule stands for this token
abbrev pub has_token : Names → List (List ℕ) → List ℕ → Bool
has_token names [] other = false
has_token names (token ∷ tokens) other = bytes_eq (resolved names token) other || has_token names tokens other

-- AS ANSWERS PRINT THEM

-- a number: in decimal, without leading zeros
abbrev pub is_decimal : List ℕ → Bool
is_decimal token = option_map_or (λ number. bytes_eq (decimal number) token) (decimal_number_of token) false

abbrev pub is_lower_hex : ℕ → Bool
is_lower_hex byte = is_in 48 57 byte || is_in 97 102 byte

-- a word: eight hexadecimal digits
abbrev pub is_word : List ℕ → Bool
is_word token = (length token == 8) && list_all is_lower_hex token

-- a letter, or the hyphen in its place
abbrev pub is_letter : ℕ → ℕ → Bool
is_letter letter byte = (byte == letter) || (byte == 45)

-- rights, such as `r-x`
abbrev pub are_rights : List ℕ → Bool
are_rights [] = false
are_rights (read ∷ []) = false
are_rights (read ∷ write ∷ []) = false
are_rights (read ∷ write ∷ execute ∷ []) = is_letter 114 read && (is_letter 119 write && is_letter 120 execute)
are_rights (read ∷ write ∷ execute ∷ other ∷ others) = false
