-- The answers that a query can have, by the form of their tokens (this profile's own).
use Rattle.std.specs.Prelude.{ℕ, ◌&&◌, ◌||◌, Bool, true, false, not, if◌then◌else◌, is_some, List, [], ◌∷◌, ◌++◌, codes, bytes_eq, decimal}
use Rattle.l4_text.specs.Tokens.{tokens_of}
use Rattle.l4_names.specs.Names.{Names, thread_named}
use Rattle.l4_rules.specs.declared.forms.Query.{Query}
use Rattle.l4_rules.specs.declared.forms.Query.TheVariants.{Pages, Parent, Reply}
use Rattle.l4_rules.specs.Tokens.{resolved, same_tokens, is_decimal, is_word, are_rights}

-- ONE TOKEN. In a form, `N` stands for a number, `W` for a word, `R` for rights, and every other token for itself.
abbrev pub fits_plain : List ℕ → List ℕ → Bool
fits_plain form token =
    if bytes_eq form (codes "N") then is_decimal token
    else (if bytes_eq form (codes "W") then is_word token else (if bytes_eq form (codes "R") then are_rights token else bytes_eq token form))

-- `T` stands for a thread: its name, its number, or `nil`; a name stands in no other place
abbrev pub fits : Names → List ℕ → List ℕ → Bool
fits names form token =
    if is_some (thread_named names token) then bytes_eq form (codes "T")
    else (if bytes_eq form (codes "T") then bytes_eq token (codes "nil") || is_decimal token else fits_plain form token)

-- ALL TOKENS OF AN ANSWER

abbrev pub are_words : Names → List (List ℕ) → Bool
are_words names [] = true
are_words names (token ∷ tokens) = fits names (codes "W") token && are_words names tokens

abbrev pub is_none_left : List (List ℕ) → Bool
is_none_left [] = true
is_none_left (token ∷ tokens) = false

-- the tokens have this form; with `words`, any number of words follow it
abbrev pub has_form : Names → Bool → List (List ℕ) → List (List ℕ) → Bool
has_form names words [] tokens = if words then are_words names tokens else is_none_left tokens
has_form names words (form ∷ forms) [] = false
has_form names words (form ∷ forms) (token ∷ tokens) = fits names form token && has_form names words forms tokens

-- THE ANSWERS OF A QUERY

-- how a call ended, behind the thread's number
abbrev pub is_end : Names → List (List ℕ) → Bool
is_end names tokens =
    has_form names false (tokens_of (codes "waits")) tokens
    || (has_form names false (tokens_of (codes "none")) tokens
    || (has_form names true (tokens_of (codes "ipc W N T")) tokens
    || (has_form names false (tokens_of (codes "fault hit")) tokens
    || (has_form names false (tokens_of (codes "fault answered")) tokens
    || (has_form names false (tokens_of (codes "fault failed N")) tokens
    || (has_form names false (tokens_of (codes "unmap ok")) tokens || has_form names false (tokens_of (codes "control ok")) tokens))))))

abbrev pub is_reply : Names → ℕ → List (List ℕ) → Bool
is_reply names number [] = false
is_reply names number (thread ∷ tokens) = bytes_eq (resolved names thread) (decimal number) && is_end names tokens

-- an answer that this query can have where its thread exists
abbrev pub answers : Names → Query → List (List ℕ) → Bool
answers names Pages tokens = has_form names false (tokens_of (codes "page N frame N R")) tokens || has_form names false (tokens_of (codes "shown N")) tokens
answers names Parent tokens =
    has_form names false (tokens_of (codes "absent")) tokens
    || (has_form names false (tokens_of (codes "parent none")) tokens || has_form names false (tokens_of (codes "parent N N")) tokens)
answers names (Reply number) tokens = is_reply names number tokens

-- the query can have the answer; a query about a thread that does not exist is refused
abbrev pub can_answer : Names → Query → List (List ℕ) → Bool
can_answer names query tokens = answers names query tokens || has_form names false (tokens_of (codes "line N refused K2")) tokens

-- THREADS WITH LINES LEFT

-- the thread is stuck before this line
abbrev pub stuck_words : ℕ → ℕ → List ℕ
stuck_words thread line = codes "stuck " ++ (decimal thread ++ (codes " " ++ decimal line))

abbrev pub is_stuck : Names → ℕ → ℕ → List (List ℕ) → Bool
is_stuck names thread line tokens = same_tokens names tokens (tokens_of (stuck_words thread line))
