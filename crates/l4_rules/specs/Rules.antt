-- The rules of a litmus test, and when an outcome breaks one (this profile's own).
use Rattle.std.specs.Prelude.{ℕ, ◌&&◌, ◌||◌, Bool, true, false, not, if◌then◌else◌, Option, Some, None, List, [], ◌∷◌, codes, bytes_eq, decimal}
use Rattle.std.specs.List.{list_any}
use Rattle.std.specs.Option.{option_map_or}
use Rattle.l4_text.specs.Grammar.{lines_of}
use Rattle.l4_text.specs.Tokens.{tokens_of}
use Rattle.l4_names.specs.Names.{Names}
use Rattle.l4_rules.specs.Tokens.{resolved, same_tokens, has_token}

-- WHAT A RULE NAMES

-- the answer of a rule `never ANSWER` or `always ANSWER`
abbrev pub rule_answer : List (List ℕ) → Option (List (List ℕ))
rule_answer [] = None
rule_answer (name ∷ answer) = if bytes_eq name (codes "never") then Some answer else (if bytes_eq name (codes "always") then Some answer else None)

-- A rule `never * waits` or `never deadlock` is about all threads: whether a thread with lines left breaks it too, and the tokens that follow.
abbrev pub over_waits : List (List ℕ) → Option (Bool × List (List ℕ))
over_waits [] = None
over_waits (word ∷ rest) = if bytes_eq word (codes "waits") then Some (false, rest) else None

abbrev pub over_all : List (List ℕ) → Option (Bool × List (List ℕ))
over_all [] = None
over_all (word ∷ rest) = if bytes_eq word (codes "deadlock") then Some (true, rest) else (if bytes_eq word (codes "*") then over_waits rest else None)

abbrev pub over_threads : List (List ℕ) → Option (Bool × List (List ℕ))
over_threads [] = None
over_threads (name ∷ answer) = if bytes_eq name (codes "never") then over_all answer else None

-- The tokens that follow are none, or `may-wait` and threads. Each is one of these threads, by its name or by its number.
abbrev pub is_thread : Names → List ℕ → List ℕ → Bool
is_thread names threads token = list_any (λ thread. bytes_eq (resolved names token) (decimal thread)) threads

abbrev pub are_threads : Names → List ℕ → List (List ℕ) → Bool
are_threads names threads [] = true
are_threads names threads (token ∷ tokens) = is_thread names threads token && are_threads names threads tokens

abbrev pub has_threads : Names → List ℕ → List (List ℕ) → Bool
has_threads names threads [] = false
has_threads names threads (token ∷ tokens) = are_threads names threads (token ∷ tokens)

abbrev pub is_allowance : Names → List ℕ → List (List ℕ) → Bool
is_allowance names threads [] = true
is_allowance names threads (word ∷ tokens) = bytes_eq word (codes "may-wait") && has_threads names threads tokens

-- the threads that may wait
abbrev pub allowed_in : List (List ℕ) → List (List ℕ)
allowed_in [] = []
allowed_in (word ∷ tokens) = tokens

-- WHEN AN OUTCOME BREAKS A RULE

-- one of the outcome's lines, which are answers and threads that are stuck, is the answer
abbrev pub has_answer : Names → List (List ℕ) → List ℕ → Bool
has_answer names answer outcome = list_any (λ line. same_tokens names answer (tokens_of line.bytes)) (lines_of outcome)

-- `N waits`, for a thread that may not wait
abbrev pub is_waiting : Names → List (List ℕ) → List (List ℕ) → Bool
is_waiting names allowed [] = false
is_waiting names allowed (thread ∷ []) = false
is_waiting names allowed (thread ∷ word ∷ []) = bytes_eq word (codes "waits") && not (has_token names allowed thread)
is_waiting names allowed (thread ∷ word ∷ other ∷ others) = false

-- `stuck N L`, for such a thread
abbrev pub is_left : Names → List (List ℕ) → List (List ℕ) → Bool
is_left names allowed [] = false
is_left names allowed (word ∷ []) = false
is_left names allowed (word ∷ thread ∷ rest) = bytes_eq word (codes "stuck") && not (has_token names allowed thread)

abbrev pub is_stopped : Names → Bool → List (List ℕ) → List (List ℕ) → Bool
is_stopped names left allowed tokens = is_waiting names allowed tokens || (left && is_left names allowed tokens)

-- a thread that may not wait waits, or with `left` has lines left
abbrev pub has_stopped : Names → Bool → List (List ℕ) → List ℕ → Bool
has_stopped names left allowed outcome = list_any (λ line. is_stopped names left allowed (tokens_of line.bytes)) (lines_of outcome)

-- the outcome has an answer that `never` names, or lacks one that `always` names; other lines are no rules, and no outcome breaks them
abbrev pub breaks_answer : Names → List (List ℕ) → List ℕ → Bool
breaks_answer names [] outcome = false
breaks_answer names (name ∷ answer) outcome =
    if bytes_eq name (codes "never") then has_answer names answer outcome
    else (if bytes_eq name (codes "always") then not (has_answer names answer outcome) else false)

-- the outcome breaks the rule with these tokens
abbrev pub is_broken : Names → List (List ℕ) → List ℕ → Bool
is_broken names tokens outcome =
    option_map_or (λ rule. has_stopped names rule.0 (allowed_in rule.1) outcome) (over_threads tokens) (breaks_answer names tokens outcome)
