-- Files that are tested, and files of segments (this profile's own).
use Rattle.std.specs.Prelude.{ℕ, ◌-◌, ◌==◌, ◌||◌, nat_lt, Bool, false, List, [], ◌∷◌, Option, unwrap_or, slice_get, if◌then◌else◌, bytes_eq, codes}
use Rattle.std.specs.List.{list_any, ends_with, position_or_len}
use Rattle.std.specs.Io.KnownBytes.{Consumes, IsAtEnd}
use Rattle.l4_text.specs.Grammar.{lines_of}
use Rattle.l4_text.specs.Tokens.{tokens_of}
use Rattle.l4_orders.specs.declared.plans.Plan.{Plan}

-- these bytes were read, and the file has no more
abbrev pub IsWholeFile : Option (List ℕ) → Option (List ℕ) → List ℕ → Type 0
IsWholeFile old new bytes = Consumes old new bytes × IsAtEnd new

-- the first token is `unordered`
abbrev pub is_unordered : List (List ℕ) → Bool
is_unordered [] = false
is_unordered (token ∷ tokens) = bytes_eq token (codes "unordered")

-- a line of the file begins the calls that have no order
abbrev pub has_unordered : List ℕ → Bool
has_unordered text = list_any (λ line. is_unordered (tokens_of line.bytes)) (lines_of text)

-- the name of the file is that of a litmus test
abbrev pub is_litmus_name : List ℕ → Bool
is_litmus_name name = ends_with ◌==◌ name (codes ".litmus") || ends_with ◌==◌ name (codes ".plan")

-- THE FILE IS A LITMUS TEST: one of its lines says so, or its name does
abbrev pub is_litmus : List ℕ → List ℕ → Bool
is_litmus name text = has_unordered text || is_litmus_name name

-- the first token is `never` or `always`
abbrev pub is_rule : List (List ℕ) → Bool
is_rule [] = false
is_rule (token ∷ tokens) = bytes_eq token (codes "never") || bytes_eq token (codes "always")

-- the litmus test states a rule
abbrev pub has_rule : Plan → Bool
has_rule plan = list_any (λ line. is_rule (tokens_of line.bytes.items)) plan.queries.items

-- THE FILE OF A SEGMENT, where `ends` has for each file the number of segments in it and in the files before it

-- the number of segments in the files before this one
abbrev pub segments_before : List ℕ → ℕ → ℕ
segments_before ends index = if index == 0 then 0 else unwrap_or (slice_get ends (index - 1)) 0

-- the index of the first file that ends behind this place; the number of files if there is none
abbrev pub file_at : List ℕ → ℕ → ℕ
file_at ends place = position_or_len (λ end. nat_lt place end) ends
