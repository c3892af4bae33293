-- What a search found, as C gets it (this profile's own).
use Rattle.std.specs.Prelude.{◌≡◌, ◌⊎◌, ℕ, List, [], ◌++◌, length, min, take, drop, slice_get, is_ok, if◌then◌else◌, Option, None, Some, codes}
use Rattle.std.specs.Option.{option_map_or}
use Rattle.l4_naturals.specs.Numerals.{numeral}
use Rattle.l4_merges.specs.declared.exploring.Explored.{Explored}
use Rattle.l4_refusals.specs.Texts.{spelled}
use Rattle.l4_orders.specs.Rules.{broken_rules}
use Rattle.l4_orders.specs.Telling.{line_numbers, witness_text}
use Rattle.l4_outcomes.specs.Counts.{end_number, counted_orders}
use Rattle.l4_outcomes.specs.declared.searched.Searched.{Searched}
use Rattle.l4_c_texts.specs.Written.{written}
use Rattle.l4_c_orders.specs.declared.outcomes.CountResult.{CountResult}
use Rattle.l4_c_orders.specs.declared.outcomes.FoundResult.{FoundResult}

abbrev pub found_result : Explored → FoundResult
found_result e =
    record { refusal = 0; ended = end_number e.ended; outcomes = length e.found.items; orders = counted_orders e.ended e.orders; states = e.states }

abbrev pub no_found : FoundResult
no_found = record { refusal = spelled (codes "B1"); ended = 0; outcomes = 0; orders = 0; states = 0 }

-- how the search ended, and what it found; an empty handle is refused (B1)
abbrev pub TellsFound : Option Searched → FoundResult → Type 0
TellsFound None r = r ≡ no_found
TellsFound (Some s) r = r ≡ found_result s.explored

-- TEXTS

-- a number of bytes, or the code of the reason why there is no text
abbrev pub count_result : ℕ → ℕ → CountResult
count_result code count = record { refusal = code; count = count }

-- the length of the text is returned, and as much of it as fits is written
abbrev pub Writes : List ℕ → List ℕ → CountResult → List ℕ → Type 0
Writes text old r new = (r ≡ count_result 0 (length text)) × (new ≡ written text old)

-- the number of orders in decimal, or no text if the search ended early
abbrev pub number_in : Searched → List ℕ
number_in s = if is_ok s.explored.ended then numeral s.explored.orders else []

-- the number is written, or memory ran out
abbrev pub WritesNumber : Searched → List ℕ → CountResult → List ℕ → Type 0
WritesNumber s old r new = Writes (number_in s) old r new ⊎ ((r ≡ count_result (spelled (codes "NoMemory")) 0) × (new ≡ old))

abbrev pub TellsNumber : Option Searched → List ℕ → CountResult → List ℕ → Type 0
TellsNumber None old r new = (r ≡ count_result (spelled (codes "B1")) 0) × (new ≡ old)
TellsNumber (Some s) old r new = WritesNumber s old r new

-- the answers of the outcome with this number, from 0, or no text if there is no such outcome
abbrev pub answers_in : Searched → ℕ → List ℕ
answers_in s number = option_map_or (λ one. one.outcome.items) (slice_get s.explored.found.items number) []

abbrev pub TellsAnswers : Option Searched → ℕ → List ℕ → CountResult → List ℕ → Type 0
TellsAnswers None number old r new = (r ≡ count_result (spelled (codes "B1")) 0) × (new ≡ old)
TellsAnswers (Some s) number old r new = Writes (answers_in s number) old r new

-- the script of the order that was found with this outcome, or no text
abbrev pub witness_in : Searched → ℕ → List ℕ
witness_in s number = option_map_or (λ one. witness_text s.plan one.order.items) (slice_get s.explored.found.items number) []

-- the script is written, or memory ran out
abbrev pub WritesWitness : Searched → ℕ → List ℕ → CountResult → List ℕ → Type 0
WritesWitness s number old r new = Writes (witness_in s number) old r new ⊎ ((r ≡ count_result (spelled (codes "NoMemory")) 0) × (new ≡ old))

abbrev pub TellsWitness : Option Searched → ℕ → List ℕ → CountResult → List ℕ → Type 0
TellsWitness None number old r new = (r ≡ count_result (spelled (codes "B1")) 0) × (new ≡ old)
TellsWitness (Some s) number old r new = WritesWitness s number old r new

-- the rules that this outcome breaks, or no text
abbrev pub broken_in : Searched → ℕ → List ℕ
broken_in s number = option_map_or (λ one. broken_rules s.plan one.outcome.items) (slice_get s.explored.found.items number) []

-- the rules are written, or memory ran out
abbrev pub WritesBroken : Searched → ℕ → List ℕ → CountResult → List ℕ → Type 0
WritesBroken s number old r new = Writes (broken_in s number) old r new ⊎ ((r ≡ count_result (spelled (codes "NoMemory")) 0) × (new ≡ old))

abbrev pub TellsBroken : Option Searched → ℕ → List ℕ → CountResult → List ℕ → Type 0
TellsBroken None number old r new = (r ≡ count_result (spelled (codes "B1")) 0) × (new ≡ old)
TellsBroken (Some s) number old r new = WritesBroken s number old r new

-- NUMBERS

-- how many numbers there are is returned, and as many of them as fit are written
abbrev pub WritesNumbers : List ℕ → List ℕ → CountResult → List ℕ → Type 0
WritesNumbers numbers old r new =
    (r ≡ count_result 0 (length numbers)) × (new ≡ take (min (length numbers) (length old)) numbers ++ drop (min (length numbers) (length old)) old)

-- the numbers of the lines of the order that was found with this outcome, or no numbers
abbrev pub lines_in : Searched → ℕ → List ℕ
lines_in s number = option_map_or (λ one. line_numbers s.plan one.order.items) (slice_get s.explored.found.items number) []

-- the numbers are written, or memory ran out
abbrev pub WritesLines : Searched → ℕ → List ℕ → CountResult → List ℕ → Type 0
WritesLines s number old r new = WritesNumbers (lines_in s number) old r new ⊎ ((r ≡ count_result (spelled (codes "NoMemory")) 0) × (new ≡ old))

abbrev pub TellsLines : Option Searched → ℕ → List ℕ → CountResult → List ℕ → Type 0
TellsLines None number old r new = (r ≡ count_result (spelled (codes "B1")) 0) × (new ≡ old)
TellsLines (Some s) number old r new = WritesLines s number old r new
