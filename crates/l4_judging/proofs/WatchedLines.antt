-- The lines of an answer, compared one by one.
use Rattle.std.proofs.Common.{◌≡◌, ℕ, suc, ◌+◌, ◌-◌, ◌==◌, ◌≤◌, ◌<◌, Bool, true, false, not, cond, List, [], ◌∷◌, length, take, drop, map, Option, Some, sym, ap, subst, ◌∙◌, refl, arith}
use Rattle.std.proofs.lemmas.List.{length-drop}
use Rattle.std.proofs.lemmas.Bool.Decides.{nat_tests}
use Rattle.std.specs.List.{position_or_len}
use Rattle.l4_text.specs.Grammar.{TextLine, in_front, lines_of}
use Rattle.l4_answers.specs.Lines.{first_line, later_lines}
use Rattle.l4_judging.specs.Judging.{has_said}
use Rattle.l4_judging.specs.Watching.{said_lines, differs_from}

abbrev with_front : ℕ → List (List ℕ) → List (List ℕ)
with_front byte [] = (byte ∷ []) ∷ []
with_front byte (said ∷ lines) = (byte ∷ said) ∷ lines

said_in_front : (byte : ℕ) (lines : List TextLine) → map (λ line. line.bytes) (in_front byte lines) ≡ with_front byte (map (λ line. line.bytes) lines)
said_in_front byte [] = refl
said_in_front byte (line ∷ lines) = refl

-- a byte in front of a text whose first line is taken
byte_more : (byte k : ℕ) (bytes : List ℕ) → (byte ∷ take k bytes) ∷ said_lines (drop (k + 1) bytes) ≡ take (1 + k) (byte ∷ bytes) ∷ said_lines (drop (1 + k + 1) (byte ∷ bytes))
byte_more byte k bytes =
    let front : suc k ≡ 1 + k = omega arith in
    let behind : suc (k + 1) ≡ 1 + k + 1 = omega arith in
    subst (λ (n : ℕ). (byte ∷ take k bytes) ∷ said_lines (drop (k + 1) bytes) ≡ take n (byte ∷ bytes) ∷ said_lines (drop (1 + k + 1) (byte ∷ bytes))) front
    (subst (λ (n : ℕ). (byte ∷ take k bytes) ∷ said_lines (drop (k + 1) bytes) ≡ take (suc k) (byte ∷ bytes) ∷ said_lines (drop n (byte ∷ bytes))) behind refl)

-- the lines of a text that is not empty: its first line, and those after it
pub said_front : (byte : ℕ) (bytes : List ℕ) → said_lines (byte ∷ bytes) ≡ first_line (byte ∷ bytes) ∷ said_lines (later_lines (byte ∷ bytes))
said_front byte [] =
    elim (byte == 10) as (λ (v : Bool). map (λ (line : TextLine). line.bytes) (cond v (record { bytes = []; whole = true } ∷ []) (in_front byte []))
    ≡ take (cond (not v) 1 0) (byte ∷ []) ∷ said_lines (drop (cond (not v) 1 0 + 1) (byte ∷ []))) [
      | true ↦ refl
      | false ↦ refl
    ]
said_front byte (next ∷ bytes) =
    let k : ℕ = position_or_len (λ b. b == 10) (next ∷ bytes) in
    elim (byte == 10) as (λ (v : Bool). map (λ (line : TextLine). line.bytes) (cond v (record { bytes = []; whole = true } ∷ lines_of (next ∷ bytes)) (in_front byte (lines_of (next ∷ bytes))))
    ≡ take (cond (not v) (1 + k) 0) (byte ∷ next ∷ bytes) ∷ said_lines (drop (cond (not v) (1 + k) 0 + 1) (byte ∷ next ∷ bytes))) [
      | true ↦ refl
      | false ↦ said_in_front byte (lines_of (next ∷ bytes)) ∙ ap (with_front byte) (said_front next bytes) ∙ byte_more byte k (next ∷ bytes)
    ]

-- the lines after the first are shorter than the text
pub later_shorter : (text : List ℕ) → 0 < length text → length (later_lines text) + 1 ≤ length text
later_shorter text some =
    let left : length (later_lines text) ≡ length text - (position_or_len (λ b. b == 10) text + 1) = length-drop (position_or_len (λ b. b == 10) text + 1) text in
    omega (arith, left, some)

pub is_some_text : (text : List ℕ) → (length text == 0) ≡ false → 0 < length text
is_some_text text some = grind (arith, nat_tests)

-- the first of the remaining lines differs
pub differs_here : (place : ℕ) (due rest : List ℕ) → 0 < length rest → has_said due (first_line rest) ≡ false → differs_from place due (said_lines rest) ≡ Some (place, first_line due)
differs_here place due [] some not = absurd (omega (arith, some))
differs_here place due (byte ∷ bytes) some not =
    let next : Option (ℕ × List ℕ) = differs_from (place + 1) (later_lines due) (said_lines (later_lines (byte ∷ bytes))) in
    ap (differs_from place due) (said_front byte bytes) ∙ ap (λ (v : Bool). cond v next (Some (place, first_line due))) not

-- the first of the remaining lines is the line due
pub differs_on : (place : ℕ) (due rest : List ℕ) → 0 < length rest → has_said due (first_line rest) ≡ true
    → differs_from place due (said_lines rest) ≡ differs_from (place + 1) (later_lines due) (said_lines (later_lines rest))
differs_on place due [] some same = absurd (omega (arith, some))
differs_on place due (byte ∷ bytes) some same =
    let next : Option (ℕ × List ℕ) = differs_from (place + 1) (later_lines due) (said_lines (later_lines (byte ∷ bytes))) in
    ap (differs_from place due) (said_front byte bytes) ∙ ap (λ (v : Bool). cond v next (Some (place, first_line due))) same

-- one line more was compared
pub rest_next : (place total : ℕ) (due rest after later : List ℕ) (d : Option (ℕ × List ℕ)) → 0 < length rest → has_said due (first_line rest) ≡ true → after ≡ later_lines due → later ≡ later_lines rest
    → (place + length rest ≤ total) × (d ≡ differs_from place due (said_lines rest)) → (place + 1 + length later ≤ total) × (d ≡ differs_from (place + 1) after (said_lines later))
rest_next place total due rest after later d some same due_is rest_is (within, from) =
    let shorter : length later + 1 ≤ length rest = subst (λ (text : List ℕ). length text + 1 ≤ length rest) (sym rest_is) (later_shorter rest some) in (
      omega (arith, shorter, within),
      from ∙ differs_on place due rest some same
          ∙ ap (λ (text : List ℕ). differs_from (place + 1) text (said_lines (later_lines rest))) (sym due_is)
          ∙ ap (λ (text : List ℕ). differs_from (place + 1) after (said_lines text)) (sym rest_is),
    )
