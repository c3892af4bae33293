-- The lines of an outcome, one after another.
use Rattle.std.proofs.Common.{◌≡◌, ℕ, ◌<◌, ◌||◌, Bool, true, false, List, length, sym, ap, ◌∙◌}
use Rattle.std.specs.List.{list_any}
use Rattle.l4_answers.specs.Lines.{first_line, later_lines}
use Rattle.l4_answers.proofs.AnswerTexts.{begins}
use Rattle.l4_text.specs.Grammar.{TextLine, lines_of}

-- one of the lines passes a test
abbrev pub any_line : (List ℕ → Bool) → List ℕ → Bool
any_line test outcome = list_any (λ line. test line.bytes) (lines_of outcome)

-- the first line of what is left, and those behind it
step : (test : List ℕ → Bool) (rest : List ℕ) → 0 < length rest → any_line test rest ≡ (test (first_line rest) || any_line test (later_lines rest))
step test rest some = ap (λ (ls : List TextLine). list_any (λ line. test line.bytes) ls) (begins rest some).lines

pub line_here : (test : List ℕ → Bool) (outcome rest line : List ℕ) → any_line test outcome ≡ any_line test rest → 0 < length rest → line ≡ first_line rest
    → test line ≡ true → true ≡ any_line test outcome
line_here test outcome rest line is some first same =
    let here = ap (λ (l : List ℕ). test l) (sym first) ∙ same in
    sym (is ∙ step test rest some ∙ ap (λ b. b || any_line test (later_lines rest)) here)

pub line_later : (test : List ℕ → Bool) (outcome rest line left : List ℕ) → any_line test outcome ≡ any_line test rest → 0 < length rest → line ≡ first_line rest
    → test line ≡ false → left ≡ later_lines rest → any_line test outcome ≡ any_line test left
line_later test outcome rest line left is some first differ later =
    let here = ap (λ (l : List ℕ). test l) (sym first) ∙ differ in
    is ∙ step test rest some ∙ ap (λ b. b || any_line test (later_lines rest)) here ∙ ap (any_line test) (sym later)
