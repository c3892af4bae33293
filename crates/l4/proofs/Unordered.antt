-- The lines of a file, of which one may begin the calls that have no order.
use Rattle.std.proofs.Common.{◌≡◌, ℕ, ◌<◌, ◌||◌, true, false, List, length, sym, ap, ◌∙◌}
use Rattle.std.specs.List.{list_any}
use Rattle.l4_answers.specs.Lines.{first_line, later_lines}
use Rattle.l4_answers.proofs.AnswerTexts.{begins}
use Rattle.l4_text.specs.Grammar.{TextLine}
use Rattle.l4_text.specs.Tokens.{tokens_of}
use Rattle.l4.specs.Files.{is_unordered, has_unordered}

unordered_step : (rest : List ℕ) → 0 < length rest → has_unordered rest ≡ (is_unordered (tokens_of (first_line rest)) || has_unordered (later_lines rest))
unordered_step rest some = ap (λ (ls : List TextLine). list_any (λ line. is_unordered (tokens_of line.bytes)) ls) (begins rest some).lines

pub unordered_here : (text rest line : List ℕ) → has_unordered text ≡ has_unordered rest → 0 < length rest → line ≡ first_line rest → is_unordered (tokens_of line) ≡ true → true ≡ has_unordered text
unordered_here text rest line is some first same =
    let here = ap (λ (l : List ℕ). is_unordered (tokens_of l)) (sym first) ∙ same in
    sym (is ∙ unordered_step rest some ∙ ap (λ b. b || has_unordered (later_lines rest)) here)

pub unordered_later : (text rest line left : List ℕ) → has_unordered text ≡ has_unordered rest → 0 < length rest → line ≡ first_line rest → is_unordered (tokens_of line) ≡ false → left ≡ later_lines rest
    → has_unordered text ≡ has_unordered left
unordered_later text rest line left is some first differ later =
    let here = ap (λ (l : List ℕ). is_unordered (tokens_of l)) (sym first) ∙ differ in
    is ∙ unordered_step rest some ∙ ap (λ b. b || has_unordered (later_lines rest)) here ∙ ap has_unordered (sym later)
