-- The answers before the first refusal, which are removed one after another.
use Rattle.std.proofs.Common.{◌≡◌, ℕ, ◌<◌, true, false, cond, List, length, Some, None, sym, ap, ◌∙◌}
use Rattle.std.proofs.lemmas.List.{nil_from_length}
use Rattle.l4_answers.specs.Lines.{first_line, later_lines}
use Rattle.l4_answers.proofs.AnswerTexts.{begins}
use Rattle.l4_expectations.specs.Expectations.{is_refusal, refusal_of, refusal_in}

-- the first line of what is left, and those behind it
refusal_step : (now : List ℕ) → 0 < length now → refusal_in now ≡ cond (is_refusal (first_line now)) (Some (first_line now)) (refusal_in (later_lines now))
refusal_step now some = ap refusal_of (begins now some).lines

pub refusal_here : (old now : List ℕ) → refusal_in old ≡ refusal_in now → 0 < length now → is_refusal (first_line now) ≡ true → refusal_in old ≡ Some (first_line now)
refusal_here old now same some here = same ∙ refusal_step now some ∙ ap (λ b. cond b (Some (first_line now)) (refusal_in (later_lines now))) here

pub refusal_later : (old now new : List ℕ) → refusal_in old ≡ refusal_in now → 0 < length now → is_refusal (first_line now) ≡ false → new ≡ later_lines now → refusal_in old ≡ refusal_in new
refusal_later old now new same some here later =
    same ∙ refusal_step now some ∙ ap (λ b. cond b (Some (first_line now)) (refusal_in (later_lines now))) here ∙ ap refusal_in (sym later)

pub refusal_none : (old now : List ℕ) → refusal_in old ≡ refusal_in now → length now ≡ 0 → refusal_in old ≡ None
refusal_none old now same empty = same ∙ ap refusal_in (nil_from_length now empty)
