-- The parts of a text before and behind a byte.
use Rattle.std.proofs.Common.{◌≡◌, ℕ, ◌+◌, ◌-◌, ◌==◌, List, length, take, drop, Some, None, option_map, sym, ap, ◌∙◌}
use Rattle.std.proofs.lemmas.List.{take_rest}
use Rattle.std.specs.List.{position}
use Rattle.l4_symbols.specs.Spelling.{cut_at}

pub cut_some : (byte place : ℕ) (text : List ℕ) → position (λ b. b == byte) text ≡ Some place → Some (take place text, take (length text - (place + 1)) (drop (place + 1) text)) ≡ cut_at byte text
unfolding cut_at
cut_some byte place text e =
    ap (λ (t : List ℕ). Some (take place text, t)) (take_rest text (place + 1))
    ∙ ap (option_map (λ (p : ℕ). (take p text, drop (p + 1) text))) (sym e)

pub cut_none : (byte : ℕ) (text : List ℕ) → position (λ b. b == byte) text ≡ None → None ≡ cut_at byte text
unfolding cut_at
cut_none byte text e = ap (option_map (λ (p : ℕ). (take p text, drop (p + 1) text))) (sym e)
