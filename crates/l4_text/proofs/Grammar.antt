-- Lines of a text.
use Rattle.std.proofs.Common.{◌≡◌, ℕ, ◌==◌, ◌<◌, true, false, cond, List, [], ◌∷◌, ◌++◌, length, filter, Option, Some, None, ap, ◌∙◌, refl, arith}
use Rattle.std.specs.Option.{option_and_then}
use Rattle.l4_text.specs.Grammar.{TextLine, in_front, lines_of, numbers_of}
use Rattle.l4_text.specs.Lines.{NoNewline}
use Rattle.l4_text.specs.Numbers.{number_of}

-- a line that a newline ends comes before the lines of the rest
pub lines_more : (bytes rest : List ℕ) → NoNewline bytes → lines_of (bytes ++ (10 ∷ rest)) ≡ record { bytes = bytes; whole = true } ∷ lines_of rest
lines_more [] rest h = refl
lines_more (b ∷ bytes) rest h =
    ap (λ v. cond v (record { bytes = []; whole = true } ∷ lines_of (bytes ++ (10 ∷ rest))) (in_front b (lines_of (bytes ++ (10 ∷ rest))))) h.0
    ∙ ap (in_front b) (lines_more bytes rest h.1)

-- bytes without a newline are one line
pub one_line : (bytes : List ℕ) → NoNewline bytes → (b : ℕ) → (b == 10) ≡ false → lines_of (b ∷ bytes) ≡ record { bytes = b ∷ bytes; whole = false } ∷ []
one_line [] h b e = ap (λ v. cond v (record { bytes = []; whole = true } ∷ []) (in_front b [])) e
one_line (c ∷ bytes) h b e =
    ap (λ v. cond v (record { bytes = []; whole = true } ∷ lines_of (c ∷ bytes)) (in_front b (lines_of (c ∷ bytes)))) e
    ∙ ap (in_front b) (one_line bytes h.1 c h.0)

-- the one line of some bytes without a newline
pub cut_line : (bytes : List ℕ) → NoNewline bytes → 0 < length bytes → lines_of bytes ≡ record { bytes = bytes; whole = false } ∷ []
cut_line [] h some = absurd (omega arith)
cut_line (b ∷ bytes) h some = one_line bytes h.1 b h.0

-- of bytes without a newline no line is whole
pub none_whole : (bytes : List ℕ) → NoNewline bytes → filter (λ line. line.whole) (lines_of bytes) ≡ []
none_whole [] h = refl
none_whole (b ∷ bytes) h = ap (λ lines. filter (λ (line : TextLine). line.whole) lines) (one_line bytes h.1 b h.0)

-- a token that spells no number
pub no_numbers : (token : List ℕ) (tokens : List (List ℕ)) → number_of token ≡ None → numbers_of (token ∷ tokens) ≡ None
no_numbers token tokens none = ap (λ o. option_and_then (λ n. option_and_then (λ ns. Some (n ∷ ns)) (numbers_of tokens)) o) none
