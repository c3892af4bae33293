-- Words in a row.
use Rattle.std.proofs.Common.{◌≡◌, ℕ, ◌+◌, ◌<◌, List, [], ◌∷◌, ◌++◌, length, take, get_or, sym, ap, ◌∙◌, refl}
use Rattle.std.proofs.lemmas.List.{take_more}
use mathlib.Core.List.{append_assoc, append-nil}
use Rattle.l4_text.specs.Texts.{word_text, words_text}

-- the text of more words follows the text of the first
pub words_text-append : (xs ys : List ℕ) → words_text (xs ++ ys) ≡ words_text xs ++ words_text ys
words_text-append [] ys = refl
words_text-append (x ∷ xs) ys = ap (λ t. 32 ∷ (word_text x ++ t)) (words_text-append xs ys) ∙ ap (λ t. 32 ∷ t) (sym (append_assoc (word_text x) (words_text xs) (words_text ys)))

-- one word more
pub words_text_more : (xs : List ℕ) (i : ℕ) → i < length xs → words_text (take i xs) ++ (32 ∷ word_text (get_or xs i 0)) ≡ words_text (take (i + 1) xs)
words_text_more xs i lt =
    ap (λ t. words_text (take i xs) ++ t) (ap (λ t. 32 ∷ t) (sym (append-nil (word_text (get_or xs i 0)))))
    ∙ sym (words_text-append (take i xs) (get_or xs i 0 ∷ []))
    ∙ ap (λ t. words_text t) (sym (take_more xs i 0 lt))
