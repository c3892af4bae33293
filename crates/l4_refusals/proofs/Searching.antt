-- Texts that are looked for in one list after another.
use Rattle.std.proofs.Common.{◌≡◌, ℕ, List, ◌++◌, sym, ◌∙◌, subst}
use Rattle.l4_refusals.specs.Texts.{text_in}

-- a text that is found in a list
pub here : (us ts rest : List (List ℕ × List ℕ)) (n : ℕ) (t : List ℕ × List ℕ) → us ≡ ts → text_in (us ++ rest) n ≡ t → t ≡ text_in (ts ++ rest) n
here us ts rest n t e h = sym (subst (λ (xs : List (List ℕ × List ℕ)). text_in (xs ++ rest) n ≡ t) e h)

-- a text that is found behind a list
pub behind : (us ts rest : List (List ℕ × List ℕ)) (n : ℕ) (t : List ℕ × List ℕ) → us ≡ ts → text_in (us ++ rest) n ≡ text_in rest n → t ≡ text_in rest n
    → t ≡ text_in (ts ++ rest) n
behind us ts rest n t e h further = further ∙ sym (subst (λ (xs : List (List ℕ × List ℕ)). text_in (xs ++ rest) n ≡ text_in rest n) e h)
