-- Where a text stops that has numbers to its end.
use Rattle.std.proofs.Common.{◌≡◌, ℕ, suc, ◌+◌, true, false, cond, List, [], ◌∷◌, Some, None, sym, ap, ◌∙◌}
use Rattle.l4_step_lines.specs.declared.stops.Expected.TheVariants.{NumberOrEnd, LineEnd}
use Rattle.l4_step_lines.specs.Stops.{wrong, fits, words_stop}

-- no token is left
pub words_done : (first words : ℕ) (line rest : List (List ℕ)) (at left : ℕ) → words_stop first words line ≡ words_stop at left rest → rest ≡ [] → None ≡ words_stop first words line
words_done first words line rest at left is none = sym (is ∙ ap (words_stop at left) none)

-- a number more than there may be
pub words_over : (first words : ℕ) (line rest tokens : List (List ℕ)) (token : List ℕ) (at left number : ℕ) → words_stop first words line ≡ words_stop at left rest → rest ≡ token ∷ tokens → left ≡ 0 → at ≡ number
    → Some (record { number = number; token = Some token; expected = LineEnd }) ≡ words_stop first words line
words_over first words line rest tokens token at left number is more none there =
    sym (
    is ∙ ap (words_stop at left) more ∙ ap (λ m. words_stop at m (token ∷ tokens)) none
    ∙ ap (λ (n : ℕ). wrong n token LineEnd) there
    )

-- a token that is no number
pub words_wrong : (first words : ℕ) (line rest tokens : List (List ℕ)) (token : List ℕ) (at left more number : ℕ) → words_stop first words line ≡ words_stop at left rest → rest ≡ token ∷ tokens → left ≡ suc more
    → at ≡ number → fits NumberOrEnd token ≡ false → Some (record { number = number; token = Some token; expected = NumberOrEnd }) ≡ words_stop first words line
words_wrong first words line rest tokens token at left more number is parts some there not =
    sym (
    is ∙ ap (words_stop at left) parts ∙ ap (λ m. words_stop at m (token ∷ tokens)) some
    ∙ ap (λ b. cond b (words_stop (at + 1) more tokens) (wrong at token NumberOrEnd)) not
    ∙ ap (λ (n : ℕ). wrong n token NumberOrEnd) there
    )

-- a number
pub words_next : (first words : ℕ) (line rest tokens : List (List ℕ)) (token : List ℕ) (at left more next : ℕ) → words_stop first words line ≡ words_stop at left rest → rest ≡ token ∷ tokens → left ≡ suc more
    → at + 1 ≡ next → fits NumberOrEnd token ≡ true → words_stop first words line ≡ words_stop next more tokens
words_next first words line rest tokens token at left more next is parts some there fit =
    is ∙ ap (words_stop at left) parts ∙ ap (λ m. words_stop at m (token ∷ tokens)) some
    ∙ ap (λ b. cond b (words_stop (at + 1) more tokens) (wrong at token NumberOrEnd)) fit
    ∙ ap (λ (n : ℕ). words_stop n more tokens) there
