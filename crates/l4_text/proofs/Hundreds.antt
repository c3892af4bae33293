-- Numbers of three and four digits in decimal, by pairs of digits.
use Rattle.std.proofs.Common.{◌≡◌, ◌<◌, ◌≤◌, ◌+◌, ◌/◌, ◌%◌, ℕ, ◌∷◌, ◌++◌, decimal, sym, ap, ◌∙◌, arith}
use Rattle.std.proofs.lemmas.Fmt.{decimal_digit}
use Rattle.itoa.proofs.Decimal.{decimal_pair, decimal_two, pair}

pub three_digits : (n : ℕ) → 100 ≤ n → n < 1000 → (48 + n / 100) ∷ pair (n % 100) ≡ decimal n
three_digits n low high = sym (decimal_pair n low (omega (arith, high)) ∙ ap (λ ds. ds ++ pair (n % 100)) (decimal_digit (n / 100) (omega (arith, high))))

pub four_digits : (n : ℕ) → 1000 ≤ n → n < 10000 → pair (n / 100) ++ pair (n % 100) ≡ decimal n
four_digits n low high = sym (decimal_pair n (omega (arith, low)) (omega (arith, high)) ∙ ap (λ ds. ds ++ pair (n % 100)) (decimal_two (n / 100) (omega (arith, low)) (omega (arith, high))))
