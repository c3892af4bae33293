-- What is known of a result leads to more.
use Rattle.std.proofs.Common.{Option, Some, None, MatchOption}

pub match_both : {A : Type 0} (r : Option A) (P Q : Type 0) (F G : A → Type 0) → (P → Q) → ((a : A) → F a → G a) → MatchOption r P F → MatchOption r Q G
match_both None P Q F G f g m = f m
match_both (Some a) P Q F G f g m = g a m
