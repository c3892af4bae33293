-- The clause of an option whose variant is known.
use Rattle.std.proofs.Common.{◌≡◌, Option, Some, None, MatchOption, subst}

pub none_is : {X : Type 0} (o : Option X) (P : Type 0) (Q : X → Type 0) → o ≡ None → MatchOption o P Q → P
none_is o P Q is h = subst (λ (p : Option _). MatchOption p P Q) is h

pub some_is : {X : Type 0} (o : Option X) (P : Type 0) (Q : X → Type 0) (x : X) → o ≡ Some x → MatchOption o P Q → Q x
some_is o P Q x is h = subst (λ (p : Option _). MatchOption p P Q) is h
