-- What a result has where it is no error.
use Rattle.std.proofs.Common.{◌≡◌, false, Result, Ok, Err, MatchResult, sym}
use Rattle.std.specs.Result.{is_err}
use Rattle.std.proofs.lemmas.Bool.{false≢true}

pub ok_part : {T E : Type 0} (r : Result T E) (P Q : Type 0) → MatchResult r (λ _. P) (λ _. Q) → is_err r ≡ false → P
ok_part (Ok x) P Q h e = h
ok_part (Err x) P Q h e = absurd (false≢true (sym e))
