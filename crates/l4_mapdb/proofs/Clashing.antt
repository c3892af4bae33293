-- A list that is passed from its first element on.
use Rattle.std.proofs.Common.{◌≡◌, ℕ, ◌<◌, List, length, Some, sym, ap, ◌∙◌, slice_get, get_or}
use Rattle.std.proofs.lemmas.Option.{slice_get-get_or}

-- the element that is read stands there
pub read_there : {A : Type 0} (xs : List A) (i : ℕ) (x : A) → i < length xs → x ≡ get_or xs i x → slice_get xs i ≡ Some x
read_there {A = A} xs i x lt is = slice_get-get_or xs i x lt ∙ ap (λ (v : A). Some v) (sym is)
