-- An entry that is kept is read at its place among those that are kept.
use Rattle.std.proofs.Common.{◌≡◌, ℕ, suc, zero, ◌-◌, ◌<◌, ◌≤◌, Bool, if◌then◌else◌, List, [], ◌∷◌, drop, refl, sym, ap, ◌∙◌, arith}
use Rattle.std.specs.Prelude.{nat_le, slice_get}
use Rattle.std.proofs.lemmas.Bool.{le-leb, lt-leb}
use Rattle.l4_record.specs.declared.entries.Entry.{Entry}

pub kept_there : (es : List Entry) (k n : ℕ) → k ≤ n → slice_get (drop k es) (n - k) ≡ slice_get es n
kept_there [] zero n le = refl
kept_there [] (suc k) n le = refl
kept_there (e ∷ es) zero n le = let same : n - 0 ≡ n = omega arith in ap (slice_get (e ∷ es)) same
kept_there (e ∷ es) (suc k) zero le = absurd (omega (arith, le))
kept_there (e ∷ es) (suc k) (suc n) le = let same : suc n - suc k ≡ n - k = omega arith in ap (slice_get (drop k es)) same ∙ kept_there es k n (omega (arith, le))

-- what is told of a number that is kept, and of one that is not
pub if_kept : {X : Type 0} (k n : ℕ) (x y : X) → k ≤ n → x ≡ (if nat_le k n then x else y)
if_kept {X} k n x y le = ap (λ (t : Bool). if t then x else y) (sym (le-leb k n le))

pub if_not_kept : {X : Type 0} (k n : ℕ) (x y : X) → n < k → y ≡ (if nat_le k n then x else y)
if_not_kept {X} k n x y lt = ap (λ (t : Bool). if t then x else y) (sym (lt-leb k n lt))
