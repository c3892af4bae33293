-- Tables of numbers, entry by entry.
use Rattle.std.proofs.Common.{◌≡◌, ℕ, zero, suc, ◌<◌, ◌==◌, Bool, true, ◌&&◌, List, slice_index_or, subst, arith, inl, inr, eqb-true}
use Rattle.std.proofs.lemmas.Bool.{cases_lt, and_parts}

-- whether the table has what is wanted of all numbers below a bound
abbrev pub has_entries : (ℕ → ℕ) → List ℕ → ℕ → ℕ → Bool
has_entries wanted table other zero = true
has_entries wanted table other (suc n) = (slice_index_or table n other == wanted n) && has_entries wanted table other n

pub entry_in : (wanted : ℕ → ℕ) (table : List ℕ) (other n number : ℕ) → has_entries wanted table other n ≡ true → number < n → slice_index_or table number other ≡ wanted number
entry_in wanted table other zero number h less = absurd (omega (arith, less))
entry_in wanted table other (suc n) number h less =
    let parts = and_parts (slice_index_or table n other == wanted n) (has_entries wanted table other n) h in
    elim (cases_lt number n) [
      | inl below ↦ entry_in wanted table other n number parts.1 below
      | inr last ↦
          let at : n ≡ number = omega (arith, less, last) in
          subst (λ k. slice_index_or table k other ≡ wanted k) at (eqb-true (slice_index_or table n other) (wanted n) parts.0)
    ]
