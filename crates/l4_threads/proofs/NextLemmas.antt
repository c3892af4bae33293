-- The least number of a thread, as the list of threads has it.
use Rattle.std.proofs.Common.{◌≡◌, ℕ, zero, suc, ◌<◌, ◌≤◌, true, List, [], ◌∷◌, length, slice_get, Option, Some, None, is_some, MatchOption, refl, sym, ap, ◌∙◌, arith, inl, inr}
use Rattle.std.proofs.lemmas.Bool.{false≢true}
use Rattle.std.proofs.lemmas.Option.{slice_get_within}
use Rattle.l4_threads.specs.declared.Thread.{Thread}
use Rattle.l4_threads.specs.Threads.{Threads}
use Rattle.l4_threads.specs.Listed.{IsThread, NoThreadFrom, IsNextThread}
use Rattle.l4_threads.specs.Inside.Entries.{Entries, found}
use Rattle.l4_threads.specs.Inside.Kept.{threads_of}
use Rattle.l4_threads.proofs.TableLemmas.{same_or, found_at, found_here, found_further}
use Rattle.l4_threads.proofs.ViewLemmas.{thread_at_seen}
use Rattle.l4_threads.proofs.EnabledLemmas.{LeastSoFar}

-- there is a thread of this number, which isn't below the other one
abbrev pub IsFrom : Threads → ℕ → ℕ → Type 0
IsFrom t from n = (from ≤ n) × IsThread t n

found_there : (es : Entries) (i : ℕ) (e : ℕ × Thread) → slice_get es i ≡ Some e → is_some (found es e.0) ≡ true
found_there [] i e h = absurd (let k : ◌≡◌ {A = Option (ℕ × Thread)} None (Some e) = h in cc)
found_there (x ∷ es) zero e h = let v : x ≡ e = cc in ap is_some (found_here x es e.0 (sym (ap (λ (y : ℕ × Thread). y.0) v)))
found_there (x ∷ es) (suc i) e h = elim (same_or e.0 x.0) [
  | inl is ↦ ap is_some (found_here x es e.0 is)
  | inr ne ↦ ap is_some (found_further x es e.0 ne) ∙ found_there es i e h
]

module _ (es : Entries) (queue : List ℕ) (next : ℕ) (t : Threads) (is : threads_of es queue next ≡ t) where
  pub stands : (i : ℕ) (e : ℕ × Thread) → slice_get es i ≡ Some e → IsThread t e.0
  stands i e h = ap is_some (thread_at_seen es queue next t is e.0) ∙ found_there es i e h

  place : (n : ℕ) → IsThread t n → (k : ℕ) × (thread : Thread) × (k < length es) × (slice_get es k ≡ Some (n, thread))
  place n h =
      elim (found es n) as (λ o. found es n ≡ o → is_some o ≡ true → (k : ℕ) × (thread : Thread) × (k < length es) × (slice_get es k ≡ Some (n, thread))) [
        | None ↦ λ _ k. absurd (false≢true k)
        | Some thread ↦ λ there _. let at = found_at es n thread there in (at.0, thread, slice_get_within es at.0 (n, thread) at.1, at.1)
      ] refl (sym (ap is_some (thread_at_seen es queue next t is n)) ∙ h)

  pub next_is : (from i : ℕ) → length es ≤ i → (o : Option ℕ) → LeastSoFar (IsFrom t from) es i o → MatchOption o (NoThreadFrom t from) (IsNextThread t from)
  next_is from i all None h = λ n le there. let p = place n there in h p.0 (n, p.1) (let lt = p.2 in omega (arith, lt, all)) p.3 (le, there)
  next_is from i all (Some m) h = record {
    there = h.0.1;
    from = h.0.0;
    least = λ n le there. let p = place n there in h.1 p.0 (n, p.1) (let lt = p.2 in omega (arith, lt, all)) p.3 (le, there);
  }
