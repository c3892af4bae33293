-- What the registers hold.
use Rattle.std.proofs.Common.{◌≡◌, ℕ, ◌+◌, ◌<◌, ◌++◌, ◌∷◌, [], List, length, length-append, get_or, subst, inl, inr, arith}
use Rattle.std.proofs.lemmas.Bool.{cases_lt}
use Rattle.std.proofs.lemmas.List.{get_or_push}
use Rattle.std.proofs.Math.ListN.{get_or-append}
use Rattle.std.specs.List.{HoldsAt}
use Rattle.l4_fpage.specs.Fpages.{ReadsAs, IsMalformed}
use Rattle.l4_fpage.specs.declared.fpages.Fpage.{Fpage}
use Rattle.l4_fpage.specs.declared.fpages.Fpage.TheVariants.{Nil}
use Rattle.l4_fpage.proofs.Same.{malformed_reads_none}
use Rattle.l4_unmap.specs.Unmap.{UnmapReads, UnmapFails}
use Rattle.l4_unmap.specs.declared.UnmapFault.{UnmapFault}
use Rattle.l4_unmap.specs.declared.UnmapFault.TheVariants.{BadFpage, TooFew}

-- the first registers are read as these fpages
pub record ReadsFirst (words : List ℕ) (number : ℕ) (fpages : List Fpage) : Type 0 where
  pub count : length fpages ≡ number
  pub each : (k : ℕ) → k < number → HoldsAt (ReadsAs (get_or words k 0)) fpages k

-- one more
pub one_read : (words : List ℕ) (i : ℕ) (fpages : List Fpage) (fpage : Fpage) → ReadsFirst words i fpages → ReadsAs (get_or words i 0) fpage → ReadsFirst words (i + 1) (fpages ++ fpage ∷ [])
one_read words i fpages fpage first reads = record {
  count = simp length-append (omega (arith, first.count));
  each = λ k lt d. elim (cases_lt k i) [
    | inl less ↦ let within : k < length fpages = omega (arith, first.count) in rw (get_or-append fpages (fpage ∷ []) d k within) (first.each k less d)
    | inr ge ↦
        let last : length fpages ≡ k = omega (arith, first.count) in
        let same : i ≡ k = omega arith in
        rw (get_or_push fpages fpage d k last) (subst (λ (n : ℕ). ReadsAs (get_or words n 0) fpage) same reads)
  ];
}

-- none of the first registers is malformed
pub none_malformed : (words : List ℕ) (i : ℕ) (fpages : List Fpage) → ReadsFirst words i fpages → (k : ℕ) → k < i → ¬ (IsMalformed (get_or words k 0))
none_malformed words i fpages first k lt bad = malformed_reads_none (get_or words k 0) (get_or fpages k Nil) bad (first.each k lt Nil)

-- registers that are read are not refused
pub reads_not_fails : (control : ℕ) (words : List ℕ) (fpages : List Fpage) (fault : UnmapFault) → UnmapReads control words fpages → UnmapFails control words fault → ⊥
reads_not_fails control words fpages TooFew reads fails = omega (arith, reads.there, fails)
reads_not_fails control words fpages (BadFpage i) reads fails =
    malformed_reads_none (get_or words i 0) (get_or fpages i Nil) fails.2 (reads.each i (omega (arith, reads.count, fails.1)) Nil)
