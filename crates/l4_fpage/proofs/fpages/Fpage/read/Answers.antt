use Rattle.std.proofs.Common.{◌≡◌, ◌*◌, ◌/◌, ◌%◌, ◌^◌, ◌<◌, ap, ◌∙◌, Ok, arith, bit_and, ℕ}
use Rattle.std.proofs.lemmas.Nat.{shr_split, and_mask}
use Rattle.std.proofs.Math.Nat.{mod-eq_of_lt}
use Rattle.l4_fpage.specs.Rights.{set_of_bits}
use Rattle.l4_fpage.specs.Fpages.{size_field, base_field}
use Rattle.l4_fpage.proofs.Eight.{set_of_low}
use Rattle.l4_fpage.proofs.Powers.{rounded_aligned}
use Rattle.l4_fpage.proofs.Same.{reads_same}
use Rattle.l4_fpage.proofs.fpages.Fpage.read.Goals as goal

pub invariant_of-result-clause-aligned : goal.invariant_of-result-clause-aligned
invariant_of-result-clause-aligned c =
    let k = bit_and (c.args.word / 16) 63 in
    let x = c.args.word / 1024 * 1024 % 4294967296 in
    let e : x / 2 ^ k * 2 ^ k % 4294967296 ≡ x / 2 ^ k * 2 ^ k = mod-eq_of_lt (omega (arith, shr_split x k)) in
    rw e (rounded_aligned k x)

rounded : (w k : ℕ) → w < 2 ^ 32 → w / 1024 * 1024 % 4294967296 / 2 ^ k * 2 ^ k % 4294967296 ≡ base_field w / 2 ^ k * 2 ^ k
rounded w k lt =
    let x : w / 1024 * 1024 % 4294967296 ≡ base_field w = mod-eq_of_lt (omega arith) in
    ap (λ (n : ℕ). n / 2 ^ k * 2 ^ k % 4294967296) x ∙ mod-eq_of_lt (omega (arith, shr_split (base_field w) k))

pub returns-in-10-to-31-clause-only : goal.returns-in-10-to-31-clause-only
returns-in-10-to-31-clause-only c f h =
    let w = c.args.word in
    let size : bit_and (w / 16) 63 ≡ size_field w = and_mask (w / 16) 6 in
    let low : bit_and w 7 ≡ w % 8 = and_mask w 3 in
    let fits : w < 2 ^ 32 = omega (arith, c.ranges.word.fits) in
    let rights : set_of_bits (bit_and w 7) ≡ set_of_bits w = set_of_low (bit_and w 7) w (omega arith) in
    ap Ok (reads_same w _ f (size, rounded w (bit_and (w / 16) 63) fits, c.of_bits-rights.ensures ∙ rights) h)
