use Rattle.std.proofs.Common.{◌≡◌, ◌+◌, ◌*◌, ◌%◌, ◌^◌, ◌<◌, ◌≤◌, arith, rules, ℕ, subst, sym}
use Rattle.l4_fpage.specs.Fpages.{ReadsAs, IsMalformed, fpage_word}
use Rattle.l4_fpage.specs.declared.fpages.Fpage.{Fpage}
use Rattle.l4_fpage.specs.declared.fpages.Fpage.TheVariants.{Complete, Sized}
use Rattle.l4_fpage.proofs.Eight.{bits_below}
use Rattle.l4_fpage.proofs.Powers.{aligned_down, aligned_step, pow_aligned}
use Rattle.l4_fpage.proofs.Same.{reads_same, malformed_reads_none}
use Rattle.l4_fpage.proofs.Written.{word_reads}
use Rattle.l4_fpage.proofs.fpages.Fpage.word.Goals as goal

-- a multiple of 2 ^ log below 2 ^ 32 leaves room for the size and the rights
room : (base log : ℕ) → base < 2 ^ 32 → 10 ≤ log → base % 2 ^ log ≡ 0 → base + 1024 ≤ 2 ^ 32
room base log lt le h = aligned_step 10 base (2 ^ 32) (aligned_down 10 log base le h) (pow_aligned 10 32 (omega arith)) lt

pub overflow_add-result-in-Sized : goal.overflow_add-result-in-Sized
overflow_add-result-in-Sized c =
    let e = c.in-Sized.extent in
    let lt : e.base < 2 ^ 32 = search rules in
    omega (arith, room e.base e.log lt e.large e.aligned, e.small, c.from-in-Sized.ensures)

pub overflow_add-result-in-Sized-2 : goal.overflow_add-result-in-Sized-2
overflow_add-result-in-Sized-2 c =
    let e = c.in-Sized.extent in
    let lt : e.base < 2 ^ 32 = search rules in
    omega (arith, room e.base e.log lt e.large e.aligned, e.small, c.from-in-Sized.ensures, bits_below e.rights, c.bits-in-Sized.ensures, c.from-in-Sized-2.ensures)

-- all that the word of an fpage keeps
record IsWordOf (n : ℕ) (f : Fpage) : Type 0 where
  value : n ≡ fpage_word f
  reads : ReadsAs n f
  well_formed : ¬ IsMalformed n
  only : (other : Fpage) → ReadsAs n other → other ≡ f

word_of : (n : ℕ) (f : Fpage) → n ≡ fpage_word f → IsWordOf n f
word_of n f e =
    let r : ReadsAs n f = subst (λ (k : ℕ). ReadsAs k f) (sym e) (word_reads f) in
    record { value = e; reads = r; well_formed = λ m. malformed_reads_none n f m r; only = λ other h. reads_same n other f h r }

pub returns-in-Sized : goal.returns-in-Sized
returns-in-Sized c =
    let x = c.in-Sized.extent in
    let w = word_of (x.base + c.from-in-Sized.result * 16 + c.from-in-Sized-2.result) (Sized x) (omega (arith, c.from-in-Sized.ensures, c.from-in-Sized-2.ensures, c.bits-in-Sized.ensures)) in
    rw c.in-Sized.is (record { value = w.value; reads = w.reads; well_formed = w.well_formed; only = w.only })

pub returns-in-Complete : goal.returns-in-Complete
returns-in-Complete c =
    let w = word_of (16 + c.from.result) (Complete c.in-Complete.rights) (omega (arith, c.from.ensures, c.bits.ensures)) in
    rw c.in-Complete.is (record { value = w.value; reads = w.reads; well_formed = w.well_formed; only = w.only })
