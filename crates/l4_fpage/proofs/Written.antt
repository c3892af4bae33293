-- What the word of an fpage is read as.
use Rattle.std.proofs.Common.{◌≡◌, ℕ, ◌+◌, ◌*◌, ◌/◌, ◌%◌, ◌^◌, ◌<◌, arith, sym, ap, inl}
use Rattle.std.proofs.lemmas.Nat.{shr_split}
use Rattle.l4_fpage.specs.Rights.{RightsSet, bits_of}
use Rattle.l4_fpage.specs.Fpages.{size_field, base_field, rights_field, ReadsAs, fpage_word}
use Rattle.l4_fpage.specs.declared.fpages.Fpage.{Fpage}
use Rattle.l4_fpage.specs.declared.fpages.Fpage.TheVariants.{Nil, Complete, Sized}
use Rattle.l4_fpage.proofs.Eight.{bits_below, set_of_sum}
use Rattle.l4_fpage.proofs.Powers.{aligned_down}

-- the fields of a word
fields : (base log : ℕ) (rights : RightsSet) → base % 1024 ≡ 0 → log < 64 → (size_field (base + log * 16 + bits_of rights) ≡ log) × (base_field (base + log * 16 + bits_of rights) ≡ base) × (rights_field (base + log * 16 + bits_of rights) ≡ rights)
fields base log rights h l =
    let low : bits_of rights < 8 = bits_below rights in
    let above : (base + log * 16) % 8 ≡ 0 = omega arith in
    (omega arith, omega arith, set_of_sum (base + log * 16) rights above)

pub word_reads : (f : Fpage) → ReadsAs (fpage_word f) f
word_reads Nil = omega arith
word_reads (Complete r) = let f = fields 0 1 r (omega arith) (omega arith) in (inl (f.0, f.1), sym f.2)
word_reads (Sized e) =
    let f = fields e.base e.log e.rights (aligned_down 10 e.log e.base e.large e.aligned) (omega (arith, e.small)) in
    (sym f.0, omega (arith, shr_split e.base e.log, e.aligned, ap (λ (b : ℕ). b / 2 ^ e.log * 2 ^ e.log) f.1), sym f.2)
