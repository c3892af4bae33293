-- The control word of Unmap is read as its token says, and the word of an id as the id of the token.
use Rattle.std.proofs.Common.{◌≡◌, ℕ, ◌+◌, ◌-◌, ◌*◌, ◌/◌, ◌%◌, ◌<◌, ◌≤◌, ◌⊎◌, Bool, true, false, not, ◌&&◌, nat_lt, nat_le, nat_eq, cond, List, Option, Some, None, Result, Ok, Err, ok_or, inl, inr, sym, ap, ◌∙◌, refl, arith, codes}
use Rattle.std.proofs.lemmas.Bool.Decides.{nat_tests}
use Rattle.std.specs.Str.{bytes_eq}
use Rattle.l4_symbols.specs.Spelling.{◌>>=◌, control_in, fpage_count_of, id_in, is_flush_in, cut_at}
use Rattle.l4_symbols.specs.Words.{control_word, id_with, id_word, word_of_control}
use Rattle.l4_symbols.specs.declared.reasons.Reason.{Reason}
use Rattle.l4_symbols.specs.declared.reasons.Reason.TheVariants.{BadId, Control, FpageCount}
use Rattle.l4_text.specs.Numbers.{number_of}
use Rattle.l4_threads.specs.Control.{IsGlobalId, is_bad_id}
use Rattle.l4_threads.specs.Threads.{nilthread, anythread, number_of as thread_number_of, version_of}
use Rattle.l4_threads.specs.declared.ThreadId.{ThreadId}
use Rattle.l4_unmap.specs.Unmap.{fpage_count, with_own}

-- ---- control words

-- a count is from 1 to 64
count_bounds : (number : Option ℕ) (count : ℕ) → fpage_count_of number ≡ Ok count → (1 ≤ count) × (count ≤ 64)
count_bounds None count is = absurd (cc)
count_bounds (Some n) count is =
    elim (nat_lt 0 n && nat_le n 64) as (λ b. (nat_lt 0 n && nat_le n 64) ≡ b → cond b (Ok n) (Err FpageCount) ≡ Ok count → (1 ≤ count) × (count ≤ 64)) [
      | true ↦ λ e f. grind (arith, nat_tests)
      | false ↦ λ e f. absurd (cc)
    ] refl is

-- what a chain of two gives
behind : {A B : Type 0} (read : Result A Reason) (f : A → Result B Reason) (b : B) → read >>= f ≡ Ok b → (a : A) × (read ≡ Ok a) × (f a ≡ Ok b)
behind (Ok a) f b e = (a, refl, e)
behind (Err reason) f b e = absurd (cc)

abbrev after_flush : List ℕ → Bool → Result (Bool × ℕ) Reason
after_flush text flush = fpage_count_of (number_of text) >>= λ count. Ok (flush, count)

abbrev after_name : List ℕ × List ℕ → Result (Bool × ℕ) Reason
after_name named = is_flush_in named.0 >>= λ flush. after_flush named.1 flush

control_bounds : (token : List ℕ) (control : Bool × ℕ) → control_in token ≡ Ok control → (1 ≤ control.1) × (control.1 ≤ 64)
unfolding control_in
control_bounds token control is =
    let named = behind (ok_or (cut_at 58 token) Control) after_name control is in
    let flush = behind (is_flush_in named.0.0) (after_flush named.0.1) control named.2 in
    let count = behind (fpage_count_of (number_of named.0.1)) (λ count. Ok (flush.0, count)) control flush.2 in
    let bounds = count_bounds (number_of named.0.1) count.0 count.1 in
    let same : count.0 ≡ control.1 = cc in (omega (arith, bounds.0, same), omega (arith, bounds.1, same))

own_of : (flush : Bool) (count : ℕ) → 1 ≤ count → count ≤ 64 → with_own (word_of_control (flush, count)) ≡ flush
own_of true count low high =
    let e : (count - 1 + 64) / 64 % 2 ≡ 1 = omega (arith, low, high) in
    ap (λ n. nat_eq n 1) e
own_of false count low high =
    let e : (count - 1 + 0) / 64 % 2 ≡ 0 = omega (arith, low, high) in
    ap (λ n. nat_eq n 1) e

count_of : (flush : Bool) (count : ℕ) → 1 ≤ count → count ≤ 64 → fpage_count (word_of_control (flush, count)) ≡ count
count_of true count low high = omega (arith, low, high)
count_of false count low high = omega (arith, low, high)

pub control_kept : (token : List ℕ) (word : ℕ) → control_word token ≡ Ok word
    → (control : Bool × ℕ) × (control_in token ≡ Ok control) × (with_own word ≡ control.0) × (fpage_count word ≡ control.1)
unfolding control_word
control_kept token word is =
    let there = behind (control_in token) (λ c. Ok (word_of_control c)) word is in
    let bounds = control_bounds token there.0 there.1 in
    let same : word ≡ word_of_control there.0 = cc in (
      there.0,
      there.1,
      ap with_own same ∙ own_of there.0.0 there.0.1 bounds.0 bounds.1,
      ap fpage_count same ∙ count_of there.0.0 there.0.1 bounds.0 bounds.1,
    )

-- ---- ids

abbrev IsId : List ℕ → ℕ → Type 0
IsId token word =
    (word ≡ nilthread.0) ⊎ ((word ≡ anythread.0) ⊎ ((parts : ℕ × ℕ) × (id_in token ≡ Ok parts) × IsGlobalId parts.0 parts.1 (record { 0 = word })))

good_id : (parts : ℕ × ℕ) (word : ℕ) → id_with parts ≡ Ok word → IsGlobalId parts.0 parts.1 (record { 0 = word })
good_id parts word is =
    elim (nat_lt 0 parts.0 && nat_lt parts.0 262144 && nat_lt parts.1 16384 && not (nat_eq (parts.1 % 64) 0) && nat_lt (parts.0 * 16384 + parts.1) 0xffff_ffff)
    as (λ b. (nat_lt 0 parts.0 && nat_lt parts.0 262144 && nat_lt parts.1 16384 && not (nat_eq (parts.1 % 64) 0) && nat_lt (parts.0 * 16384 + parts.1) 0xffff_ffff) ≡ b
    → cond b (Ok (parts.0 * 16384 + parts.1)) (Err BadId) ≡ Ok word → IsGlobalId parts.0 parts.1 (record { 0 = word })) [
      | true ↦ λ e f.
          let same : word ≡ parts.0 * 16384 + parts.1 = cc in
          let low : 0 < parts.0 = grind (arith, nat_tests) in
          let number : parts.0 < 262144 = grind (arith, nat_tests) in
          let version : parts.1 < 16384 = grind (arith, nat_tests) in
          let mark : nat_eq (parts.1 % 64) 0 ≡ false = grind (arith, nat_tests) in
          let below : parts.0 * 16384 + parts.1 < 0xffff_ffff = grind (arith, nat_tests) in
          let has_number : word / 16384 ≡ parts.0 = omega (arith, same, version) in
          let has_version : word % 16384 ≡ parts.1 = omega (arith, same, version) in
          let local : word % 64 ≡ parts.1 % 64 = omega (arith, same) in
          let some : 1 ≤ word = omega (arith, same, low) in
          let fits : word < 0xffff_ffff = omega (arith, same, below) in
          let no_nil : nat_eq word 0 ≡ false = grind (arith, nat_tests) in
          let no_any : nat_eq word 0xffff_ffff ≡ false = grind (arith, nat_tests) in
          let no_zero : nat_eq (word / 16384) 0 ≡ false = grind (arith, nat_tests) in
          let no_local : nat_eq (word % 64) 0 ≡ false = ap (λ n. nat_eq n 0) local ∙ mark in
          record {
            has_number = has_number;
            has_version = has_version;
            one_word = omega (arith, same, below);
            good = rw (no_nil, no_any, no_zero, no_local) refl;
          }
      | false ↦ λ e f. absurd (cc)
    ] refl is

pub id_kept : (token : List ℕ) (word : ℕ) → id_word token ≡ Ok word → IsId token word
unfolding id_word
id_kept token word is =
    elim (bytes_eq token (codes "nil")) as (λ b. cond b (Ok 0) (cond (bytes_eq token (codes "any")) (Ok 0xffff_ffff) (id_in token >>= id_with)) ≡ Ok word → IsId token word) [
      | true ↦ λ e. inl cc
      | false ↦ λ e. elim (bytes_eq token (codes "any")) as (λ b. cond b (Ok 0xffff_ffff) (id_in token >>= id_with) ≡ Ok word → IsId token word) [
        | true ↦ λ f. inr (inl cc)
        | false ↦ λ f. let there = behind (id_in token) id_with word f in inr (inr (there.0, there.1, good_id there.0 word there.2))
      ] e
    ] is
