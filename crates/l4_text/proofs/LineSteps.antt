-- A line, read part by part.
use Rattle.std.proofs.Common.{◌≡◌, ℕ, ◌+◌, ◌-◌, ◌*◌, ◌==◌, ◌<◌, ◌≤◌, suc, Bool, true, false, not, cond, nat_lt, List, [], ◌∷◌, ◌++◌, length, take, drop, get_or, Option, Some, None, Result, Ok, length-append, length-drop, length-take, sym, ap, subst, ◌∙◌, refl, arith}
use Rattle.std.specs.List.{position_or_len}
use Rattle.std.specs.Io.KnownBytes.{Consumes}
use Rattle.std.proofs.lemmas.List.{append-nil, length-take-le, take-append-le, take_all, drop-drop, drop-take}
use Rattle.std.proofs.Math.Seq.{take-append-add}
use Rattle.std.proofs.lemmas.List.Sums.{split_at_first, passes_at_first}
use Rattle.std.proofs.lemmas.Bool.{false≢true}
use Rattle.std.proofs.lemmas.Bool.Decides.{nat_tests}
use mathlib.Core.List.{append_assoc}
use Rattle.l4_text.specs.Inside.Reading.{is_newline, behind, line_in_front, IsLineLen}
use Rattle.l4_text.specs.Lines.{NoNewline, kept_of, Takes, TakesLine, TakesRest, GivesLine, left_of}
use Rattle.l4_text.specs.declared.faults.RunFault.{RunFault}
use Rattle.l4_text.specs.declared.lines.Ending.{Ending}
use Rattle.l4_text.specs.declared.lines.Ending.TheVariants.{Whole, Long}

pub consumes_more : (a b c : Option (List ℕ)) (xs ys : List ℕ) → Consumes a b xs → Consumes b c ys → Consumes a c (xs ++ ys)
consumes_more None b c xs ys p q = tt
consumes_more (Some x) None c xs ys p q = absurd p
consumes_more (Some x) (Some y) None xs ys p q = absurd q
consumes_more (Some x) (Some y) (Some z) xs ys p q = p ∙ ap (λ t. xs ++ t) q ∙ sym (append_assoc xs ys z)

pub consumes_same : (a : Option (List ℕ)) → Consumes a a []
consumes_same None = tt
consumes_same (Some x) = refl

pub plain_append : (xs ys : List ℕ) → NoNewline xs → NoNewline ys → NoNewline (xs ++ ys)
plain_append [] ys p q = q
plain_append (x ∷ xs) ys p q = (p.0, plain_append xs ys p.1 q)

take_one : (n x : ℕ) (xs : List ℕ) → take (1 + n) (x ∷ xs) ≡ x ∷ take n xs
take_one n x xs = let e : 1 + n ≡ suc n = omega arith in ap (λ k. take k (x ∷ xs)) e

-- what stands before the first newline has none
pub plain_front : (xs : List ℕ) → NoNewline (take (position_or_len is_newline xs) xs)
plain_front [] = tt
plain_front (x ∷ xs) =
    elim (x == 10) as (λ v. (x == 10) ≡ v → NoNewline (take (cond (not v) (1 + position_or_len is_newline xs) 0) (x ∷ xs))) [
      | true ↦ λ _. tt
      | false ↦ λ f. subst (λ (t : List ℕ). NoNewline t) (sym (take_one (position_or_len is_newline xs) x xs)) (f, plain_front xs)
    ] refl

-- the first newline, and what stands before and after it
pub newline_at : (xs : List ℕ) (n : ℕ) → n ≡ position_or_len is_newline xs → n < length xs → xs ≡ take n xs ++ (10 ∷ drop (n + 1) xs)
newline_at xs n is lt =
    let k = position_or_len is_newline xs in
    let lt' : position_or_len is_newline xs < length xs = omega arith in
    let passes : (get_or xs (position_or_len is_newline xs) 0 == 10) ≡ true = passes_at_first is_newline xs 0 lt' in
    let ten : get_or xs (position_or_len is_newline xs) 0 ≡ 10 = grind (arith, nat_tests) in
    subst (λ (m : ℕ). xs ≡ take m xs ++ (10 ∷ drop (m + 1) xs)) (sym is)
    (split_at_first is_newline xs 0 lt' ∙ ap (λ b. take k xs ++ (b ∷ drop (k + 1) xs)) ten)

pub newline_inside : (xs ys : List ℕ) → NoNewline (xs ++ (10 ∷ ys)) → ⊥
newline_inside [] ys h = false≢true (sym h.0)
newline_inside (x ∷ xs) ys h = newline_inside xs ys h.1

-- a newline is there
pub some_newline : (xs : List ℕ) (n : ℕ) → n ≡ position_or_len is_newline xs → n < length xs → NoNewline xs → ⊥
some_newline xs n is lt h = newline_inside (take n xs) (drop (n + 1) xs) (subst (λ (t : List ℕ). NoNewline t) (newline_at xs n is lt) h)

-- none is there
pub no_newline : (xs : List ℕ) (n : ℕ) → n ≡ position_or_len is_newline xs → length xs ≤ n → NoNewline xs
no_newline xs n is le =
    subst (λ (t : List ℕ). NoNewline t) (take_all (position_or_len is_newline xs) xs (omega (arith, is))) (plain_front xs)

-- the part of a line that was taken so far
pub record SoFar (old new : Option (List ℕ)) (before now : List ℕ × ℕ) (kept : List ℕ × Bool) (turn : ℕ) : Type 0 where
  pub bytes : List ℕ
  pub plain : NoNewline bytes
  pub takes : Takes old new before.0 now.0 bytes
  pub kept_is : kept ≡ kept_of bytes
  pub turns : turn ≤ now.1
  pub few : now.1 ≤ 16777216
  pub no_more : left_of now ≤ left_of before

-- bytes at the end of what is kept, as many as there is room for
pub kept_more : (before bytes : List ℕ) (room : ℕ) → room + length (take 4096 before) ≡ 4096 → take 4096 before ++ take room bytes ≡ take 4096 (before ++ bytes)
kept_more before bytes room h =
    elim (nat_lt 4096 (length before)) as (λ v. nat_lt 4096 (length before) ≡ v → take 4096 before ++ take room bytes ≡ take 4096 (before ++ bytes)) [
      | true ↦ λ t.
          let lt : 4096 < length before = grind (arith, nat_tests) in
          let full : length (take 4096 before) ≡ 4096 = length-take-le 4096 before (omega arith) in
          let none : room ≡ 0 = omega arith in
          ap (λ n. take 4096 before ++ take n bytes) none ∙ append-nil (take 4096 before) ∙ sym (take-append-le 4096 before bytes (omega arith))
      | false ↦ λ f.
          let le : length before ≤ 4096 = grind (arith, nat_tests) in
          let all : take 4096 before ≡ before = take_all 4096 before le in
          let whole : 4096 ≡ length before + room = omega (arith, ap length all) in
          ap (λ t. t ++ take room bytes) all ∙ sym (take-append-add before bytes room) ∙ ap (λ n. take n (before ++ bytes)) (sym whole)
    ] refl

-- all of them fit
pub kept_all : (before bytes items : List ℕ) (long : Bool) (room : ℕ) → items ≡ take 4096 before → long ≡ nat_lt 4096 (length before) → room + length items ≡ 4096
    → length bytes ≤ room → (items ++ bytes, long) ≡ kept_of (before ++ bytes)
kept_all before bytes items long room is was h le =
    let space : room + length (take 4096 before) ≡ 4096 = omega (arith, ap length is) in
    let one : items ++ bytes ≡ take 4096 (before ++ bytes) = ap (λ t. items ++ t) (sym (take_all room bytes le)) ∙ ap (λ t. t ++ take room bytes) is ∙ kept_more before bytes room space in
    let same : nat_lt 4096 (length before) ≡ nat_lt 4096 (length (before ++ bytes)) =
    elim (nat_lt 4096 (length before)) as (λ v. nat_lt 4096 (length before) ≡ v → v ≡ nat_lt 4096 (length (before ++ bytes))) [
      | true ↦ λ t. let lt : 4096 < length before = grind (arith, nat_tests) in let l = length-append before bytes in
          let lt' : 4096 < length (before ++ bytes) = omega arith in (let e : true ≡ nat_lt 4096 (length (before ++ bytes)) = grind (arith, nat_tests) in e)
      | false ↦ λ f. let ge : length before ≤ 4096 = grind (arith, nat_tests) in let l = length-append before bytes in
          let all : take 4096 before ≡ before = take_all 4096 before ge in
          let ge' : length (before ++ bytes) ≤ 4096 = omega (arith, ap length all) in (let e : false ≡ nat_lt 4096 (length (before ++ bytes)) = grind (arith, nat_tests) in e)
    ] refl in
    λ i. (one i, (was ∙ same) i)

-- not all of them fit
pub kept_part : (before bytes items : List ℕ) (room : ℕ) → items ≡ take 4096 before → room + length items ≡ 4096
    → room < length bytes → (items ++ take room bytes, true) ≡ kept_of (before ++ bytes)
kept_part before bytes items room is h lt =
    let space : room + length (take 4096 before) ≡ 4096 = omega (arith, ap length is) in
    let one : items ++ take room bytes ≡ take 4096 (before ++ bytes) = ap (λ t. t ++ take room bytes) is ∙ kept_more before bytes room space in
    let most : length (take 4096 before) ≤ length before = omega (arith, length-take 4096 before) in
    let l = length-append before bytes in
    let lt' : 4096 < length (before ++ bytes) = omega arith in
    let e : true ≡ nat_lt 4096 (length (before ++ bytes)) = grind (arith, nat_tests) in
    λ i. (one i, e i)

-- taking from the front of a range
pub range_less : (xs : List ℕ) (start end count : ℕ) → count ≤ length (take (end - start) (drop start xs)) → take (end - (start + count)) (drop (start + count) xs) ≡ drop count (take (end - start) (drop start xs))
range_less xs start end count le =
    let most : length (take (end - start) (drop start xs)) ≤ end - start = omega (arith, length-take (end - start) (drop start xs)) in
    let parts : end - start ≡ count + (end - (start + count)) = omega arith in
    ap (λ t. take (end - (start + count)) t) (sym (drop-drop count start xs))
    ∙ sym (drop-take count (end - (start + count)) (drop start xs))
    ∙ ap (λ n. drop count (take n (drop start xs))) (sym parts)

pub empty_list : (xs : List ℕ) → length xs ≡ 0 → xs ≡ []
empty_list [] h = refl
empty_list (x ∷ xs) h = absurd (omega arith)

-- the newline is among what is there
pub takes_line : (old new : Option (List ℕ)) (before now after : List ℕ × ℕ) (kept kept' : List ℕ × Bool) (turn count : ℕ) (there : List ℕ) → (s : SoFar old new before now kept turn)
    → there ≡ now.0 → count ≡ position_or_len is_newline there → count < length there → kept' ≡ kept_of (s.bytes ++ take count there) → after ≡ (drop (count + 1) now.0, now.1)
    → TakesLine old new before after kept'
takes_line old new before now after kept kept' turn count there s is place lt is' left =
    let cut : now.0 ≡ take count there ++ (10 ∷ drop (count + 1) there) = sym is ∙ newline_at there count place lt in
    let rest : after.0 ≡ drop (count + 1) there = ap (λ a. a.0) left ∙ ap (λ t. drop (count + 1) t) (sym is) in
    let reads : after.1 ≡ now.1 = ap (λ a. a.1) left in
    let long : length there ≡ length now.0 = ap length is in
    let less : length after.0 ≡ length there - (count + 1) = ap length rest ∙ length-drop (count + 1) there in
    record {
      bytes = s.bytes ++ take count there;
      plain = plain_append s.bytes (take count there) s.plain (subst (λ (n : ℕ). NoNewline (take n there)) (sym place) (plain_front there));
      takes = record {
        read = s.takes.read;
        from = s.takes.from;
        same = s.takes.same ∙ ap (λ t. s.bytes ++ t) cut ∙ ap (λ t. s.bytes ++ (take count there ++ (10 ∷ t))) (sym rest)
            ∙ sym (append_assoc s.bytes (take count there) (10 ∷ after.0)) ∙ sym (append_assoc (s.bytes ++ take count there) (10 ∷ []) after.0);
      };
      kept_is = is';
      shorter = omega (arith, s.no_more, reads, less, lt, long, ap (λ (n : ℕ). (16777216 - n) * 4097) reads);
      few = omega (arith, s.few, reads);
    }

-- all that is there is a part of the line
pub takes_all : (old new : Option (List ℕ)) (before now after : List ℕ × ℕ) (kept kept' : List ℕ × Bool) (turn count : ℕ) (there : List ℕ) → (s : SoFar old new before now kept turn)
    → there ≡ now.0 → count ≡ position_or_len is_newline there → count ≤ length there → length there ≤ count → kept' ≡ kept_of (s.bytes ++ take count there)
    → after ≡ (drop count now.0, now.1)
    → SoFar old new before after kept' turn × (after.0 ≡ [])
takes_all old new before now after kept kept' turn count there s is place le not is' left =
    let end : count ≡ length there = omega arith in
    let all : take count there ≡ there = take_all count there (omega arith) in
    let long : length there ≡ length now.0 = ap length is in
    let gone : after.0 ≡ [] = ap (λ a. a.0) left ∙ empty_list (drop count now.0) (length-drop count now.0 ∙ omega arith) in
    let reads : after.1 ≡ now.1 = ap (λ a. a.1) left in (
      record {
        bytes = s.bytes ++ take count there;
        plain = plain_append s.bytes (take count there) s.plain (subst (λ (n : ℕ). NoNewline (take n there)) (sym place) (plain_front there));
        takes = record {
          read = s.takes.read;
          from = s.takes.from;
          same = s.takes.same ∙ ap (λ t. s.bytes ++ t) (sym is ∙ sym all) ∙ sym (append-nil (s.bytes ++ take count there)) ∙ ap (λ t. (s.bytes ++ take count there) ++ t) (sym gone);
        };
        kept_is = is';
        turns = omega (arith, s.turns, reads);
        few = omega (arith, s.few, reads);
        no_more = omega (arith, s.no_more, ap length gone, ap (λ (n : ℕ). (16777216 - n) * 4097) reads);
      },
      gone,
    )

-- the reader fails, or has no more
pub takes_rest : (old new newer : Option (List ℕ)) (before now after : List ℕ × ℕ) (kept : List ℕ × Bool) (turn : ℕ) → SoFar old new before now kept turn → now.0 ≡ []
    → Consumes new newer [] → after.0 ≡ [] → TakesRest old newer before after kept
takes_rest old new newer before now after kept turn s none from gone = record {
  bytes = s.bytes;
  plain = s.plain;
  takes = record {
    read = s.takes.read ++ [];
    from = consumes_more old new newer s.takes.read [] s.takes.from from;
    same = ap (λ t. before.0 ++ t) (append-nil s.takes.read) ∙ s.takes.same ∙ ap (λ t. s.bytes ++ t) (none ∙ sym gone);
  };
  kept_is = s.kept_is;
  empty = gone;
}

-- the reader gives more
pub so_far_more : (old new newer : Option (List ℕ)) (before now after : List ℕ × ℕ) (kept : List ℕ × Bool) (turn : ℕ) → SoFar old new before now kept turn → now.0 ≡ []
    → Consumes new newer after.0 → length after.0 ≤ 4096 → after.1 ≡ now.1 + 1 → after.1 ≤ 16777216 → SoFar old newer before after kept (turn + 1)
so_far_more old new newer before now after kept turn s none from short one few = record {
  bytes = s.bytes;
  plain = s.plain;
  takes = record {
    read = s.takes.read ++ after.0;
    from = consumes_more old new newer s.takes.read after.0 s.takes.from from;
    same = sym (append_assoc before.0 s.takes.read after.0) ∙ ap (λ t. t ++ after.0) (s.takes.same ∙ ap (λ t. s.bytes ++ t) none ∙ append-nil s.bytes);
  };
  kept_is = s.kept_is;
  turns = omega (arith, s.turns, one);
  few = few;
  no_more = omega (arith, s.no_more, one, few, short, ap length none);
}

-- how the line ended
pub gives_line : (old new : Option (List ℕ)) (before after : List ℕ × ℕ) (kept : List ℕ × Bool) (ending : Ending) → TakesLine old new before after kept
    → ending ≡ cond kept.1 Long Whole → GivesLine old new before after kept (Ok (Some ending))
gives_line old new before after kept ending takes is =
    elim kept.1 as (λ v. kept.1 ≡ v → GivesLine old new before after kept (Ok (Some ending))) [
      | true ↦ λ t. subst (λ (e : Ending). GivesLine old new before after kept (Ok (Some e))) (sym (is ∙ ap (λ b. cond b Long Whole) t)) (takes, t)
      | false ↦ λ f. subst (λ (e : Ending). GivesLine old new before after kept (Ok (Some e))) (sym (is ∙ ap (λ b. cond b Long Whole) f)) (takes, f)
    ] refl

-- a line that stands whole among what was read
pub lent_line : (a : Option (List ℕ)) (before now : List ℕ × ℕ) (len : ℕ) (kept : List ℕ × Bool) → now ≡ before → IsLineLen now len
    → TakesLine a a before (behind (len + 1) now) (line_in_front (len + 1) now kept) × ((line_in_front (len + 1) now kept).1 ≡ false)
lent_line a before now len kept same l =
    let some : ((len + 1) == 0) ≡ false = grind (arith, nat_tests) in
    let len_is : (len + 1) - 1 ≡ len = omega arith in
    let is : line_in_front (len + 1) now kept ≡ (take len now.0, false) = ap (λ b. cond b kept (take ((len + 1) - 1) now.0, false)) some ∙ ap (λ n. (take n now.0, false)) len_is in
    let fits : length (take len now.0) ≤ 4096 = omega (arith, l.within, l.short, length-take len now.0) in
    let none : SoFar a a now now (kept_of []) 0 = record {
      bytes = [];
      plain = tt;
      takes = record { read = []; from = consumes_same a; same = append-nil now.0 };
      kept_is = refl;
      turns = omega arith;
      few = l.few;
      no_more = omega arith;
    } in
    let takes : TakesLine a a now (behind (len + 1) now) (line_in_front (len + 1) now kept) =
    takes_line a a now now (behind (len + 1) now) (kept_of []) (line_in_front (len + 1) now kept) 0 len now.0 none refl l.place l.within (is ∙ kept_all [] (take len now.0) [] false 4096 refl refl refl fits) refl in
    (subst (λ (s : List ℕ × ℕ). TakesLine a a s (behind (len + 1) now) (line_in_front (len + 1) now kept)) same takes, ap (λ k. k.1) is)

-- the same, of what was there before
pub gives_after : (a b : Option (List ℕ)) (before now after : List ℕ × ℕ) (kept : List ℕ × Bool) (r : Result (Option Ending) RunFault) → now ≡ before → GivesLine a b now after kept r → GivesLine a b before after kept r
gives_after a b before now after kept r same gives = subst (λ (s : List ℕ × ℕ). GivesLine a b s after kept r) same gives
