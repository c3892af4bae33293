-- The book of a number is found, and a call that ended is noted there alone.
use Rattle.std.proofs.Common.{◌≡◌, ◌≢◌, ℕ, suc, zero, ◌+◌, ◌<◌, ◌≤◌, ◌||◌, nat_eq, true, false, if◌then◌else◌, List, [], ◌∷◌, length, map, drop, get_or, slice_get, slice_set, Option, Some, None, refl, sym, ap, ◌∙◌, subst, inl, inr, arith}
use Rattle.std.specs.Option.{option_map, option_map_or}
use Rattle.std.proofs.lemmas.Bool.{false≢true}
use Rattle.std.proofs.lemmas.Bool.Decides.{eqb_tells}
use Rattle.std.proofs.lemmas.Option.{get_or_from_slice_get}
use Rattle.std.proofs.lemmas.List.{drop_more}
use Rattle.l4_ipc.specs.declared.calls.Call.{Call}
use Rattle.l4_ipc.specs.Machine.{Machine}
use Rattle.l4_lock.specs.declared.entries.Ended.{Ended}
use Rattle.l4_lock.specs.declared.entries.Pending.{Pending}
use Rattle.l4_lock.specs.Books.{Book, book_at, is_among, numbers, IsOnce, plain}
use Rattle.l4_lock.specs.Inside.Noting.{noted, noted_call, reply_in}
use Rattle.l4_lock.proofs.Books.{all_noted}
use Rattle.l4_lock.proofs.Right.{pend, number_among, numbers_noted, numbers_set}
use Rattle.l4_lock.proofs.Started.{get_there, own_at, at_number, none_among, same_book}

-- where a book of the number stands is the number's place
pub at_guess : (xs : List Book) (n i : ℕ) (d : Book) → IsOnce (numbers xs) → i < length xs → (get_or xs i d).number ≡ n → book_at xs n ≡ slice_get xs i
at_guess xs n i d once lt is =
    let there = get_there xs i lt in
    let here : get_or xs i d ≡ there.0 = get_or_from_slice_get xs i there.0 d there.1 in
    subst (λ (k : ℕ). book_at xs k ≡ slice_get xs i) (ap (λ (b : Book). b.number) (sym here) ∙ is) (own_at xs i there.0 there.1 once ∙ sym there.1)

-- the numbers are those of the books without what is known of the ends of their calls
numbers_plain : (xs : List Book) → numbers (map plain xs) ≡ numbers xs
numbers_plain [] = refl
numbers_plain (x ∷ xs) = ap (λ (l : List ℕ). x.number ∷ l) (numbers_plain xs)

pub once_same : (xs ys : List Book) → map plain ys ≡ map plain xs → IsOnce (numbers xs) → IsOnce (numbers ys)
once_same xs ys same once = subst IsOnce (sym (sym (numbers_plain ys) ∙ ap numbers same ∙ numbers_plain xs)) once

module _ (m : Machine) (place : ℕ) where
  -- a book of another number is not noted
  noted_other : (n : ℕ) (b : Book) → b.number ≢ n → noted m (n ∷ []) place b ≡ b
  noted_other n b ne = ap (λ (o : Option Pending). record b { pending = o }) (same b.pending) where
    among : is_among b.number (n ∷ []) ≡ false
    among = elim (eqb_tells n b.number) [ inl is ↦ absurd (ne (sym is.1)) | inr other ↦ ap (λ t. t || false) other.0 ]

    unchanged : (p : Pending) (o : Option Ended) → option_map_or (λ _. p) o (if is_among b.number (n ∷ []) then record p { ended = Some (record { entry = place; reply = reply_in m b.number }) } else p) ≡ p
    unchanged p None = ap (λ t. if t then record p { ended = Some (record { entry = place; reply = reply_in m b.number }) } else p) among
    unchanged p (Some e) = refl

    same : (o : Option Pending) → option_map (noted_call m (n ∷ []) place b.number) o ≡ o
    same None = refl
    same (Some p) = ap (λ (q : Pending). Some q) (unchanged p p.ended)

  others_noted : (n : ℕ) (xs : List Book) → is_among n (numbers xs) ≡ false → map (noted m (n ∷ []) place) xs ≡ xs
  others_noted n [] none = refl
  others_noted n (x ∷ xs) none =
      elim (eqb_tells x.number n) [
        | inl is ↦ absurd (false≢true (sym none ∙ ap (λ t. t || is_among n (numbers xs)) is.0))
        | inr ne ↦ (λ i. noted_other n x ne.1 i ∷ others_noted n xs (sym (ap (λ t. t || is_among n (numbers xs)) ne.0) ∙ none) i)
      ]

  -- the book of the number alone is noted
  one_noted : (n : ℕ) (xs : List Book) (i : ℕ) (b y : Book) → IsOnce (numbers xs) → slice_get xs i ≡ Some b → b.number ≡ n → y ≡ noted m (n ∷ []) place b
      → slice_set xs i y ≡ map (noted m (n ∷ []) place) xs
  one_noted n [] i b y once at is noted_is = absurd (let k : ◌≡◌ {A = Option Book} None (Some b) = at in cc)
  one_noted n (x ∷ xs) zero b y once at is noted_is =
      let e : x ≡ b = same_book x b at in
      let rest : is_among n (numbers xs) ≡ false = ap (λ k. is_among k (numbers xs)) (sym (ap (λ (z : Book). z.number) e ∙ is)) ∙ once.0 in
      (λ j. (noted_is ∙ ap (noted m (n ∷ []) place) (sym e)) j ∷ sym (others_noted n xs rest) j)
  one_noted n (x ∷ xs) (suc i) b y once at is noted_is =
      let differs : x.number ≢ n = λ same. false≢true (sym once.0 ∙ ap (λ k. is_among k (numbers xs)) (same ∙ sym is) ∙ number_among xs i b at) in
      (λ j. sym (noted_other n x differs) j ∷ one_noted n xs i b y once.1 at is noted_is j)

  -- notes of several calls, one after another
  noted_two : (n : ℕ) (ns : List ℕ) (k : ℕ) (call : Call) (start : ℕ) (e : Option Ended) → noted_call m (n ∷ ns) place k (pend call start e) ≡ noted_call m ns place k (noted_call m (n ∷ []) place k (pend call start e))
  noted_two n ns k call start (Some e) = refl
  noted_two n ns k call start None =
      let ended : Pending = pend call start (Some (record { entry = place; reply = reply_in m k })) in
      elim (nat_eq n k) as (λ b. (if b || is_among k ns then ended else pend call start None) ≡ noted_call m ns place k (if b || false then ended else pend call start None)) [ true ↦ refl | false ↦ refl ]

  noted_next : (n : ℕ) (ns : List ℕ) (b : Book) → noted m (n ∷ ns) place b ≡ noted m ns place (noted m (n ∷ []) place b)
  noted_next n ns b = ap (λ (o : Option Pending). record b { pending = o }) (same b.pending) where
    same : (o : Option Pending) → option_map (noted_call m (n ∷ ns) place b.number) o ≡ option_map (noted_call m ns place b.number) (option_map (noted_call m (n ∷ []) place b.number) o)
    same None = refl
    same (Some p) = ap (λ (q : Pending). Some q) (noted_two n ns b.number p.call p.start p.ended)

  pub all_next : (n : ℕ) (ns : List ℕ) (xs : List Book) → map (noted m (n ∷ ns) place) xs ≡ map (noted m ns place) (map (noted m (n ∷ []) place) xs)
  all_next n ns [] = refl
  all_next n ns (x ∷ xs) = (λ i. noted_next n ns x i ∷ all_next n ns xs i)

  pub note_at : (n : ℕ) (xs ys : List Book) (i : ℕ) → IsOnce (numbers xs) → i < length xs → book_at xs n ≡ slice_get xs i
      → ((b : Book) → slice_get xs i ≡ Some b → ys ≡ slice_set xs i (noted m (b.number ∷ []) place b)) → ys ≡ map (noted m (n ∷ []) place) xs
  note_at n xs ys i once lt at is =
      let there = get_there xs i lt in
      let number : there.0.number ≡ n = at_number xs n there.0 (at ∙ there.1) in
      is there.0 there.1 ∙ one_noted n xs i there.0 (noted m (there.0.number ∷ []) place there.0) once there.1 number (ap (λ k. noted m (k ∷ []) place there.0) number)

  pub not_noted : (n : ℕ) (xs : List Book) → book_at xs n ≡ None → xs ≡ map (noted m (n ∷ []) place) xs
  not_noted n xs none = sym (others_noted n xs (none_among xs n none))

  -- notes up to one more call
  pub note_more : (ended : List ℕ) (i : ℕ) (first xs ys : List Book) → i < length ended → ys ≡ map (noted m (get_or ended i 0 ∷ []) place) xs
      → map (noted m (drop i ended) place) xs ≡ map (noted m ended place) first → map (noted m (drop (i + 1) ended) place) ys ≡ map (noted m ended place) first
  note_more ended i first xs ys lt is so_far =
      let n : ℕ = get_or ended i 0 in
      let rest : List ℕ = drop (i + 1) ended in
      let split : drop i ended ≡ n ∷ rest = drop_more ended i 0 lt in
      ap (map (noted m rest place)) is ∙ sym (all_next n rest xs) ∙ ap (λ (ns : List ℕ). map (noted m ns place) xs) (sym split) ∙ so_far

  -- up to the last
  pub note_end : (ended : List ℕ) (i : ℕ) (first xs : List Book) → length ended ≤ i → map (noted m (drop i ended) place) xs ≡ map (noted m ended place) first → xs ≡ map (noted m ended place) first
  note_end ended i first xs beyond is =
      all_noted m (drop i ended) place xs (none ended i beyond) ∙ is where
        none : (ns : List ℕ) (k : ℕ) → length ns ≤ k → true ≡ nat_eq (length (drop k ns)) 0
        none [] zero le = refl
        none [] (suc k) le = refl
        none (n ∷ ns) zero le = absurd (omega (arith, le))
        none (n ∷ ns) (suc k) le = none ns k (omega (arith, le))

  pub once_noted : (ended : List ℕ) (xs ys : List Book) → ys ≡ map (noted m ended place) xs → IsOnce (numbers xs) → IsOnce (numbers ys)
  once_noted ended xs ys is once = subst IsOnce (sym (ap numbers is ∙ numbers_noted m ended place xs)) once

-- a book that begins a call keeps its number
pub once_opened : (xs ys : List Book) (i : ℕ) (b : Book) (p : Option Pending) → slice_get xs i ≡ Some b → ys ≡ slice_set xs i (record b { pending = p }) → IsOnce (numbers xs) → IsOnce (numbers ys)
once_opened xs ys i b p at is once = subst IsOnce (sym (ap numbers is ∙ numbers_set xs i b (record b { pending = p }) at refl)) once
