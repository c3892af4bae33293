-- The numbers of the table, listed once more on their own: where one stands, and what becomes of the list.
use Rattle.std.proofs.Common.{◌≡◌, ◌≢◌, Bool, ℕ, zero, suc, ◌+◌, ◌<◌, ◌≤◌, ◌==◌, ◌||◌, true, false, cond, not, refl, List, [], ◌∷◌, ◌++◌, map, length, Option, Some, None, sym, ap, ◌∙◌, subst, slice_get, arith, inl, inr, eq-eqb}
use Rattle.std.proofs.lemmas.Bool.{false≢true}
use Rattle.std.proofs.lemmas.Option.{slice_get_within, get_or_from_slice_get}
use Rattle.std.specs.Option.{option_map, option_map_or}
use Rattle.std.proofs.lemmas.List.{length-append, length-map}
use Rattle.std.specs.List.{remove, slice_set, slice_index_or}
use Rattle.l4_threads.specs.declared.Thread.{Thread}
use Rattle.l4_threads.specs.Inside.Entries.{Entries, found, changed_in, IsAt, sends_in}
use Rattle.l4_threads.specs.Threads.{is_sending}
use Rattle.l4_threads.specs.Inside.Numbers.{hint_count, IsFirst, IsNowhere, IsRoster}
use Rattle.l4_threads.specs.Queue.{is_in, IsOnce}
use Rattle.l4_threads.specs.Sizes.{max_threads}
use Rattle.l4_threads.proofs.TableLemmas.{same_or, differ, found_none, found_first, numbers-changed_in, written_change}
use Rattle.l4_threads.proofs.QueueLemmas.{or_left, or_right, once-push, left_by, left_by_none}
use Rattle.l4_threads.proofs.BootLemmas.{numbers-push, absent_found}

-- none of the numbers before a place is this one
abbrev pub NoneBefore : List ℕ → ℕ → ℕ → Type 0
NoneBefore numbers n i = (k m : ℕ) → k < i → slice_get numbers k ≡ Some m → m ≢ n

-- where another number stands, and none before it is the number, none is up to it
pub none_further : (numbers : List ℕ) (i n x : ℕ) → slice_get numbers i ≡ Some x → x ≢ n → NoneBefore numbers n i → NoneBefore numbers n (i + 1)
none_further numbers i n x there ne before k m lt at =
    elim (same_or k i) [
      | inl is ↦
          let both : ◌≡◌ {A = Option ℕ} (Some m) (Some x) = sym at ∙ ap (slice_get numbers) is ∙ there in
          let v : m ≡ x = cc in
          λ h. ne (sym v ∙ h)
      | inr other ↦ before k m (omega arith) at
    ]

-- where none before is the number, this one is the first
pub first_here : (numbers : List ℕ) (i n x : ℕ) → slice_get numbers i ≡ Some x → x ≡ n → NoneBefore numbers n i → IsFirst numbers n i
first_here numbers i n x there is before = record { there = there ∙ ap (λ (m : ℕ). Some m) is; first = before }

pub nowhere : (numbers : List ℕ) (i n : ℕ) → length numbers ≤ i → NoneBefore numbers n i → IsNowhere numbers n
nowhere numbers i n all before k m at = let within = slice_get_within numbers k m at in before k m (omega arith) at

-- the number of an entry, and the entry of a number
number_at : (es : Entries) (i : ℕ) (e : ℕ × Thread) → slice_get es i ≡ Some e → slice_get (map (λ e. e.0) es) i ≡ Some e.0
number_at [] i e at = absurd (let k : ◌≡◌ {A = Option (ℕ × Thread)} None (Some e) = at in cc)
number_at (x ∷ es) zero e at =
    let k : ◌≡◌ {A = Option (ℕ × Thread)} (Some x) (Some e) = at in
    let v : x ≡ e = cc in
    ap (λ (y : ℕ × Thread). Some y.0) v
number_at (x ∷ es) (suc i) e at = number_at es i e at

entry_at : (es : Entries) (i n : ℕ) → slice_get (map (λ e. e.0) es) i ≡ Some n → (t : Thread) × (slice_get es i ≡ Some (n, t))
entry_at [] i n at = absurd (let k : ◌≡◌ {A = Option ℕ} None (Some n) = at in cc)
entry_at (x ∷ es) zero n at =
    let k : ◌≡◌ {A = Option ℕ} (Some x.0) (Some n) = at in
    let v : x.0 ≡ n = cc in
    (x.1, λ i. Some (v i, x.1))
entry_at (x ∷ es) (suc i) n at = entry_at es i n at

-- where the number first stands among the numbers of the table, its first entry stands in the table
pub is_at : (es : Entries) (numbers : List ℕ) (n at : ℕ) → numbers ≡ map (λ e. e.0) es → IsFirst numbers n at → IsAt es n at
is_at es numbers n at same first =
    let entry = entry_at es at n (ap (λ (l : List ℕ). slice_get l at) (sym same) ∙ first.there) in
    record {
      thread = entry.0;
      there = entry.1;
      first = λ i e lt there. first.first i e.0 lt (ap (λ (l : List ℕ). slice_get l i) same ∙ number_at es i e there);
    }

pub not_found : (es : Entries) (numbers : List ℕ) (n : ℕ) → numbers ≡ map (λ e. e.0) es → IsNowhere numbers n → found es n ≡ None
not_found es numbers n same none = found_none es n (λ i e there. none i e.0 (ap (λ (l : List ℕ). slice_get l i) same ∙ number_at es i e there))

-- a number that stands at a place is in the list, and where each number stands once, none before it is the same
number_in : (numbers : List ℕ) (i n : ℕ) → slice_get numbers i ≡ Some n → is_in numbers n ≡ true
number_in [] i n at = absurd (let k : ◌≡◌ {A = Option ℕ} None (Some n) = at in cc)
number_in (x ∷ xs) zero n at = let k : ◌≡◌ {A = Option ℕ} (Some x) (Some n) = at in let v : x ≡ n = cc in or_left _ _ (eq-eqb n x (sym v))
number_in (x ∷ xs) (suc i) n at = or_right (n == x) _ (number_in xs i n at)

none_before : (numbers : List ℕ) → IsOnce numbers → (n at : ℕ) → slice_get numbers at ≡ Some n → NoneBefore numbers n at
none_before [] once n at there i m lt here = absurd (let k : ◌≡◌ {A = Option ℕ} None (Some n) = there in cc)
none_before (x ∷ xs) once n zero there i m lt here = absurd (omega arith)
none_before (x ∷ xs) once n (suc at) there zero m lt here = λ is.
    let k : ◌≡◌ {A = Option ℕ} (Some x) (Some m) = here in
    let v : x ≡ m = cc in
    false≢true (sym once.0 ∙ ap (is_in xs) (v ∙ is) ∙ number_in xs at n there)
none_before (x ∷ xs) once n (suc at) there (suc i) m lt here = none_before xs once.1 n at there i m (omega arith) here

pub once_at : (es : Entries) (numbers : List ℕ) (n at : ℕ) → numbers ≡ map (λ e. e.0) es → IsOnce numbers → slice_get numbers at ≡ Some n → IsAt es n at
once_at es numbers n at same once there = is_at es numbers n at same (record { there = there; first = none_before numbers once n at there })

-- what stands once and is taken from its place is nowhere
pub removed_at : (xs : List ℕ) → IsOnce xs → (n at : ℕ) → slice_get xs at ≡ Some n → remove xs at ≡ left_by n xs
removed_at [] once n at there = absurd (let k : ◌≡◌ {A = Option ℕ} None (Some n) = there in cc)
removed_at (x ∷ xs) once n zero there =
    let k : ◌≡◌ {A = Option ℕ} (Some x) (Some n) = there in
    let v : x ≡ n = cc in
    sym (ap (λ b. cond (not b) (x ∷ left_by n xs) (left_by n xs)) (eq-eqb x n v) ∙ left_by_none n xs (ap (is_in xs) (sym v) ∙ once.0))
removed_at (x ∷ xs) once n (suc at) there =
    let other : x ≢ n = λ is. false≢true (sym once.0 ∙ ap (is_in xs) is ∙ number_in xs at n there) in
    ap (λ l. x ∷ l) (removed_at xs once.1 n at there) ∙ sym (ap (λ b. cond (not b) (x ∷ left_by n xs) (left_by n xs)) (differ x n other))

pub not_listed : (xs : List ℕ) (n : ℕ) → IsNowhere xs n → is_in xs n ≡ false
not_listed [] n none = refl
not_listed (x ∷ xs) n none = ap (λ b. b || is_in xs n) (differ n x (λ is. none 0 x refl (sym is))) ∙ not_listed xs n (λ i m at. none (suc i) m at)

pub at_within : (es : Entries) (n at : ℕ) → IsAt es n at → at < length es
at_within es n at first = slice_get_within es at (n, first.thread) first.there

-- the table, and its numbers, where the thread of a number was written over
pub written : (es seen : Entries) (n at : ℕ) (f : Thread → Thread) (x : ℕ × Thread) → es ≡ seen → x ≡ slice_index_or es at x → IsAt seen n at → slice_set es at (x.0, f x.1) ≡ changed_in es n f
written es seen n at f x same is first = written_change es n at f x is (subst (λ (l : Entries). IsAt l n at) (sym same) first)

pub written_numbers : (es seen : Entries) (numbers hints : List ℕ) (capacity n at : ℕ) (f : Thread → Thread) (x : ℕ × Thread) → IsRoster numbers hints es capacity → es ≡ seen → x ≡ slice_index_or es at x → IsAt seen n at
    → IsRoster numbers hints (slice_set es at (x.0, f x.1)) capacity
written_numbers es seen numbers hints capacity n at f x kept same is first = record {
  numbered = record {
    listed = kept.numbered.listed ∙ sym (ap (λ (es : Entries). map (λ e. e.0) es) (written es seen n at f x same is first) ∙ numbers-changed_in es n f);
    once = kept.numbered.once;
    counted = kept.numbered.counted;
  };
  few = kept.few;
  room = kept.room;
}

-- whether the thread at a place sends
pub sent_at : (es seen : Entries) (n at : ℕ) (x : ℕ × Thread) (sent : Bool) → sent ≡ is_sending x.1.state → x ≡ slice_index_or es at x → es ≡ seen → IsAt seen n at → sent ≡ sends_in seen n
sent_at es seen n at x sent says is same first =
    let it : x ≡ (n, first.thread) = is ∙ ap (λ (l : Entries). slice_index_or l at x) same ∙ get_or_from_slice_get seen at (n, first.thread) x first.there in
    says ∙ ap (λ (e : ℕ × Thread). is_sending e.1.state) it
    ∙ sym (ap (λ (o : Option Thread). option_map_or is_sending (option_map (λ thread. thread.state) o) false) (found_first seen n at first.thread first.there first.first))

-- as many entries as numbers
pub as_many : (es : Entries) (numbers hints : List ℕ) (capacity : ℕ) → IsRoster numbers hints es capacity → length numbers ≡ length es
as_many es numbers hints capacity kept = ap length kept.numbered.listed ∙ length-map es (λ e. e.0)

pub few_entries : (es : Entries) (numbers hints : List ℕ) (capacity : ℕ) → IsRoster numbers hints es capacity → length es ≤ max_threads
few_entries es numbers hints capacity kept = let many = as_many es numbers hints capacity kept in let few = kept.few in omega (arith, many, few)

-- with one more number
pub pushed_numbers : (es : Entries) (numbers hints : List ℕ) (capacity n : ℕ) (t : Thread) (more : List ℕ) (larger : ℕ) → IsRoster numbers hints es capacity → found es n ≡ None → length es < max_threads → length more ≡ hint_count → capacity ≤ larger
    → IsRoster (numbers ++ n ∷ []) more (es ++ (n, t) ∷ []) larger
pushed_numbers es numbers hints capacity n t more larger kept free less counted grows = record {
  numbered = record {
    listed = ap (λ (l : List ℕ). l ++ n ∷ []) kept.numbered.listed ∙ sym (numbers-push es (n, t));
    once = once-push numbers n kept.numbered.once (ap (λ (l : List ℕ). is_in l n) kept.numbered.listed ∙ absent_found es n free);
    counted = counted;
  };
  few = let many = as_many es numbers hints capacity kept in let one = length-append numbers (n ∷ []) in omega (arith, many, one, less);
  room = let room = kept.room in omega (arith, room, grows);
}
