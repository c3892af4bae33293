-- The entries of segments by their numbers.
use Rattle.std.proofs.Common.{◌≡◌, ◌⊎◌, ℕ, suc, zero, ◌+◌, ◌<◌, ◌≤◌, inl, inr, List, [], ◌∷◌, ◌++◌, length, take, drop, get_or, slice_get, None, refl, sym, ap, ◌∙◌, subst, arith}
use Rattle.std.proofs.lemmas.List.{append_assoc, append-nil, length-append, take_more, take_all, drop_more, drop_all, take-append-drop}
use Rattle.std.proofs.lemmas.Option.{slice_get_past}
use Rattle.l4_fpage.specs.declared.sizes.PageSize.{PageSize}
use Rattle.l4_record.specs.declared.entries.Entry.{Entry}
use Rattle.l4_segments.specs.Joining.{all_entries, Fit}
use Rattle.l4_segments.specs.Saved.{Saved}

-- IN TWO LISTS

slice_right : (xs ys : List Entry) (n m : ℕ) → m ≡ length xs + n → slice_get (xs ++ ys) m ≡ slice_get ys n
slice_right [] ys n m is = let same : m ≡ n = omega (arith, is) in ap (slice_get ys) same
slice_right (x ∷ xs) ys n zero is = absurd (omega (arith, is))
slice_right (x ∷ xs) ys n (suc m) is = slice_right xs ys n m (omega (arith, is))

slice_left : (xs ys : List Entry) (n : ℕ) → n < length xs → slice_get (xs ++ ys) n ≡ slice_get xs n
slice_left [] ys n lt = absurd (omega (arith, lt))
slice_left (x ∷ xs) ys zero lt = refl
slice_left (x ∷ xs) ys (suc n) lt = slice_left xs ys n (omega (arith, lt))

entries_append : (segments others : List Saved) → all_entries (segments ++ others) ≡ all_entries segments ++ all_entries others
entries_append [] others = refl
entries_append (s ∷ segments) others = ap (λ (l : List Entry). s.entries ++ l) (entries_append segments others) ∙ sym (append_assoc s.entries (all_entries segments) (all_entries others))

-- segments that fit have the first number of the entries before
fit_at : (frames : ℕ) (size : PageSize) (first : ℕ) (earlier : List Saved) (s : Saved) (later : List Saved) → Fit frames size first (earlier ++ s ∷ later) → s.heading.first ≡ first + length (all_entries earlier)
fit_at frames size first [] s later fit = let n = fit.0.number_is in omega (arith, n)
fit_at frames size first (x ∷ earlier) s later fit =
    let n = fit_at frames size (first + length x.entries) earlier s later fit.1 in
    omega (arith, n, length-append x.entries (all_entries earlier))

-- the number of entries before the segment at this place
abbrev pub entries_before : List Saved → ℕ → ℕ
entries_before segments index = length (all_entries (take index segments))

none_taken : (segments : List Saved) → take 0 segments ≡ []
none_taken [] = refl
none_taken (s ∷ segments) = refl

-- ONE SEGMENT

module _ (segments : List Saved) (index : ℕ) (s : Saved) (lt : index < length segments) (is : s ≡ get_or segments index s) where
  parts : segments ≡ take index segments ++ s ∷ drop (index + 1) segments
  parts = sym (take-append-drop index segments)
      ∙ ap (λ (l : List Saved). take index segments ++ l) (drop_more segments index s lt ∙ ap (λ (x : Saved). x ∷ drop (index + 1) segments) (sym is))

  pub starts : (frames : ℕ) (size : PageSize) (first : ℕ) → Fit frames size first segments → s.heading.first ≡ first + entries_before segments index
  starts frames size first fit = fit_at frames size first (take index segments) s (drop (index + 1) segments) (subst (Fit frames size first) parts fit)

  whole : all_entries segments ≡ all_entries (take index segments) ++ (s.entries ++ all_entries (drop (index + 1) segments))
  whole = ap all_entries parts ∙ entries_append (take index segments) (s ∷ drop (index + 1) segments)

  ends : entries_before segments (index + 1) ≡ entries_before segments index + length s.entries
  ends =
      let taken : all_entries (take (index + 1) segments) ≡ all_entries (take index segments) ++ s.entries =
      ap all_entries (take_more segments index s lt ∙ ap (λ (x : Saved). take index segments ++ x ∷ []) (sym is)) ∙ entries_append (take index segments) (s ∷ [])
      ∙ ap (λ (l : List Entry). all_entries (take index segments) ++ l) (append-nil s.entries) in
      ap length taken ∙ length-append (all_entries (take index segments)) s.entries

  -- the last segment has the last entries
  pub all_counted : length segments ≡ index + 1 → length (all_entries segments) ≡ entries_before segments index + length s.entries
  all_counted last = ap (λ (l : List Saved). length (all_entries l)) (sym (take_all (index + 1) segments (omega (arith, last)))) ∙ ends

  at_right : (n : ℕ) → slice_get (all_entries segments) (entries_before segments index + n) ≡ slice_get (s.entries ++ all_entries (drop (index + 1) segments)) n
  at_right n = ap (λ (l : List Entry). slice_get l (entries_before segments index + n)) whole ∙ slice_right (all_entries (take index segments)) (s.entries ++ all_entries (drop (index + 1) segments)) n (entries_before segments index + n) refl

  here : (n : ℕ) → (length segments ≡ index + 1) ⊎ (entries_before segments index + n < entries_before segments (index + 1))
      → slice_get (s.entries ++ all_entries (drop (index + 1) segments)) n ≡ slice_get s.entries n
  here n (inl last) =
      ap (λ (l : List Saved). slice_get (s.entries ++ all_entries l) n) (drop_all (index + 1) segments (omega (arith, last))) ∙ ap (λ (l : List Entry). slice_get l n) (append-nil s.entries)
  here n (inr below) = slice_left s.entries (all_entries (drop (index + 1) segments)) n (omega (arith, below, ends))

  -- the entry with a number is this one of the segment
  pub found : (number n : ℕ) → number ≡ entries_before segments index + n → (length segments ≡ index + 1) ⊎ (number < entries_before segments (index + 1))
      → slice_get s.entries n ≡ slice_get (all_entries segments) number
  found number n is_at next =
      let near : (length segments ≡ index + 1) ⊎ (entries_before segments index + n < entries_before segments (index + 1)) =
      elim next [ inl last ↦ inl last | inr below ↦ inr (omega (arith, is_at, below)) ] in
      sym (ap (slice_get (all_entries segments)) is_at ∙ at_right n ∙ here n near)

-- THE SEARCH

-- the segments before the first place begin at or before this number, and those from the second place on begin after it
pub record IsBetween (segments : List Saved) (number low high : ℕ) : Type 0 where
  pub ordered : low ≤ high
  pub within : high ≤ length segments
  pub lower : (k : ℕ) → k + 1 ≡ low → entries_before segments k ≤ number
  pub upper : (length segments ≡ high) ⊎ (number < entries_before segments high)

module _ (segments : List Saved) (number : ℕ) where
  pub between_first : IsBetween segments number 0 (length segments)
  between_first = record { ordered = omega arith; within = omega arith; lower = λ k is. absurd (omega (arith, is)); upper = inl refl }

  pub between_later : (low middle high : ℕ) → IsBetween segments number low high → middle < high → entries_before segments middle ≤ number → IsBetween segments number (middle + 1) high
  between_later low middle high b lt le = record {
    ordered = omega (arith, lt);
    within = b.within;
    lower = λ k is.
        (let same : middle ≡ k = omega (arith, is) in
        subst (λ (m : ℕ). entries_before segments m ≤ number) same le);
    upper = b.upper;
  }

  pub between_earlier : (low middle high : ℕ) → IsBetween segments number low high → low ≤ middle → middle < high → number < entries_before segments middle → IsBetween segments number low middle
  between_earlier low middle high b le lt below = let within : high ≤ length segments = b.within in record { ordered = le; within = omega (arith, within, lt); lower = b.lower; upper = inr below }

  -- no segment begins at or before the number only if there is none
  pub no_entry : (low high : ℕ) → IsBetween segments number low high → high ≡ 0 → slice_get (all_entries segments) number ≡ None
  no_entry low high b zero_is =
      elim b.upper [
        | inl all ↦
            let past : length (all_entries segments) ≤ number =
            (let nothing : length (all_entries segments) ≡ 0 =
            ap (λ (l : List Saved). length (all_entries l)) (sym (take_all 0 segments (omega (arith, all, zero_is))) ∙ none_taken segments) in
            omega (arith, nothing)) in
            slice_get_past (all_entries segments) number past
        | inr below ↦
            let nothing : entries_before segments high ≡ 0 = ap (entries_before segments) zero_is ∙ ap (λ (l : List Saved). length (all_entries l)) (none_taken segments) in
            absurd (omega (arith, below, nothing))
      ]
