-- Seats that come back, one after another.
use Rattle.std.proofs.Common.{◌≡◌, ◌≢◌, ℕ, suc, zero, ◌+◌, ◌-◌, ◌<◌, ◌≤◌, ◌⊎◌, inl, inr, if◌then◌else◌, Bool, true, false, List, [], ◌∷◌, length, drop, get_or, Option, Some, None, MatchOption, is_some, slice_get, refl, sym, ap, ◌∙◌, subst, arith}
use Rattle.std.specs.List.{All, AllPairs}
use Rattle.std.specs.Option.{option_map_or}
use Rattle.std.proofs.lemmas.Bool.{false≢true, cases_lt}
use Rattle.std.proofs.lemmas.Bool.Decides.{leb_tells}
use Rattle.std.proofs.lemmas.Option.{slice_get-get_or, slice_get_within, get_or_from_slice_get, same_Some}
use Rattle.std.proofs.lemmas.List.{same_lists, length-drop, get_or-drop}
use Rattle.std.proofs.lemmas.List.Elements.{All-get_or, All-drop}
use Rattle.l4_lock.specs.declared.closing.Mismatch.{Mismatch}
use Rattle.l4_lock.specs.declared.closing.Mismatch.TheVariants.{Missing, Foreign, Receipt as WrongReceipt}
use Rattle.l4_lock.specs.Books.{SeatState, starts, Book, book_at, starts_of, IsRight}
use Rattle.l4_lock.specs.Inside.Noting.{started_by}
use Rattle.l4_lock.specs.Receipts.{Proves}
use Rattle.l4_lock.specs.declared.entries.Receipt.{Receipt}
use Rattle.l4_lock.specs.Locked.{Lock, IsKept}
use Rattle.l4_lock.specs.Closing.{HasSeat, IsGiven, IsBack, kept_by_both, AreSameFrom, Agrees, AllAgree, IsMissing, IsForeign, IsWrong, Least, Mismatches, AreBack, by_history, IsShownFrom, Closes}
use Rattle.l4_lock.specs.Inside.Closing.{IsFine, keep, SoFarMissing, SoFarForeign, SoFarWrong}
use Rattle.l4_lock.proofs.Started.{own_at}

-- an earlier place, or this one
last_or : (k i : ℕ) → k < i + 1 → (k < i) ⊎ (k ≡ i)
last_or k i lt = elim (cases_lt k i) [
  | inl before ↦ inl before
  | inr past ↦ inr (omega (arith, past, lt))
]

-- what stands at a place
here : {X : Type 0} (xs : List X) (i : ℕ) (x y : X) → i < length xs → x ≡ get_or xs i x → slice_get xs i ≡ Some y → y ≡ x
here xs i x y lt is at = sym (get_or_from_slice_get xs i y x at) ∙ sym is

at_place : {X : Type 0} (xs : List X) (i : ℕ) (x : X) → i < length xs → x ≡ get_or xs i x → slice_get xs i ≡ Some x
at_place xs i x lt is = slice_get-get_or xs i x lt ∙ ap Some (sym is)

-- one round of a loop over numbers: `Good` of each place before, or the least number of a bad one is kept
abbrev pub SoFar : (ℕ → Type 0) → {X : Type 0} → (X → ℕ) → (ℕ → X → Type 0) → List X → ℕ → Option ℕ → Type 0
SoFar Bad {X} key Good xs i None = (k : ℕ) (x : X) → k < i → slice_get xs k ≡ Some x → Good k x
SoFar Bad {X} key Good xs i (Some n) = Bad n × ((k : ℕ) (x : X) → k < i → slice_get xs k ≡ Some x → key x < n → Good k x)

pub one_more : (Bad : ℕ → Type 0) {X : Type 0} (key : X → ℕ) (Good : ℕ → X → Type 0) (xs : List X) (i : ℕ) (x : X) (bad : Bool) (found : Option ℕ)
    → i < length xs → x ≡ get_or xs i x → (bad ≡ true → Bad (key x)) → (bad ≡ false → Good i x)
    → SoFar Bad key Good xs i found → SoFar Bad key Good xs (i + 1) (keep found (key x) bad)
one_more Bad {X} key Good xs i x false None lt is wrong fine h = λ k y less at.
    elim (last_or k i less) [
      | inl before ↦ h k y before at
      | inr same ↦
          let there : slice_get xs i ≡ Some y = subst (λ (j : ℕ). slice_get xs j ≡ Some y) same at in
          subst (λ (j : ℕ). Good j y) (sym same) (subst (λ (z : X). Good i z) (sym (here xs i x y lt is there)) (fine refl))
    ]
one_more Bad {X} key Good xs i x false (Some n) lt is wrong fine h = (
  h.0,
  λ k y less at below.
      elim (last_or k i less) [
        | inl before ↦ h.1 k y before at below
        | inr same ↦
            let there : slice_get xs i ≡ Some y = subst (λ (j : ℕ). slice_get xs j ≡ Some y) same at in
            subst (λ (j : ℕ). Good j y) (sym same) (subst (λ (z : X). Good i z) (sym (here xs i x y lt is there)) (fine refl))
      ],
)
one_more Bad {X} key Good xs i x true None lt is wrong fine h = (
  wrong refl,
  λ k y less at below.
      elim (last_or k i less) [
        | inl before ↦ h k y before at
        | inr same ↦
            let there : slice_get xs i ≡ Some y = subst (λ (j : ℕ). slice_get xs j ≡ Some y) same at in
            let own : key y ≡ key x = ap key (here xs i x y lt is there) in
            absurd (omega (arith, own, below))
      ],
)
one_more Bad {X} key Good xs i x true (Some n) lt is wrong fine h =
    elim (leb_tells n (key x)) [
      | inl least ↦ subst (λ (v : Bool). SoFar Bad key Good xs (i + 1) (Some (if v then n else key x))) (sym least.0) (
        h.0,
        λ k y less at below.
            elim (last_or k i less) [
              | inl before ↦ h.1 k y before at below
              | inr same ↦
                  let there : slice_get xs i ≡ Some y = subst (λ (j : ℕ). slice_get xs j ≡ Some y) same at in
                  let own : key y ≡ key x = ap key (here xs i x y lt is there) in
                  let e = least.1 in
                  absurd (omega (arith, own, below, e))
            ],
      )
      | inr more ↦ subst (λ (v : Bool). SoFar Bad key Good xs (i + 1) (Some (if v then n else key x))) (sym more.0) (
        wrong refl,
        λ k y less at below.
            elim (last_or k i less) [
              | inl before ↦ h.1 k y before at (let e = more.1 in omega (arith, below, e))
              | inr same ↦
                  let there : slice_get xs i ≡ Some y = subst (λ (j : ℕ). slice_get xs j ≡ Some y) same at in
                  let own : key y ≡ key x = ap key (here xs i x y lt is there) in
                  absurd (omega (arith, own, below))
            ],
      )
    ]

as_missing : (books : List Book) (seats : List SeatState) (i : ℕ) (o : Option ℕ) → SoFarMissing books seats i o → SoFar (IsMissing books seats) (λ (b : Book). b.number) (λ k b. IsBack seats b.number) books i o
as_missing books seats i None h = h
as_missing books seats i (Some n) h = h

missing_as : (books : List Book) (seats : List SeatState) (i : ℕ) (o : Option ℕ) → SoFar (IsMissing books seats) (λ (b : Book). b.number) (λ k b. IsBack seats b.number) books i o → SoFarMissing books seats i o
missing_as books seats i None h = h
missing_as books seats i (Some n) h = h

pub next_missing : (books : List Book) (seats : List SeatState) (i n : ℕ) (b : Book) (back bad : Bool) (found kept : Option ℕ)
    → i < length books → b ≡ get_or books i b → n ≡ b.number → (back ≡ true → IsBack seats n) → (back ≡ false → ¬ (IsBack seats n))
    → (bad ≡ true → back ≡ false) → (bad ≡ false → back ≡ true)
    → SoFarMissing books seats i found → kept ≡ keep found n bad → SoFarMissing books seats (i + 1) kept
next_missing books seats i n b back bad found kept lt is number has lacks so not h kept_is =
    subst (λ (o : Option ℕ). SoFarMissing books seats (i + 1) o) (sym (kept_is ∙ ap (λ (m : ℕ). keep found m bad) number))
    (missing_as books seats (i + 1) (keep found b.number bad)
    (one_more (IsMissing books seats) (λ (b : Book). b.number) (λ k b. IsBack seats b.number) books i b bad found lt is
    (λ e. (record { at = i; early = lt; book = b; there = at_place books i b lt is; number = refl }, λ is_back. lacks (so e) (subst (IsBack seats) (sym number) is_back)))
    (λ e. subst (IsBack seats) number (has (not e)))
    (as_missing books seats i found h)))

as_foreign : (books : List Book) (seats : List SeatState) (i : ℕ) (o : Option ℕ) → SoFarForeign books seats i o → SoFar (IsForeign books seats) (λ (p : SeatState). p.number) (λ k p. IsFine books seats k p) seats i o
as_foreign books seats i None h = h
as_foreign books seats i (Some n) h = h

foreign_as : (books : List Book) (seats : List SeatState) (i : ℕ) (o : Option ℕ) → SoFar (IsForeign books seats) (λ (p : SeatState). p.number) (λ k p. IsFine books seats k p) seats i o → SoFarForeign books seats i o
foreign_as books seats i None h = h
foreign_as books seats i (Some n) h = h

pub next_foreign : (books : List Book) (seats : List SeatState) (i n : ℕ) (p : SeatState) (bad : Bool) (found kept : Option ℕ)
    → i < length seats → p ≡ get_or seats i p → n ≡ p.number
    → (bad ≡ true → ¬ (IsGiven books n) ⊎ HasSeat seats i n) → (bad ≡ false → IsGiven books n × ¬ (HasSeat seats i n))
    → SoFarForeign books seats i found → kept ≡ keep found n bad → SoFarForeign books seats (i + 1) kept
next_foreign books seats i n p bad found kept lt is number foreign fine h kept_is =
    let there = at_place seats i p lt is in
    subst (λ (o : Option ℕ). SoFarForeign books seats (i + 1) o) (sym (kept_is ∙ ap (λ (m : ℕ). keep found m bad) number))
    (foreign_as books seats (i + 1) (keep found p.number bad)
    (one_more (IsForeign books seats) (λ (p : SeatState). p.number) (λ k p. IsFine books seats k p) seats i p bad found lt is
    (λ e. elim (subst (λ (m : ℕ). ¬ (IsGiven books m) ⊎ HasSeat seats i m) number (foreign e)) [
      | inl other ↦ inl (record { at = i; early = lt; seat = p; there = there; number = refl }, other)
      | inr before ↦ inr (record { at = i; second = p; there = there; number = refl; first = before })
    ])
    (λ e. subst (λ (m : ℕ). IsGiven books m × ¬ (HasSeat seats i m)) number (fine e))
    (as_foreign books seats i found h)))

as_wrong : (counts : Book → ℕ) (books : List Book) (seats : List SeatState) (i : ℕ) (o : Option ℕ) → SoFarWrong counts books seats i o → SoFar (IsWrong counts books seats) (λ (p : SeatState). p.number) (λ k p. AllAgree counts books p) seats i o
as_wrong counts books seats i None h = h
as_wrong counts books seats i (Some n) h = h

wrong_as : (counts : Book → ℕ) (books : List Book) (seats : List SeatState) (i : ℕ) (o : Option ℕ) → SoFar (IsWrong counts books seats) (λ (p : SeatState). p.number) (λ k p. AllAgree counts books p) seats i o → SoFarWrong counts books seats i o
wrong_as counts books seats i None h = h
wrong_as counts books seats i (Some n) h = h

wrong_at : (books : List Book) (seats : List SeatState) (i : ℕ) (p : SeatState) (o : Option ℕ) (bad : Bool) → slice_get seats i ≡ Some p → bad ≡ is_some o → bad ≡ true
    → MatchOption o (AllAgree started_by books p) (λ at. (b : Book) × (slice_get books at ≡ Some b) × (b.number ≡ p.number) × ¬ (Agrees started_by b p))
    → IsWrong started_by books seats p.number
wrong_at books seats i p None bad there is e h = absurd (false≢true (sym is ∙ e))
wrong_at books seats i p (Some at) bad there is e h =
    record { at = i; seat = p; there = there; number = refl; place = at; book = h.0; given = h.1; same = h.2; differs = h.3 }

agree_at : (books : List Book) (p : SeatState) (o : Option ℕ) (bad : Bool) → bad ≡ is_some o → bad ≡ false
    → MatchOption o (AllAgree started_by books p) (λ at. (b : Book) × (slice_get books at ≡ Some b) × (b.number ≡ p.number) × ¬ (Agrees started_by b p))
    → AllAgree started_by books p
agree_at books p None bad is e h = h
agree_at books p (Some at) bad is e h = absurd (false≢true (sym e ∙ is))

pub next_wrong : (books : List Book) (seats : List SeatState) (i n : ℕ) (p q : SeatState) (o : Option ℕ) (bad : Bool) (found kept : Option ℕ)
    → i < length seats → p ≡ get_or seats i p → n ≡ p.number → q ≡ get_or seats i q → bad ≡ is_some o
    → MatchOption o (AllAgree started_by books q) (λ at. (b : Book) × (slice_get books at ≡ Some b) × (b.number ≡ q.number) × ¬ (Agrees started_by b q))
    → SoFarWrong started_by books seats i found → kept ≡ keep found n bad → SoFarWrong started_by books seats (i + 1) kept
next_wrong books seats i n p q o bad found kept lt is number again is_bad answer h kept_is =
    let there = at_place seats i p lt is in
    let same : q ≡ p = sym (here seats i q p lt again there) in
    let answers = subst (λ (r : SeatState). MatchOption o (AllAgree started_by books r) (λ at. (b : Book) × (slice_get books at ≡ Some b) × (b.number ≡ r.number) × ¬ (Agrees started_by b r))) same answer in
    subst (λ (o : Option ℕ). SoFarWrong started_by books seats (i + 1) o) (sym (kept_is ∙ ap (λ (m : ℕ). keep found m bad) number))
    (wrong_as started_by books seats (i + 1) (keep found p.number bad)
    (one_more (IsWrong started_by books seats) (λ (p : SeatState). p.number) (λ k p. AllAgree started_by books p) seats i p bad found lt is
    (λ e. wrong_at books seats i p o bad there is_bad e answers)
    (λ e. agree_at books p o bad is_bad e answers)
    (as_wrong started_by books seats i found h)))

-- one account more agrees
pub agree_more : (books : List Book) (p : SeatState) (i : ℕ) (b : Book) → i < length books → b ≡ get_or books i b
    → (b.number ≡ p.number → Agrees started_by b p)
    → ((k : ℕ) (a : Book) → k < i → slice_get books k ≡ Some a → a.number ≡ p.number → Agrees started_by a p)
    → (k : ℕ) (a : Book) → k < i + 1 → slice_get books k ≡ Some a → a.number ≡ p.number → Agrees started_by a p
agree_more books p i b lt is fine h k a less at number = elim (last_or k i less) [
  | inl before ↦ h k a before at number
  | inr same ↦
      let there : slice_get books i ≡ Some a = subst (λ (j : ℕ). slice_get books j ≡ Some a) same at in
      let own : a ≡ b = here books i b a lt is there in
      subst (λ (z : Book). Agrees started_by z p) (sym own) (fine (ap (λ (z : Book). z.number) (sym own) ∙ number))
]

pub all_agree : (books : List Book) (p : SeatState) (i : ℕ) → length books ≤ i
    → ((k : ℕ) (a : Book) → k < i → slice_get books k ≡ Some a → a.number ≡ p.number → Agrees started_by a p)
    → AllAgree started_by books p
all_agree books p i past h k a at number = h k a (let e = slice_get_within books k a at in omega (arith, e, past)) at number

-- at the end of a loop
pub end_foreign : (books : List Book) (seats : List SeatState) (i : ℕ) (o : Option ℕ) → length seats ≤ i → SoFarForeign books seats i o → SoFarForeign books seats (length seats) o
end_foreign books seats i None past h = λ k p less at. h k p (omega (arith, past, less)) at
end_foreign books seats i (Some n) past h = (h.0, λ k p less at below. h.1 k p (omega (arith, past, less)) at below)

pub end_wrong : (counts : Book → ℕ) (books : List Book) (seats : List SeatState) (i : ℕ) (o : Option ℕ) → length seats ≤ i → SoFarWrong counts books seats i o → SoFarWrong counts books seats (length seats) o
end_wrong counts books seats i None past h = λ k p less at. h k p (omega (arith, past, less)) at
end_wrong counts books seats i (Some n) past h = (h.0, λ k p less at below. h.1 k p (omega (arith, past, less)) at below)

-- the receipts with the numbers that were compared, from the first one on
pub all_same : (xs ys : List Receipt) (first i : ℕ) → length xs ≡ length ys → length xs ≤ i → ((k : ℕ) → first ≤ k → k < i → slice_get xs k ≡ slice_get ys k) → AreSameFrom first xs ys
all_same xs ys first i long past h = (
  long,
  same_lists (drop first xs) (drop first ys) (omega (arith, long, length-drop first xs, length-drop first ys)) (λ k d lt.
      let within : first + k < length xs = omega (arith, lt, length-drop first xs) in
      get_or-drop first xs k d ∙ same_Some (get_or xs (first + k) d) (get_or ys (first + k) d)
      (sym (slice_get-get_or xs (first + k) d within) ∙ h (first + k) (omega arith) (omega (arith, within, past)) ∙ slice_get-get_or ys (first + k) d (omega (arith, within, long)))
      ∙ sym (get_or-drop first ys k d)),
)

-- a receipt that differs, with the number that both keep it under
pub one_differs : (xs ys : List Receipt) (first k : ℕ) → first ≤ k → k < length xs → slice_get xs k ≢ slice_get ys k → ¬ (AreSameFrom first xs ys)
one_differs xs ys first k le lt ne same = ne (
    let at : first + (k - first) ≡ k = omega (arith, le) in
    let there : (zs : List Receipt) (d : Receipt) → get_or (drop first zs) (k - first) d ≡ get_or zs k d = λ zs d. get_or-drop first zs (k - first) d ∙ ap (λ (j : ℕ). get_or zs j d) at in
    let d : Receipt = (get_there xs k lt).0 in
    let long = same.0 in
    slice_get-get_or xs k d lt ∙ ap Some (sym (there xs d) ∙ ap (λ (zs : List Receipt). get_or zs (k - first) d) same.1 ∙ there ys d) ∙ sym (slice_get-get_or ys k d (omega (arith, lt, long)))
    ) where
      get_there : (zs : List Receipt) (j : ℕ) → j < length zs → (r : Receipt) × (slice_get zs j ≡ Some r)
      get_there [] j lt = absurd (omega (arith, lt))
      get_there (z ∷ zs) zero lt = (z, refl)
      get_there (z ∷ zs) (suc j) lt = get_there zs j (omega (arith, lt))

-- what the loops leave
pub least_missing : (books : List Book) (seats : List SeatState) (o : Option ℕ) → SoFarMissing books seats (length books) o → Least (IsMissing books seats) o
least_missing books seats None h = λ n missing. missing.1 (subst (IsBack seats) missing.0.number (h missing.0.at missing.0.book missing.0.early missing.0.there))
least_missing books seats (Some n) h = (
  h.0,
  λ k less missing.
      missing.1 (subst (IsBack seats) missing.0.number (h.1 missing.0.at missing.0.book missing.0.early missing.0.there (let e = missing.0.number in omega (arith, e, less)))),
)

pub least_foreign : (books : List Book) (seats : List SeatState) (o : Option ℕ) → SoFarForeign books seats (length seats) o → Least (IsForeign books seats) o
least_foreign books seats None h = λ n foreign. elim foreign [
  | inl other ↦ other.1 (subst (IsGiven books) other.0.number (h other.0.at other.0.seat other.0.early other.0.there).0)
  | inr twice ↦ (h twice.at twice.second (slice_get_within seats twice.at twice.second twice.there) twice.there).1 (subst (HasSeat seats twice.at) (sym twice.number) twice.first)
]
least_foreign books seats (Some n) h = (
  h.0,
  λ k less foreign. elim foreign [
    | inl other ↦ other.1 (subst (IsGiven books) other.0.number (h.1 other.0.at other.0.seat other.0.early other.0.there (let e = other.0.number in omega (arith, e, less))).0)
    | inr twice ↦ (h.1 twice.at twice.second (slice_get_within seats twice.at twice.second twice.there) twice.there (let e = twice.number in omega (arith, e, less))).1 (subst (HasSeat seats twice.at) (sym twice.number) twice.first)
  ],
)

pub least_wrong : (counts : Book → ℕ) (books : List Book) (seats : List SeatState) (o : Option ℕ) → SoFarWrong counts books seats (length seats) o → Least (IsWrong counts books seats) o
least_wrong counts books seats None h = λ n w.
    w.differs (h w.at w.seat (slice_get_within seats w.at w.seat w.there) w.there w.place w.book w.given (w.same ∙ sym w.number))
least_wrong counts books seats (Some n) h = (
  h.0,
  λ k less w.
      w.differs (h.1 w.at w.seat (slice_get_within seats w.at w.seat w.there) w.there (let e = w.number in omega (arith, e, less)) w.place w.book w.given (w.same ∙ sym w.number)),
)

pub are_back : (counts : Book → ℕ) (books : List Book) (seats : List SeatState) → SoFarMissing books seats (length books) None → SoFarForeign books seats (length seats) None
    → SoFarWrong counts books seats (length seats) None → AreBack counts books seats
are_back counts books seats missing foreign wrong = record {
  back = λ n given. subst (IsBack seats) given.number (missing given.at given.book given.early given.there);
  given = λ n back. subst (IsGiven books) back.number (foreign back.at back.seat back.early back.there).0;
  once = λ n twice. (foreign twice.at twice.second (slice_get_within seats twice.at twice.second twice.there) twice.there).1 (subst (HasSeat seats twice.at) (sym twice.number) twice.first);
  agree = λ k p there. wrong k p (slice_get_within seats k p there) there;
}

-- the counts that the lock kept are those of the history
same_counts : (l : Lock) → IsKept l → (k : ℕ) (b : Book) → slice_get l.books k ≡ Some b → IsRight l.frames l.history l.kernel b
same_counts l kept k b there =
    subst (IsRight l.frames l.history l.kernel) (get_or_from_slice_get l.books k b b there)
    (All-get_or (IsRight l.frames l.history l.kernel) l.books k b (slice_get_within l.books k b there) kept.right.each)

pub by_history_agree : (l : Lock) → IsKept l → (p : SeatState) → AllAgree started_by l.books p → AllAgree (by_history l.history) l.books p
by_history_agree l kept p h k b there number = let a = h k b there number in ((same_counts l kept k b there).count ∙ a.0, a.1)

-- counts that are the same of each book: a seat that one is wrong about, the other is
wrong_alike : (counts others : Book → ℕ) (books : List Book) (seats : List SeatState) (n : ℕ) → ((k : ℕ) (b : Book) → slice_get books k ≡ Some b → counts b ≡ others b) → IsWrong counts books seats n → IsWrong others books seats n
wrong_alike counts others books seats n alike w = record {
  at = w.at;
  seat = w.seat;
  there = w.there;
  number = w.number;
  place = w.place;
  book = w.book;
  given = w.given;
  same = w.same;
  differs = λ a. w.differs (alike w.place w.book w.given ∙ a.0, a.1);
}

pub wrong_by_history : (l : Lock) (seats : List SeatState) (n : ℕ) → IsKept l → IsWrong started_by l.books seats n → IsWrong (by_history l.history) l.books seats n
wrong_by_history l seats n kept = wrong_alike started_by (by_history l.history) l.books seats n (λ k b there. sym (same_counts l kept k b there).count)

wrong_by_books : (l : Lock) (seats : List SeatState) (n : ℕ) → IsKept l → IsWrong (by_history l.history) l.books seats n → IsWrong started_by l.books seats n
wrong_by_books l seats n kept = wrong_alike (by_history l.history) started_by l.books seats n (λ k b there. (same_counts l kept k b there).count)

pub mismatches : (l : Lock) (seats : List SeatState) (m : Mismatch) → IsKept l → Mismatches started_by l.books seats m → Mismatches (by_history l.history) l.books seats m
mismatches l seats (Missing n) kept h = h
mismatches l seats (Foreign n) kept h = h
mismatches l seats (WrongReceipt n) kept h =
    (h.0, h.1, (wrong_by_history l seats n kept h.2.0, λ k less w. h.2.1 k less (wrong_by_books l seats k kept w)))

-- some later ones of a list in which each goes with each later one
pairs_drop : (R : Receipt → Receipt → Type 0) (n : ℕ) (xs : List Receipt) → AllPairs R xs → AllPairs R (drop n xs)
pairs_drop R n xs h = λ i j d before within.
    let long = length-drop n xs in
    subst (λ (x : Receipt). R x (get_or (drop n xs) j d)) (sym (get_or-drop n xs i d))
    (subst (λ (y : Receipt). R (get_or xs (n + i) d) y) (sym (get_or-drop n xs j d)) (h (n + i) (n + j) d (omega (arith, before)) (omega (arith, within, long))))

-- of a seat that agrees with its book, which is right
shown_from : (l : Lock) (number : ℕ) (p : SeatState) (b : Book) → b.number ≡ p.number → IsRight l.frames l.history l.kernel b → (started_by b ≡ starts p) × AreSameFrom number b.receipts p.receipts → IsShownFrom l number p
shown_from l number p b same right a = record {
  count = subst (λ (n : ℕ). starts_of n l.history ≡ starts p) same (right.count ∙ a.0);
  receipts = subst (λ (rs : List Receipt). All (Proves l.frames l.history p.number) rs) a.1.1
      (All-drop (Proves l.frames l.history p.number) number b.receipts (subst (λ (n : ℕ). All (Proves l.frames l.history n) b.receipts) same right.receipts));
  rising = subst (λ (rs : List Receipt). AllPairs (λ r s. r.start < s.start) rs) a.1.1 (pairs_drop (λ r s. r.start < s.start) number b.receipts right.rising);
}

pub closes : (l : Lock) (seats : List SeatState) → IsKept l → AreBack started_by l.books seats → Closes l seats
closes l seats kept h = record {
  back = record {
    back = h.back;
    given = h.given;
    once = h.once;
    agree = λ k p there. by_history_agree l kept p (h.agree k p there);
  };
  shown = λ k p there.
      let g = h.given p.number (record { at = k; early = slice_get_within seats k p there; seat = p; there = there; number = refl }) in
      let right = same_counts l kept g.at g.book g.there in
      let a = h.agree k p there g.at g.book g.there g.number in
      let own : book_at l.books p.number ≡ Some g.book = subst (λ (n : ℕ). book_at l.books n ≡ Some g.book) g.number (own_at l.books g.at g.book g.there kept.right.apart) in
      subst (λ (o : Option Book). IsShownFrom l (option_map_or (λ b. kept_by_both b p) o 0) p) (sym own)
      (shown_from l (kept_by_both g.book p) p g.book g.number right a);
}

-- the same of the lock as a whole
pub told_mismatch : (l m : Lock) (bs : List Book) (ps seats : List SeatState) (x : Mismatch) → l ≡ m → IsKept l → bs ≡ l.books → ps ≡ seats
    → Mismatches started_by bs ps x → Mismatches (by_history m.history) m.books seats x
told_mismatch l m bs ps seats x is kept books same h =
    subst (λ (n : Lock). Mismatches (by_history n.history) n.books seats x) is
    (mismatches l seats x kept (subst (λ (qs : List SeatState). Mismatches started_by l.books qs x) same (subst (λ (cs : List Book). Mismatches started_by cs ps x) books h)))

pub told_closed : (l m : Lock) (bs : List Book) (ps seats : List SeatState) → l ≡ m → IsKept l → bs ≡ l.books → ps ≡ seats
    → AreBack started_by bs ps → Closes m seats
told_closed l m bs ps seats is kept books same h =
    subst (λ (n : Lock). Closes n seats) is
    (closes l seats kept (subst (λ (qs : List SeatState). AreBack started_by l.books qs) same (subst (λ (cs : List Book). AreBack started_by cs ps) books h)))
