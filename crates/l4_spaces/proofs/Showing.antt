-- What a contract sees once a space was written, has come or has gone.
use Rattle.std.proofs.Common.{◌≡◌, ◌≢◌, ℕ, suc, ◌+◌, ◌*◌, ◌/◌, ◌%◌, ◌≤◌, ◌==◌, ◌&&◌, ◌||◌, Bool, true, false, nat_eq, nat_lt, not, cond, List, [], ◌∷◌, ◌++◌, drop, length, filter, slice_index_or, slice_set, Option, Some, None, is_some, MatchOption, Vec, refl, sym, ap, ◌∙◌, subst, inl, inr, arith}
use Rattle.std.specs.List.{list_any}
use Rattle.std.specs.Ordering.{nat_cmp, eq_by_cmp, is_eq}
use Rattle.std.specs.Cmp.{nat_cmp_total, tied_itself}
use Rattle.std.specs.FinMap as map
use Rattle.std.specs.FinMap.{nat_cmp-IsAntisymmetric}
use Rattle.std.specs.FinSet as set
use Rattle.std.specs.declared.alloc.Global.{Global}
use Rattle.std.proofs.lemmas.Bool.{cases_lt}
use Rattle.std.proofs.lemmas.List.{get_or_past, get_or_default}
use Rattle.l4_spaces.specs.Tables.{Tables, place_cmp, key_of, table_pages, space_tables, HasRoom, KeepsRoom, KeepsOthersRoom, Empties, IsPresent, NonePresentFrom, IsNextPresent, NonePresentIn, IsNextIn, IsTableIn}
use Rattle.l4_spaces.specs.Rows.{Rows, row, entry, is_made, IsReady, AreWhole, AreMade, NoneIn, IsFirstIn, IsTableFrom}
use Rattle.l4_spaces.specs.Inside.Seen.{Space, Live, numbers, has, tables_of, IsOnce, IsAt, key_at, is_there, shown, IsLaid}
use Rattle.l4_spaces.proofs.Below.{places_total, tie, untie, is_equal, decided}
use Rattle.l4_spaces.proofs.Finding.{eq_no, eq_of, ne_of, stands_number, stands_has, no_tables_of, written_here, written_other, written_numbers}
use Rattle.l4_spaces.proofs.Listing.{key_shown, there_shown, has_shown, pages_are, same_shown, past_entry}

-- what is asked of the view is asked of the list

pub found : (ss : Live) (s : Tables) (space page : ℕ) → shown ss ≡ s → key_of s space page ≡ key_at ss (space, page)
found ss s space page view = ap (λ (t : Tables). key_of t space page) (sym view) ∙ key_shown ss space page

pub stands : (ss : Live) (s : Tables) (k : ℕ) → shown ss ≡ s → set.contains s.spaces k ≡ has ss k
stands ss s k view = ap (λ (t : Tables). set.contains t.spaces k) (sym view) ∙ has_shown ss k

made : (ss : Live) (s : Tables) (k high : ℕ) → shown ss ≡ s → set.contains s.tables (k, high) ≡ is_there ss (k, high)
made ss s k high view = ap (λ (t : Tables). set.contains t.tables (k, high)) (sym view) ∙ there_shown ss k high

pub at_here : (ss : Live) (k i : ℕ) (s : Space) → IsAt k ss i → s ≡ slice_index_or ss i s → tables_of ss k ≡ s.1.items
at_here ss k i s h is = grind arith

pub found_in : (ss : Live) (s : Tables) (k page : ℕ) (ts : Rows) → shown ss ≡ s → tables_of ss k ≡ ts → key_of s k page ≡ entry ts page
found_in ss s k page ts view is = found ss s k page view ∙ ap (λ (t : Rows). entry t page) is

pub absent_key : (ss : Live) (s : Tables) (k page : ℕ) → shown ss ≡ s → has ss k ≡ false → key_of s k page ≡ None
absent_key ss s k page view h = found_in ss s k page [] view (no_tables_of ss k h)

-- room

-- the same tables keep the room
pub keeps : (a b : Live) (s : Tables) → shown a ≡ s → ((p : ℕ × ℕ) → is_there a p ≡ true → is_there b p ≡ true) → KeepsRoom s (shown b)
unfolding HasRoom
keeps a b s view h k pages room i d lt =
    let high : ℕ = slice_index_or pages i d / table_pages in
    there_shown b k high ∙ h (k, high) (sym (made a s k high view) ∙ room i d lt)

pub keeps_others : (a b : Live) (s : Tables) (space : ℕ) → shown a ≡ s → ((q : ℕ) → q ≢ space → tables_of b q ≡ tables_of a q) → KeepsOthersRoom space s (shown b)
unfolding HasRoom
keeps_others a b s space view h k pages ne room i d lt =
    let high : ℕ = slice_index_or pages i d / table_pages in
    there_shown b k high ∙ ap (λ (ts : Rows). is_made ts high) (h k ne) ∙ sym (made a s k high view) ∙ room i d lt

pub rest_has : (s : Tables) (k page : ℕ) (rest : List ℕ) → HasRoom s k (page ∷ rest) → HasRoom s k rest
unfolding HasRoom
rest_has s k page rest room i d lt = room (suc i) d (omega (arith, lt))

pub all_made : (ss : Live) (s : Tables) (k : ℕ) (pages : List ℕ) → shown ss ≡ s → HasRoom s k pages → AreMade (tables_of ss k) pages (length pages)
unfolding HasRoom
all_made ss s k pages view room i lt = sym (made ss s k (slice_index_or pages i 0 / table_pages) view) ∙ room i 0 lt

pub first_made : (ss : Live) (s : Tables) (k page : ℕ) (rest : List ℕ) → shown ss ≡ s → HasRoom s k (page ∷ rest) → is_made (tables_of ss k) (page / table_pages) ≡ true
first_made ss s k page rest view room = all_made ss s k (page ∷ rest) view room 0 (omega arith)

pub room_made : (ss : Live) (k : ℕ) (pages : List ℕ) → AreMade (tables_of ss k) pages (length pages) → HasRoom (shown ss) k pages
unfolding HasRoom
room_made ss k pages h i d lt =
    there_shown ss k (slice_index_or pages i d / table_pages)
    ∙ ap (λ (page : ℕ). is_made (tables_of ss k) (page / table_pages)) (get_or_default pages i d 0 lt) ∙ h i lt

-- a page with a key has its table, and so has a page whose table is whole

pub ready_shown : (ts : Rows) (page : ℕ) → is_some (entry ts page) ≡ true → IsReady ts page
ready_shown ts page h = grind (arith, get_or_past)

pub ready_made : (ts : Rows) (page : ℕ) → AreWhole ts → is_made ts (page / table_pages) ≡ true → IsReady ts page
ready_made ts page whole h = grind arith

-- one space's tables were written

pub record Wrote (k : ℕ) (ss new : Live) (old tables : Rows) : Type 0 where
  pub was : tables_of ss k ≡ old
  pub here : tables_of new k ≡ tables
  pub other : (q : ℕ) → q ≢ k → tables_of new q ≡ tables_of ss q
  pub same : numbers new ≡ numbers ss

pub wrote : (ss : Live) (k i : ℕ) (s : Space) (v : Vec (List (Option ℕ)) Global) → IsAt k ss i → s ≡ slice_index_or ss i s → Wrote k ss (slice_set ss i (s.0, v)) s.1.items v.items
wrote ss k i s v h is = grind (arith, stands_number, at_here, written_here, written_other, written_numbers)

pub wrote_all : {k : ℕ} {ss new : Live} {old ts : Rows} (P : ℕ → Rows → Rows → Type 0) → Wrote k ss new old ts → P k old ts → ((q : ℕ) → P q (tables_of ss q) (tables_of ss q)) → (q : ℕ) → P q (tables_of ss q) (tables_of new q)
wrote_all {k} {ss} {new} {old} {ts} P w here other q = grind arith

pub once_same : (ss new : Live) → numbers new ≡ numbers ss → IsOnce ss → IsOnce new
once_same ss [] e h = tt
once_same [] (n ∷ ns) e h = absurd (let l : length (n.0 ∷ numbers ns) ≡ 0 = ap length e in omega (arith, l))
once_same (s ∷ ss) (n ∷ ns) e h =
    let number : n.0 ≡ s.0 = ap (λ (l : List ℕ). slice_index_or l 0 0) e in
    let rest : numbers ns ≡ numbers ss = ap (drop 1) e in
    ((λ i. list_any (λ y. nat_eq y (number i)) (rest i)) ∙ h.0, once_same ss ns rest h.1)

pub laid : {k : ℕ} {ss new : Live} {old ts : Rows} → Wrote k ss new old ts → IsLaid ss → (AreWhole old → AreWhole ts) → (length old ≤ space_tables → length ts ≤ space_tables) → IsLaid new
laid {k} {ss} {new} {old} {ts} w l whole full = grind (arith, once_same, wrote_all)

pub whole_long : (old new : Rows) → ((high : ℕ) → length (row new high) ≡ length (row old high)) → AreWhole old → AreWhole new
whole_long old new long whole high = grind (arith, no_items)
  where
    no_items : (xs : List (Option ℕ)) → length xs ≡ 0 → xs ≡ []
    no_items [] e = refl
    no_items (x ∷ xs) e = absurd (omega (arith, e))

pub there_long : {k : ℕ} {ss new : Live} {old ts : Rows} → Wrote k ss new old ts → ((high : ℕ) → length (row ts high) ≡ length (row old high)) → (p : ℕ × ℕ) → is_there new p ≡ is_there ss p
there_long w long p = wrote_all (λ _ a b. is_made b p.1 ≡ is_made a p.1) w (ap (nat_lt 0) (long p.1)) (λ _. refl) p.0

pub keys_same : {k : ℕ} {ss new : Live} {old ts : Rows} → Wrote k ss new old ts → ((page : ℕ) → entry ts page ≡ entry old page) → (p : ℕ × ℕ) → key_at new p ≡ key_at ss p
keys_same w same p = wrote_all (λ _ a b. entry b p.1 ≡ entry a p.1) w (same p.1) (λ _. refl) p.0

-- the page's key is what it was, and so is each other page's
pub same_entries : (old new : Rows) (page : ℕ) → entry new page ≡ entry old page → ((other : ℕ) → other ≢ page → entry new other ≡ entry old other) → (other : ℕ) → entry new other ≡ entry old other
same_entries old new page here others other = grind arith

pub keys_put : {k : ℕ} {ss new : Live} {old ts : Rows} (page : ℕ) (key : Option ℕ) → Wrote k ss new old ts → entry ts page ≡ key → ((other : ℕ) → other ≢ page → entry ts other ≡ entry old other)
    → (p : ℕ × ℕ) → key_at new p ≡ cond (eq_by_cmp place_cmp p (k, page)) key (key_at ss p)
keys_put {k} {ss} {new} {old} {ts} page key w here others p = search (untie, tie, arith)

pub pages_kept : (ss new : Live) (s : Tables) → shown ss ≡ s → ((p : ℕ × ℕ) → key_at new p ≡ key_at ss p) → (shown new).pages ≡ s.pages
pages_kept ss new s view h = pages_are new s.pages (λ p. found ss s p.0 p.1 view ∙ sym (h p))

pub pages_set : (ss new : Live) (s : Tables) (q : ℕ × ℕ) (key : ℕ) → shown ss ≡ s → ((p : ℕ × ℕ) → key_at new p ≡ cond (eq_by_cmp place_cmp p q) (Some key) (key_at ss p)) → (shown new).pages ≡ map.insert s.pages q key
pages_set ss new s q key view h = pages_are new (map.insert s.pages q key) (λ p.
    map.get-insert places_total s.pages q key p ∙ ap (cond (eq_by_cmp place_cmp p q) (Some key)) (found ss s p.0 p.1 view) ∙ sym (h p))

pub pages_clear : (ss new : Live) (s : Tables) (q : ℕ × ℕ) → shown ss ≡ s → ((p : ℕ × ℕ) → key_at new p ≡ cond (eq_by_cmp place_cmp p q) None (key_at ss p)) → (shown new).pages ≡ map.remove s.pages q
pages_clear ss new s q view h = pages_are new (map.remove s.pages q) (λ p.
    map.get-remove places_total s.pages q p ∙ ap (cond (eq_by_cmp place_cmp p q) None) (found ss s p.0 p.1 view) ∙ sym (h p))

-- a page that is absent is cleared by nothing
pub pages_clear_none : (ss : Live) (s : Tables) (q : ℕ × ℕ) → shown ss ≡ s → key_at ss q ≡ None → s.pages ≡ map.remove s.pages q
pages_clear_none ss s q view none = grind (arith, pages_clear, untie)

-- what the search of a space says
pub told : (ss : Live) (k : ℕ) (r : Option ℕ) → MatchOption r (has ss k ≡ false) (IsAt k ss) → is_some r ≡ has ss k
told ss k None h = sym h
told ss k (Some i) h = sym (stands_has k ss i h.stands)

-- the next page

pub none_at : (ss : Live) (s : Tables) (k : ℕ) (ts : Rows) (other : ℕ) → shown ss ≡ s → tables_of ss k ≡ ts → entry ts other ≡ None → ¬ (IsPresent s k other)
none_at ss s k ts other view is none here = grind (arith, found_in)

pub next_found : (ss : Live) (s : Tables) (k page end : ℕ) (ts : Rows) (next key : ℕ) → shown ss ≡ s → tables_of ss k ≡ ts → IsFirstIn ts page end next key → IsNextIn s k page end next × (key_of s k next ≡ Some key)
next_found ss s k page end ts next key view is h =
    let shows : key_of s k next ≡ Some key = found_in ss s k next ts view is ∙ h.shows in (
      record {
        present = ap is_some shows;
        from = h.from;
        before = h.before;
        least = λ other le here. elim (cases_lt other next) [
          | inl lt ↦ absurd (none_at ss s k ts other view is (h.least other le lt) here)
          | inr more ↦ more
        ];
      },
      shows,
    )

pub next_node : (ss : Live) (s : Tables) (k page end : ℕ) (ts : Rows) (r : Option (ℕ × ℕ)) → shown ss ≡ s → tables_of ss k ≡ ts
    → MatchOption r (NoneIn ts page end) (λ found. IsFirstIn ts page end found.0 found.1) → MatchOption r (NonePresentIn s k page end) (λ found. IsNextIn s k page end found.0 × (key_of s k found.0 ≡ Some found.1))
next_node ss s k page end ts None view is h = λ other le lt. none_at ss s k ts other view is (h other le lt)
next_node ss s k page end ts (Some found) view is h = next_found ss s k page end ts found.0 found.1 view is h

pub next_none : (ss : Live) (s : Tables) (k page end : ℕ) (ts : Rows) → shown ss ≡ s → tables_of ss k ≡ ts → length ts * table_pages ≤ end → NoneIn ts page end → NonePresentFrom s k page
next_none ss s k page end ts view is fits h = λ other le. none_at ss s k ts other view is (elim (cases_lt other end) [
  | inl lt ↦ h other le lt
  | inr more ↦ past_entry ts other (omega (arith, fits, more))
])

pub next_from : (ss : Live) (s : Tables) (k page end : ℕ) (ts : Rows) (next key : ℕ) → shown ss ≡ s → tables_of ss k ≡ ts → IsFirstIn ts page end next key → IsNextPresent s k page next
next_from ss s k page end ts next key view is h =
    let n : IsNextIn s k page end next = (next_found ss s k page end ts next key view is h).0 in
    record { present = n.present; from = n.from; least = n.least }

-- the next table that is there
pub table_in : (ss : Live) (s : Tables) (k page end : ℕ) (ts : Rows) (high : ℕ) (keys : List (Option ℕ)) → shown ss ≡ s → tables_of ss k ≡ ts → length ts ≤ space_tables → IsTableFrom ts page end high → row ts high ≡ keys
    → IsTableIn s k page end (high * table_pages) keys
table_in ss s k page end ts high keys view is full h at = record {
  shows = λ low lt.
      let a : (high * table_pages + low) / table_pages ≡ high = omega (arith, lt) in
      let b : (high * table_pages + low) % table_pages ≡ low = omega (arith, lt) in
      found_in ss s k (high * table_pages + low) ts view is ∙ (λ i. slice_index_or (row ts (a i)) (b i) None) ∙ ap (λ (z : List (Option ℕ)). slice_index_or z low None) at;
  whole = ap length (sym at) ∙ h.whole;
  fits = omega (arith, h.within, full);
  from = omega (arith, h.from);
  before = h.before;
  least = λ other le lt. none_at ss s k ts other view is (h.least other le lt);
}

pub keeps_same : (a b : Live) (s : Tables) → shown a ≡ s → ((p : ℕ × ℕ) → is_there b p ≡ is_there a p) → KeepsRoom s (shown b)
keeps_same a b s view h = keeps a b s view (λ p t. h p ∙ t)

-- a space has come

-- with no tables, so that each space has the tables that it had
pub tables_push : (ss : Live) (k : ℕ) (v : Vec (List (Option ℕ)) Global) → v.items ≡ [] → (q : ℕ) → tables_of (ss ++ (k, v) ∷ []) q ≡ tables_of ss q
tables_push [] k v none q = decided (nat_eq k q) (λ t. ap (λ b. cond b v.items []) t ∙ none) (λ f. ap (λ b. cond b v.items []) f)
tables_push (s ∷ ss) k v none q = ap (cond (nat_eq s.0 q) s.1.items) (tables_push ss k v none q)

numbers_push : (ss : Live) (k : ℕ) (v : Vec (List (Option ℕ)) Global) → numbers (ss ++ (k, v) ∷ []) ≡ numbers ss ++ k ∷ []
numbers_push [] k v = refl
numbers_push (s ∷ ss) k v = ap (λ l. s.0 ∷ l) (numbers_push ss k v)

pub has_push : (ss : Live) (k : ℕ) (v : Vec (List (Option ℕ)) Global) (q : ℕ) → has (ss ++ (k, v) ∷ []) q ≡ (has ss q || nat_eq k q)
has_push [] k v q = or_none (nat_eq k q)
  where
    or_none : (b : Bool) → (b || false) ≡ b
    or_none true = refl
    or_none false = refl
has_push (s ∷ ss) k v q = ap (λ b. nat_eq s.0 q || b) (has_push ss k v q) ∙ or_along (nat_eq s.0 q) (has ss q) (nat_eq k q)
  where
    or_along : (a b c : Bool) → (a || (b || c)) ≡ ((a || b) || c)
    or_along true b c = refl
    or_along false b c = refl

once_push : (ss : Live) (k : ℕ) (v : Vec (List (Option ℕ)) Global) → has ss k ≡ false → IsOnce ss → IsOnce (ss ++ (k, v) ∷ [])
once_push [] k v none h = (refl, tt)
once_push (s ∷ ss) k v none h = decided (nat_eq s.0 k)
    (λ t. absurd (let e : true ≡ false = sym (ap (λ b. b || has ss k) t) ∙ none in cc))
    (λ f. (has_push ss k v s.0 ∙ ap (λ b. b || nat_eq k s.0) h.0 ∙ eq_no k s.0 (λ e. ne_of s.0 k f (sym e)), once_push ss k v (sym (ap (λ b. b || has ss k) f) ∙ none) h.1))

pub laid_push : (ss : Live) (k : ℕ) (v : Vec (List (Option ℕ)) Global) → has ss k ≡ false → IsLaid ss → v.items ≡ [] → IsLaid (ss ++ (k, v) ∷ [])
laid_push ss k v new l none = grind (arith, once_push, tables_push)

pub pages_push : (ss : Live) (s : Tables) (k : ℕ) (v : Vec (List (Option ℕ)) Global) → shown ss ≡ s → v.items ≡ [] → (shown (ss ++ (k, v) ∷ [])).pages ≡ s.pages
pages_push ss s k v view none = pages_kept ss (ss ++ (k, v) ∷ []) s view (λ p. ap (λ (ts : Rows). entry ts p.1) (tables_push ss k v none p.0))

pub there_push : (ss : Live) (k : ℕ) (v : Vec (List (Option ℕ)) Global) → v.items ≡ [] → (p : ℕ × ℕ) → is_there (ss ++ (k, v) ∷ []) p ≡ is_there ss p
there_push ss k v none p = ap (λ (ts : Rows). is_made ts p.1) (tables_push ss k v none p.0)

pub spaces_push : (ss : Live) (s : Tables) (k : ℕ) (v : Vec (List (Option ℕ)) Global) → shown ss ≡ s → (shown (ss ++ (k, v) ∷ [])).spaces ≡ set.insert s.spaces k
spaces_push ss s k v view =
    ap (λ (ks : List ℕ). set.from_list {R = nat_cmp} ks) (numbers_push ss k v) ∙ set.from_list_push nat_cmp_total nat_cmp-IsAntisymmetric (numbers ss) k ∙ ap (λ (t : Tables). set.insert t.spaces k) view

-- a space that is there is added by nothing, and one that isn't there is removed by nothing

pub set_same : (s : set.FinSet nat_cmp) (k : ℕ) → set.contains s k ≡ true → set.insert s k ≡ s
set_same s k h = set.same_set nat_cmp_total nat_cmp-IsAntisymmetric _ _ (λ q.
    set.contains-insert nat_cmp_total s k q
    ∙ elim (eq_by_cmp nat_cmp q k) as (λ b. eq_by_cmp nat_cmp q k ≡ b → (b || set.contains s q) ≡ set.contains s q) [
      | true ↦ λ t. sym (ap (set.contains s) (nat_cmp-IsAntisymmetric q k (is_equal (nat_cmp q k) t)) ∙ h)
      | false ↦ λ _. refl
    ] refl)

pub set_without : (s : set.FinSet nat_cmp) (k : ℕ) → set.contains s k ≡ false → set.remove s k ≡ s
set_without s k h = set.same_set nat_cmp_total nat_cmp-IsAntisymmetric _ _ (λ q.
    set.contains-remove nat_cmp_total s k q
    ∙ elim (eq_by_cmp nat_cmp q k) as (λ b. eq_by_cmp nat_cmp q k ≡ b → (not b && set.contains s q) ≡ set.contains s q) [
      | true ↦ λ t. sym (ap (set.contains s) (nat_cmp-IsAntisymmetric q k (is_equal (nat_cmp q k) t)) ∙ h)
      | false ↦ λ _. refl
    ] refl)

-- a space has gone

abbrev pub left : ℕ → Live → Live
left k ss = filter (λ (s : Space). not (s.0 == k)) ss

pub tables_left : (ss : Live) (k q : ℕ) → tables_of (left k ss) q ≡ cond (q == k) [] (tables_of ss q)
tables_left [] k q = decided (q == k) (λ t. sym (ap (λ b. cond {A = Rows} b [] []) t)) (λ f. sym (ap (λ b. cond {A = Rows} b [] []) f))
tables_left (s ∷ ss) k q =
    decided (s.0 == k)
    (λ t. ap (λ b. tables_of (cond (not b) (s ∷ left k ss) (left k ss)) q) t ∙ tables_left ss k q
    ∙ decided (q == k)
    (λ u. ap (λ b. cond b [] (tables_of ss q)) u ∙ sym (ap (λ b. cond b [] (cond (nat_eq s.0 q) s.1.items (tables_of ss q))) u))
    (λ u. ap (λ b. cond b [] (tables_of ss q)) u
    ∙ sym (ap (λ b. cond b s.1.items (tables_of ss q)) (eq_no s.0 q (λ e. let g : q ≡ k = sym e ∙ eq_of s.0 k t in ne_of q k u g)))
    ∙ sym (ap (λ b. cond b [] (cond (nat_eq s.0 q) s.1.items (tables_of ss q))) u)))
    (λ f. ap (λ b. tables_of (cond (not b) (s ∷ left k ss) (left k ss)) q) f
    ∙ ap (cond (nat_eq s.0 q) s.1.items) (tables_left ss k q)
    ∙ decided (q == k)
    (λ u. ap (λ b. cond (nat_eq s.0 q) s.1.items (cond b [] (tables_of ss q))) u
    ∙ ap (λ b. cond b s.1.items []) (eq_no s.0 q (λ e. let g : s.0 ≡ k = e ∙ eq_of q k u in ne_of s.0 k f g))
    ∙ sym (ap (λ b. cond b [] (cond (nat_eq s.0 q) s.1.items (tables_of ss q))) u))
    (λ u. ap (λ b. cond (nat_eq s.0 q) s.1.items (cond b [] (tables_of ss q))) u
    ∙ sym (ap (λ b. cond b [] (cond (nat_eq s.0 q) s.1.items (tables_of ss q))) u)))

pub set_has : (s : set.FinSet nat_cmp) (k : ℕ) → set.contains (set.insert s k) k ≡ true
set_has s k = set.contains-insert nat_cmp_total s k k ∙ ap (λ r. is_eq r || set.contains s k) (tied_itself nat_cmp_total k)

has_left : (ss : Live) (k q : ℕ) → has (left k ss) q ≡ (not (q == k) && has ss q)
has_left [] k q = decided (q == k) (λ t. sym (ap (λ b. not b && false) t)) (λ f. sym (ap (λ b. not b && false) f))
has_left (s ∷ ss) k q =
    decided (s.0 == k)
    (λ t. ap (λ b. has (cond (not b) (s ∷ left k ss) (left k ss)) q) t ∙ has_left ss k q
    ∙ decided (q == k)
    (λ u. ap (λ b. not b && has ss q) u ∙ sym (ap (λ b. not b && (nat_eq s.0 q || has ss q)) u))
    (λ u. sym (ap (λ b. not (q == k) && (b || has ss q)) (eq_no s.0 q (λ e. let g : q ≡ k = sym e ∙ eq_of s.0 k t in ne_of q k u g)))))
    (λ f. ap (λ b. has (cond (not b) (s ∷ left k ss) (left k ss)) q) f
    ∙ ap (λ b. nat_eq s.0 q || b) (has_left ss k q)
    ∙ decided (q == k)
    (λ u. ap (λ b. nat_eq s.0 q || (not b && has ss q)) u
    ∙ ap (λ b. b || false) (eq_no s.0 q (λ e. let g : s.0 ≡ k = e ∙ eq_of q k u in ne_of s.0 k f g))
    ∙ sym (ap (λ b. not b && (nat_eq s.0 q || has ss q)) u))
    (λ u. ap (λ b. nat_eq s.0 q || (not b && has ss q)) u ∙ sym (ap (λ b. not b && (nat_eq s.0 q || has ss q)) u)))

pub spaces_left : (ss : Live) (s : Tables) (k : ℕ) → shown ss ≡ s → (shown (left k ss)).spaces ≡ set.remove s.spaces k
spaces_left ss s k view = set.same_set nat_cmp_total nat_cmp-IsAntisymmetric _ _ (λ q.
    has_shown (left k ss) q ∙ has_left ss k q
    ∙ decided (q == k)
    (λ t. ap (λ b. not b && has ss q) t ∙ sym (ap (λ b. not b && set.contains s.spaces q) (tied q t)))
    (λ f. ap (λ b. not b && has ss q) f ∙ sym (stands ss s q view) ∙ sym (ap (λ b. not b && set.contains s.spaces q) (loose q f)))
    ∙ sym (set.contains-remove nat_cmp_total s.spaces k q))
  where
    tied : (q : ℕ) → (q == k) ≡ true → eq_by_cmp nat_cmp q k ≡ true
    tied q t = ap (λ r. is_eq (nat_cmp q r)) (sym (eq_of q k t)) ∙ ap is_eq (tied_itself nat_cmp_total q)

    loose : (q : ℕ) → (q == k) ≡ false → eq_by_cmp nat_cmp q k ≡ false
    loose q f = decided (eq_by_cmp nat_cmp q k) (λ t. absurd (ne_of q k f (nat_cmp-IsAntisymmetric q k (is_equal (nat_cmp q k) t)))) (λ u. u)

has_fewer : (ss : Live) (k q : ℕ) → has ss q ≡ false → has (left k ss) q ≡ false
has_fewer ss k q none = has_left ss k q ∙ ap (λ b. not (q == k) && b) none ∙ none_of (not (q == k))
  where
    none_of : (b : Bool) → (b && false) ≡ false
    none_of true = refl
    none_of false = refl

once_left : (ss : Live) (k : ℕ) → IsOnce ss → IsOnce (left k ss)
once_left [] k h = tt
once_left (s ∷ ss) k h = decided (s.0 == k)
    (λ t. subst IsOnce (sym (ap (λ b. cond (not b) (s ∷ left k ss) (left k ss)) t)) (once_left ss k h.1))
    (λ f. subst IsOnce (sym (ap (λ b. cond (not b) (s ∷ left k ss) (left k ss)) f)) (has_fewer ss k s.0 h.0, once_left ss k h.1))

pub laid_left : (ss : Live) (k : ℕ) → IsLaid ss → IsLaid (left k ss)
laid_left ss k l = grind (arith, once_left, tables_left)

pub empties_left : (ss : Live) (s : Tables) (k : ℕ) → shown ss ≡ s → Empties k s (shown (left k ss))
empties_left ss s k view other page = grind (arith, key_shown, tables_left, found)

pub keeps_left : (ss : Live) (s : Tables) (k : ℕ) → shown ss ≡ s → KeepsOthersRoom k s (shown (left k ss))
keeps_left ss s k view = keeps_others ss (left k ss) s k view (λ q ne. tables_left ss k q ∙ ap (λ b. cond b [] (tables_of ss q)) (eq_no q k ne))

pub empty_absent : (ss : Live) (s : Tables) (k : ℕ) → shown ss ≡ s → has ss k ≡ false → Empties k s s
empty_absent ss s k view h other page = decided (other == k)
    (λ t. ap (λ (q : ℕ). key_of s q page) (eq_of other k t) ∙ absent_key ss s k page view h ∙ sym (ap (λ b. cond b None (key_of s other page)) t))
    (λ f. sym (ap (λ b. cond b None (key_of s other page)) f))

pub there_more : {k : ℕ} {ss new : Live} {old ts : Rows} → Wrote k ss new old ts → ((high : ℕ) → is_made old high ≡ true → is_made ts high ≡ true) → (p : ℕ × ℕ) → is_there ss p ≡ true → is_there new p ≡ true
there_more w more p = wrote_all (λ _ a b. is_made a p.1 ≡ true → is_made b p.1 ≡ true) w (more p.1) (λ _ h. h) p.0

pub there_same : {k : ℕ} {ss new : Live} {old ts : Rows} → Wrote k ss new old ts → ((high : ℕ) → is_made ts high ≡ is_made old high) → (p : ℕ × ℕ) → is_there new p ≡ is_there ss p
there_same w same p = wrote_all (λ _ a b. is_made b p.1 ≡ is_made a p.1) w (same p.1) (λ _. refl) p.0

pub same_view : (ss new : Live) (s : Tables) → shown ss ≡ s → ((p : ℕ × ℕ) → key_at new p ≡ key_at ss p) → ((p : ℕ × ℕ) → is_there new p ≡ is_there ss p) → numbers new ≡ numbers ss → shown new ≡ s
same_view ss new s view keys made names = same_shown new ss keys made names ∙ view

-- what the proof of an added space cites
pub ruleset added = (told, stands, set_same, set_has, laid_push, pages_push, spaces_push, there_push, keeps_same)

-- what the proofs of all reads cite
pub ruleset reads = (told, stands, stands_has, found, absent_key, past_entry, get_or_default, all_made, ready_shown, ready_made, first_made, rest_has, pages_clear_none, no_tables_of, set_without, empty_absent)
