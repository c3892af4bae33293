-- Digests in a table: which places are in a slot.
use Rattle.std.proofs.Common.{◌≡◌, ℕ, zero, suc, ◌+◌, ◌-◌, ◌%◌, ◌<◌, ◌≤◌, ◌==◌, ◌⊎◌, Bool, true, false, if◌then◌else◌, List, [], ◌∷◌, ◌++◌, length, get_or, map, drop, refl, sym, ap, subst, ◌∙◌, arith, inl, inr}
use Rattle.std.specs.Prelude.{Contains, slice_set, replicate, Option, is_some}
use Rattle.std.proofs.lemmas.Bool.{false≢true, cases_lt}
use Rattle.std.proofs.lemmas.Bool.Decides.{nat_tests}
use Rattle.std.proofs.lemmas.List.{get_or_append_left, get_or_default, length_push, get_or-replicate}
use Rattle.l4_merges.specs.declared.graph.Seen.{Seen}
use Rattle.l4_merges.specs.declared.table.Table.{Table}
use Rattle.l4_merges.specs.Inside.Tables.{mixed, digest_on, digest_of, slot_at, last_in, AreLinked, CanLink, IsTable, IsIndex, IsNotKnown}

-- SLOTS

same_or_not : (a b : ℕ) → (a ≡ b) ⊎ (a ≡ b → ⊥)
same_or_not a b = elim (a == b) as (λ v. (a == b) ≡ v → (a ≡ b) ⊎ (a ≡ b → ⊥)) [
  | true ↦ λ t. inl (let same : a ≡ b = grind (arith, nat_tests) in same)
  | false ↦ λ f. inr (λ same. grind (arith, nat_tests))
] refl

tests_true : (a b : ℕ) → a ≡ b → (a == b) ≡ true
tests_true a b same = grind (arith, nat_tests)

tests_false : (a b : ℕ) → (a ≡ b → ⊥) → (a == b) ≡ false
tests_false a b other = grind (arith, nat_tests)

module _ (slots : ℕ → ℕ) (slot : ℕ) where
  last_here : (place : ℕ) → slots place ≡ slot → last_in slots slot (suc place) ≡ suc place
  last_here place is = ap (λ (b : Bool). if b then suc place else last_in slots slot place) (tests_true (slots place) slot is)

  last_not : (place : ℕ) → (slots place ≡ slot → ⊥) → last_in slots slot (suc place) ≡ last_in slots slot place
  last_not place other = ap (λ (b : Bool). if b then suc place else last_in slots slot place) (tests_false (slots place) slot other)

  pub last_low : (place : ℕ) → last_in slots slot place ≤ place
  last_low zero = omega arith
  last_low (suc place) = elim (same_or_not (slots place) slot) [
    | inl is ↦ (let e = last_here place is in omega (arith, e))
    | inr other ↦ (let e = last_not place other in let low = last_low place in omega (arith, e, low))
  ]

  -- the last place is one of the slot
  pub last_is : (below place : ℕ) → last_in slots slot below ≡ suc place → (slots place ≡ slot) × (place < below)
  last_is zero place e = absurd (omega (arith, e))
  last_is (suc below) place e = elim (same_or_not (slots below) slot) [
    | inl is ↦ (let here = last_here below is in let same : below ≡ place = omega (arith, e, here) in (subst (λ (p : ℕ). slots p ≡ slot) same is, omega (arith, same)))
    | inr other ↦ (let there = last_is below place (sym (last_not below other) ∙ e) in let lt = there.1 in (there.0, omega (arith, lt)))
  ]

  -- no place behind it is
  pub none_after : (below place : ℕ) → last_in slots slot below ≤ place → place < below → slots place ≡ slot → ⊥
  none_after zero place past lt is = omega (arith, lt)
  none_after (suc below) place past lt is = elim (same_or_not (slots below) slot) [
    | inl here ↦ (let e = last_here below here in omega (arith, e, past, lt))
    | inr other ↦ elim (cases_lt place below) [
      | inl before ↦ none_after below place (let e = last_not below other in omega (arith, e, past)) before is
      | inr at ↦ (let same : place ≡ below = omega (arith, at, lt) in other (subst (λ (p : ℕ). slots p ≡ slot) same is))
    ]
  ]

-- slots that are the same below a place
pub last_same : (slots others : ℕ → ℕ) (slot place : ℕ) → ((k : ℕ) → k < place → slots k ≡ others k) → last_in slots slot place ≡ last_in others slot place
last_same slots others slot zero same = refl
last_same slots others slot (suc place) same = elim (same_or_not (slots place) slot) [
  | inl is ↦ last_here slots slot place is ∙ sym (last_here others slot place (sym (same place (omega arith)) ∙ is))
  | inr other ↦ last_not slots slot place other ∙ last_same slots others slot place (λ k lt. same k (omega (arith, lt))) ∙ sym (last_not others slot place (λ is. other (same place (omega arith) ∙ is)))
]

-- LINKS

pub set_here : (xs : List ℕ) (i x : ℕ) → i < length xs → get_or (slice_set xs i x) i 0 ≡ x
set_here [] i x lt = absurd (omega (arith, lt))
set_here (y ∷ xs) zero x lt = refl
set_here (y ∷ xs) (suc i) x lt = set_here xs i x (omega (arith, lt))

pub set_other : (xs : List ℕ) (i k x : ℕ) → (i ≡ k → ⊥) → get_or (slice_set xs i x) k 0 ≡ get_or xs k 0
set_other [] i k x other = refl
set_other (y ∷ xs) zero zero x other = absurd (other refl)
set_other (y ∷ xs) zero (suc k) x other = refl
set_other (y ∷ xs) (suc i) zero x other = refl
set_other (y ∷ xs) (suc i) (suc k) x other = set_other xs i k x (λ e. other (ap suc e))

pub set_long : (xs : List ℕ) (i x : ℕ) → length (slice_set xs i x) ≡ length xs
set_long [] i x = refl
set_long (y ∷ xs) zero x = refl
set_long (y ∷ xs) (suc i) x = (let rest = set_long xs i x in omega (arith, rest))

pub linked_more : (slots digests earlier : List ℕ) (place slot : ℕ) → CanLink slots digests earlier place → slot ≡ slot_at (length slots) digests place → slot < length slots
    → AreLinked (slice_set slots slot (place + 1)) digests (slice_set earlier place (get_or slots slot 0)) (place + 1)
linked_more slots digests earlier place slot can is low = record {
  last = λ s lt.
      let all = set_long slots slot (place + 1) in
      subst (λ (n : ℕ). get_or (slice_set slots slot (place + 1)) s 0 ≡ last_in (slot_at n digests) s (place + 1)) (sym all)
      (subst (λ (n : ℕ). get_or (slice_set slots slot (place + 1)) s 0 ≡ last_in (slot_at (length slots) digests) s n) (let next : suc place ≡ place + 1 = omega arith in next)
      (elim (same_or_not slot s) [
        | inl same ↦ subst (λ (k : ℕ). get_or (slice_set slots slot (place + 1)) k 0 ≡ last_in (slot_at (length slots) digests) k (suc place)) same
            (set_here slots slot (place + 1) low ∙ (let next : place + 1 ≡ suc place = omega arith in next) ∙ sym (last_here (slot_at (length slots) digests) slot place (sym is)))
        | inr other ↦ set_other slots slot s (place + 1) other ∙ can.linked.last s (omega (arith, lt, all))
            ∙ sym (last_not (slot_at (length slots) digests) s place (λ e. other (is ∙ e)))
      ]));
  before = λ k lt.
      let all = set_long slots slot (place + 1) in
      let within = can.within in
      let long = can.long in
      subst (λ (n : ℕ). get_or (slice_set earlier place (get_or slots slot 0)) k 0 ≡ last_in (slot_at n digests) (slot_at n digests k) k) (sym all)
      (elim (same_or_not place k) [
        | inl same ↦ subst (λ (p : ℕ). get_or (slice_set earlier place (get_or slots slot 0)) p 0 ≡ last_in (slot_at (length slots) digests) (slot_at (length slots) digests p) p) same
            (set_here earlier place (get_or slots slot 0) (omega (arith, within, long)) ∙ can.linked.last slot low ∙ ap (λ (s : ℕ). last_in (slot_at (length slots) digests) s place) is)
        | inr other ↦ set_other earlier place k (get_or slots slot 0) other ∙ can.linked.before k (below k lt other)
      ]);
} where
  below : (k : ℕ) → k < place + 1 → (place ≡ k → ⊥) → k < place
  below k lt other = elim (cases_lt k place) [
    | inl before ↦ before
    | inr at ↦ absurd (other (let same : place ≡ k = omega (arith, at, lt) in same))
  ]

-- the table of a link that a function has written
pub linked_to : (slots digests earlier after later : List ℕ) (place slot old : ℕ) → CanLink slots digests earlier place → slot ≡ get_or digests place 0 % length slots → slot < length slots → old ≡ get_or slots slot 0
    → after ≡ slice_set slots slot (place + 1) → later ≡ slice_set earlier place old → AreLinked after digests later (place + 1)
linked_to slots digests earlier after later place slot old can is low old_is a b =
    subst (λ (l : List ℕ). AreLinked l digests later (place + 1)) (sym a)
    (subst (λ (l : List ℕ). AreLinked (slice_set slots slot (place + 1)) digests l (place + 1)) (sym (b ∙ ap (λ (n : ℕ). slice_set earlier place n) old_is)) (linked_more slots digests earlier place slot can is low))

pub none_linked : (slots digests earlier : List ℕ) → slots ≡ replicate (length slots) 0 → AreLinked slots digests earlier 0
none_linked slots digests earlier none = record {
  last = λ s lt. ap (λ (l : List ℕ). get_or l s 0) none ∙ get_or-replicate (length slots) s 0 0 lt;
  before = λ k lt. absurd (omega (arith, lt));
}

-- one more digest, which is not in a slot yet
pub can_push : (slots digests earlier more later : List ℕ) (digest place : ℕ) → (length slots ≡ 0 → ⊥) → AreLinked slots digests earlier (length digests) → length earlier ≡ length digests → place ≡ length digests
    → more ≡ digests ++ digest ∷ [] → later ≡ earlier ++ 0 ∷ [] → CanLink slots more later place
can_push slots digests earlier more later digest place some linked long at a b =
    subst (λ (p : ℕ). CanLink slots more later p) (sym at)
    (subst (λ (l : List ℕ). CanLink slots l later (length digests)) (sym a)
    (subst (λ (l : List ℕ). CanLink slots (digests ++ digest ∷ []) l (length digests)) (sym b) (record {
      some = positive (length slots) some;
      within = (let size = length_push digests digest in omega (arith, size));
      long = (let size = length_push digests digest in let other = length_push earlier 0 in omega (arith, size, other, long));
      linked = record {
        last = λ s lt. linked.last s lt ∙ last_same (slot_at (length slots) digests) (slot_at (length slots) (digests ++ digest ∷ [])) s (length digests) (λ k below. sym (same k below));
        before = λ k lt.
            get_or_append_left earlier (0 ∷ []) 0 k (omega (arith, lt, long)) ∙ linked.before k lt
            ∙ (λ i. last_in (slot_at (length slots) digests) (sym (same k lt) i) k)
            ∙ last_same (slot_at (length slots) digests) (slot_at (length slots) (digests ++ digest ∷ [])) (slot_at (length slots) (digests ++ digest ∷ []) k) k (λ j below. sym (same j (omega (arith, below, lt))));
      };
    }))) where
      positive : (n : ℕ) → (n ≡ 0 → ⊥) → 0 < n
      positive zero h = absurd (h refl)
      positive (suc n) h = omega arith

      same : (k : ℕ) → k < length digests → slot_at (length slots) (digests ++ digest ∷ []) k ≡ slot_at (length slots) digests k
      same k lt = ap (λ (n : ℕ). n % length slots) (get_or_append_left digests (digest ∷ []) 0 k lt)

-- the link of a digest that was added to a table
pub can_add : (t : Table) (slots digests earlier more later : List ℕ) (digest place : ℕ) → IsTable t → slots ≡ t.slots.items → digests ≡ t.digests.items → earlier ≡ t.earlier.items → place ≡ length digests
    → more ≡ digests ++ digest ∷ [] → later ≡ earlier ++ 0 ∷ [] → (length t.slots.items ≡ 0 → ⊥) → CanLink slots more later place
can_add t slots digests earlier more later digest place table a b d at e f some =
    subst (λ (l : List ℕ). CanLink l more later place) (sym a)
    (can_push t.slots.items t.digests.items t.earlier.items more later digest place some table.linked table.long (at ∙ ap length b) (e ∙ ap (λ (l : List ℕ). l ++ digest ∷ []) b) (f ∙ ap (λ (l : List ℕ). l ++ 0 ∷ []) d))

-- DIGESTS

pub digest_next : (words : List ℕ) (i word digest after : ℕ) → i < length words → word ≡ get_or words i word → after ≡ mixed digest word → digest_on digest (drop i words) ≡ digest_on 0 words
    → digest_on after (drop (i + 1) words) ≡ digest_on 0 words
digest_next words i word digest after lt item is so =
    let next : i + 1 ≡ suc i = omega arith in
    (λ k. digest_on (is k) (drop (next k) words)) ∙ (λ k. digest_on (mixed digest (item k)) (drop (suc i) words)) ∙ sym (ap (λ (l : List ℕ). digest_on digest l) (one_at words i word lt)) ∙ so where
      one_at : (l : List ℕ) (k d : ℕ) → k < length l → drop k l ≡ get_or l k d ∷ drop (suc k) l
      one_at [] k d below = absurd (omega (arith, below))
      one_at (x ∷ l) zero d below = refl
      one_at (x ∷ l) (suc k) d below = one_at l k d (omega (arith, below))

pub digest_end : (words : List ℕ) (i digest : ℕ) → length words ≤ i → digest_on digest (drop i words) ≡ digest_on 0 words → digest ≡ digest_of words
unfolding digest_of
digest_end words i digest past so = ap (λ (l : List ℕ). digest_on digest l) (sym (none words i past)) ∙ so where
  none : (l : List ℕ) (k : ℕ) → length l ≤ k → drop k l ≡ []
  none [] zero p = refl
  none [] (suc k) p = refl
  none (x ∷ l) zero p = absurd (omega (arith, p))
  none (x ∷ l) (suc k) p = none l k (omega (arith, p))

-- LOOKING FOR A KEY

-- the digest of the key at a place
digest_at : (seen : List Seen) (place : ℕ) (one : Seen) → place < length seen → get_or seen place one ≡ one → get_or (map (λ e. digest_of e.key.items) seen) place 0 ≡ digest_of one.key.items
digest_at [] place one lt is = absurd (omega (arith, lt))
digest_at (x ∷ seen) zero one lt is = ap (λ (e : Seen). digest_of e.key.items) is
digest_at (x ∷ seen) (suc place) one lt is = digest_at seen place one (omega (arith, lt)) is

-- no place from here on has the key, and the rest of the slot is below
pub record Looks (table : Table) (seen : List Seen) (key : List ℕ) (next left : ℕ) : Type 0 where
  pub below : ℕ
  pub low : below ≤ left
  pub is : next ≡ last_in (slot_at (length table.slots.items) table.digests.items) (digest_of key % length table.slots.items) below
  pub none : (place : ℕ) (one : Seen) → next ≤ place → place < length seen → get_or seen place one ≡ one → one.key.items ≡ key → ⊥

-- a place with the key is in the key's slot
key_slot : (table : Table) (seen : List Seen) (key : List ℕ) → IsIndex table seen → (place : ℕ) (one : Seen) → place < length seen → get_or seen place one ≡ one → one.key.items ≡ key
    → slot_at (length table.slots.items) table.digests.items place ≡ digest_of key % length table.slots.items
key_slot table seen key index place one lt is same =
    ap (λ (d : ℕ). d % length table.slots.items)
    (ap (λ (l : List ℕ). get_or l place 0) index.digests ∙ digest_at seen place one lt is ∙ ap digest_of same)

long_seen : (seen : List Seen) (digests : List ℕ) → digests ≡ map (λ e. digest_of e.key.items) seen → length digests ≡ length seen
long_seen seen digests is = ap length is ∙ long seen where
  long : (l : List Seen) → length (map (λ e. digest_of e.key.items) l) ≡ length l
  long [] = refl
  long (x ∷ l) = (let rest = long l in omega (arith, rest))

pub looks_first : (table : Table) (seen : List Seen) (key : List ℕ) (digest next left : ℕ) → length seen ≤ left → IsIndex table seen → digest ≡ digest_of key
    → next ≡ last_in (slot_at (length table.slots.items) table.digests.items) (digest % length table.slots.items) (length table.digests.items) → Looks table seen key next left
looks_first table seen key digest next left all index digest_is is =
    let size = long_seen seen table.digests.items index.digests in
    let at : next ≡ last_in (slot_at (length table.slots.items) table.digests.items) (digest_of key % length table.slots.items) (length table.digests.items) =
    is ∙ ap (λ (d : ℕ). last_in (slot_at (length table.slots.items) table.digests.items) (d % length table.slots.items) (length table.digests.items)) digest_is in
    record {
      below = length table.digests.items;
      low = omega (arith, size, all);
      is = at;
      none = λ place one past lt item same.
          none_after (slot_at (length table.slots.items) table.digests.items) (digest_of key % length table.slots.items) (length table.digests.items) place (omega (arith, past, at)) (omega (arith, lt, size))
          (key_slot table seen key index place one lt item same);
    }

-- the place in front of `next` is one of the slot
pub looks_at : (table : Table) (seen : List Seen) (key : List ℕ) (next left : ℕ) → IsIndex table seen → left ≤ length seen → Looks table seen key next left → (next ≡ 0 → ⊥)
    → (next - 1 < length seen) × (next - 1 < length table.digests.items) × (next ≤ left)
looks_at table seen key next left index within l some =
    let size = long_seen seen table.digests.items index.digests in
    let low = l.low in
    let e = l.is in
    let few = last_low (slot_at (length table.slots.items) table.digests.items) (digest_of key % length table.slots.items) l.below in
    (lower next l.below (length seen) left some e few low within, lower next l.below (length table.digests.items) left some e few low (omega (arith, within, size)), omega (arith, e, few, low)) where
      lower : (n below long left : ℕ) {last : ℕ} → (n ≡ 0 → ⊥) → n ≡ last → last ≤ below → below ≤ left → left ≤ long → n - 1 < long
      lower zero below long left some e few low within = absurd (some refl)
      lower (suc n) below long left some e few low within = omega (arith, e, few, low, within)

pub looks_on : (table : Table) (seen : List Seen) (key : List ℕ) (next after left fewer : ℕ) → IsIndex table seen → Looks table seen key next left → (next ≡ 0 → ⊥) → left ≤ fewer + 1
    → ((one : Seen) → get_or seen (next - 1) one ≡ one → one.key.items ≡ key → ⊥)
    → after ≡ last_in (slot_at (length table.slots.items) table.digests.items) (slot_at (length table.slots.items) table.digests.items (next - 1)) (next - 1) → Looks table seen key after fewer
looks_on table seen key zero after left fewer index l some fits not is = absurd (some refl)
looks_on table seen key (suc place) after left fewer index l some fits not is =
    let back : suc place - 1 ≡ place = omega arith in
    let slots = slot_at (length table.slots.items) table.digests.items in
    let slot = digest_of key % length table.slots.items in
    let here = last_is slots slot l.below place (sym l.is) in
    let at : after ≡ last_in slots slot place = is ∙ (λ i. last_in slots (slots (back i)) (back i)) ∙ ap (λ (s : ℕ). last_in slots s place) here.0 in
    let below = here.1 in
    let low = l.low in
    record {
      below = place;
      low = omega (arith, below, low, fits);
      is = at;
      none = λ k one past lt item same. elim (cases_lt k place) [
        | inl before ↦ none_after slots slot place k (omega (arith, past, at)) before (key_slot table seen key index k one lt item same)
        | inr from ↦ elim (cases_lt place k) [
          | inl behind ↦ l.none k one (omega (arith, behind)) lt item same
          | inr to ↦ not one (subst (λ (p : ℕ). get_or seen p one ≡ one) (let e : k ≡ suc place - 1 = omega (arith, from, to) in e) item) same
        ]
      ];
    }

pub looks_nowhere : (table : Table) (seen : List Seen) (key : List ℕ) (next left : ℕ) → Looks table seen key next left → next ≡ 0 → IsNotKnown seen key
looks_nowhere table seen key next left l none one has same = l.none has.0 one (omega (arith, none)) has.1 has.2 same

pub looks_no_more : (table : Table) (seen : List Seen) (key : List ℕ) (next left : ℕ) → Looks table seen key next left → left ≡ 0 → IsNotKnown seen key
looks_no_more table seen key next left l none =
    let low = l.low in
    let e = l.is in
    let few = last_low (slot_at (length table.slots.items) table.digests.items) (digest_of key % length table.slots.items) l.below in
    looks_nowhere table seen key next left l (omega (arith, e, few, low, none))
