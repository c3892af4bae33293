-- What is due comes part by part.
use Rattle.std.proofs.Common.{◌≡◌, ◌≢◌, ℕ, ◌-◌, ◌<◌, ◌≤◌, ◌⊎◌, Option, Some, None, refl, sym, ap, ◌∙◌, inl, inr, arith}
use Rattle.std.specs.Option.{option_map, option_and_then}
use Rattle.l4_nodes.specs.declared.Place.{Place}
use Rattle.l4_links.specs.declared.Standing.{Standing}
use Rattle.l4_links.specs.declared.Entry.{Entry}
use Rattle.l4_links.specs.declared.blocks.Pages.{Pages}
use Rattle.l4_links.specs.Entries.{Entries, entry_at, parent_of, IsAt, IsShared, IsBrought, Stays, IsUnder, Brings}
use Rattle.l4_links.specs.Inside.Bringing.{Fits, one}
use Rattle.l4_links.proofs.Writes.{same_some}

-- two parts, of which the second leaves what the first brought
module _ (A B : Option ℕ → Entry → Type 0) (old mid new : Entries) (a : Brings A old mid) (b : Brings B mid new)
    (still : (own : Option ℕ) (e : Entry) (key : ℕ) → A own e → entry_at mid key ≡ Some e → Stays B key e.place) where
  pub brings_joined : Brings (λ own e. A own e ⊎ B own e) old new
  brings_joined = record {
    there = λ own e due. elim due [
      | inl first ↦ let k = a.there own e first in (k.0, k.1, b.kept k.0 e k.2 (still own e k.0 first k.2))
      | inr second ↦ b.there own e second
    ];
    kept = λ key e at s. b.kept key e
        (a.kept key e at (record { unfilled = λ f. s.unfilled (f.0, f.1, inl f.2, f.3); not_given = λ x due. s.not_given x (inl due) }))
        (record { unfilled = λ f. s.unfilled (f.0, f.1, inr f.2, f.3); not_given = λ x due. s.not_given x (inr due) });
    only = λ key e at. elim (b.only key e at) [
      | inl due ↦ inl (due.0, inr due.1, due.2)
      | inr was ↦ elim (a.only key e was.0) [
        | inl due ↦ inl (due.0, inl due.1, due.2)
        | inr first ↦ grind arith
      ]
    ];
  }

-- the same is due by other words
pub brings_as : (A B : Option ℕ → Entry → Type 0) (old new : Entries) → ((own : Option ℕ) (e : Entry) → A own e → B own e) → ((own : Option ℕ) (e : Entry) → B own e → A own e) → Brings A old new → Brings B old new
brings_as A B old new on back a = record {
  there = λ own e due. a.there own e (back own e due);
  kept = λ key e at s. a.kept key e at (record { unfilled = λ f. s.unfilled (f.0, f.1, on f.0 f.1 f.2, f.3); not_given = λ x due. s.not_given x (on (Some key) x due) });
  only = λ key e at. elim (a.only key e at) [
    | inl due ↦ inl (due.0, on due.0 e due.1, due.2)
    | inr was ↦ inr (was.0, record { unfilled = λ f. was.1.unfilled (f.0, f.1, back f.0 f.1 f.2, f.3); not_given = λ x due. was.1.not_given x (back (Some key) x due) })
  ];
}

-- nothing is due
pub brings_none : (Due : Option ℕ → Entry → Type 0) (s : Entries) → ((own : Option ℕ) (e : Entry) → ¬ (Due own e)) → Brings Due s s
brings_none Due s nothing = grind arith

-- One entry more: it is under the key now, and no other key was of its place. If it is to be under its own key, that was the key.
module _ (key : ℕ) (own : Option ℕ) (under : IsUnder own key) (e : Entry) (old new : Entries) (here : entry_at new key ≡ Some e) (others : (k : ℕ) → k ≢ key → entry_at new k ≡ entry_at old k)
    (leaves : (x : Entry) → entry_at old key ≡ Some x → (own ≡ Some key) ⊎ (x.place ≡ e.place)) (alone : (k : ℕ) → IsAt old e.place k → k ≡ key) (either : (a b : ℕ) → (a ≡ b) ⊎ (a ≢ b)) where
  pub brings_one : Brings (λ o x. (o ≡ own) × (x ≡ e)) old new
  brings_one = grind arith

-- what one of these keys brings is of another part's pages, if those are
abbrev pub rebound : (of : Pages) (first end low high : ℕ) (s : Entries) (own : Option ℕ) (e : Entry) (b : IsBrought of first end s own e) → low ≤ b.shared.entry.place.page → b.shared.entry.place.page < high → IsBrought of low high s own e
rebound of first end low high s own e b from before = record {
  key = b.key;
  shared = record { entry = b.shared.entry; at = b.shared.at; space = b.shared.space; from = from; before = before; standing = b.shared.standing; stands = b.shared.stands; shares = b.shared.shares };
  place = b.place;
  how = b.how;
}

-- some item that moves pages from the one space to the other brings the entry
pub record Comes (from to : ℕ) (s : Entries) (own : Option ℕ) (e : Entry) : Type 0 where
  pub of : Pages
  pub first : ℕ
  pub end : ℕ
  pub source : of.source.space ≡ from
  pub target : of.target.space ≡ to
  pub brought : IsBrought of first end s own e

-- some has come, and more pages are to move
module _ (from to : ℕ) (differ : from ≢ to) (old now : Entries) (A : Option ℕ → Entry → Type 0) (a : Brings A old now) (comes : (own : Option ℕ) (e : Entry) → A own e → Comes from to old own e) where
  pub came_to : (own : Option ℕ) (e : Entry) → A own e → e.place.space ≡ to
  came_to own e due = let c = comes own e due in ap (λ (p : Place). p.space) c.brought.place ∙ c.target

  module _ (of : Pages) (first end : ℕ) (source : of.source.space ≡ from) (target : of.target.space ≡ to)
      (apart : (own other : Option ℕ) (e f : Entry) → A own e → IsBrought of first end old other f → e.place ≢ f.place) (keys : (key : ℕ) (e : Entry) → A (Some key) e → ¬ (IsShared of first end old key)) where
    abbrev shared_on : (key : ℕ) → IsShared of first end old key → IsShared of first end now key
    shared_on key h = record {
      entry = h.entry;
      at = a.kept key h.entry h.at (record { unfilled = λ f. differ (sym source ∙ sym h.space ∙ ap (λ (p : Place). p.space) (sym f.3) ∙ came_to f.0 f.1 f.2); not_given = λ x due. keys key x due h });
      space = h.space;
      from = h.from;
      before = h.before;
      standing = h.standing;
      stands = h.stands;
      shares = h.shares;
    }

    pub was_there : (key : ℕ) (e : Entry) → entry_at now key ≡ Some e → e.place.space ≡ of.source.space → entry_at old key ≡ Some e
    was_there key e at space = grind arith

    abbrev shared_back : (key : ℕ) → IsShared of first end now key → IsShared of first end old key
    shared_back key h = record { entry = h.entry; at = was_there key h.entry h.at h.space; space = h.space; from = h.from; before = h.before; standing = h.standing; stands = h.stands; shares = h.shares }

    abbrev pub part_on : (own : Option ℕ) (e : Entry) → IsBrought of first end old own e → IsBrought of first end now own e
    part_on own e b = record { key = b.key; shared = shared_on b.key b.shared; place = b.place; how = b.how }

    abbrev pub part_back : (own : Option ℕ) (e : Entry) → IsBrought of first end now own e → IsBrought of first end old own e
    part_back own e b = record { key = b.key; shared = shared_back b.key b.shared; place = b.place; how = b.how }

    -- what comes next leaves what has come
    next_leaves : (own : Option ℕ) (e : Entry) (key : ℕ) → A own e → entry_at now key ≡ Some e → Stays (IsBrought of first end old) key e.place
    next_leaves own e key due at = record {
      unfilled = λ f. apart own f.0 e f.1 due f.2 (sym f.3);
      not_given = λ x b. elim b.how [
        | inl child ↦ (let z : ◌≡◌ {A = Option ℕ} (Some key) None = child.1 in cc)
        | inr given ↦
            let h = shared_on b.key b.shared in
            let same : b.shared.entry ≡ e = same_some (sym h.at ∙ ap (entry_at now) (sym (same_some given.1)) ∙ at) in
            differ (sym source ∙ sym b.shared.space ∙ ap (λ (y : Entry). y.place.space) same ∙ came_to own e due)
      ];
    }

    -- with it, all of it has come
    pub next_brings : (new : Entries) → Brings (IsBrought of first end now) now new → Brings (λ own e. A own e ⊎ IsBrought of first end old own e) old new
    next_brings new b = brings_joined A (IsBrought of first end old) old now new a (brings_as (IsBrought of first end now) (IsBrought of first end old) now new part_back part_on b) next_leaves

    -- it still fits
    pub next_fits : Fits (IsBrought of first end old) old → Fits (IsBrought of first end now) now
    next_fits fits own y b key was at place = elim (a.only key was at) [
      | inl came ↦ absurd (apart came.0 own was y came.1 (part_back own y b) place)
      | inr kept ↦
          let f = fits own y (part_back own y b) key was kept.0 place in (
            f.0,
            record {
              plain = f.1.plain;
              parent = f.1.parent;
              leaf = λ low up. under low up (f.1.leaf low) (λ z at_z. ap (λ (x : Entry). x.place.space) (same_some (sym at_z ∙ kept.0)) ∙ ap (λ (p : Place). p.space) (place ∙ b.place));
            },
          )
    ]
      where
        under : (low : ℕ) → parent_of now low ≡ Some key → parent_of old low ≢ Some key → ((z : Entry) → entry_at old key ≡ Some z → z.place.space ≡ of.target.space) → ⊥
        under low up leaf at_key = over (entry_at now low) refl up
          where
            over : (o : Option Entry) → entry_at now low ≡ o → option_and_then (λ (t : Standing). t.parent) (option_and_then (λ (x : Entry). x.stands) o) ≡ Some key → ⊥
            over None is z = let w : ◌≡◌ {A = Option ℕ} None (Some key) = z in cc
            over (Some x) is z = elim (a.only low x is) [
              | inl came ↦ grind arith
              | inr kept ↦ leaf (ap (λ (w : Option Entry). option_and_then (λ (t : Standing). t.parent) (option_and_then (λ (y : Entry). y.stands) w)) kept.0 ∙ z)
            ]

    -- a place with a key keeps one, so no more places lack one than before
    pub next_lacking : (own : Option ℕ) (e : Entry) → IsBrought of first end now own e → ((key : ℕ) → ¬ (IsAt now e.place key)) → (key : ℕ) → ¬ (IsAt old e.place key)
    next_lacking own e b absent key at = over (entry_at old key) refl at
      where
        over : (o : Option Entry) → entry_at old key ≡ o → option_map {T = Entry} (λ x. x.place) o ≡ Some e.place → ⊥
        over None was z = let w : ◌≡◌ {A = Option Place} None (Some e.place) = z in cc
        over (Some x) was z =
            let same : x.place ≡ e.place = same_some z in
            let stays : Stays A key x.place = grind arith in
            absent key (ap (option_map {T = Entry} (λ w. w.place)) (a.kept key x was stays) ∙ ap (λ (p : Place). Some p) same)
