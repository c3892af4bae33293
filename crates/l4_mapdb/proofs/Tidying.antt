-- Pages are cut and lose their marks one after another.
use Rattle.std.proofs.Common.{◌≡◌, ◌↔◌, ◌≢◌, ℕ, ◌+◌, ◌<◌, ◌≤◌, ◌^◌, false, IsTrue, List, Option, Some, None, option_and_then, refl, sym, ap, ◌∙◌, subst, slice_get, inl, inr, ◌⊎◌, arith}
use Rattle.std.proofs.lemmas.Bool.{cases_lt}
use Rattle.l4_fpage.specs.Rights.{RightsSet, has}
use Rattle.l4_nodes.specs.declared.Place.{Place as LinkPlace}
use Rattle.l4_links.specs.declared.Standing.{Standing}
use Rattle.l4_links.specs.declared.Entry.{Entry}
use Rattle.l4_links.specs.Entries.{Entries, entry_at, standing_at, IsAt, IsKeyOf, HasKey, SetsPlain, SetsWanted, IsNextKeyIn}
use Rattle.l4_msg.specs.declared.items.ItemMove.{ItemMove}
use Rattle.l4_mapdb.specs.Inside.Cutting.{bare, tidied, IsGrantedAt, Capped, AtOneOf, Tidies}
use Rattle.l4_mapdb.specs.Inside.Messages.{InPages, OfItem, OfItems}
use Rattle.l4_mapdb.proofs.Caps.{base, base_kept, base_stands, bare_tidied, below_base, place_same, granted_same, leaves_none, leaves_as}
use Rattle.l4_mapdb.proofs.View.{some_standing}
use Rattle.l4_mapdb.proofs.Moves.{one_by}

tidied_stand : (e : Entry) (t : Option Standing) → tidied (tidied (Some (record e { stands = t }))) ≡ tidied (Some (record e { stands = t }))
tidied_stand e None = refl
tidied_stand e (Some t) = refl

-- what has lost its marks has none to lose
pub tidied_twice : (o : Option Entry) → tidied (tidied o) ≡ tidied o
tidied_twice None = refl
tidied_twice (Some e) = tidied_stand e e.stands

pub tidies_nothing : (Touched : LinkPlace → Type 0) (s : Entries) → ((key : ℕ) → ¬ (AtOneOf Touched s key)) → Tidies Touched s s
tidies_nothing Touched s none = record {
  each = λ key. inl refl;
  here = λ key touched. absurd (none key touched);
  rights = leaves_none (AtOneOf Touched s) s (λ top cap touched _. none top touched);
}

pub tidies_as : (A B : LinkPlace → Type 0) (old new : Entries) → ((key : ℕ) → AtOneOf A old key ↔ AtOneOf B old key) → Tidies A old new → Tidies B old new
tidies_as A B old new how a = record {
  each = λ key. elim (a.each key) [ inl same ↦ inl same | inr tidy ↦ inr ((how key).0 tidy.0, tidy.1) ];
  here = λ key touched. a.here key ((how key).1 touched);
  rights = leaves_as (AtOneOf A old) (AtOneOf B old) old new how a.rights;
}

module _ (A : LinkPlace → Type 0) (old new : Entries) (a : Tidies A old new) where
  pub bases : (key : ℕ) → base (entry_at new key) ≡ base (entry_at old key)
  bases key = base_kept (entry_at old key) (entry_at new key) (AtOneOf A old key) (a.each key)

  -- what has a key had it before, and what is noted was noted before
  at_back : (place : LinkPlace) (key : ℕ) → IsAt new place key → IsAt old place key
  at_back place key at = grind arith

  granted_back : (key : ℕ) (cap : RightsSet) → IsGrantedAt new key cap → IsGrantedAt old key cap
  granted_back key cap granted = grind arith

pub tidies_more : (A B : LinkPlace → Type 0) (old middle new : Entries) → Tidies A old middle → Tidies B middle new → Tidies (λ p. A p ⊎ B p) old new
tidies_more A B old middle new a b = record {
  each = λ key. grind arith;
  here = λ key touched. grind (arith, inr, once, inl, place_same, ap);
  rights = λ key t u at_t at_u right.
      let e = some_standing old key t at_t in
      let m = base_stands (entry_at old key) (entry_at middle key) (bases A old middle a key) e.0 t e.1 e.2 in
      let at_m : standing_at middle key ≡ Some m.1 = ap (option_and_then (λ (x : Entry). x.stands)) m.2 ∙ m.3 in
      let first = a.rights key t m.1 at_t at_m right in
      let second = b.rights key m.1 u at_m at_u right in (
        λ h.
            let both = first.0 (second.0 h).0 in (
              both.0,
              λ top cap done granted below. elim done.1 [
                | inl in_a ↦ both.1 top cap (done.0, in_a, done.2) granted below
                | inr in_b ↦ elim (a.each top) [
                  | inr tidy ↦ both.1 top cap tidy.0 granted below
                  | inl same ↦ (second.0 h).1 top cap (done.0, in_b, place_same (entry_at old top) (entry_at middle top) same ∙ done.2) (granted_same (entry_at old top) (entry_at middle top) same ∙ granted)
                      (below_base old middle (bases A old middle a) key top below)
                ]
              ],
            ),
        λ h. second.1 (
          first.1 (h.0, λ top cap d granted below. h.1 top cap (d.0, inl d.1, d.2) granted below),
          λ top cap d granted below. h.1 top cap (d.0, inr d.1, at_back A old middle a d.0 top d.2) (granted_back A old middle a top cap granted) (below_base middle old (λ k. sym (bases A old middle a k)) key top below),
        ),
      );
}
  where
    -- what has lost its marks has none to lose
    once : (key : ℕ) → bare (entry_at middle key) ≡ tidied (bare (entry_at old key)) → bare (entry_at new key) ≡ tidied (bare (entry_at old key))
    once key tidy = elim (b.each key) [ inl same ↦ same ∙ tidy | inr more ↦ more.1 ∙ ap tidied tidy ∙ tidied_twice (bare (entry_at old key)) ]

-- one key has been cut and has lost its marks
pub tidies_key : (place : LinkPlace) (key : ℕ) (old middle new : Entries) → IsKeyOf old place key → Capped (λ other. other ≡ key) old middle → entry_at new key ≡ tidied (entry_at middle key)
    → ((other : ℕ) → other ≢ key → entry_at new other ≡ entry_at middle other) → Tidies (λ p. p ≡ place) old new
tidies_key place key old middle new one capped gone others = record {
  each = λ k. grind arith;
  here = λ k touched. tidy k (own k touched);
  rights = λ k t u at_t at_u right.
      let e = some_standing old k t at_t in
      let m = base_stands (entry_at old k) (entry_at middle k) (base_kept (entry_at old k) (entry_at middle k) (k ≡ key) (inl (capped.same k))) e.0 t e.1 e.2 in
      let at_m : standing_at middle k ≡ Some m.1 = ap (option_and_then (λ (x : Entry). x.stands)) m.2 ∙ m.3 in
      let left = leaves_as (λ other. other ≡ key) (AtOneOf (λ p. p ≡ place) old) old middle (λ top. (λ e. (place, refl, (one top).0 e), own top)) capped.rights k t m.1 at_t at_m right in
      let same : u.rights ≡ m.1.rights = grind arith in
      (λ h. left.0 (subst (λ (r : RightsSet). IsTrue (has r right)) same h), λ h. subst (λ (r : RightsSet). IsTrue (has r right)) (sym same) (left.1 h));
}
  where
    own : (k : ℕ) → AtOneOf (λ p. p ≡ place) old k → k ≡ key
    own k touched = (one k).1 (subst (λ (p : LinkPlace). IsAt old p k) touched.1 touched.2)

    tidy : (k : ℕ) → k ≡ key → bare (entry_at new k) ≡ tidied (bare (entry_at old k))
    tidy k e = subst (λ (x : ℕ). bare (entry_at new x) ≡ tidied (bare (entry_at old x))) (sym e) (ap bare gone ∙ bare_tidied (entry_at middle key) ∙ ap tidied (capped.same key))

pub still_there : (o n : Option Entry) → bare n ≡ bare o → o ≢ None → n ≢ None
still_there None n same there none = there refl
still_there (Some e) None same there none = let z : ◌≡◌ {A = Option Entry} None (bare (Some e)) = same in cc
still_there (Some e) (Some f) same there none = cc

-- a blank goes
pub tidied_blank : (old new : Entries) (key : ℕ) → standing_at old key ≡ None → entry_at new key ≡ None → entry_at new key ≡ tidied (entry_at old key)
tidied_blank old new key blank gone = grind arith

-- what stands loses its marks, and then the page isn't wanted
pub tidied_plain : (old middle new : Entries) (key : ℕ) (t : Standing) → standing_at old key ≡ Some t → SetsPlain key old middle → SetsWanted key false middle new → entry_at new key ≡ tidied (entry_at old key)
tidied_plain old middle new key t stands plains wants = grind arith

-- the pages of a block

pub pages_first : (space first : ℕ) (s : Entries) → Tidies (InPages space first first) s s
pages_first space first s = tidies_nothing (InPages space first first) s (λ key h. let a = h.1.1 in let b = h.1.2 in absurd (omega (arith, a, b)))

-- pages without a key have nothing to lose
pub pages_on : (space first start end : ℕ) (old cur : Entries) → start ≤ end → ((other : ℕ) → start ≤ other → other < end → ¬ (HasKey cur space other)) → Tidies (InPages space first start) old cur → Tidies (InPages space first end) old cur
pages_on space first start end old cur le none t = tidies_as (InPages space first start) (InPages space first end) old cur (λ key. (there key, back key)) t
  where
    there : (key : ℕ) → AtOneOf (InPages space first start) old key → AtOneOf (InPages space first end) old key
    there key h = let lt = h.1.2 in (h.0, (h.1.0, h.1.1, omega (arith, lt, le)), h.2)

    back : (key : ℕ) → AtOneOf (InPages space first end) old key → AtOneOf (InPages space first start) old key
    back key h = elim (cases_lt h.0.page start) [
      | inl lt ↦ (h.0, (h.1.0, h.1.1, lt), h.2)
      | inr ge ↦ elim (t.each key) [
        | inl same ↦
            let place : ◌≡◌ {A = LinkPlace} h.0 (record { space = space; page = h.0.page }) = λ i. record { space = h.1.0 i; page = h.0.page } in
            absurd (none h.0.page ge h.1.2 (key, place_same (entry_at old key) (entry_at cur key) same ∙ h.2 ∙ ap (λ (p : LinkPlace). Some p) place))
        | inr tidy ↦ tidy.0
      ]
    ]

pub pages_more : (space first start end page : ℕ) (old cur new : Entries) → first ≤ start → IsNextKeyIn cur space start end page → Tidies (λ p. p ≡ record { space = space; page = page }) cur new
    → Tidies (InPages space first start) old cur → Tidies (InPages space first (page + 1)) old new
pages_more space first start end page old cur new begun next here t =
    let least = next.least in
    let from = next.from in
    let so_far : Tidies (InPages space first page) old cur = pages_on space first start page old cur from (λ other ge lt has. let le = least other ge has in absurd (omega (arith, le, lt))) t in
    tidies_as (λ p. InPages space first page p ⊎ (p ≡ record { space = space; page = page })) (InPages space first (page + 1)) old new (λ key. (there key, back key))
    (tidies_more (InPages space first page) (λ p. p ≡ record { space = space; page = page }) old cur new so_far here)
  where
    there : (key : ℕ) → AtOneOf (λ p. InPages space first page p ⊎ (p ≡ record { space = space; page = page })) old key → AtOneOf (InPages space first (page + 1)) old key
    there key h = elim h.1 [
      | inl i ↦ let lt = i.2 in (h.0, (i.0, i.1, omega (arith, lt)), h.2)
      | inr e ↦ let from = next.from in (record { space = space; page = page }, (refl, omega (arith, begun, from), omega arith), subst (λ (p : LinkPlace). IsAt old p key) e h.2)
    ]

    back : (key : ℕ) → AtOneOf (InPages space first (page + 1)) old key → AtOneOf (λ p. InPages space first page p ⊎ (p ≡ record { space = space; page = page })) old key
    back key h = elim (cases_lt h.0.page page) [
      | inl lt ↦ (h.0, inl (h.1.0, h.1.1, lt), h.2)
      | inr ge ↦
          let lt = h.1.2 in
          let same : h.0.page ≡ page = omega (arith, ge, lt) in
          (h.0, inr (λ i. record { space = h.1.0 i; page = same i }), h.2)
    ]

-- the items

pub items_first : (from to : ℕ) (items : List ItemMove) (s : Entries) → Tidies (OfItems from to items 0) s s
items_first from to items s = tidies_nothing (OfItems from to items 0) s (λ key h. let lt = h.1.2 in absurd (omega (arith, lt)))

pub items_more : (from to : ℕ) (items : List ItemMove) (item : ℕ) (by : ItemMove) (old cur middle new : Entries) → slice_get items item ≡ Some by
    → Tidies (InPages from by.mv.source.first (by.mv.source.first + 2 ^ by.mv.source.log)) cur middle → Tidies (InPages to by.mv.target.first (by.mv.target.first + 2 ^ by.mv.target.log)) middle new
    → Tidies (OfItems from to items item) old cur → Tidies (OfItems from to items (item + 1)) old new
items_more from to items item by old cur middle new at sources targets t =
    let both : Tidies (OfItem from to by) cur new =
    tidies_more (InPages from by.mv.source.first (by.mv.source.first + 2 ^ by.mv.source.log)) (InPages to by.mv.target.first (by.mv.target.first + 2 ^ by.mv.target.log)) cur middle new sources targets in
    tidies_as (λ p. OfItems from to items item p ⊎ OfItem from to by p) (OfItems from to items (item + 1)) old new (λ key. (there key, back key))
    (tidies_more (OfItems from to items item) (OfItem from to by) old cur new t both)
  where
    there : (key : ℕ) → AtOneOf (λ p. OfItems from to items item p ⊎ OfItem from to by p) old key → AtOneOf (OfItems from to items (item + 1)) old key
    there key h = (h.0, elim h.1 [ inl o ↦ (let lt = o.2 in (o.0, o.1, omega (arith, lt), o.3, o.4)) | inr o ↦ (item, by, omega arith, at, o) ], h.2)

    back : (key : ℕ) → AtOneOf (OfItems from to items (item + 1)) old key → AtOneOf (λ p. OfItems from to items item p ⊎ OfItem from to by p) old key
    back key h =
        let o = h.1 in
        elim (cases_lt o.0 item) [
          | inl lt ↦ (h.0, inl (o.0, o.1, lt, o.3, o.4), h.2)
          | inr ge ↦
              let lt = o.2 in
              let same : o.0 ≡ item = omega (arith, ge, lt) in
              (h.0, inr (subst (λ (x : ItemMove). OfItem from to x h.0) (one_by items item o.1 by (ap (slice_get items) (sym same) ∙ o.3) at) o.4), h.2)
        ]
