-- Pages that go with all that descends from them, one after another.
use Rattle.std.proofs.Common.{◌≡◌, ◌≢◌, ℕ, ◌+◌, ◌<◌, ◌≤◌, true, false, Bool, Option, Some, None, ◌⊎◌, inl, inr, refl, sym, ap, ◌∙◌, subst, option_and_then, option_map, cond, arith}
use Rattle.l4_fpage.specs.Rights.{RightsSet, common, without, all_rights, no_rights}
use Rattle.l4_spaces.specs.Tables.{space_pages}
use Rattle.l4_nodes.specs.declared.Place.{Place as LinkPlace}
use Rattle.l4_links.specs.declared.Standing.{Standing}
use Rattle.l4_links.specs.declared.Entry.{Entry}
use Rattle.l4_links.specs.Leads.{step, steps}
use Rattle.l4_links.specs.Entries.{Entries, Linked, entry_at, parent_of, Descends, IsAt, IsBlank, HavePlaces, AreTrees, Clears, CutsBelow, NoKeyFrom, cut_off}
use Rattle.l4_links.proofs.Stacking.{common_none}
use Rattle.l4_mapdb.specs.Delivering.{IsClean}
use Rattle.l4_forest.specs.Inside.Cuts.{IsPageKey, IsOver, IsCovered, TakesKeys, CutsKeys}
use Rattle.l4_mapdb.proofs.Leading.{leads_on}
use Rattle.l4_mapdb.proofs.Deciding.{same_or, less_or}
use Rattle.l4_forest.proofs.Passing.{Passes}
use Rattle.l4_mapdb.proofs.View.{at_place, some_entry, some_standing, some_parent, stands_at}

-- one key
module _ (top : ℕ) (old : Linked) (clean : IsClean old) (trees : AreTrees old.entries) where
  cut_none : (key : ℕ) → cut_off (entry_at old.entries key) ≡ None
  cut_none key = elim (entry_at old.entries key) as (λ (o : Option Entry). entry_at old.entries key ≡ o → cut_off o ≡ None) [
    | None ↦ λ _. refl
    | Some e ↦ λ is. ap (λ (b : Bool). cond b (Some (record e { stands = None })) None) (clean key e is).unwanted
  ] refl

  -- with what stands under it
  pub takes_tree : (mid new : Entries) → Clears top old.entries mid → entry_at new top ≡ None → ((other : ℕ) → other ≢ top → entry_at new other ≡ entry_at mid other) → TakesKeys (IsOver old.entries true top) old.entries new
  takes_tree mid new clears gone others = record {
    decided = λ key. elim (same_or key top) [
      | inl e ↦ inl (inl (refl, e))
      | inr ne ↦ elim (trees.decided key top) [
        | inl d ↦ inl (inr d)
        | inr n ↦ inr (λ o. elim o [ inl self ↦ ne self.1 | inr d ↦ n d ])
      ]
    ];
    gone = λ key o. elim (same_or key top) [
      | inl e ↦ ap (entry_at new) e ∙ gone
      | inr ne ↦ others key ne ∙ elim o [
        | inl self ↦ absurd (ne self.1)
        | inr d ↦ clears.gone key d ∙ cut_none key
      ]
    ];
    kept = λ key n. (let ne : key ≢ top = λ e. n (inl (refl, e)) in others key ne ∙ clears.kept key ne (λ d. n (inr d)));
  }

  -- and without
  pub takes_below : (new : Entries) → CutsBelow top old.entries new → TakesKeys (IsOver old.entries false top) old.entries new
  takes_below new cuts = record {
    decided = λ key. elim (trees.decided key top) [
      | inl d ↦ inl (inr d)
      | inr n ↦ inr (λ o. elim o [ inl self ↦ not_meant self.0 | inr d ↦ n d ])
    ];
    gone = λ key o. elim o [
      | inl self ↦ absurd (not_meant self.0)
      | inr d ↦ cuts.gone key d ∙ cut_none key
    ];
    kept = λ key n. cuts.kept key (λ d. n (inr d));
  } where
    not_meant : false ≡ true → ⊥
    not_meant h = cc

-- the blank that is left where something was
pub leaves_blank : (top : ℕ) (old mid : Entries) → entry_at old top ≢ None → Clears top old mid → IsBlank mid top
leaves_blank top old mid there clears = record {
  there = λ none. some (entry_at old top) there (sym clears.here ∙ none);
  blank = ap (option_and_then (λ (e : Entry). e.stands)) clears.here ∙ blank (entry_at old top);
} where
  some : (o : Option Entry) → o ≢ None → option_map {T = Entry} (λ e. record e { stands = None }) o ≡ None → ⊥
  some None there none = there refl
  some (Some e) there none = let k : ◌≡◌ {A = Option Entry} (Some (record e { stands = None })) None = none in cc

  blank : (o : Option Entry) → option_and_then (λ (e : Entry). e.stands) (option_map {T = Entry} (λ e. record e { stands = None }) o) ≡ None
  blank None = refl
  blank (Some e) = refl

-- where all rights are taken nothing has one left
pub taken_cuts : (Covered : ℕ → Type 0) (rights : RightsSet) (old new : Entries) → without all_rights rights ≡ no_rights → TakesKeys Covered old new → CutsKeys Covered rights old new
taken_cuts Covered rights old new all takes = record {
  decided = takes.decided;
  none = λ key none. elim (takes.decided key) [ inl c ↦ takes.gone key c | inr n ↦ takes.kept key n ∙ none ];
  gone = λ key e t c at stands empty. takes.gone key c;
  cut = λ key e t c at stands some. absurd (some (ap (common t.rights) all ∙ common_none t.rights));
  kept = takes.kept;
}

-- the pages from the first one on and below this one have gone, where they are meant, with what descends from them
pub record TakenTo (space first end : ℕ) (with_self : Bool) (old cur : Linked) (next : ℕ) : Type 0 where
  pub from : first ≤ next
  pub to : next ≤ end
  pub takes : TakesKeys (IsCovered old.entries space first next with_self) old.entries cur.entries
  pub spaces : cur.spaces ≡ old.spaces

pub taken_first : (space first end : ℕ) (with_self : Bool) (old : Linked) → first ≤ end → TakenTo space first end with_self old old first
taken_first space first end with_self old le = record {
  from = omega arith;
  to = le;
  takes = record {
    decided = λ key. inr (λ c. no_page c.1);
    gone = λ key c. absurd (no_page c.1);
    kept = λ key n. refl;
  };
  spaces = refl;
} where
  no_page : {own : ℕ} → IsPageKey old.entries space first first own → ⊥
  no_page p = omega (arith, p.from, p.below)

module _ (space first end : ℕ) (with_self : Bool) (old cur : Linked) (next : ℕ) (so_far : TakenTo space first end with_self old cur next) where
  abbrev Gone : ℕ → Type 0
  Gone key = IsCovered old.entries space first next with_self key

  -- what is left was there
  left : (key : ℕ) (e : Entry) → entry_at cur.entries key ≡ Some e → (entry_at old.entries key ≡ Some e) × ¬ (Gone key)
  left key e at = elim (so_far.takes.decided key) [
    | inl g ↦ absurd (let k : ◌≡◌ {A = Option Entry} None (Some e) = sym (so_far.takes.gone key g) ∙ at in cc)
    | inr n ↦ (sym (so_far.takes.kept key n) ∙ at, n)
  ]

  -- nothing is marked
  pub taken_clean : IsClean old → IsClean cur
  taken_clean clean key e at = clean key e (left key e at).0

  up_old : (low high : ℕ) → parent_of cur.entries low ≡ Some high → parent_of old.entries low ≡ Some high
  up_old low high up =
      let t = some_parent cur.entries low high up in
      let e = some_standing cur.entries low t.0 t.1 in
      ap (option_and_then (λ (t : Standing). t.parent)) (stands_at old.entries low e.0 t.0 (left low e.0 e.1).0 e.2) ∙ t.2

  leads_old : {low high : ℕ} → Descends cur.entries low high → Descends old.entries low high
  leads_old {low} {high} (step up) = step (up_old low high up)
  leads_old {low} {high} (steps {middle = c} up rest) = steps (up_old low c up) (leads_old rest)

  up_cur : (low high : ℕ) → ¬ (Gone low) → parent_of old.entries low ≡ Some high → parent_of cur.entries low ≡ Some high
  up_cur low high n up = ap (λ (o : Option Entry). option_and_then (λ (t : Standing). t.parent) (option_and_then (λ (e : Entry). e.stands) o)) (so_far.takes.kept low n) ∙ up

  -- what descends from what goes goes
  goes_down : (low high : ℕ) → Descends old.entries low high → Gone high → Gone low
  goes_down low high d g = (
    g.0,
    g.1,
    inr (elim g.2 [
      | inl self ↦ subst (λ (k : ℕ). Descends old.entries low k) self.1 d
      | inr over ↦ leads_on (parent_of old.entries) d over
    ]),
  )

  leads_cur : {low high : ℕ} → ¬ (Gone low) → Descends old.entries low high → Descends cur.entries low high
  leads_cur {low} {high} n (step up) = step (up_cur low high n up)
  leads_cur {low} {high} n (steps {middle = c} up rest) = steps (up_cur low c n up) (leads_cur (λ g. n (goes_down low c (step up) g)) rest)

  over_old : (key own : ℕ) → IsOver cur.entries with_self own key → IsOver old.entries with_self own key
  over_old key own (inl self) = inl self
  over_old key own (inr d) = inr (leads_old d)

  over_cur : (key own : ℕ) → ¬ (Gone key) → IsOver old.entries with_self own key → IsOver cur.entries with_self own key
  over_cur key own n (inl self) = inl self
  over_cur key own n (inr d) = inr (leads_cur n d)

  -- what goes with a page that has gone has gone
  gone_with : (own key : ℕ) → Gone own → IsOver old.entries with_self own key → Gone key
  gone_with own key g (inl self) = subst (λ (k : ℕ). Gone k) (sym self.1) g
  gone_with own key g (inr d) = goes_down key own d g

  still_at : (own page : ℕ) → ¬ (Gone own) → IsAt old.entries (record { space = space; page = page }) own → IsAt cur.entries (record { space = space; page = page }) own
  still_at own page n at = ap (option_map {T = Entry} (λ e. e.place)) (so_far.takes.kept own n) ∙ at

  -- the key of a page is there
  module _ (page key : ℕ) (at : IsAt cur.entries (record { space = space; page = page }) key) where
    pub taken_there : entry_at cur.entries key ≢ None
    taken_there none =
        let e = some_entry cur.entries (record { space = space; page = page }) key at in
        let k : ◌≡◌ {A = Option Entry} None (Some e.0) = sym none ∙ e.1 in cc

    at_old : IsAt old.entries (record { space = space; page = page }) key
    at_old =
        let e = some_entry cur.entries (record { space = space; page = page }) key at in
        at_place old.entries key e.0 (left key e.0 e.1).0 ∙ ap (λ (p : LinkPlace). Some p) e.2

  -- the next page that isn't passed over
  module _ (page key : ℕ) (have : HavePlaces old) (more : next ≤ page) (less : page < end) (passes : Passes cur.entries space with_self next page) (at : IsAt cur.entries (record { space = space; page = page }) key) where
    apart : (k : ℕ) → IsCovered old.entries space first (page + 1) with_self k → Gone k ⊎ IsOver old.entries with_self key k
    apart k c = elim (so_far.takes.decided k) [
      | inl g ↦ inl g
      | inr n ↦ elim (so_far.takes.decided c.0) [
        | inl g ↦ inl (gone_with c.0 k g c.2)
        | inr m ↦ elim (less_or c.1.page next) [
          | inl before ↦ inl (c.0, record { page = c.1.page; from = c.1.from; below = before; at = c.1.at }, c.2)
          | inr past ↦ elim (less_or c.1.page page) [
            | inl between ↦ absurd (passes c.1.page c.0 k past between (still_at c.0 c.1.page m c.1.at) (over_cur k c.0 n c.2))
            | inr from ↦
                let same : c.1.page ≡ page = omega (arith, from, c.1.below) in
                let one : c.0 ≡ key = have.once (record { space = space; page = page }) c.0 key (subst (λ (p : ℕ). IsAt old.entries (record { space = space; page = p }) c.0) same c.1.at) (at_old page key at) in
                inr (subst (λ (own : ℕ). IsOver old.entries with_self own k) one c.2)
          ]
        ]
      ]
    ]

    together : (k : ℕ) → Gone k ⊎ IsOver old.entries with_self key k → IsCovered old.entries space first (page + 1) with_self k
    together k (inl c) = (c.0, record { page = c.1.page; from = c.1.from; below = omega (arith, c.1.below, more); at = c.1.at }, c.2)
    together k (inr o) = (key, record { page = page; from = omega (arith, so_far.from, more); below = omega arith; at = at_old page key at }, o)

    pub taken_more : (new : Linked) → TakesKeys (IsOver cur.entries with_self key) cur.entries new.entries → new.spaces ≡ cur.spaces → TakenTo space first end with_self old new (page + 1)
    taken_more new takes spaces = record {
      from = omega (arith, so_far.from, more);
      to = omega (arith, less);
      takes = record {
        decided = λ k. elim (so_far.takes.decided k) [
          | inl g ↦ inl (together k (inl g))
          | inr n ↦ elim (takes.decided k) [
            | inl o ↦ inl (together k (inr (over_old k key o)))
            | inr m ↦ inr (λ c. elim (apart k c) [ inl g ↦ n g | inr o ↦ m (over_cur k key n o) ])
          ]
        ];
        gone = λ k c. elim (takes.decided k) [
          | inl o ↦ takes.gone k o
          | inr m ↦ takes.kept k m ∙ elim (so_far.takes.decided k) [
            | inl g ↦ so_far.takes.gone k g
            | inr n ↦ elim (apart k c) [ inl g ↦ absurd (n g) | inr o ↦ absurd (m (over_cur k key n o)) ]
          ]
        ];
        kept = λ k n. takes.kept k (λ o. n (together k (inr (over_old k key o)))) ∙ so_far.takes.kept k (λ g. n (together k (inl g)));
      };
      spaces = spaces ∙ so_far.spaces;
    }

  -- after the last page
  module _ (passes : Passes cur.entries space with_self next end) where
    wider : (k : ℕ) → Gone k → IsCovered old.entries space first end with_self k
    wider k c = (c.0, record { page = c.1.page; from = c.1.from; below = omega (arith, c.1.below, so_far.to); at = c.1.at }, c.2)

    narrower : (k : ℕ) → IsCovered old.entries space first end with_self k → Gone k
    narrower k c = elim (so_far.takes.decided k) [
      | inl g ↦ g
      | inr n ↦ elim (so_far.takes.decided c.0) [
        | inl g ↦ gone_with c.0 k g c.2
        | inr m ↦ elim (less_or c.1.page next) [
          | inl less ↦ (c.0, record { page = c.1.page; from = c.1.from; below = less; at = c.1.at }, c.2)
          | inr more ↦ absurd (passes c.1.page c.0 k more c.1.below (still_at c.0 c.1.page m c.1.at) (over_cur k c.0 n c.2))
        ]
      ]
    ]

    pub taken_all : TakesKeys (IsCovered old.entries space first end with_self) old.entries cur.entries
    taken_all = record {
      decided = λ k. elim (so_far.takes.decided k) [ inl g ↦ inl (wider k g) | inr n ↦ inr (λ c. n (narrower k c)) ];
      gone = λ k c. so_far.takes.gone k (narrower k c);
      kept = λ k n. so_far.takes.kept k (λ g. n (wider k g));
    }

-- a space whose pages have gone has no key
pub taken_empty : (space : ℕ) (old : Linked) (new : Entries) → HavePlaces old → TakesKeys (IsCovered old.entries space 0 space_pages true) old.entries new → NoKeyFrom new space 0
taken_empty space old new have takes other le has =
    let e = some_entry new (record { space = space; page = other }) has.0 has.1 in
    elim (takes.decided has.0) [
      | inl c ↦ (let k : ◌≡◌ {A = Option Entry} None (Some e.0) = sym (takes.gone has.0 c) ∙ e.1 in cc)
      | inr n ↦
          let was : entry_at old.entries has.0 ≡ Some e.0 = sym (takes.kept has.0 n) ∙ e.1 in
          let fits : other < space_pages = subst (λ (p : LinkPlace). p.page < space_pages) e.2 (have.fits has.0 e.0 was) in
          n (has.0, record { page = other; from = le; below = fits; at = at_place old.entries has.0 e.0 was ∙ ap (λ (p : LinkPlace). Some p) e.2 }, inl (refl, refl))
    ]
