-- Caps of the rights of keys, one after another, and what is left once those without rights have gone.
use Rattle.std.proofs.Common.{◌≡◌, ℕ, ◌+◌, ◌<◌, ◌≤◌, Bool, true, false, ◌&&◌, Option, Some, None, ◌⊎◌, inl, inr, refl, sym, ap, ◌∙◌, subst, option_and_then, option_map, arith}
use Rattle.l4_fpage.specs.Rights.{RightsSet, common}
use Rattle.l4_nodes.specs.declared.Place.{Place as LinkPlace}
use Rattle.l4_links.specs.declared.Standing.{Standing}
use Rattle.l4_links.specs.declared.Entry.{Entry}
use Rattle.l4_links.specs.Leads.{Leads, step, steps}
use Rattle.l4_links.specs.Entries.{Entries, Linked, entry_at, parent_of, Descends, IsAt, HavePlaces, capped}
use Rattle.l4_forest.specs.Inside.Cuts.{IsPageKey, IsOver, IsCovered, CapsKeys}
use Rattle.l4_mapdb.proofs.Deciding.{less_or}
use Rattle.l4_forest.proofs.Passing.{Passes}

-- chains go along equal parents
pub leads_along : (f g : ℕ → Option ℕ) → ((key : ℕ) → f key ≡ g key) → {low high : ℕ} → Leads f low high → Leads g low high
leads_along f g same {low} (step is) = step (sym (same low) ∙ is)
leads_along f g same {low} (steps is rest) = steps (sym (same low) ∙ is) (leads_along f g same rest)

and_twice : (a b : Bool) → ((a && b) && b) ≡ (a && b)
and_twice true true = refl
and_twice true false = refl
and_twice false b = refl

common_twice : (a b : RightsSet) → common (common a b) b ≡ common a b
common_twice a b =
    let r = and_twice a.r b.r in
    let w = and_twice a.w b.w in
    let x = and_twice a.x b.x in
    λ i. record { r = r i; w = w i; x = x i }

capped_twice : (cap : RightsSet) (o : Option Entry) → option_map (capped cap) (option_map (capped cap) o) ≡ option_map (capped cap) o
capped_twice cap None = refl
capped_twice cap (Some e) =
    ap (λ (t : Option Standing). Some (record e { stands = t })) (twice e.stands)
  where
    twice : (t : Option Standing) → option_map (λ (t : Standing). record t { rights = common t.rights cap }) (option_map (λ (t : Standing). record t { rights = common t.rights cap }) t)
        ≡ option_map (λ (t : Standing). record t { rights = common t.rights cap }) t
    twice None = refl
    twice (Some t) = ap (λ (r : RightsSet). Some (record t { rights = r })) (common_twice t.rights cap)

place_capped : (cap : RightsSet) (o : Option Entry) → option_map {T = Entry} (λ e. e.place) (option_map (capped cap) o) ≡ option_map {T = Entry} (λ e. e.place) o
place_capped cap None = refl
place_capped cap (Some e) = refl

up_capped : (cap : RightsSet) (o : Option Entry)
    → option_and_then (λ (t : Standing). t.parent) (option_and_then (λ (e : Entry). e.stands) (option_map (capped cap) o)) ≡ option_and_then (λ (t : Standing). t.parent) (option_and_then (λ (e : Entry). e.stands) o)
up_capped cap None = refl
up_capped cap (Some e) = elim e.stands as (λ t. option_and_then (λ (t : Standing). t.parent) (option_map (λ (t : Standing). record t { rights = common t.rights cap }) t) ≡ option_and_then (λ (t : Standing). t.parent) t) [
  | None ↦ refl
  | Some t ↦ refl
]

module _ (Covered : ℕ → Type 0) (cap : RightsSet) (old new : Entries) (caps : CapsKeys Covered cap old new) where
  pub caps_place : (key : ℕ) → option_map {T = Entry} (λ e. e.place) (entry_at new key) ≡ option_map {T = Entry} (λ e. e.place) (entry_at old key)
  caps_place key = elim (caps.decided key) [
    | inl is ↦ ap (option_map {T = Entry} (λ e. e.place)) (caps.here key is) ∙ place_capped cap (entry_at old key)
    | inr not ↦ ap (option_map {T = Entry} (λ e. e.place)) (caps.kept key not)
  ]

  pub caps_parent : (key : ℕ) → parent_of new key ≡ parent_of old key
  caps_parent key = elim (caps.decided key) [
    | inl is ↦ ap (λ (o : Option Entry). option_and_then (λ (t : Standing). t.parent) (option_and_then (λ (e : Entry). e.stands) o)) (caps.here key is) ∙ up_capped cap (entry_at old key)
    | inr not ↦ ap (λ (o : Option Entry). option_and_then (λ (t : Standing). t.parent) (option_and_then (λ (e : Entry). e.stands) o)) (caps.kept key not)
  ]

  pub caps_leads : {low high : ℕ} → Descends new low high → Descends old low high
  caps_leads d = leads_along (parent_of new) (parent_of old) caps_parent d

  pub caps_back : {low high : ℕ} → Descends old low high → Descends new low high
  caps_back d = leads_along (parent_of old) (parent_of new) (λ key. sym (caps_parent key)) d

-- two caps one after another are one
pub caps_both : (A B C : ℕ → Type 0) (cap : RightsSet) (old mid new : Entries) → ((key : ℕ) → C key → A key ⊎ B key) → ((key : ℕ) → A key ⊎ B key → C key)
    → CapsKeys A cap old mid → CapsKeys B cap mid new → CapsKeys C cap old new
caps_both A B C cap old mid new apart together first second = record {
  decided = λ key. elim (first.decided key) [
    | inl a ↦ inl (together key (inl a))
    | inr na ↦ elim (second.decided key) [
      | inl b ↦ inl (together key (inr b))
      | inr nb ↦ inr (λ c. elim (apart key c) [ inl a ↦ na a | inr b ↦ nb b ])
    ]
  ];
  here = λ key c. elim (first.decided key) [
    | inl a ↦ elim (second.decided key) [
      | inl b ↦ second.here key b ∙ ap (option_map (capped cap)) (first.here key a) ∙ capped_twice cap (entry_at old key)
      | inr nb ↦ second.kept key nb ∙ first.here key a
    ]
    | inr na ↦ elim (apart key c) [
      | inl a ↦ absurd (na a)
      | inr b ↦ second.here key b ∙ ap (option_map (capped cap)) (first.kept key na)
    ]
  ];
  kept = λ key n. second.kept key (λ b. n (together key (inr b))) ∙ first.kept key (λ a. n (together key (inl a)));
}

-- what descends from the pages below this one is capped
pub record CappedTo (space first end : ℕ) (with_self : Bool) (cap : RightsSet) (old cur : Linked) (next : ℕ) : Type 0 where
  pub from : first ≤ next
  pub to : next ≤ end
  pub caps : CapsKeys (IsCovered old.entries space first next with_self) cap old.entries cur.entries
  pub spaces : cur.spaces ≡ old.spaces

-- before the first page nothing is
pub capped_first : (space first end : ℕ) (with_self : Bool) (cap : RightsSet) (old : Linked) → first ≤ end → CappedTo space first end with_self cap old old first
capped_first space first end with_self cap old le = record {
  from = omega arith;
  to = le;
  caps = record {
    decided = λ key. inr (λ c. no_page c.1);
    here = λ key c. absurd (no_page c.1);
    kept = λ key n. refl;
  };
  spaces = refl;
} where
  no_page : {own : ℕ} → IsPageKey old.entries space first first own → ⊥
  no_page p = omega (arith, p.from, p.below)

-- the next page that isn't passed over
pub capped_more : (space first end : ℕ) (with_self : Bool) (cap : RightsSet) (old cur new : Linked) (next page key : ℕ) → HavePlaces old → CappedTo space first end with_self cap old cur next
    → next ≤ page → page < end → Passes cur.entries space with_self next page → IsAt cur.entries (record { space = space; page = page }) key
    → CapsKeys (IsOver cur.entries with_self key) cap cur.entries new.entries → new.spaces ≡ cur.spaces → CappedTo space first end with_self cap old new (page + 1)
capped_more space first end with_self cap old cur new next page key have so_far le lt passes at caps spaces = record {
  from = omega (arith, so_far.from, le);
  to = omega (arith, lt);
  caps = caps_both (IsCovered old.entries space first next with_self) (IsOver cur.entries with_self key) (IsCovered old.entries space first (page + 1) with_self) cap old.entries cur.entries new.entries
      apart together so_far.caps caps;
  spaces = spaces ∙ so_far.spaces;
} where
  at_cur : (p : LinkPlace) (k : ℕ) → IsAt old.entries p k → IsAt cur.entries p k
  at_cur p k h = caps_place (IsCovered old.entries space first next with_self) cap old.entries cur.entries so_far.caps k ∙ h

  at_old : (p : LinkPlace) (k : ℕ) → IsAt cur.entries p k → IsAt old.entries p k
  at_old p k h = sym (caps_place (IsCovered old.entries space first next with_self) cap old.entries cur.entries so_far.caps k) ∙ h

  over_cur : (k own : ℕ) → IsOver old.entries with_self own k → IsOver cur.entries with_self own k
  over_cur k own (inl e) = inl e
  over_cur k own (inr d) = inr (caps_back (IsCovered old.entries space first next with_self) cap old.entries cur.entries so_far.caps d)

  over_old : (k own : ℕ) → IsOver cur.entries with_self own k → IsOver old.entries with_self own k
  over_old k own (inl e) = inl e
  over_old k own (inr d) = inr (caps_leads (IsCovered old.entries space first next with_self) cap old.entries cur.entries so_far.caps d)

  apart : (k : ℕ) → IsCovered old.entries space first (page + 1) with_self k → IsCovered old.entries space first next with_self k ⊎ IsOver cur.entries with_self key k
  apart k c =
      elim (less_or c.1.page next) [
        | inl less ↦ inl (c.0, record { page = c.1.page; from = c.1.from; below = less; at = c.1.at }, c.2)
        | inr more ↦ elim (less_or c.1.page page) [
          | inl before ↦ absurd (passes c.1.page c.0 k more before (at_cur (record { space = space; page = c.1.page }) c.0 c.1.at) (over_cur k c.0 c.2))
          | inr past ↦
              let same : c.1.page ≡ page = omega (arith, past, c.1.below) in
              let one : c.0 ≡ key = have.once (record { space = space; page = page }) c.0 key (subst (λ (p : ℕ). IsAt old.entries (record { space = space; page = p }) c.0) same c.1.at) (at_old (record { space = space; page = page }) key at) in
              inr (subst (λ (own : ℕ). IsOver cur.entries with_self own k) one (over_cur k c.0 c.2))
        ]
      ]

  together : (k : ℕ) → IsCovered old.entries space first next with_self k ⊎ IsOver cur.entries with_self key k → IsCovered old.entries space first (page + 1) with_self k
  together k (inl c) = (c.0, record { page = c.1.page; from = c.1.from; below = omega (arith, c.1.below, le); at = c.1.at }, c.2)
  together k (inr o) = (key, record { page = page; from = omega (arith, so_far.from, le); below = omega arith; at = at_old (record { space = space; page = page }) key at }, over_old k key o)

-- after the last page all are
pub capped_all : (space first end : ℕ) (with_self : Bool) (cap : RightsSet) (old cur : Linked) (next : ℕ) → CappedTo space first end with_self cap old cur next → Passes cur.entries space with_self next end
    → CapsKeys (IsCovered old.entries space first end with_self) cap old.entries cur.entries
capped_all space first end with_self cap old cur next so_far passes = record {
  decided = λ key. elim (so_far.caps.decided key) [ inl c ↦ inl (wider key c) | inr n ↦ inr (λ c. n (narrower key c)) ];
  here = λ key c. so_far.caps.here key (narrower key c);
  kept = λ key n. so_far.caps.kept key (λ c. n (wider key c));
} where
  wider : (key : ℕ) → IsCovered old.entries space first next with_self key → IsCovered old.entries space first end with_self key
  wider key c = (c.0, record { page = c.1.page; from = c.1.from; below = omega (arith, c.1.below, so_far.to); at = c.1.at }, c.2)

  over_cur : (key own : ℕ) → IsOver old.entries with_self own key → IsOver cur.entries with_self own key
  over_cur key own (inl e) = inl e
  over_cur key own (inr d) = inr (caps_back (IsCovered old.entries space first next with_self) cap old.entries cur.entries so_far.caps d)

  narrower : (key : ℕ) → IsCovered old.entries space first end with_self key → IsCovered old.entries space first next with_self key
  narrower key c =
      elim (less_or c.1.page next) [
        | inl less ↦ (c.0, record { page = c.1.page; from = c.1.from; below = less; at = c.1.at }, c.2)
        | inr more ↦ absurd (passes c.1.page c.0 key more c.1.below (caps_place (IsCovered old.entries space first next with_self) cap old.entries cur.entries so_far.caps c.0 ∙ c.1.at) (over_cur key c.0 c.2))
      ]
