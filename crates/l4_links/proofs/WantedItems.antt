-- Whether what the items of a message bring can take its places, as a contract sees them.
use Rattle.std.proofs.Common.{◌≡◌, ◌≢◌, ◌⊎◌, ℕ, zero, suc, ◌+◌, ◌-◌, ◌/◌, ◌^◌, ◌<◌, ◌≤◌, ◌||◌, Bool, List, Option, Some, None, slice_get, true, false, refl, sym, ap, ◌∙◌, subst, inl, inr, arith}
use Rattle.std.proofs.lemmas.Bool.{cases_lt, cases_eq, false≢true}
use Rattle.std.specs.Option.{option_map, option_and_then}
use Rattle.l4_fpage.specs.Rights.{RightsSet, common, no_rights, Within}
use Rattle.l4_spaces.specs.Tables.{Tables, key_of, table_pages}
use Rattle.l4_spaces.specs.Rows.{Rows, entry, is_made, AreTablesOf}
use Rattle.l4_spaces.proofs.Aside.{made_aside}
use Rattle.l4_spaces.proofs.Below.{decided}
use Rattle.l4_msg.specs.declared.items.ItemMove.{ItemMove}
use Rattle.l4_nodes.specs.declared.Place.{Place}
use Rattle.l4_nodes.specs.declared.nodes.Node.{Node}
use Rattle.l4_nodes.specs.Slots.{Slots, node_at}
use Rattle.l4_links.specs.declared.Standing.{Standing}
use Rattle.l4_links.specs.declared.Entry.{Entry}
use Rattle.l4_links.specs.declared.blocks.Pages.{Pages}
use Rattle.l4_links.specs.Leads.{Leads, step}
use Rattle.l4_links.specs.Entries.{Entries, entry_at, standing_at, IsAt, pages_of, place_for, IsShared, child_entry, BroughtBy, IsDue, IsFilled, Brings, LosesNone, IsPlain, ArePlain}
use Rattle.l4_links.specs.Inside.Bringing.{IsSpare, Fits, HaveTables, MakesTables, IsLacking, AtMost, sum_to, WantsItems, CanBring}
use Rattle.l4_links.specs.Inside.Growing.{SharesSome, IsChildOf, LacksPage, WantsPages}
use Rattle.l4_links.specs.Inside.Keeping.{IsIndexed, IsWithin, standing_of, entries_of}
use Rattle.l4_links.specs.Inside.Nodes.{limbs}
use Rattle.l4_links.specs.Inside.Trees.{parent_at}
use Rattle.l4_links.proofs.Bringing.{brings_none, brings_as}
use Rattle.l4_links.proofs.BroughtParts.{at_most_back}
use Rattle.l4_links.proofs.Naming.{is_at}
use Rattle.l4_links.proofs.Seen.{standing_is, standing_node, leads_of}
use Rattle.l4_links.proofs.Stacking.{none_is, some_is}
use Rattle.l4_links.proofs.TableEntries.{entry_of_page, entry_named}
use Rattle.l4_links.proofs.Wanting.{or_false}
use Rattle.l4_links.proofs.Writes.{no_some, same_some, limb_of, worth_of}

-- a child that has no marks is that which would come
child_is : (slots : Slots) (parent key : ℕ) (rights : RightsSet) → IsChildOf parent key rights slots → (x : Entry) → entry_at (entries_of slots) key ≡ Some x → IsPlain x → IsWithin slots → (place : Place) → x.place ≡ place → (above : Standing)
    → standing_at (entries_of slots) parent ≡ Some above → x ≡ child_entry place parent above rights
child_is slots parent key rights own x at plain within place place_is above at_parent = λ i. record { place = place_is i; wanted = plain.unwanted i; stands = (stands_is ∙ standing_same) i }
  where
    stands_is : x.stands ≡ Some (standing_of own.node)
    stands_is = sym (ap (option_and_then (λ (z : Entry). z.stands)) at) ∙ standing_is slots key ∙ ap (option_map standing_of) own.stands

    its : plain.standing ≡ standing_of own.node
    its = same_some (sym plain.stands ∙ stands_is)

    above_is : standing_of own.above ≡ above
    above_is = same_some (sym (ap (option_map standing_of) own.at_parent) ∙ sym (standing_is slots parent) ∙ at_parent)

    frame : own.node.frame ≡ own.above.frame
    frame = (within key parent (limb_of own.node) (worth_of own.node) (worth_of own.above) (ap (option_map limb_of) own.stands) own.parent_is (ap (option_map worth_of) own.stands) (ap (option_map worth_of) own.at_parent)).frame

    standing_same : ◌≡◌ {A = Option Standing} (Some (standing_of own.node)) (child_entry place parent above rights).stands
    standing_same = λ i. Some (record {
      frame = (frame ∙ ap (λ (y : Standing). y.frame) above_is) i;
      rights = (own.rights_are ∙ ap (λ (y : Standing). common y.rights rights) above_is) i;
      source = (ap (λ (y : Standing). y.source) (sym its) ∙ plain.no_source) i;
      granted = (ap (λ (y : Standing). y.granted) (sym its) ∙ plain.not_granted) i;
      parent = own.parent_is i;
    })

none_or : (r : RightsSet) → (r ≡ no_rights) ⊎ (r ≢ no_rights)
none_or r = grind (arith, none_is, some_is)

-- what each of two brings is there
brings_both : (A B : Option ℕ → Entry → Type 0) (s : Entries) → Brings A s s → Brings B s s → Brings (λ own e. A own e ⊎ B own e) s s
brings_both A B s a b = record {
  there = λ own e due. elim due [
    | inl x ↦ a.there own e x
    | inr y ↦ b.there own e y
  ];
  kept = λ key e at _. at;
  only = λ key e at. elim (a.only key e at) [
    | inl x ↦ inl (x.0, inl x.1, x.2)
    | inr out ↦ elim (b.only key e at) [
      | inl y ↦ inl (y.0, inr y.1, y.2)
      | inr away ↦ inr (at, record { unfilled = grind arith; not_given = grind arith })
    ]
  ];
}

-- pages of an item, as a contract sees them
module _ (of : Pages) (slots : Slots) (all : Tables) (sources targets : Rows) (source : AreTablesOf all of.source.space sources) (target : AreTablesOf all of.target.space targets) (indexed : IsIndexed slots all) (wants : ℕ) (changes : Bool)
    (w : WantsPages of of.source.page of.end sources targets wants changes slots) where
  abbrev s : Entries
  s = entries_of slots

  shared_key : (key : ℕ) (h : IsShared of of.source.page of.end s key) → entry sources h.entry.place.page ≡ Some key
  shared_key key h = sym (source.keys h.entry.place.page) ∙ entry_named slots all indexed of.source.space key h.entry h.at h.space

  shared_node : (key : ℕ) (h : IsShared of of.source.page of.end s key) → (n : Node) × (node_at slots key ≡ Some n) × (standing_of n ≡ h.standing)
  shared_node key h = standing_node slots key h.standing (ap (option_and_then (λ (e : Entry). e.stands)) h.at ∙ h.stands)

  shared_some : (key : ℕ) (h : IsShared of of.source.page of.end s key) → SharesSome key of.rights slots
  shared_some key h = let n = shared_node key h in (n.0, n.1, λ nothing. h.shares (ap (λ (y : Standing). common y.rights of.rights) (sym n.2) ∙ nothing))

  -- what is at the place of what is brought, by the tables
  named_there : (own : Option ℕ) (e : Entry) (b : BroughtBy of s own e) (k : ℕ) → IsAt s e.place k → entry targets (place_for of b.shared.entry.place.page).page ≡ Some k
  named_there own e b k at =
      let goes : Place = place_for of b.shared.entry.place.page in
      sym (target.keys goes.page) ∙ (indexed.names goes k).1 ((is_at slots goes k).1 (subst (λ (p : Place). IsAt s p k) b.place at))

  at_place : (page k : ℕ) → entry targets (place_for of page).page ≡ Some k → IsAt s (place_for of page) k
  at_place page k is = (is_at slots (place_for of page) k).0 ((indexed.names (place_for of page) k).0 (target.keys (place_for of page).page ∙ is))

  -- whether a right is shared is decided, and so whether a child is brought to a place
  shares_or : (k : ℕ) → SharesSome k of.rights slots ⊎ ¬ (SharesSome k of.rights slots)
  shares_or k = over (node_at slots k) refl
    where
      over : (o : Option Node) → node_at slots k ≡ o → SharesSome k of.rights slots ⊎ ¬ (SharesSome k of.rights slots)
      over None is = inr (λ x. no_some x.0 (sym is ∙ x.1))
      over (Some m) is = elim (none_or (common m.rights of.rights)) [
        | inl nothing ↦ inr (λ x. x.2 (ap (λ (n : Node). common n.rights of.rights) (same_some (sym x.1 ∙ is)) ∙ nothing))
        | inr some ↦ inl (m, is, some)
      ]

  -- a child of a page that shares a right is brought
  child_at : (page key : ℕ) → of.source.page ≤ page → page < of.end → entry sources page ≡ Some key → SharesSome key of.rights slots → of.grant ≡ false → (e : Entry) × BroughtBy of s None e × (e.place ≡ place_for of page)
  child_at page key ge lt shows some map =
      let here : Place = record { space = of.source.space; page = page } in
      let x = entry_of_page s key here ((is_at slots here key).0 ((indexed.names here key).0 (source.keys page ∙ shows))) in
      let its : x.0.place.page ≡ page = ap (λ (p : Place). p.page) x.2 in
      let h : IsShared of of.source.page of.end s key = record {
        entry = x.0;
        at = x.1;
        space = ap (λ (p : Place). p.space) x.2;
        from = omega (arith, its, ge);
        before = omega (arith, its, lt);
        standing = standing_of some.0;
        stands = sym (ap (option_and_then (λ (z : Entry). z.stands)) x.1) ∙ standing_is slots key ∙ ap (option_map standing_of) some.1;
        shares = some.2;
      } in
      (child_entry (place_for of x.0.place.page) key h.standing of.rights, record { key = key; shared = h; place = refl; how = inl (map, refl, refl) }, ap (place_for of) its)

  -- a place with a key is that of a leaf with a parent, and for a child
  pub fits_item : ArePlain s → Fits (BroughtBy of s) s
  fits_item plain own e b k was at place = elim ((w.takes b.shared.entry.place.page b.shared.from b.shared.before).0 b.key (shared_key b.key b.shared) (shared_some b.key b.shared)) [
    | inl free ↦ no_some k (sym free ∙ named)
    | inr o ↦
        let same : o.1.0 ≡ k = same_some (sym o.1.1 ∙ named) in (
          elim b.how [ inl c ↦ c.1 | inr g ↦ absurd (false≢true (sym o.0 ∙ g.0)) ],
          its o.1.2.node (subst (λ (z : ℕ). node_at slots z ≡ Some o.1.2.node) same o.1.2.stands) o.1.2.parent (subst (λ (z : ℕ). (low : ℕ) → ¬ (Leads (parent_at (limbs slots)) low z)) same o.1.2.leaf),
        )
  ]
    where
      named : entry targets (place_for of b.shared.entry.place.page).page ≡ Some k
      named = named_there own e b k (ap (option_map {T = Entry} (λ x. x.place)) at ∙ ap (λ (p : Place). Some p) place)

      its : (n : Node) → node_at slots k ≡ Some n → n.parent ≢ None → ((low : ℕ) → ¬ (Leads (parent_at (limbs slots)) low k)) → IsSpare s k was
      its n stands parent leaf = record {
        plain = plain k was at;
        parent = λ nothing. parent (ap (λ (x : Standing). x.parent) (same_some (sym (sym (ap (option_and_then (λ (e : Entry). e.stands)) at) ∙ standing_is slots k ∙ ap (option_map standing_of) stands) ∙ (plain k was at).stands)) ∙ nothing);
        leaf = λ low up. leaf low (leads_of slots (step up));
      }

  pub tables_item : HaveTables (BroughtBy of s) targets
  tables_item own e b high low is lt =
      let page : e.place.page ≡ (place_for of b.shared.entry.place.page).page = ap (λ (p : Place). p.page) b.place in
      let its : (place_for of b.shared.entry.place.page).page / table_pages ≡ high = omega (arith, is, lt, page) in
      subst (λ (h : ℕ). is_made targets h ≡ true) its ((w.takes b.shared.entry.place.page b.shared.from b.shared.before).2 b.key (shared_key b.key b.shared) (shared_some b.key b.shared))

  pub keeps_item : LosesNone of s
  keeps_item grant key h =
      let n = shared_node key h in
      let x = shared_some key h in
      subst (λ (y : Standing). Within y.rights of.rights) n.2 ((w.takes h.entry.place.page h.from h.before).1 key n.0 grant (shared_key key h) n.1 (λ nothing. h.shares (ap (λ (y : Standing). common y.rights of.rights) (sym n.2) ∙ nothing)))

  pub most_item : AtMost (IsLacking of s) of.source.page of.end wants
  most_item = at_most_back (λ page _ l. subst (LacksPage of sources targets slots) l.page_is (lacking page l)) w.most
    where
      map_only : (e : Entry) → BroughtBy of s None e → of.grant ≡ false
      map_only e b = elim b.how [ inl c ↦ c.0 | inr g ↦ absurd (let z : ◌≡◌ {A = Option ℕ} None (Some b.key) = g.1 in cc) ]

      lacking : (page : ℕ) (l : IsLacking of s page) → LacksPage of sources targets slots l.due.shared.entry.place.page
      lacking page l = (map_only l.entry l.due, (l.due.key, shared_key l.due.key l.due.shared, shared_some l.due.key l.due.shared, over (entry targets (place_for of l.due.shared.entry.place.page).page) refl))
        where
          over : (o : Option ℕ) → entry targets (place_for of l.due.shared.entry.place.page).page ≡ o → o ≡ None
          over None is = refl
          over (Some k) is =
              let goes : Place = place_for of l.due.shared.entry.place.page in
              absurd (l.absent k (subst (λ (p : Place). IsAt s p k) (sym l.due.place) ((is_at slots goes k).0 ((indexed.names goes k).0 (target.keys goes.page ∙ is)))))

  -- unless something changes, a child is brought, and is there
  module _ (plain : ArePlain s) (within : IsWithin slots) (same : changes ≡ false) where
    there_item : (own : Option ℕ) (e : Entry) (b : BroughtBy of s own e) → (of.grant ≡ false) × (own ≡ None) × ((key : ℕ) × (entry_at s key ≡ Some e))
    there_item own e b =
        let p : ℕ = b.shared.entry.place.page in
        let child = w.holds same p b.shared.from b.shared.before b.key (shared_key b.key b.shared) (shared_some b.key b.shared) in
        let x = entry_of_page s child.1.0 (place_for of p) (at_place p child.1.0 child.1.1) in
        elim b.how [
          | inl c ↦ (
            c.0,
            c.1,
            (child.1.0, x.1 ∙ ap (λ (z : Entry). Some z) (child_is slots b.key child.1.0 of.rights child.1.2 x.0 x.1 (plain child.1.0 x.0 x.1) within e.place (x.2 ∙ sym b.place) b.shared.standing (ap (option_and_then (λ (z : Entry). z.stands)) b.shared.at ∙ b.shared.stands) ∙ sym c.2)),
          )
          | inr g ↦ absurd (false≢true (sym child.0 ∙ g.0))
        ]

    filled_or : (place : Place) → IsFilled (BroughtBy of s) place ⊎ ¬ (IsFilled (BroughtBy of s) place)
    filled_or place = elim (cases_eq place.space of.target.space) [
      | inr away ↦ inr (λ f. away (ap (λ (p : Place). p.space) (at f)))
      | inl e ↦ elim (cases_lt place.page of.target.page) [
        | inl less ↦ inr (λ f. (let page = page_at f in omega (arith, less, page)))
        | inr ge ↦ elim (cases_lt (place.page - of.target.page + of.source.page) of.end) [
          | inr past ↦ inr (λ f. (let page = page_at f in let before = f.2.shared.before in let from = f.2.shared.from in omega (arith, past, page, before, from)))
          | inl lt ↦ over e ge lt (entry sources (place.page - of.target.page + of.source.page)) refl
        ]
      ]
    ]
      where
        at : (f : IsFilled (BroughtBy of s) place) → place ≡ place_for of f.2.shared.entry.place.page
        at f = sym f.3 ∙ f.2.place

        page_at : (f : IsFilled (BroughtBy of s) place) → place.page ≡ f.2.shared.entry.place.page - of.source.page + of.target.page
        page_at f = ap (λ (p : Place). p.page) (at f)

        key_at : (f : IsFilled (BroughtBy of s) place) → entry sources (place.page - of.target.page + of.source.page) ≡ Some f.2.key
        key_at f = ap (entry sources) (let page = page_at f in let from = f.2.shared.from in let z : place.page - of.target.page + of.source.page ≡ f.2.shared.entry.place.page = omega (arith, page, from) in z) ∙ shared_key f.2.key f.2.shared

        over : place.space ≡ of.target.space → of.target.page ≤ place.page → place.page - of.target.page + of.source.page < of.end → (o : Option ℕ) → entry sources (place.page - of.target.page + of.source.page) ≡ o
            → IsFilled (BroughtBy of s) place ⊎ ¬ (IsFilled (BroughtBy of s) place)
        over space ge lt None is = inr (λ f. no_some f.2.key (sym is ∙ key_at f))
        over space ge lt (Some k) is = elim (shares_or k) [
          | inl some ↦
              let map = (w.holds same (place.page - of.target.page + of.source.page) (omega arith) lt k is some).0 in
              let d = child_at (place.page - of.target.page + of.source.page) k (omega arith) lt is some map in
              inl (None, d.0, d.1, d.2 ∙ (λ i. record { space = sym space i; page = (let z : place.page - of.target.page + of.source.page - of.source.page + of.target.page ≡ place.page = omega (arith, ge) in z i) }))
          | inr apart ↦ inr (λ f. apart (subst (λ (z : ℕ). SharesSome z of.rights slots) (same_some (sym (key_at f) ∙ is)) (shared_some f.2.key f.2.shared)))
        ]

    pub held_item : Brings (BroughtBy of s) s s
    held_item = record {
      there = λ own e b. (let x = there_item own e b in (x.2.0, inl x.1, x.2.1));
      kept = λ key e at _. at;
      only = λ key e at. elim (filled_or e.place) [
        | inl f ↦
            let x = there_item f.0 f.1 f.2 in
            let one = entry_named slots all indexed e.place.space key e at refl in
            let other = entry_named slots all indexed e.place.space x.2.0 f.1 x.2.1 (ap (λ (p : Place). p.space) f.3) in
            let keys : x.2.0 ≡ key = same_some (sym other ∙ ap (λ (p : Place). key_of all e.place.space p.page) f.3 ∙ one) in
            inl (f.0, subst (BroughtBy of s f.0) (same_some (sym x.2.1 ∙ ap (entry_at s) keys ∙ at)) f.2, inl x.1)
        | inr out ↦ inr (at, record { unfilled = out; not_given = λ z b. no_some key (sym (there_item (Some key) z b).1) })
      ];
    }

-- one of two numbers
pick : {A : Type 0} → A ⊎ ¬ A → ℕ → ℕ → ℕ
pick (inl _) first second = first
pick (inr _) first second = second

pick_first : {A : Type 0} (d : A ⊎ ¬ A) (first second : ℕ) → A → pick d first second ≡ first
unfolding pick
pick_first (inl _) first second a = refl
pick_first (inr out) first second a = absurd (out a)

pick_second : {A : Type 0} (d : A ⊎ ¬ A) (first second : ℕ) → ¬ A → pick d first second ≡ second
unfolding pick
pick_second (inl a) first second out = absurd (out a)
pick_second (inr _) first second out = refl

sum_same : (f g : ℕ → ℕ) (n : ℕ) → ((k : ℕ) → k < n → f k ≡ g k) → sum_to f n ≡ sum_to g n
unfolding sum_to
sum_same f g zero same = refl
sum_same f g (suc n) same = (let before = sum_same f g n (λ k lt. same k (omega (arith, lt))) in let here = same n (omega arith) in omega (arith, before, here))

pub can_first : (from to : ℕ) (items : List ItemMove) (s : Entries) (targets : Rows) → CanBring from to items 0 s targets 0 false
unfolding sum_to
can_first from to items s targets = (
  λ own e due. absurd (none_due due),
  λ own e due. absurd (none_due due),
  record { counts = λ _. 0; each = λ item by lt. absurd (omega (arith, lt)); total = omega arith },
  λ item by lt. absurd (omega (arith, lt)),
  λ _. brings_none (IsDue from to items 0 s) s (λ own e due. none_due due),
)
  where
    none_due : {own : Option ℕ} {e : Entry} → ¬ (IsDue from to items 0 s own e)
    none_due due = let lt = due.before in omega (arith, lt)

-- with the item no more is wanted than there are places up to its last one
pub ends_before : (from to : ℕ) (by : ItemMove) (slots : Slots) (sources targets : Rows) (a b : ℕ) (changes : Bool) → WantsPages (pages_of from to by) (pages_of from to by).source.page (pages_of from to by).end sources targets b changes slots → a ≤ by.mv.target.first
    → a + b ≤ by.mv.target.first + 2 ^ by.mv.target.log
ends_before from to by slots sources targets a b changes w le = grind arith

-- the next item
module _ (from to : ℕ) (items : List ItemMove) (n : ℕ) (by : ItemMove) (by_is : slice_get items n ≡ Some by) (slots : Slots) (all : Tables) (sources targets made : Rows) (source : AreTablesOf all from sources) (before : AreTablesOf all to targets) (indexed : IsIndexed slots all)
    (more : MakesTables targets made) (a b : ℕ) (x y : Bool) (wants : WantsPages (pages_of from to by) (pages_of from to by).source.page (pages_of from to by).end sources made b y slots) where
  abbrev its : Entries
  its = entries_of slots

  abbrev of : Pages
  of = pages_of from to by

  target : AreTablesOf all to made
  target = made_aside all to targets made before more.same more.whole more.full

  split : (own : Option ℕ) (e : Entry) → IsDue from to items (n + 1) its own e → IsDue from to items n its own e ⊎ BroughtBy of its own e
  split own e d = elim (cases_lt d.item n) [
    | inl lt ↦ inl (record { item = d.item; by = d.by; before = lt; item_is = d.item_is; brings = d.brings })
    | inr ge ↦
        let last = d.before in
        let same : d.item ≡ n = omega (arith, ge, last) in
        inr (subst (λ (x : ItemMove). BroughtBy (pages_of from to x) its own e) (same_some (sym d.item_is ∙ ap (slice_get items) same ∙ by_is)) d.brings)
  ]

  -- the sum grows by what the item wants
  counts_more : WantsItems from to items n its a → AtMost (IsLacking of its) of.source.page of.end b → WantsItems from to items (n + 1) its (a + b)
  unfolding sum_to
  counts_more w most = record {
    counts = counts;
    each = λ item other lt is. elim (cases_eq item n) [
      | inl e ↦
          let same : by ≡ other = same_some (sym by_is ∙ ap (slice_get items) (sym e) ∙ is) in
          subst (Most other) (sym (pick_first (cases_eq item n) b (w.counts item) e)) (subst (λ (x : ItemMove). Most x b) same most)
      | inr ne ↦ subst (Most other) (sym (pick_second (cases_eq item n) b (w.counts item) ne)) (w.each item other (omega (arith, lt, ne)) is)
    ];
    total =
        let first : sum_to counts n ≡ sum_to w.counts n = sum_same counts w.counts n (λ k lt. pick_second (cases_eq k n) b (w.counts k) (omega (arith, lt))) in
        let last : counts n ≡ b = pick_first (cases_eq n n) b (w.counts n) refl in
        let le = w.total in
        subst (λ (z : ℕ). sum_to counts z ≤ a + b) (let e : suc n ≡ n + 1 = omega arith in e) (omega (arith, first, last, le));
  }
    where
      counts : ℕ → ℕ
      counts k = pick (cases_eq k n) b (w.counts k)

      Most : ItemMove → ℕ → Type 0
      Most x = AtMost (IsLacking (pages_of from to x) its) (pages_of from to x).source.page (pages_of from to x).end

  pub can_more : ArePlain its → IsWithin slots → CanBring from to items n its targets a x → CanBring from to items (n + 1) its made (a + b) (x || y)
  can_more plain within can = (
    λ own e due. elim (split own e due) [
      | inl first ↦ can.0 own e first
      | inr mine ↦ fits_item of slots all sources made source target indexed b y wants plain own e mine
    ],
    λ own e due high low is lt. elim (split own e due) [
      | inl first ↦ more.kept high (can.1 own e first high low is lt)
      | inr mine ↦ tables_item of slots all sources made source target indexed b y wants own e mine high low is lt
    ],
    counts_more can.2 (most_item of slots all sources made source target indexed b y wants),
    λ item other lt is. elim (cases_eq item n) [
      | inl e ↦ subst (λ (x : ItemMove). LosesNone (pages_of from to x) its) (same_some (sym by_is ∙ ap (slice_get items) (sym e) ∙ is)) (keeps_item of slots all sources made source target indexed b y wants)
      | inr ne ↦ can.3 item other (omega (arith, lt, ne)) is
    ],
    λ same. brings_as (λ own e. IsDue from to items n its own e ⊎ BroughtBy of its own e) (IsDue from to items (n + 1) its) its its
        (λ own e d. elim d [
          | inl first ↦ (let lt = first.before in record { item = first.item; by = first.by; before = omega (arith, lt); item_is = first.item_is; brings = first.brings })
          | inr mine ↦ record { item = n; by = by; before = omega arith; item_is = by_is; brings = mine }
        ]) split
        (brings_both (IsDue from to items n its) (BroughtBy of its) its (can.4 (or_false x y same).0) (held_item of slots all sources made source target indexed b y wants plain within (or_false x y same).1)),
  )
