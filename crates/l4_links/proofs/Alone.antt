-- A message of which nothing moves, or one page that is mapped to a place without a key.
use Rattle.std.proofs.Common.{◌≡◌, ◌≢◌, ◌<◌, ℕ, ◌+◌, ◌-◌, false, List, length, Option, Some, None, option_map, slice_get, refl, sym, ap, ◌∙◌, subst, inl, arith}
use Rattle.std.proofs.lemmas.Bool.{cases_eq, false≢true}
use Rattle.std.specs.FinSet as set
use Rattle.l4_fpage.specs.Rights.{common, no_rights}
use Rattle.l4_spaces.specs.Tables.{Tables, key_of}
use Rattle.l4_msg.specs.declared.items.ItemMove.{ItemMove}
use Rattle.l4_nodes.specs.declared.Place.{Place}
use Rattle.l4_nodes.specs.declared.nodes.Node.{Node}
use Rattle.l4_nodes.specs.Slots.{Slots, node_at}
use Rattle.l4_links.specs.declared.Entry.{Entry}
use Rattle.l4_links.specs.declared.blocks.Pages.{Pages}
use Rattle.l4_links.specs.Entries.{Entries, IsAt, pages_of, place_for, IsShared, child_entry, IsBrought, BroughtBy, IsDue, Brings, AreOverLeaves, MovesItems}
use Rattle.l4_links.specs.Inside.Growing.{SharesNone}
use Rattle.l4_links.specs.Inside.Keeping.{IsIndexed, entries_of, standing_of}
use Rattle.l4_links.specs.Inside.Nodes.{AddsUnder}
use Rattle.l4_links.proofs.Bringing.{brings_none, brings_as, brings_one}
use Rattle.l4_links.proofs.BroughtParts.{nothing_brought, page_brings}
use Rattle.l4_links.proofs.Naming.{have_places, find_is}
use Rattle.l4_links.proofs.Seen.{standing_is}
use Rattle.l4_links.proofs.RowSteps.{shared_none, shared_stands}
use Rattle.l4_links.proofs.TableEntries.{entry_named, entry_of_page}
use Rattle.l4_links.proofs.Views.{view_added}
use Rattle.l4_links.proofs.Writes.{same_some, no_some}

-- a space that isn't there brings nothing
pub nothing_moves : (from to : ℕ) (items : List ItemMove) (slots : Slots) (all : Tables) → IsIndexed slots all → set.contains all.spaces from ≡ false → MovesItems from to items (entries_of slots) (entries_of slots)
nothing_moves from to items slots all indexed none = (
  brings_none (IsDue from to items (length items) (entries_of slots)) (entries_of slots) (λ own e d. nobody (pages_of from to d.by) (pages_of from to d.by).source.page (pages_of from to d.by).end d.brings.key refl d.brings.shared),
  λ own e d key at low down. absurd (nobody (pages_of from to d.by) (pages_of from to d.by).source.page (pages_of from to d.by).end d.brings.key refl d.brings.shared),
  λ item by before is grant key h. absurd (nobody (pages_of from to by) (pages_of from to by).source.page (pages_of from to by).end key refl h),
)
  where
    nobody : (of : Pages) (first end key : ℕ) → of.source.space ≡ from → ¬ (IsShared of first end (entries_of slots) key)
    nobody of first end key source h =
        let there = (have_places slots all indexed).housed key h.entry h.at in
        false≢true (sym none ∙ ap (set.contains all.spaces) (sym source ∙ sym h.space) ∙ there)

-- a message of one item, which maps one page
module _ (from to : ℕ) (items : List ItemMove) (by : ItemMove) (one : length items ≡ 1) (is : slice_get items 0 ≡ Some by) (of : Pages) (of_is : of ≡ pages_of from to by) (maps : of.grant ≡ false) (single : of.end ≡ of.source.page + 1)
    (slots : Slots) (all : Tables) (indexed : IsIndexed slots all) where
  abbrev s : Entries
  s = entries_of slots

  abbrev here : Place
  here = record { space = of.source.space; page = of.source.page }

  its_item : (item : ℕ) (b : ItemMove) → item < length items → slice_get items item ≡ Some b → pages_of from to b ≡ of
  its_item item b before item_is = grind arith

  due_alone : (own : Option ℕ) (e : Entry) → IsDue from to items (length items) s own e → BroughtBy of s own e
  due_alone own e d = subst (λ (p : Pages). BroughtBy p s own e) (its_item d.item d.by d.before d.item_is) d.brings

  alone_due : (own : Option ℕ) (e : Entry) → BroughtBy of s own e → IsDue from to items (length items) s own e
  alone_due own e b = record { item = 0; by = by; before = omega (arith, one); item_is = is; brings = subst (λ (p : Pages). BroughtBy p s own e) of_is b }

  all_moves : (new : Entries) → Brings (BroughtBy of s) s new → AreOverLeaves (BroughtBy of s) s → MovesItems from to items s new
  all_moves new brings over = (
    brings_as (BroughtBy of s) (IsDue from to items (length items) s) s new alone_due due_alone brings,
    λ own e d. over own e (due_alone own e d),
    λ item b before item_is grant key h. absurd (false≢true (sym maps ∙ sym (ap (λ (p : Pages). p.grant) (its_item item b before item_is)) ∙ grant)),
  )

  -- no right is shared
  pub alone_passed : ((k : ℕ) → key_of all of.source.space of.source.page ≡ Some k → SharesNone k of.rights slots) → MovesItems from to items s s
  alone_passed none = all_moves s (brings_none (BroughtBy of s) s nothing) (λ own e b. absurd (nothing own e b))
    where
      nothing : (own : Option ℕ) (e : Entry) → ¬ (BroughtBy of s own e)
      nothing = nothing_brought of of.source.page of.end s (λ k e x at in_space ge lt. shared_none slots of.rights k e x at (none k
          (ap (key_of all of.source.space) (let same : of.source.page ≡ e.place.page = omega (arith, ge, lt, single) in same) ∙ entry_named slots all indexed of.source.space k e at in_space)))

  -- the child has come
  pub alone_added : (key : ℕ) → key_of all of.source.space of.source.page ≡ Some key → (above : Node) → node_at slots key ≡ Some above → common above.rights of.rights ≢ no_rights → key_of all of.target.space of.target.page ≡ None
      → (new : Slots) (child : ℕ) → AddsUnder key of.target above of.rights slots new child → MovesItems from to items s (entries_of new)
  alone_added key named above stands shares free new child adds =
      let e = entry_of_page s key here ((find_is slots all here (key_of all of.source.space of.source.page) indexed refl key).0 named) in
      let standing = shared_stands slots of.rights key e.0 e.1 (above, stands, shares) in
      let v = view_added slots new key of.target above of.rights child stands adds in
      let goes : of.target ≡ place_for of of.source.page = (λ i. record { space = of.target.space; page = (let same : of.target.page ≡ of.source.page - of.source.page + of.target.page = omega arith in same i) }) in
      let absent : (k : ℕ) → ¬ (IsAt s of.target k) = λ k at. no_some k (sym free ∙ (find_is slots all of.target (key_of all of.target.space of.target.page) indexed refl k).1 at) in
      let is_child : ◌≡◌ {A = Entry} (child_entry of.target key v.above of.rights) (child_entry (place_for of of.source.page) key (standing_of above) of.rights) =
      λ i. child_entry (goes i) key (same_some (sym v.at_parent ∙ standing_is slots key ∙ ap (option_map standing_of) stands) i) of.rights in
      all_moves (entries_of new)
      (subst (λ (end : ℕ). Brings (IsBrought of of.source.page end s) s (entries_of new)) (sym single)
      (page_brings of of.source.page s key e.0 e.1 e.2 (standing_of above) standing shares
      (λ j at. same_some (sym ((find_is slots all here (key_of all of.source.space of.source.page) indexed refl j).1 at) ∙ named)) None (child_entry of.target key v.above of.rights) (inl (maps, refl, is_child)) (entries_of new)
      (brings_one child None (inl refl) (child_entry of.target key v.above of.rights) s (entries_of new) v.filled v.others (λ y at. absurd (no_some y (sym v.vacant ∙ at))) (λ k at. absurd (absent k at)) cases_eq)))
      (λ own y b k at. absurd (absent k (subst (λ (p : Place). IsAt s p k)
      (b.place ∙ ap (place_for of) (let ge = b.shared.from in let lt = b.shared.before in let same : b.shared.entry.place.page ≡ of.source.page = omega (arith, ge, lt, single) in same) ∙ sym goes) at)))
