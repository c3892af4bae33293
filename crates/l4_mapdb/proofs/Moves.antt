-- The used moves of a message, by keys.
use Rattle.std.proofs.Common.{◌≡◌, ◌≢◌, ℕ, ◌+◌, ◌-◌, ◌<◌, ◌≤◌, ◌^◌, true, false, not, List, length, Option, Some, None, option_and_then, option_map, refl, sym, ap, ◌∙◌, subst, slice_get, inl, inr, ◌⊎◌, arith}
use Rattle.std.proofs.lemmas.Bool.{cases_lt}
use Rattle.std.proofs.lemmas.Option.{slice_get_within}
use Rattle.l4_fpage.specs.Rights.{common, is_none}
use Rattle.l4_nodes.specs.declared.Place.{Place as LinkPlace}
use Rattle.l4_links.specs.declared.Standing.{Standing}
use Rattle.l4_links.specs.declared.Entry.{Entry}
use Rattle.l4_links.specs.Entries.{Entries, entry_at, standing_at, IsAt, NoKeyIn, IsNextKeyIn}
use Rattle.l4_msg.specs.declared.items.ItemMove.{ItemMove}
use Rattle.l4_mapdb.proofs.RightsLeft.{none_is}
use Rattle.l4_mapdb.proofs.Unique.{same_value}
use Rattle.l4_mapdb.specs.declared.sources.UsedMove.{UsedMove}
use Rattle.l4_mapdb.specs.View.{map_place, place_at}
use Rattle.l4_mapdb.specs.Inside.Messages.{plain, stand_at, IsMoved, turn, turn_of, IsNextMove, IsNextOfItem}
use Rattle.l4_fpage.specs.Pages.{most_pages}

-- what stands under a key, with its entry
pub record StandsAs (s : Entries) (key : ℕ) (place : LinkPlace) (t : Standing) : Type 0 where
  pub entry : Entry
  pub standing : Standing
  pub at : entry_at s key ≡ Some entry
  pub stands : entry.stands ≡ Some standing
  pub place_is : entry.place ≡ place
  pub plain_is : plain standing ≡ t

abbrev pub with_place : LinkPlace → Standing → LinkPlace × Standing
with_place p u = (p, plain u)

opened : (e : Entry) (o : Option Standing) (p : LinkPlace) (t : Standing) → e.stands ≡ o → option_map (with_place e.place) o ≡ Some (p, t)
    → (u : Standing) × (e.stands ≡ Some u) × (e.place ≡ p) × (plain u ≡ t)
opened e None p t is h = absurd (let k : ◌≡◌ {A = Option (LinkPlace × Standing)} None (Some (p, t)) = h in cc)
opened e (Some u) p t is h = let both : (e.place, plain u) ≡ (p, t) = same_value h in (u, is, ap (λ (x : LinkPlace × Standing). x.0) both, ap (λ (x : LinkPlace × Standing). x.1) both)

pub stand_of : (s : Entries) (key : ℕ) (p : LinkPlace) (t : Standing) → stand_at s key ≡ Some (p, t) → StandsAs s key p t
stand_of s key p t h = grind arith

pub stands_as : (s : Entries) (key : ℕ) (e : Entry) (t : Standing) → entry_at s key ≡ Some e → e.stands ≡ Some t → stand_at s key ≡ Some (e.place, plain t)
stands_as s key e t at stands =
    ap (option_and_then (λ (x : Entry). option_map (with_place x.place) x.stands)) at ∙ ap (option_map (with_place e.place)) stands

-- the key of a place that has something standing
pub record Found (s : Entries) (key : ℕ) (t : Standing) : Type 0 where
  pub entry : Entry
  pub at : entry_at s key ≡ Some entry
  pub stands : entry.stands ≡ Some t

pub found_of : (s : Entries) (key : ℕ) (t : Standing) → standing_at s key ≡ Some t → Found s key t
found_of s key t h = grind arith

-- a key is of its entry's place
pub is_at : (s : Entries) (key : ℕ) (e : Entry) (p : LinkPlace) → entry_at s key ≡ Some e → e.place ≡ p → IsAt s p key
is_at s key e p at place = ap (option_map {T = Entry} (λ x. x.place)) at ∙ ap (λ (x : LinkPlace). Some x) place

pub stand_is_at : (s : Entries) (key : ℕ) (p : LinkPlace) (t : Standing) → stand_at s key ≡ Some (p, t) → IsAt s p key
stand_is_at s key p t h = let o = stand_of s key p t h in is_at s key o.entry p o.at o.place_is

pub stand_place : (s : Entries) (key : ℕ) (p : LinkPlace) (t : Standing) → stand_at s key ≡ Some (p, t) → place_at s key ≡ Some (map_place p)
stand_place s key p t h = let o = stand_of s key p t h in ap (option_map {T = Entry} (λ x. map_place x.place)) o.at ∙ ap (λ (x : LinkPlace). Some (map_place x)) o.place_is

pub entry_of : (s : Entries) (key : ℕ) (p : LinkPlace) → IsAt s p key → (e : Entry) × (entry_at s key ≡ Some e) × (e.place ≡ p)
entry_of s key p h = grind arith

pub at_there : (s : Entries) (key : ℕ) (p : LinkPlace) → IsAt s p key → entry_at s key ≢ None
at_there s key p h none = let k : ◌≡◌ {A = Option LinkPlace} None (Some p) = sym (ap (option_map {T = Entry} (λ x. x.place)) none) ∙ h in cc

-- the item of a used move
pub one_by : (items : List ItemMove) (i : ℕ) (a b : ItemMove) → slice_get items i ≡ Some a → slice_get items i ≡ Some b → a ≡ b
one_by items i a b x y = same_value (sym x ∙ y)

module _ (s : Entries) (from to : ℕ) (items : List ItemMove) where
  abbrev Used : UsedMove → Type 0
  Used = IsMoved s from to items

  -- a used move is of an item, and of a page of its block
  pub move_item : (m : UsedMove) → Used m → m.item < length items
  move_item m used = slice_get_within items m.item used.by used.item

  pub move_at : (m : UsedMove) → Used m → IsAt s (record { space = from; page = m.page }) m.source
  move_at m used = stand_is_at s m.source (record { space = from; page = m.page }) used.standing used.stands

  pub move_block : (m : UsedMove) (used : Used m) (item : ℕ) (by : ItemMove) → slice_get items item ≡ Some by → m.item ≡ item
      → (by.mv.source.first ≤ m.page) × (m.page < by.mv.source.first + 2 ^ by.mv.source.log)
  move_block m used item by at is = grind arith

  pub move_page : (m : UsedMove) → Used m → m.page < most_pages
  move_page m used = let i = used.pages.within in let p = used.pages.source_is in let f = used.by.mv.source.block.inside in omega (arith, i, p, f)

  -- what has no right in common with the item isn't moved by it
  pub shares_none : (item page key : ℕ) (by : ItemMove) (t : Standing) → slice_get items item ≡ Some by
      → ((k : ℕ) → IsAt s (record { space = from; page = page }) k → k ≡ key) → standing_at s key ≡ Some t → is_none (common t.rights by.rights) ≡ true
      → (m : UsedMove) → Used m → m.item ≡ item → m.page ≢ page
  shares_none item page key by t at one stands none m used item_is page_is = search (subst, move_at, stand_of, Some, ap, option_and_then, same_value, sym, one_by, slice_get, not, true, none_is, arith)

  -- what has one is moved
  pub shares_some : (item page key : ℕ) (by : ItemMove) (t : Standing) → slice_get items item ≡ Some by → IsAt s (record { space = from; page = page }) key
      → standing_at s key ≡ Some t → is_none (common t.rights by.rights) ≡ false → by.mv.source.first ≤ page → page < by.mv.source.first + 2 ^ by.mv.source.log
      → Used (record { item = item; page = page; source = key; target = record { space = to; page = page - by.mv.source.first + by.mv.target.first }; grant = by.grant })
  shares_some item page key by t at is_here stands some ge lt =
      let f = found_of s key t stands in
      let e = entry_of s key (record { space = from; page = page }) is_here in
      let same : f.entry ≡ e.0 = same_value (sym f.at ∙ e.1) in
      let place : f.entry.place ≡ record { space = from; page = page } = ap (λ (x : Entry). x.place) same ∙ e.2 in
      record {
        by = by;
        item = at;
        grant = refl;
        to_space = refl;
        pages = record { index = page - by.mv.source.first; within = omega arith; source_is = omega arith; target_is = omega arith };
        standing = plain t;
        stands = stands_as s key f.entry t f.at f.stands ∙ ap (λ (p : LinkPlace). Some (p, plain t)) place;
        some_right = (none_is (common t.rights by.rights)).0 (ap not some);
      }

  -- the walk over the pages of an item
  abbrev pub NoneBetween : ℕ → ℕ → ℕ → Type 0
  NoneBetween item page start = (m : UsedMove) → Used m → m.item ≡ item → page ≤ m.page → start ≤ m.page

  pub between_first : (item page start : ℕ) (by : ItemMove) → slice_get items item ≡ Some by → (start ≡ page) ⊎ (start ≡ by.mv.source.first) → NoneBetween item page start
  between_first item page start by at is m used item_is ge = grind arith

  pub between_more : (item page start end next : ℕ) (by : ItemMove) → slice_get items item ≡ Some by → end ≡ by.mv.source.first + 2 ^ by.mv.source.log → IsNextKeyIn s from start end next
      → ((m : UsedMove) → Used m → m.item ≡ item → m.page ≢ next) → NoneBetween item page start → NoneBetween item page (next + 1)
  between_more item page start end next by at end_is is out before m used item_is ge =
      let from_here = before m used item_is ge in
      let least = is.least m.page from_here (m.source, move_at m used) in
      let ne = out m used item_is in
      omega (arith, least, ne)

  pub between_all : (item page start end : ℕ) (by : ItemMove) → slice_get items item ≡ Some by → end ≡ by.mv.source.first + 2 ^ by.mv.source.log → NoKeyIn s from start end
      → NoneBetween item page start → (m : UsedMove) → Used m → m.item ≡ item → m.page < page
  between_all item page start end by at end_is none before m used item_is = elim (cases_lt m.page page) [
    | inl lt ↦ lt
    | inr ge ↦
        let b = move_block m used item by at item_is in
        absurd (none m.page (before m used item_is ge) (omega (arith, b.1, end_is)) (m.source, move_at m used))
  ]

  pub between_found : (item page start end next : ℕ) (u : UsedMove) → IsNextKeyIn s from start end next → page ≤ start → NoneBetween item page start → Used u → u.item ≡ item → u.page ≡ next
      → IsNextOfItem s from to items item page u
  between_found item page start end next u is after before used item_is page_is =
      let ge = is.from in
      record {
        moved = used;
        item_is = item_is;
        after = omega (arith, ge, after, page_is);
        first = λ other moved of_item from_page.
            let least = is.least other.page (before other moved of_item from_page) (other.source, move_at other moved) in
            omega (arith, least, page_is);
      }

  -- the walk over the items
  abbrev pub NoneFrom : ℕ → ℕ → ℕ → Type 0
  NoneFrom start item page = (m : UsedMove) → Used m → start ≤ turn_of m → turn item page ≤ turn_of m

  pub from_more : (start item page : ℕ) → ((m : UsedMove) → Used m → m.item ≡ item → m.page < page) → NoneFrom start item page → NoneFrom start (item + 1) 0
  from_more start item page none before m used after = grind arith

  pub from_all : (start item page : ℕ) → length items ≤ item → NoneFrom start item page → (m : UsedMove) → Used m → turn_of m < start
  from_all start item page all before m used = grind (arith, cases_lt, inl, inr, move_item, move_page, arith)

  pub from_found : (start item page : ℕ) (u : UsedMove) → IsNextOfItem s from to items item page u → start ≤ turn item page → NoneFrom start item page → IsNextMove s from to items start u
  from_found start item page u is after before =
      let item_is = is.item_is in
      let ge = is.after in
      let fits = move_page u is.moved in
      record {
        moved = is.moved;
        after = omega (arith, item_is, ge, after);
        first = λ other moved from_start.
            let here = before other moved from_start in
            let other_fits = move_page other moved in
            grind arith;
      }
