-- What a contract sees of the nodes: the spaces that exist, the page of each key, and the node there (this profile's own). A node "stands"
-- if it is a mapping and not a blank.
use Rattle.std.specs.Prelude.{◌≡◌, ◌≢◌, ◌↔◌, ◌⊎◌, ◌<◌, ◌≤◌, ◌+◌, ◌-◌, ◌^◌, ℕ, Bool, true, false, List, length, Option, Some, None, slice_get, slice_index_or, option_and_then, if◌then◌else◌, IsTrue, refl}
use Rattle.std.specs.Option.{option_map}
use Rattle.std.specs.Ordering.{nat_cmp}
use Rattle.std.specs.FinSet as set
use Rattle.std.specs.Coded.{Coded, code_by, coded×, coded_ℕ, coded_bool, coded_list, coded_option}
use Rattle.l4_fpage.specs.Rights.{RightsSet, rights_code, common, no_rights, Within}
use Rattle.l4_spaces.specs.Tables.{IsPage}
use Rattle.l4_msg.specs.declared.items.ItemMove.{ItemMove}
use Rattle.l4_nodes.specs.declared.Place.{Place}
use Rattle.l4_links.specs.declared.Standing.{Standing}
use Rattle.l4_links.specs.declared.Entry.{Entry}
use Rattle.l4_links.specs.declared.blocks.Pages.{Pages}
use Rattle.l4_links.specs.Leads.{Leads}

-- the entry under each key from 0 on, if there is one
abbrev pub Entries : Type 0
Entries = List (Option Entry)

abbrev pub place_code : Coded Place
place_code = code_by (ℕ × ℕ) (coded× coded_ℕ coded_ℕ) (λ p. (p.space, p.page)) (λ p. record { space = p.0; page = p.1 }) (λ _. refl)

abbrev pub standing_code : Coded Standing
standing_code =
    code_by (ℕ × (RightsSet × (Bool × (Option RightsSet × Option ℕ)))) (coded× coded_ℕ (coded× rights_code (coded× coded_bool (coded× (coded_option rights_code) (coded_option coded_ℕ)))))
    (λ t. (t.frame, (t.rights, (t.source, (t.granted, t.parent))))) (λ p. record { frame = p.0; rights = p.1.0; source = p.1.1.0; granted = p.1.1.1.0; parent = p.1.1.1.1 }) (λ _. refl)

abbrev pub entry_code : Coded Entry
entry_code =
    code_by (Place × (Bool × Option Standing)) (coded× place_code (coded× coded_bool (coded_option standing_code)))
    (λ e. (e.place, (e.wanted, e.stands))) (λ p. record { place = p.0; wanted = p.1.0; stands = p.1.1 }) (λ _. refl)

abbrev pub entries_code : Coded Entries
entries_code = coded_list (coded_option entry_code)

-- the entries, and the spaces that exist
pub record Linked : Type 0 where
  pub entries : Entries
  pub spaces : set.FinSet nat_cmp

abbrev pub linked_code : Coded Linked
linked_code = code_by (Entries × set.FinSet nat_cmp) (coded× entries_code (set.code coded_ℕ)) (λ s. (s.entries, s.spaces)) (λ p. record { entries = p.0; spaces = p.1 }) (λ _. refl)

-- the entry under a key, if there is one
abbrev pub entry_at : Entries → ℕ → Option Entry
entry_at s key = slice_index_or s key None

-- the mapping under a key, if there is one
abbrev pub standing_at : Entries → ℕ → Option Standing
standing_at s key = option_and_then (λ (e : Entry). e.stands) (entry_at s key)

-- there is a mapping under the key
abbrev pub IsStanding : Entries → ℕ → Type 0
IsStanding s key = standing_at s key ≢ None

-- the key is that of a blank: a page without a mapping
pub record IsBlank (s : Entries) (key : ℕ) : Type 0 where
  pub there : entry_at s key ≢ None
  pub blank : standing_at s key ≡ None

-- the key of the parent
abbrev pub parent_of : Entries → ℕ → Option ℕ
parent_of s key = option_and_then (λ (t : Standing). t.parent) (standing_at s key)

-- the key is that of the page
abbrev pub IsAt : Entries → Place → ℕ → Type 0
IsAt s place key = option_map {T = Entry} (λ e. e.place) (entry_at s key) ≡ Some place

-- the key is that of the page, and no other key is
abbrev pub IsKeyOf : Entries → Place → ℕ → Type 0
IsKeyOf s place key = (other : ℕ) → (other ≡ key) ↔ IsAt s place other

-- the page has a key
abbrev pub HasKey : Entries → ℕ → ℕ → Type 0
HasKey s space page = (key : ℕ) × IsAt s (record { space = space; page = page }) key

-- no page of the space from this one on has a key
abbrev pub NoKeyFrom : Entries → ℕ → ℕ → Type 0
NoKeyFrom s space page = (other : ℕ) → page ≤ other → ¬ (HasKey s space other)

-- the least page of the space that has a key and is not below this one
pub record IsNextKey (s : Entries) (space page next : ℕ) : Type 0 where
  pub there : HasKey s space next
  pub from : page ≤ next
  pub least : (other : ℕ) → page ≤ other → HasKey s space other → next ≤ other

-- no page of the space from this one on and below the end has a key
abbrev pub NoKeyIn : Entries → ℕ → ℕ → ℕ → Type 0
NoKeyIn s space page end = (other : ℕ) → page ≤ other → other < end → ¬ (HasKey s space other)

-- the least page of the space that has a key, is not below this one, and is below the end
pub record IsNextKeyIn (s : Entries) (space page end next : ℕ) : Type 0 where
  pub there : HasKey s space next
  pub from : page ≤ next
  pub before : next < end
  pub least : (other : ℕ) → page ≤ other → HasKey s space other → next ≤ other

-- one or more steps to the parent lead from the first key to the second
abbrev pub Descends : Entries → ℕ → ℕ → Type 0
Descends s low high = Leads (parent_of s) low high

-- no page of the space from this one on and below the end has a key from which another key descends
abbrev pub NoParentIn : Entries → ℕ → ℕ → ℕ → Type 0
NoParentIn s space page end = (other key low : ℕ) → page ≤ other → other < end → IsAt s (record { space = space; page = other }) key → ¬ (Descends s low key)

-- the least page of the space that has a key from which another key descends, is not below this one, and is below the end
pub record IsNextParentIn (s : Entries) (space page end next key : ℕ) : Type 0 where
  pub at : IsAt s (record { space = space; page = next }) key
  pub parent : (low : ℕ) × Descends s low key
  pub from : page ≤ next
  pub before : next < end
  pub least : NoParentIn s space page next

-- the key is that of a source
abbrev pub IsSource : Entries → ℕ → Type 0
IsSource s key = option_map (λ (t : Standing). t.source) (standing_at s key) ≡ Some true

-- each mapping has a right
abbrev pub HaveRights : Entries → Type 0
HaveRights s = (key : ℕ) (t : Standing) → standing_at s key ≡ Some t → t.rights ≢ no_rights

-- each page is in a space that exists, and has one key
pub record HavePlaces (s : Linked) : Type 0 where
  pub housed : (key : ℕ) (e : Entry) → entry_at s.entries key ≡ Some e → IsTrue (set.contains s.spaces e.place.space)
  pub fits : (key : ℕ) (e : Entry) → entry_at s.entries key ≡ Some e → IsPage e.place.page
  pub once : (place : Place) (a b : ℕ) → IsAt s.entries place a → IsAt s.entries place b → a ≡ b

-- the parent is a mapping, has the same frame, and has all rights of its child
pub record ParentStands (s : Entries) (t : Standing) (parent : ℕ) : Type 0 where
  pub above : Standing
  pub at : standing_at s parent ≡ Some above
  pub frame : t.frame ≡ above.frame
  pub within : common t.rights above.rights ≡ t.rights

-- the mappings are trees
pub record AreTrees (s : Entries) : Type 0 where
  pub parents : (key : ℕ) (t : Standing) (parent : ℕ) → standing_at s key ≡ Some t → t.parent ≡ Some parent → ParentStands s t parent
  pub apart : (key : ℕ) → ¬ (Descends s key key)
  pub decided : (low high : ℕ) → Descends s low high ⊎ ¬ (Descends s low high)

-- the entry with only those of its rights that are in `cap`
abbrev pub capped : RightsSet → Entry → Entry
capped cap e = record e { stands = option_map (λ (t : Standing). record t { rights = common t.rights cap }) e.stands }

-- a blank for the place was added under the key
pub record AddsBlank (place : Place) (old new : Entries) (key : ℕ) : Type 0 where
  pub vacant : entry_at old key ≡ None
  pub filled : entry_at new key ≡ Some (record { place = place; wanted = false; stands = None })
  pub others : (other : ℕ) → other ≢ key → entry_at new other ≡ entry_at old other

-- this mapping is under the key now, and everything else is unchanged
pub record Stands (key : ℕ) (standing : Standing) (old new : Entries) : Type 0 where
  pub here : entry_at new key ≡ option_map {T = Entry} (λ e. record e { stands = Some standing }) (entry_at old key)
  pub others : (other : ℕ) → other ≢ key → entry_at new other ≡ entry_at old other

-- a child of the parent is under the key now, with the parent's frame and those of these rights that the parent has
pub record Sprouts (parent key : ℕ) (rights : RightsSet) (old new : Entries) : Type 0 where
  pub above : Standing
  pub at_parent : standing_at old parent ≡ Some above
  pub stands : Stands key (record { frame = above.frame; rights = common above.rights rights; source = false; granted = None; parent = Some parent }) old new
  pub leads : (low high : ℕ) → low ≢ key → Descends new low high ↔ Descends old low high
  pub from_new : (high : ℕ) → Descends new key high ↔ ((high ≡ parent) ⊎ Descends old parent high)

-- A child of the parent was added under a new key at the place, with the parent's frame and those of these rights that the parent has.
-- Everything else is unchanged.
pub record AddsChild (parent : ℕ) (place : Place) (rights : RightsSet) (old new : Entries) (key : ℕ) : Type 0 where
  pub above : Standing
  pub at_parent : standing_at old parent ≡ Some above
  pub vacant : entry_at old key ≡ None
  pub filled : entry_at new key ≡ Some (record { place = place; wanted = false; stands = Some (record { frame = above.frame; rights = common above.rights rights; source = false; granted = None; parent = Some parent }) })
  pub others : (other : ℕ) → other ≢ key → entry_at new other ≡ entry_at old other

-- what is left of a page that is cut off: a blank if the page is wanted, otherwise nothing
abbrev pub cut_off : Option Entry → Option Entry
cut_off cut = option_and_then (λ (e : Entry). if e.wanted then Some (record e { stands = None }) else None) cut

-- the keys that descend from the key are cut off, there is no mapping under the key, and everything else is unchanged
pub record Clears (top : ℕ) (old new : Entries) : Type 0 where
  pub gone : (key : ℕ) → Descends old key top → entry_at new key ≡ cut_off (entry_at old key)
  pub here : entry_at new top ≡ option_map {T = Entry} (λ e. record e { stands = None }) (entry_at old top)
  pub kept : (key : ℕ) → key ≢ top → ¬ (Descends old key top) → entry_at new key ≡ entry_at old key

-- the keys that descend from the key are cut off, and everything else is unchanged
pub record CutsBelow (top : ℕ) (old new : Entries) : Type 0 where
  pub gone : (key : ℕ) → Descends old key top → entry_at new key ≡ cut_off (entry_at old key)
  pub kept : (key : ℕ) → ¬ (Descends old key top) → entry_at new key ≡ entry_at old key

-- mappings without rights are removed with their pages, and everything else is unchanged
pub record Buries (old new : Entries) : Type 0 where
  pub gone : (key : ℕ) (t : Standing) → standing_at old key ≡ Some t → t.rights ≡ no_rights → entry_at new key ≡ None
  pub kept : (key : ℕ) → ((t : Standing) → standing_at old key ≡ Some t → t.rights ≢ no_rights) → entry_at new key ≡ entry_at old key

-- the mappings that descend from the key have lost all rights but these, and everything else is unchanged
pub record CapsBelow (top : ℕ) (cap : RightsSet) (old new : Entries) : Type 0 where
  pub capped : (key : ℕ) → Descends old key top → entry_at new key ≡ option_map (capped cap) (entry_at old key)
  pub kept : (key : ℕ) → ¬ (Descends old key top) → entry_at new key ≡ entry_at old key

-- the mapping under the key and those that descend from it have lost all rights but these, and everything else is unchanged
pub record CapsTree (top : ℕ) (cap : RightsSet) (old new : Entries) : Type 0 where
  pub top_capped : entry_at new top ≡ option_map (capped cap) (entry_at old top)
  pub below_capped : (key : ℕ) → Descends old key top → entry_at new key ≡ option_map (capped cap) (entry_at old key)
  pub kept : (key : ℕ) → key ≢ top → ¬ (Descends old key top) → entry_at new key ≡ entry_at old key

-- the mapping under the key is now a source, or is not one, and everything else is unchanged
pub record SetsSource (key : ℕ) (source : Bool) (old new : Entries) : Type 0 where
  pub here : entry_at new key ≡ option_map {T = Entry} (λ e. record e { stands = option_map (λ (t : Standing). record t { source = source }) e.stands }) (entry_at old key)
  pub others : (other : ℕ) → other ≢ key → entry_at new other ≡ entry_at old other

-- the mapping under the key is neither a source nor granted any more, and everything else is unchanged
pub record SetsPlain (key : ℕ) (old new : Entries) : Type 0 where
  pub here : entry_at new key ≡ option_map {T = Entry} (λ e. record e { stands = option_map (λ (t : Standing). record t { source = false; granted = None }) e.stands }) (entry_at old key)
  pub others : (other : ℕ) → other ≢ key → entry_at new other ≡ entry_at old other

-- the page of the key is now wanted, or is not wanted, and everything else is unchanged
pub record SetsWanted (key : ℕ) (wanted : Bool) (old new : Entries) : Type 0 where
  pub here : entry_at new key ≡ option_map {T = Entry} (λ e. record e { wanted = wanted }) (entry_at old key)
  pub others : (other : ℕ) → other ≢ key → entry_at new other ≡ entry_at old other

-- The mapping under the key has the blank's page now, with a note of the rights of the item that grants it. The blank is removed, and
-- everything else is unchanged.
pub record TakesOver (key blank : ℕ) (rights : RightsSet) (old new : Entries) : Type 0 where
  pub page : Entry
  pub was : entry_at old blank ≡ Some page
  pub here : entry_at new key ≡ option_map {T = Entry} (λ e. record e { place = page.place; stands = option_map (λ (t : Standing). record t { granted = Some rights }) e.stands }) (entry_at old key)
  pub gone : entry_at new blank ≡ None
  pub others : (other : ℕ) → other ≢ key → other ≢ blank → entry_at new other ≡ entry_at old other

-- the pages of an item in the sender's space, and what it does with them in the receiver's
abbrev pub pages_of : ℕ → ℕ → ItemMove → Pages
pages_of from to by = record {
  source = record { space = from; page = by.mv.source.first };
  end = by.mv.source.first + 2 ^ by.mv.source.log;
  target = record { space = to; page = by.mv.target.first };
  rights = by.rights;
  grant = by.grant;
}

-- the place to which the page goes
abbrev pub place_for : Pages → ℕ → Place
place_for of page = record { space = of.target.space; page = page - of.source.page + of.target.page }

-- what is under the key is at one of these pages, from the first one on and below the end, and shares a right with the item
pub record IsShared (of : Pages) (first end : ℕ) (s : Entries) (key : ℕ) : Type 0 where
  pub entry : Entry
  pub at : entry_at s key ≡ Some entry
  pub space : entry.place.space ≡ of.source.space
  pub from : first ≤ entry.place.page
  pub before : entry.place.page < end
  pub standing : Standing
  pub stands : entry.stands ≡ Some standing
  pub shares : common standing.rights of.rights ≢ no_rights

-- the child of what is under the key, at this place, with those of these rights that the parent has
abbrev pub child_entry : Place → ℕ → Standing → RightsSet → Entry
child_entry place parent above rights = record {
  place = place;
  wanted = false;
  stands = Some (record { frame = above.frame; rights = common above.rights rights; source = false; granted = None; parent = Some parent });
}

-- The item brings the entry for one of these pages: if it maps, the page's child, under any key; and if it grants, the page's own entry at
-- its new place, under its own key.
pub record IsBrought (of : Pages) (first end : ℕ) (s : Entries) (own : Option ℕ) (e : Entry) : Type 0 where
  pub key : ℕ
  pub shared : IsShared of first end s key
  pub place : e.place ≡ place_for of shared.entry.place.page
  pub how :
      ((of.grant ≡ false) × (own ≡ None) × (e ≡ child_entry e.place key shared.standing of.rights))
      ⊎ ((of.grant ≡ true) × (own ≡ Some key) × (e ≡ record shared.entry { place = e.place }))

-- the same for any of its pages
abbrev pub BroughtBy : Pages → Entries → Option ℕ → Entry → Type 0
BroughtBy of s = IsBrought of of.source.page of.end s

-- one of the items before this number brings the entry, under this key if there is one
pub record IsDue (from to : ℕ) (items : List ItemMove) (count : ℕ) (s : Entries) (own : Option ℕ) (e : Entry) : Type 0 where
  pub item : ℕ
  pub by : ItemMove
  pub before : item < count
  pub item_is : slice_get items item ≡ Some by
  pub brings : BroughtBy (pages_of from to by) s own e

-- an entry that is due is for the place
abbrev pub IsFilled : (Option ℕ → Entry → Type 0) → Place → Type 0
IsFilled Due place = (own : Option ℕ) × (e : Entry) × Due own e × (e.place ≡ place)

-- what is under the key, at this place, stays: nothing that is due is for the place, or is due under the key
pub record Stays (Due : Option ℕ → Entry → Type 0) (key : ℕ) (place : Place) : Type 0 where
  pub unfilled : ¬ (IsFilled Due place)
  pub not_given : (e : Entry) → ¬ (Due (Some key) e)

-- what is due may be under this key: it has no key of its own, or this is it
abbrev pub IsUnder : Option ℕ → ℕ → Type 0
IsUnder own key = (own ≡ None) ⊎ (own ≡ Some key)

-- what is due is there, what was at its places is gone, and everything else is unchanged
pub record Brings (Due : Option ℕ → Entry → Type 0) (old new : Entries) : Type 0 where
  pub there : (own : Option ℕ) (e : Entry) → Due own e → (key : ℕ) × IsUnder own key × (entry_at new key ≡ Some e)
  pub kept : (key : ℕ) (e : Entry) → entry_at old key ≡ Some e → Stays Due key e.place → entry_at new key ≡ Some e
  pub only : (key : ℕ) (e : Entry) → entry_at new key ≡ Some e →
      ((own : Option ℕ) × Due own e × IsUnder own key) ⊎ ((entry_at old key ≡ Some e) × Stays Due key e.place)

-- nothing descends from what is at a place of what is due
abbrev pub AreOverLeaves : (Option ℕ → Entry → Type 0) → Entries → Type 0
AreOverLeaves Due s = (own : Option ℕ) (e : Entry) → Due own e → (key : ℕ) → IsAt s e.place key → (low : ℕ) → ¬ (Descends s low key)

-- if the item grants, none of its pages loses a right
abbrev pub LosesNone : Pages → Entries → Type 0
LosesNone of s = of.grant ≡ true → (key : ℕ) (h : IsShared of of.source.page of.end s key) → Within h.standing.rights of.rights

-- so it is for each of the items before this number
abbrev pub LoseNone : ℕ → ℕ → List ItemMove → ℕ → Entries → Type 0
LoseNone from to items count s = (item : ℕ) (by : ItemMove) → item < count → slice_get items item ≡ Some by → LosesNone (pages_of from to by) s

-- the pages that the one item fills end before those that the other fills, and where one of them grants, so do those that it moves
pub record EndsBefore (a b : ItemMove) : Type 0 where
  pub source : (a.grant ≡ true) ⊎ (b.grant ≡ true) → a.mv.source.first + 2 ^ a.mv.source.log ≤ b.mv.source.first
  pub target : a.mv.target.first + 2 ^ a.mv.target.log ≤ b.mv.target.first

-- of the items before this number, the pages of each end before those of the later ones
abbrev pub AreApart : List ItemMove → ℕ → Type 0
AreApart items end = (low high : ℕ) (a b : ItemMove) → low < high → high < end → slice_get items low ≡ Some a → slice_get items high ≡ Some b → EndsBefore a b

-- What the items bring is there. Nothing descended from what was at its places, and no granted page has lost a right.
abbrev pub MovesItems : ℕ → ℕ → List ItemMove → Entries → Entries → Type 0
MovesItems from to items old new = Brings (IsDue from to items (length items) old) old new × AreOverLeaves (IsDue from to items (length items) old) old × LoseNone from to items (length items) old

-- something stands there with a right, and no operation has marked it
pub record IsPlain (e : Entry) : Type 0 where
  pub standing : Standing
  pub stands : e.stands ≡ Some standing
  pub some_right : standing.rights ≢ no_rights
  pub unwanted : e.wanted ≡ false
  pub no_source : standing.source ≡ false
  pub not_granted : standing.granted ≡ None

abbrev pub ArePlain : Entries → Type 0
ArePlain s = (key : ℕ) (e : Entry) → entry_at s key ≡ Some e → IsPlain e
