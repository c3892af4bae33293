-- What moves from the pages of one table to places of another one, and whether it can take these. (this profile's own)
use Rattle.std.specs.Prelude.{◌≡◌, ◌≢◌, ◌⊎◌, ◌<◌, ◌≤◌, ◌+◌, ◌-◌, ◌*◌, ◌/◌, ℕ, List, Option, Some, None, IsTrue, Bool, false, true, slice_index_or, slice_set}
use Rattle.std.specs.FinSet as set
use Rattle.l4_fpage.specs.Rights.{RightsSet, common, no_rights, Within}
use Rattle.l4_spaces.specs.Tables.{Tables, key_of, table_pages}
use Rattle.l4_spaces.specs.Rows.{Rows, entry, is_made, AreTablesOf, IsRowOf, InTable}
use Rattle.l4_spaces.specs.Keys.{IsKey}
use Rattle.l4_nodes.specs.declared.Place.{Place}
use Rattle.l4_nodes.specs.declared.nodes.Node.{Node}
use Rattle.l4_nodes.specs.Slots.{Slots, Store, node_at, SetsPlace, HasRoomFor}
use Rattle.l4_links.specs.declared.Entry.{Entry}
use Rattle.l4_links.specs.declared.blocks.Pages.{Pages}
use Rattle.l4_links.specs.Leads.{Leads}
use Rattle.l4_links.specs.Inside.Trees.{parent_at}
use Rattle.l4_links.specs.Inside.Nodes.{limbs, AreKeys, AddsUnder}
use Rattle.l4_links.specs.Inside.Bringing.{Replaces, AtMost, IsLacking, Fits, HaveTables}
use Rattle.l4_links.specs.Inside.Stacks.{HasStack}
use Rattle.l4_links.specs.Inside.Keeping.{IsIndexed, IsLive, entries_of}
use Rattle.l4_links.specs.Entries.{place_for, IsBrought, Brings}

-- what is under the key shares no right with these
abbrev pub SharesNone : ℕ → RightsSet → Slots → Type 0
SharesNone key rights slots = (n : Node) → node_at slots key ≡ Some n → common n.rights rights ≡ no_rights

-- what is under the key shares a right with these
abbrev pub SharesSome : ℕ → RightsSet → Slots → Type 0
SharesSome key rights slots = (n : Node) × (node_at slots key ≡ Some n) × (common n.rights rights ≢ no_rights)

-- what is under the key has a right, and no mark of a message
abbrev pub IsBareNode : ℕ → Slots → Type 0
IsBareNode key slots = (n : Node) → node_at slots key ≡ Some n → (n.rights ≢ no_rights) × (n.source ≡ false) × (n.granted ≡ None)

-- a child of what is under the key has come to the place under a new key, which the table names at this entry, where there was none
pub record AddsAt (parent : ℕ) (place : Place) (rights : RightsSet) (low : ℕ) (old new : Slots) (row_old row_new : List (Option ℕ)) : Type 0 where
  pub above : Node
  pub stands : node_at old parent ≡ Some above
  pub shares : common above.rights rights ≢ no_rights
  pub key : ℕ
  pub few : IsKey key
  pub adds : AddsUnder parent place above rights old new key
  pub free : slice_index_or row_old low None ≡ None
  pub named : row_new ≡ slice_set row_old low (Some key)

-- what is under the key gives its place to a child of what is under the other one: the trees are mended, and each page keeps its key
pub record Renews (parent key : ℕ) (rights : RightsSet) (old new : Slots) : Type 0 where
  pub replaces : Replaces parent key rights (entries_of old) (entries_of new)
  pub live : (first : Option ℕ) (stamp : ℕ) → IsLive old first stamp → IsLive new first stamp
  pub stack : (head : Option ℕ) → HasStack old head → HasStack new head
  pub indexed : (all : Tables) → IsIndexed old all → IsIndexed new all

-- the entry of the target's table names what a child takes the place of
pub record RenewsAt (parent : ℕ) (rights : RightsSet) (low : ℕ) (old new : Slots) (row_old row_new : List (Option ℕ)) : Type 0 where
  pub shares : SharesSome parent rights old
  pub key : ℕ
  pub taken : slice_index_or row_old low None ≡ Some key
  pub renews : Renews parent key rights old new
  pub same : row_new ≡ row_old

-- what is under the key has gone to the place: the target's table names it at this entry, where there was none, and the source's table does not name it
pub record GivesAt (key : ℕ) (place : Place) (rights : RightsSet) (from to : ℕ) (old new : Slots) (source_old source_new row_old row_new : List (Option ℕ)) : Type 0 where
  pub shares : SharesSome key rights old
  pub sets : SetsPlace key place old new
  pub free : slice_index_or row_old to None ≡ None
  pub left : source_new ≡ slice_set source_old from None
  pub named : row_new ≡ slice_set row_old to (Some key)

-- What has come of an entry of the source's table, which names this key or none: nothing, where no right is shared, or a child at an entry of the target's table,
-- or else the page has gone there.
abbrev pub Enters : Pages → Option ℕ → Place → (from to : ℕ) → (old new : Slots) → (source_old source_new row_old row_new : List (Option ℕ)) → Type 0
Enters of key place from to old new source_old source_new row_old row_new =
    (((k : ℕ) → key ≡ Some k → SharesNone k of.rights old) × (new ≡ old) × (source_new ≡ source_old) × (row_new ≡ row_old))
    ⊎ ((k : ℕ) × (key ≡ Some k)
    × (((of.grant ≡ false) × (source_new ≡ source_old) × (AddsAt k place of.rights to old new row_old row_new ⊎ RenewsAt k of.rights to old new row_old row_new))
    ⊎ ((of.grant ≡ true) × GivesAt k place of.rights from to old new source_old source_new row_old row_new)))

-- the nodes are trees, and the two tables are those of these numbers, in spaces that differ
pub record AreRows (from high to other : ℕ) (source target : List (Option ℕ)) (slots : Slots) (first head : Option ℕ) (stamp : ℕ) (all : Tables) : Type 0 where
  pub live : IsLive slots first stamp
  pub stack : HasStack slots head
  pub source_row : IsRowOf all from high source
  pub target_row : IsRowOf all to other target
  pub indexed : IsIndexed slots all
  pub there : IsTrue (set.contains all.spaces to)
  pub apart : from ≢ to

-- the pages beyond the two tables have the keys that they had
pub record AreSameAround (from high to other : ℕ) (old new : Tables) : Type 0 where
  pub away : (space page : ℕ) → ¬ ((space ≡ from) × InTable high page) → ¬ ((space ≡ to) × InTable other page) → key_of new space page ≡ key_of old space page
  pub spaces : new.spaces ≡ old.spaces

-- there is room for what the item's pages from this one on bring to places without a key, and for so many more
abbrev pub HaveRoom : Pages → (page more : ℕ) → Store → Type 0
HaveRoom of page more store = (wants : ℕ) × AtMost (IsLacking of (entries_of store.slots)) page of.end wants × HasRoomFor store (wants + more)

-- room for more is left, once the pages up to this one have moved
abbrev pub LeavesRoom : Pages → (page mid : ℕ) → (old new : Store) → Type 0
LeavesRoom of page mid old new = (more : ℕ) → mid ≤ of.end → HaveRoom of page more old → HaveRoom of mid more new

-- these entries of two tables are those of one of the item's pages and of its place
pub record StartAt (of : Pages) (page f t high other : ℕ) : Type 0 where
  pub from : of.source.page ≤ page
  pub page_is : page ≡ high * table_pages + f
  pub there_is : (place_for of page).page ≡ other * table_pages + t

-- the item's pages from this one on and below the end have moved, in two tables, and all else is as it was
pub record RunsUpTo (of : Pages) (page end high other : ℕ) (line row : List (Option ℕ)) (old new : Store) (first head : Option ℕ) (stamp : ℕ) (all later : Tables) : Type 0 where
  pub rows : AreRows of.source.space high of.target.space other line row new.slots first head stamp later
  pub around : AreSameAround of.source.space high of.target.space other all later
  pub brings : Brings (IsBrought of page end (entries_of old.slots)) (entries_of old.slots) (entries_of new.slots)
  pub room : LeavesRoom of page end old new

-- so many pages from this one on can move, whatever the tables are that these entries are of
pub record CanRun (of : Pages) (page f t n : ℕ) (line row : List (Option ℕ)) (store : Store) : Type 0 where
  pub high : ℕ
  pub other : ℕ
  pub first : Option ℕ
  pub head : Option ℕ
  pub stamp : ℕ
  pub all : Tables
  pub start : StartAt of page f t high other
  pub rows : AreRows of.source.space high of.target.space other line row store.slots first head stamp all
  pub f_in : f + n ≤ table_pages
  pub t_in : t + n ≤ table_pages
  pub before : page + n ≤ of.end
  pub fits : Fits (IsBrought of page of.end (entries_of store.slots)) (entries_of store.slots)
  pub room : HaveRoom of page 0 store

-- the first `done` of these pages have moved
abbrev pub BringsRow : Pages → (page f t n done : ℕ) → (line_old line_new row_old row_new : List (Option ℕ)) → (old new : Store) → Type 0
BringsRow of page f t n done line_old line_new row_old row_new old new =
    (c : CanRun of page f t n line_old row_old old) → (later : Tables) × RunsUpTo of page (page + done) c.high c.other line_new row_new old new c.first c.head c.stamp c.all later

-- The nodes are trees. The tables of two spaces are aside, and with these back in place the tables name each page's key.
pub record AreGrowing (from to : ℕ) (pages : Tables) (sources targets : Rows) (slots : Slots) (first head : Option ℕ) (stamp : ℕ) (all : Tables) : Type 0 where
  pub live : IsLive slots first stamp
  pub stack : HasStack slots head
  pub source : AreTablesOf all from sources
  pub target : AreTablesOf all to targets
  pub away : (other page : ℕ) → other ≢ from → other ≢ to → key_of all other page ≡ key_of pages other page
  pub spaces : all.spaces ≡ pages.spaces
  pub indexed : IsIndexed slots all
  pub there : IsTrue (set.contains all.spaces to)

-- so it still is, of other nodes and tables
abbrev pub StayGrowing : (from to : ℕ) → Tables → (sources_old sources_new rows_old rows_new : Rows) → (old new : Slots) → Type 0
StayGrowing from to pages sources_old sources_new rows_old rows_new old new =
    (first head : Option ℕ) (stamp : ℕ) (all : Tables) → AreGrowing from to pages sources_old rows_old old first head stamp all → (later : Tables) × AreGrowing from to pages sources_new rows_new new first head stamp later

-- what is due is there, while the tables of both spaces are aside
abbrev pub BringsAll : (from to : ℕ) → (Option ℕ → Entry → Type 0) → (sources_old sources_new rows_old rows_new : Rows) → (old new : Slots) → Type 0
BringsAll from to Due sources_old sources_new rows_old rows_new old new =
    (pages : Tables) (first head : Option ℕ) (stamp : ℕ) (all : Tables) → AreGrowing from to pages sources_old rows_old old first head stamp all
    → (later : Tables) × AreGrowing from to pages sources_new rows_new new first head stamp later × Brings Due (entries_of old) (entries_of new)

-- the same for the pages from this one on and below the end
abbrev pub BringsPart : Pages → (page end : ℕ) → (sources_old sources_new rows_old rows_new : Rows) → (old new : Slots) → Type 0
BringsPart of page end sources_old sources_new rows_old rows_new old new =
    BringsAll of.source.space of.target.space (IsBrought of page end (entries_of old)) sources_old sources_new rows_old rows_new old new

-- the pages from this one on can move to their places, whose tables are there, and there is room
pub record CanBringFrom (of : Pages) (page : ℕ) (sources targets : Rows) (store : Store) : Type 0 where
  pub pages : Tables
  pub first : Option ℕ
  pub head : Option ℕ
  pub stamp : ℕ
  pub all : Tables
  pub from : of.source.page ≤ page
  pub apart : of.source.space ≢ of.target.space
  pub growing : AreGrowing of.source.space of.target.space pages sources targets store.slots first head stamp all
  pub fits : Fits (IsBrought of page of.end (entries_of store.slots)) (entries_of store.slots)
  pub made : HaveTables (IsBrought of page of.end (entries_of store.slots)) targets
  pub room : HaveRoom of page 0 store

-- the pages from this one on and below the other one have moved
pub record BringsPages (of : Pages) (page mid : ℕ) (sources_old sources_new rows_old rows_new : Rows) (old new : Store) : Type 0 where
  pub brings : BringsPart of page mid sources_old sources_new rows_old rows_new old.slots new.slots
  pub made : (high : ℕ) → is_made rows_old high ≡ true → is_made rows_new high ≡ true
  pub room : LeavesRoom of page mid old new

-- what is under the key can give its place to a child: it has a parent, and nothing descends from it
pub record IsSpareNode (key : ℕ) (slots : Slots) : Type 0 where
  pub node : Node
  pub stands : node_at slots key ≡ Some node
  pub parent : node.parent ≢ None
  pub leaf : (low : ℕ) → ¬ (Leads (parent_at (limbs slots)) low key)

-- what is under the first key, if there is one and it shares a right, finds its entry free, or a child of it can take the place of what the entry names
abbrev pub Takes : Pages → (key taken : Option ℕ) → Slots → Type 0
Takes of key taken slots = (k : ℕ) → key ≡ Some k → SharesSome k of.rights slots → (taken ≡ None) ⊎ ((of.grant ≡ false) × ((t : ℕ) × (taken ≡ Some t) × IsSpareNode t slots))

-- if it is granted, it loses no right
abbrev pub Keeps : Pages → (key : Option ℕ) → Slots → Type 0
Keeps of key slots = (k : ℕ) (n : Node) → of.grant ≡ true → key ≡ Some k → node_at slots k ≡ Some n → common n.rights of.rights ≢ no_rights → Within n.rights of.rights

-- a child of it finds its entry free
abbrev pub Lacks : Pages → (key taken : Option ℕ) → Slots → Type 0
Lacks of key taken slots = (of.grant ≡ false) × ((k : ℕ) × (key ≡ Some k) × SharesSome k of.rights slots × (taken ≡ None))

-- it can move to its entry
pub record CanEnter (of : Pages) (key taken : Option ℕ) (store : Store) : Type 0 where
  pub live : (first : Option ℕ) × (stamp : ℕ) × IsLive store.slots first stamp
  pub few : AreKeys store.slots
  pub bare : (k z : ℕ) → key ≡ Some k → SharesSome k of.rights store.slots → taken ≡ Some z → IsBareNode z store.slots
  pub takes : Takes of key taken store.slots
  pub apart : key ≡ taken → key ≡ None
  pub room : Lacks of key taken store.slots → HasRoomFor store 1

-- what is under the second key is a child of what is under the first one, with those of these rights that this has
pub record IsChildOf (parent child : ℕ) (rights : RightsSet) (slots : Slots) : Type 0 where
  pub node : Node
  pub stands : node_at slots child ≡ Some node
  pub parent_is : node.parent ≡ Some parent
  pub above : Node
  pub at_parent : node_at slots parent ≡ Some above
  pub rights_are : node.rights ≡ common above.rights rights

-- a child of what is under the first key is there already, if that shares a right
abbrev pub Holds : Pages → (key taken : Option ℕ) → Slots → Type 0
Holds of key taken slots = (k : ℕ) → key ≡ Some k → SharesSome k of.rights slots → (of.grant ≡ false) × ((t : ℕ) × (taken ≡ Some t) × IsChildOf k t of.rights slots)

-- it can move, and so many slots are what it needs
abbrev pub WantsOne : Pages → (key taken : Option ℕ) → Slots → (wants : ℕ) (changes : Bool) → Type 0
WantsOne of key taken slots wants changes =
    Takes of key taken slots × Keeps of key slots × (Lacks of key taken slots → 1 ≤ wants) × (wants ≤ 1) × (changes ≡ false → Holds of key taken slots)

-- from the first of these numbers on and below the second, this holds; at most so many lack something, and unless something changes all is there
pub record AreWanted (Takes Lacks Holds : ℕ → Type 0) (from end wants : ℕ) (changes : Bool) : Type 0 where
  pub takes : (n : ℕ) → from ≤ n → n < end → Takes n
  pub most : AtMost Lacks from end wants
  pub few : from + wants ≤ end
  pub holds : changes ≡ false → (n : ℕ) → from ≤ n → n < end → Holds n

-- so it is for each of these entries
abbrev pub WantsRow : Pages → (f t n : ℕ) → (source target : List (Option ℕ)) → (wants : ℕ) (changes : Bool) → Slots → Type 0
WantsRow of f t n source target wants changes slots =
    AreWanted (λ step. Takes of (slice_index_or source (f + step) None) (slice_index_or target (t + step) None) slots × Keeps of (slice_index_or source (f + step) None) slots)
    (λ step. Lacks of (slice_index_or source (f + step) None) (slice_index_or target (t + step) None) slots)
    (λ step. Holds of (slice_index_or source (f + step) None) (slice_index_or target (t + step) None) slots) 0 n wants changes

-- the page can move, by the tables, and the table of its place is there
abbrev pub CanMove : Pages → (sources targets : Rows) → Slots → (page : ℕ) → Type 0
CanMove of sources targets slots page =
    Takes of (entry sources page) (entry targets (place_for of page).page) slots × Keeps of (entry sources page) slots
    × ((key : ℕ) → entry sources page ≡ Some key → SharesSome key of.rights slots → is_made targets ((place_for of page).page / table_pages) ≡ true)

abbrev pub LacksPage : Pages → (sources targets : Rows) → Slots → (page : ℕ) → Type 0
LacksPage of sources targets slots page = Lacks of (entry sources page) (entry targets (place_for of page).page) slots

abbrev pub HoldsPage : Pages → (sources targets : Rows) → Slots → (page : ℕ) → Type 0
HoldsPage of sources targets slots page = Holds of (entry sources page) (entry targets (place_for of page).page) slots

abbrev pub WantsPages : Pages → (page end : ℕ) → (sources targets : Rows) → (wants : ℕ) (changes : Bool) → Slots → Type 0
WantsPages of page end sources targets wants changes slots = AreWanted (CanMove of sources targets slots) (LacksPage of sources targets slots) (HoldsPage of sources targets slots) page end wants changes
