-- What the pages of a message bring to their places, part by part. (this profile's own)
use Rattle.std.specs.Prelude.{◌≡◌, ◌≢◌, ◌<◌, ◌≤◌, ◌+◌, ◌*◌, ℕ, zero, suc, length, List, Option, Some, None, Bool, true, false, slice_get}
use Rattle.l4_fpage.specs.Rights.{RightsSet, common}
use Rattle.l4_spaces.specs.Tables.{table_pages, space_tables}
use Rattle.l4_spaces.specs.Rows.{Rows, entry, is_made, AreWhole}
use Rattle.l4_msg.specs.declared.items.ItemMove.{ItemMove}
use Rattle.l4_links.specs.declared.Standing.{Standing}
use Rattle.l4_links.specs.declared.Entry.{Entry}
use Rattle.l4_links.specs.declared.blocks.Pages.{Pages}
use Rattle.l4_links.specs.Entries.{Entries, entry_at, standing_at, parent_of, IsAt, Stands, BroughtBy, IsDue, Brings, LoseNone, IsPlain, pages_of}

-- a child of the parent is under the key now, with the parent's frame and those of these rights that the parent has
pub record Replaces (parent key : ℕ) (rights : RightsSet) (old new : Entries) : Type 0 where
  pub above : Standing
  pub at_parent : standing_at old parent ≡ Some above
  pub stands : Stands key (record { frame = above.frame; rights = common above.rights rights; source = false; granted = None; parent = Some parent }) old new

-- a child can take the place of what is under the key: it has a parent, is not marked, and is no parent
pub record IsSpare (s : Entries) (key : ℕ) (e : Entry) : Type 0 where
  pub plain : IsPlain e
  pub parent : plain.standing.parent ≢ None
  pub leaf : (low : ℕ) → parent_of s low ≢ Some key

-- What is due can come to its places: a child to a place without a key or with a spare node, a granted page to one without a key.
abbrev pub Fits : (Option ℕ → Entry → Type 0) → Entries → Type 0
Fits Due s = (own : Option ℕ) (e : Entry) → Due own e → (key : ℕ) (was : Entry) → entry_at s key ≡ Some was → was.place ≡ e.place → (own ≡ None) × IsSpare s key was

-- the tables of the places of what is due are there
abbrev pub HaveTables : (Option ℕ → Entry → Type 0) → Rows → Type 0
HaveTables Due targets = (own : Option ℕ) (e : Entry) → Due own e → (high low : ℕ) → e.place.page ≡ high * table_pages + low → low < table_pages → is_made targets high ≡ true

-- tables were made, which have no keys
pub record MakesTables (old new : Rows) : Type 0 where
  pub same : (page : ℕ) → entry new page ≡ entry old page
  pub kept : (high : ℕ) → is_made old high ≡ true → is_made new high ≡ true
  pub whole : AreWhole new
  pub full : length new ≤ space_tables

-- the child of this page is due at a place without a key
pub record IsLacking (of : Pages) (s : Entries) (page : ℕ) : Type 0 where
  pub entry : Entry
  pub due : BroughtBy of s None entry
  pub page_is : due.shared.entry.place.page ≡ page
  pub absent : (key : ℕ) → ¬ (IsAt s entry.place key)

-- of the numbers from the first one on and below the second, at most so many are of these
pub data AtMost (P : ℕ → Type 0) : ℕ → ℕ → ℕ → Type 0 where
  none : {end most : ℕ} → AtMost P end end most
  one : {next end most : ℕ} (fewer : ℕ) → fewer < most → AtMost P (next + 1) end fewer → AtMost P next end most
  pass : {next end most : ℕ} → ¬ (P next) → AtMost P (next + 1) end most → AtMost P next end most

-- the sum of the first of these numbers
unfoldable pub sum_to : (ℕ → ℕ) → ℕ → ℕ
sum_to counts zero = 0
sum_to counts (suc n) = sum_to counts n + counts n

-- what the items before this number bring lacks at most so many keys
pub record WantsItems (from to : ℕ) (items : List ItemMove) (count : ℕ) (s : Entries) (wants : ℕ) : Type 0 where
  pub counts : ℕ → ℕ
  pub each : (item : ℕ) (by : ItemMove) → item < count → slice_get items item ≡ Some by
      → AtMost (IsLacking (pages_of from to by) s) (pages_of from to by).source.page (pages_of from to by).end (counts item)
  pub total : sum_to counts count ≤ wants

-- What the items before this number bring can come: it fits, its tables are there, so many slots are enough, and no granted page loses a
-- right. Unless something changes all is there already.
abbrev pub CanBring : (from to : ℕ) (items : List ItemMove) (count : ℕ) (s : Entries) (targets : Rows) (wants : ℕ) (changes : Bool) → Type 0
CanBring from to items count s targets wants changes =
    Fits (IsDue from to items count s) s × HaveTables (IsDue from to items count s) targets × WantsItems from to items count s wants
    × LoseNone from to items count s × (changes ≡ false → Brings (IsDue from to items count s) s s)
