-- Regions, the lists of map items and of messages that move exactly a region, and why none of them is shorter than a plan.
-- All of this is this profile's own.
use Rattle.std.specs.Prelude.{◌≡◌, ℕ, ◌+◌, ◌-◌, ◌*◌, ◌/◌, ◌^◌, ◌<◌, ◌≤◌, Some, List, ◌↔◌, ◌⊎◌, length, take, drop, slice_index, nat_lt, if◌then◌else◌, IsTrue}
use Rattle.std.specs.List.{Any, All, AllPairs, AllZip, flat_map}
use Rattle.l4_fpage.specs.Pages.{IsBlock, InBlock, page_bytes, space_pages}
use Rattle.l4_fpage.specs.declared.sizes.PageSize.{PageSize}
use Rattle.l4_fpage.specs.Fpages.{bytes_of, rights_of}
use Rattle.l4_fpage.specs.Rights.{is_none}
use Rattle.l4_msg.specs.Moves.{ItemMoves, RegionMoves, IsMap, base_of, fpage_of, complete}
use Rattle.l4_msg.specs.Sizes.{max_items}
use Rattle.l4_msg.specs.declared.items.Item.{Item}
use Rattle.l4_msg.specs.declared.regions.Region.{Region}

-- the region has no page
abbrev pub IsEmpty : Region → Type 0
IsEmpty r = r.count ≡ 0

-- source and target lie in the space, where pages have this size
pub record InSpace (size : PageSize) (r : Region) : Type 0 where
  pub source : r.source + r.count ≤ space_pages size
  pub target : r.target + r.count ≤ space_pages size

-- one of them does not
abbrev pub IsOutOfSpace : PageSize → Region → Type 0
IsOutOfSpace size r = (space_pages size < r.source + r.count) ⊎ (space_pages size < r.target + r.count)

-- the region names no right
abbrev pub HasNoRights : Region → Type 0
HasNoRights r = IsTrue (is_none r.rights)

-- some map items, of any number, alignment and rights, that together move exactly the region in a complete window
pub record IsRival (size : PageSize) (r : Region) (items : List Item) : Type 0 where
  pub maps : All IsMap items
  pub moves : (source target : ℕ) → Any (λ item. ItemMoves size item complete source target) items ↔ RegionMoves r source target

-- some messages, each of as many map items as a message holds or fewer, that together move exactly the region in a complete window
pub record IsRivalByMessages (size : PageSize) (r : Region) (messages : List (List Item)) : Type 0 where
  pub few : All (λ items. length items ≤ max_items) messages
  pub rival : IsRival size r (flat_map (λ items. items) messages)

-- where a page of the region goes
abbrev pub moved : Region → ℕ → ℕ
moved r page = r.target + (page - r.source)

-- a block in the source range that is a block where it goes, too
pub record IsAllowed (r : Region) (first log : ℕ) : Type 0 where
  pub source : IsBlock first log
  pub target : IsBlock (moved r first) log
  pub from : r.source ≤ first
  pub to : first + 2 ^ log ≤ r.source + r.count

-- one allowed block holds both pages
abbrev pub ShareBlock : Region → ℕ → ℕ → Type 0
ShareBlock r p q = (first : ℕ) × (log : ℕ) × IsAllowed r first log × InBlock first log p × InBlock first log q

-- pages of the region of which no allowed block holds two
pub record IsCertificate (r : Region) (pages : List ℕ) : Type 0 where
  pub inside : All (λ page. (r.source ≤ page) × (page < r.source + r.count)) pages
  pub apart : AllPairs (λ p q. ShareBlock r p q → ⊥) pages

-- a map item of the region's rights, whose fpage begins at this page and goes where the page goes
pub record StartsAt (size : PageSize) (r : Region) (page : ℕ) (item : Item) : Type 0 where
  pub map : IsMap item
  pub rights : rights_of (fpage_of item) ≡ r.rights
  pub base : base_of item ≡ moved r page * page_bytes size
  pub log : ℕ
  pub bytes : bytes_of (fpage_of item) ≡ Some (record { base = page * page_bytes size; log = log })

-- items in rising order that move exactly the region, and their first pages, which are a certificate
pub record IsPlan (size : PageSize) (r : Region) (items : List Item) (pages : List ℕ) : Type 0 where
  pub rival : IsRival size r items
  pub starts : AllZip (StartsAt size r) pages items
  pub rising : AllPairs ◌<◌ pages
  pub certificate : IsCertificate r pages

-- nothing is wrong with the region itself
pub record IsSound (size : PageSize) (r : Region) : Type 0 where
  pub some : 0 < r.count
  pub space : InSpace size r
  pub rights : ¬ HasNoRights r

-- the messages of a plan, at most, and the items of a plan, at most: those of so many full messages
abbrev pub max_plan_messages : ℕ
max_plan_messages = 64

abbrev pub max_plan_items : ℕ
max_plan_items = max_plan_messages * max_items

-- as many map items as a plan has at most, or fewer, move exactly the region
abbrev pub HasShortRival : PageSize → Region → Type 0
HasShortRival size r = (items : List Item) × IsRival size r items × (length items ≤ max_plan_items)

-- a list of map items that moves exactly the region has more than n items
abbrev pub NeedsMoreThan : PageSize → Region → ℕ → Type 0
NeedsMoreThan size r n = (items : List Item) → IsRival size r items → n < length items

-- a list of map items that moves exactly the region has n items or more
abbrev pub NeedsAtLeast : PageSize → Region → ℕ → Type 0
NeedsAtLeast size r n = (items : List Item) → IsRival size r items → n ≤ length items

-- a list of messages that moves exactly the region has n messages or more
abbrev pub NeedsMessages : PageSize → Region → ℕ → Type 0
NeedsMessages size r n = (messages : List (List Item)) → IsRivalByMessages size r messages → n ≤ length messages

-- the messages that so many items fill, all but the last to its end
abbrev pub messages_of : ℕ → ℕ
messages_of items = (items + (max_items - 1)) / max_items

-- of the items of a plan, or of their first pages, those of the message with this number, from 0
abbrev pub part_of_list : {X : Type 0} → List X → ℕ → List X
part_of_list xs k = take max_items (drop (max_items * k) xs)

-- the first page of the message with this number of the plan with these first pages; the region's end behind the last one
abbrev pub part_start : Region → List ℕ → ℕ → ℕ
part_start r pages k = if nat_lt (max_items * k) (length pages) then slice_index pages (max_items * k) else r.source + r.count

-- The part of the region that this message moves: the pages from its first one on, up to the first one of the next message. The parts
-- follow each other, so they are disjoint and together the region.
abbrev pub part_of_region : Region → List ℕ → ℕ → Region
part_of_region r pages k = record {
  source = part_start r pages k;
  target = moved r (part_start r pages k);
  count = part_start r pages (k + 1) - part_start r pages k;
  rights = r.rights;
}

-- the page is a source page of the region
pub record IsSourcePage (r : Region) (page : ℕ) : Type 0 where
  pub from : r.source ≤ page
  pub below : page < r.source + r.count

-- each page of the region is one of just one of the first n parts
abbrev pub AreWholeInParts : Region → List ℕ → ℕ → Type 0
AreWholeInParts r pages n =
    (page : ℕ) → IsSourcePage r page → (k : ℕ) × (k < n) × IsSourcePage (part_of_region r pages k) page × ((j : ℕ) → IsSourcePage (part_of_region r pages j) page → j ≡ k)
