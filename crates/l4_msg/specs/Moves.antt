-- Which pages an item moves, and where to (L4 X.2 manual, IPC: map item; the table is this profile's own).
use Rattle.std.specs.Prelude.{◌≡◌, ℕ, ◌+◌, ◌-◌, ◌*◌, ◌/◌, ◌%◌, ◌^◌, ◌<◌, ◌≤◌, Option, Some, None, MatchOption, nat_lt, if◌then◌else◌, Bool, true, false}
use Rattle.l4_fpage.specs.Fpages.{Bytes, bytes_of}
use Rattle.l4_fpage.specs.declared.fpages.Fpage.{Fpage}
use Rattle.l4_fpage.specs.declared.fpages.Fpage.TheVariants.{Complete}
use Rattle.l4_fpage.specs.Rights.{no_rights}
use Rattle.l4_fpage.specs.Pages.{LiesIn, page_bytes, page_log}
use Rattle.l4_fpage.specs.declared.sizes.PageSize.{PageSize}
use Rattle.l4_msg.specs.declared.items.Item.{Item}
use Rattle.l4_msg.specs.declared.items.Item.TheVariants.{Map, Grant}
use Rattle.l4_msg.specs.declared.items.Move.{Move}
use Rattle.l4_msg.specs.declared.regions.Region.{Region}

-- the greatest multiple of 2 ^ log that is at most n
abbrev pub round_down : ℕ → ℕ → ℕ
round_down n log = n / 2 ^ log * 2 ^ log

-- 2 ^ log bytes from `from` on land at `to`
pub record Part : Type 0 where
  pub from : ℕ
  pub to : ℕ
  pub log : ℕ

-- An item with send base a whose fpage names the bytes f, in a window of the bytes w: the smaller one decides how much
-- goes, and the send base where in the larger one it lies.
abbrev pub part_of : ℕ → Bytes → Bytes → Part
part_of a f w =
    if nat_lt f.log w.log then (record { from = f.base; to = round_down (w.base + a % 2 ^ w.log) f.log; log = f.log })
    else (if nat_lt w.log f.log then (record { from = round_down (f.base + a % 2 ^ f.log) w.log; to = w.base; log = w.log })
    else (record { from = f.base; to = w.base; log = f.log }))

-- the pair is one of (from + i, to + i), i below count
pub record Shifts (from to count source target : ℕ) : Type 0 where
  pub index : ℕ
  pub within : index < count
  pub source_is : source ≡ from + index
  pub target_is : target ≡ to + index

-- the part takes this page to that page, where pages have this size; a part of less than a page takes none
abbrev pub Takes : PageSize → Part → ℕ → ℕ → Type 0
Takes size p source target = (page_log size ≤ p.log) × Shifts (p.from / page_bytes size) (p.to / page_bytes size) (2 ^ (p.log - page_log size)) source target

-- an item's send base, in bytes
abbrev pub base_of : Item → ℕ
base_of (Map a f) = a
base_of (Grant a f) = a

-- an item's send fpage
abbrev pub fpage_of : Item → Fpage
fpage_of (Map a f) = f
fpage_of (Grant a f) = f

abbrev pub IsMap : Item → Type 0
IsMap (Map a f) = Unit {0}
IsMap (Grant a f) = ⊥

-- whether the item gives its pages away
abbrev pub is_grant : Item → Bool
is_grant (Map a f) = false
is_grant (Grant a f) = true

-- the item, received in this window, moves this page to that page, where pages have this size
abbrev pub ItemMoves : PageSize → Item → Fpage → ℕ → ℕ → Type 0
ItemMoves size item window source target =
    MatchOption (bytes_of (fpage_of item)) ⊥ (λ f. MatchOption (bytes_of window) ⊥ (λ w. Takes size (part_of (base_of item) f w) source target))

-- the complete window; the rights of a window mean nothing
abbrev pub complete : Fpage
complete = Complete no_rights

-- the pairs of a region
abbrev pub RegionMoves : Region → ℕ → ℕ → Type 0
RegionMoves r source target = Shifts r.source r.target r.count source target

-- all pages of the move lie in a space, where pages have this size
pub record StaysIn (size : PageSize) (m : Move) : Type 0 where
  pub source : LiesIn size m.source.first m.source.log
  pub target : LiesIn size m.target.first m.target.log

-- the pairs of a move, none where there is none
abbrev pub MovePairs : Option Move → ℕ → ℕ → Type 0
MovePairs None source target = ⊥
MovePairs (Some m) source target = Shifts m.source.first m.target.first (2 ^ m.source.log) source target
