-- The item that a symbolic token names (this profile's own).
use Rattle.std.specs.Prelude.{◌≡◌, ◌≢◌, ℕ, ◌+◌, ◌*◌, ◌%◌, ◌^◌, ◌<◌, ◌≤◌, ◌⊎◌, List, Some, Ok, Err}
use Rattle.l4_fpage.specs.Fpages.{bytes_of, rights_of}
use Rattle.l4_fpage.specs.Pages.{page_log, page_bytes, space_pages, IsBlock, LiesIn}
use Rattle.l4_fpage.specs.Rights.{RightsSet}
use Rattle.l4_fpage.specs.declared.fpages.Fpage.{Fpage}
use Rattle.l4_fpage.specs.declared.sizes.PageSize.{PageSize}
use Rattle.l4_msg.specs.Moves.{base_of, fpage_of, is_grant}
use Rattle.l4_msg.specs.declared.items.Item.{Item}
use Rattle.l4_symbols.specs.Spelling.{item_in}
use Rattle.l4_symbols.specs.declared.reasons.Reason.{Reason}
use Rattle.l4_symbols.specs.declared.reasons.Reason.TheVariants.{Count, Beyond, Unaligned, Base}
use Rattle.l4_symbols.specs.declared.spelling.Pages.{Pages}
use Rattle.l4_symbols.specs.declared.spelling.ItemParts.{ItemParts}

-- the pages are 2 ^ log pages of a space, from a multiple of 2 ^ log on
pub record IsRun (size : PageSize) (pages : Pages) (log : ℕ) : Type 0 where
  pub count : pages.count ≡ 2 ^ log
  pub block : IsBlock pages.first log
  pub inside : LiesIn size pages.first log

-- THE FPAGE OF PAGES: the bytes of these pages, with these rights
pub record IsFpageOf (size : PageSize) (pages : Pages) (rights : RightsSet) (fpage : Fpage) : Type 0 where
  pub log : ℕ
  pub run : IsRun size pages log
  pub bytes : bytes_of fpage ≡ Some (record { base = pages.first * page_bytes size; log = log + page_log size })
  pub rights_are : rights_of fpage ≡ rights

-- the page is one of these
pub record IsOneOf (pages : Pages) (page : ℕ) : Type 0 where
  pub from : pages.first ≤ page
  pub below : page < pages.first + pages.count

-- THE ITEM OF A TOKEN: a map or a grant item, as the token says, whose send base is that page's first byte
pub record IsItemOf (size : PageSize) (parts : ItemParts) (item : Item) : Type 0 where
  pub kind : is_grant item ≡ parts.grant
  pub base_inside : parts.base < space_pages size
  pub base : base_of item ≡ parts.base * page_bytes size
  pub fpage : IsFpageOf size parts.pages parts.rights (fpage_of item)

abbrev pub NamesItem : PageSize → List ℕ → Item → Type 0
NamesItem size token item = (parts : ItemParts) × (item_in token ≡ Ok parts) × IsItemOf size parts item

-- WHY PAGES HAVE NO FPAGE, each reason where no earlier one holds
abbrev pub PagesFail : PageSize → Pages → Reason → Type 0
PagesFail size pages Count = (log : ℕ) → pages.count ≢ 2 ^ log
PagesFail size pages Beyond = (log : ℕ) × (pages.count ≡ 2 ^ log) × (space_pages size < pages.first + pages.count)
PagesFail size pages Unaligned = (log : ℕ) × (pages.count ≡ 2 ^ log) × (pages.first + pages.count ≤ space_pages size) × (0 < pages.first % pages.count)
PagesFail size pages reason = ⊥

-- why what a token spells names no item
abbrev pub PartsFail : PageSize → ItemParts → Reason → Type 0
PartsFail size parts Base = space_pages size ≤ parts.base
PartsFail size parts reason = PagesFail size parts.pages reason

-- WHY A TOKEN NAMES NO ITEM: it cannot be read, or what it spells names none
abbrev pub ItemRefused : PageSize → List ℕ → Reason → Type 0
ItemRefused size token reason = (item_in token ≡ Err reason) ⊎ ((parts : ItemParts) × (item_in token ≡ Ok parts) × PartsFail size parts reason)
