-- The used moves of one item of a letter, page by page.
use Rattle.std.specs.Prelude.{◌≡◌, ℕ, ◌<◌, ◌≤◌, ◌↔◌, List, Some, slice_get}
use Rattle.l4_fpage.specs.Pages.{most_pages}
use Rattle.l4_fpage.specs.declared.fpages.Fpage.{Fpage}
use Rattle.l4_fpage.specs.declared.sizes.PageSize.{PageSize}
use Rattle.l4_msg.specs.Moves.{MovePairs, ItemMoves}
use Rattle.l4_msg.specs.declared.items.Item.{Item}
use Rattle.l4_msg.specs.declared.items.Move.{Move}
use Rattle.l4_mapdb.specs.Mappings.{Mappings}
use Rattle.l4_mapdb.specs.Transfer.{PageMove}
use Rattle.l4_ipc.specs.Moving.{IsUsedBy}
use Rattle.l4_provenance.specs.Moved.{IsTold}
use Rattle.l4_provenance.specs.declared.moves.MovedPage.{MovedPage}

-- these are the pairs of the item
pub record IsMoveOf (size : PageSize) (items : List Item) (window : Fpage) (item : ℕ) (pages : Move) : Type 0 where
  pub by : Item
  pub at : slice_get items item ≡ Some by
  pub pairs : (source target : ℕ) → MovePairs (Some pages) source target ↔ ItemMoves size by window source target

module _ (size : PageSize) (s : Mappings) («from» to : ℕ) (items : List Item) (window : Fpage) where
  -- the move is used, and is of this item
  abbrev pub IsOfItem : ℕ → PageMove → Type 0
  IsOfItem item move = IsUsedBy size s «from» to items window move × (move.item ≡ item)

  -- how the item moves this page
  pub record MovesPage (item page : ℕ) (moved : MovedPage) : Type 0 where
    pub move : PageMove
    pub is : IsOfItem item move
    pub page_is : move.source.page ≡ page
    pub told : IsTold moved move

  -- the item does not move this page
  abbrev pub KeepsPage : ℕ → ℕ → Type 0
  KeepsPage item page = (move : PageMove) → IsOfItem item move → ¬ (move.source.page ≡ page)

  -- the first page, from this page on, that the item moves
  pub record MovesNext (item page : ℕ) (moved : MovedPage) : Type 0 where
    pub move : PageMove
    pub is : IsOfItem item move
    pub reached : page ≤ move.source.page
    pub least : (other : PageMove) → IsOfItem item other → page ≤ other.source.page → move.source.page ≤ other.source.page
    pub told : IsTold moved move
    pub small : moved.source < most_pages

  -- the item moves no page from this page on
  abbrev pub MovesNone : ℕ → ℕ → Type 0
  MovesNone item page = (move : PageMove) → IsOfItem item move → ¬ (page ≤ move.source.page)
