-- The effect of a message's items on the mappings when the message is delivered (L4 X.2 manual: map and grant items; that a message with
-- conflicting items moves nothing is this profile's own).
use Rattle.std.specs.Prelude.{◌≡◌, ◌≢◌, ℕ, Bool, List, [], Some, slice_get}
use Rattle.l4_fpage.specs.Rights.{RightsSet, common, no_rights}
use Rattle.l4_fpage.specs.Fpages.{rights_of}
use Rattle.l4_fpage.specs.declared.fpages.Fpage.{Fpage}
use Rattle.l4_fpage.specs.declared.fpages.Fpage.TheVariants.{Nil}
use Rattle.l4_msg.specs.Moves.{ItemMoves, fpage_of, is_grant}
use Rattle.l4_msg.specs.declared.items.Item.{Item}
use Rattle.l4_mapdb.specs.Mappings.{Mappings, shown}
use Rattle.l4_mapdb.specs.Transfer.{PageMove, IsEntangled, NeedsPlace, Transfers}
use Rattle.l4_ipc.specs.declared.steps.Outcome.{Outcome}
use Rattle.l4_ipc.specs.declared.steps.Outcome.TheVariants.{Done, NoWindow, Entangled, NoMemory}
use Rattle.l4_fpage.specs.declared.sizes.PageSize.{PageSize}

-- The move is used: it takes a page from the one space to the other, as one of the pairs. Its source is present, and its rights are those
-- that the source has in common with these, of which there is at least one. All of this is about the mappings before the step.
pub record IsUsedMove (old : Mappings) («from» to : ℕ) (Pairs : ℕ → ℕ → Type 0) (grant : Bool) (rights : RightsSet) (move : PageMove) : Type 0 where
  pub from_space : move.source.space ≡ «from»
  pub to_space : move.target.space ≡ to
  pub pages : Pairs move.source.page move.target.page
  pub grant_is : move.grant ≡ grant
  pub present : shown old move.source ≡ Some move.shows
  pub rights_are : move.rights ≡ common move.shows.rights rights
  pub some_right : move.rights ≢ no_rights

-- The move is used by the item with its number: the item moves its page in the window, and says whether the page is granted and with which
-- rights.
pub record IsUsedBy (size : PageSize) (old : Mappings) («from» to : ℕ) (items : List Item) (window : Fpage) (move : PageMove) : Type 0 where
  pub by : Item
  pub item : slice_get items move.item ≡ Some by
  pub moves : IsUsedMove old «from» to (ItemMoves size by window) (is_grant by) (rights_of (fpage_of by)) move

module _ (size : PageSize) (old : Mappings) («from» to : ℕ) (items : List Item) (window : Fpage) where
  abbrev pub Used : PageMove → Type 0
  Used = IsUsedBy size old «from» to items window

  -- the message has items and the receiver's window is nil
  abbrev pub LacksWindow : Type 0
  LacksWindow = (items ≢ []) × (window ≡ Nil)

  -- the mappings after a transfer with this outcome; pages move only if the message is delivered
  abbrev pub Moves : Outcome → Mappings → Type 0
  Moves NoWindow new = LacksWindow × (new ≡ old)
  Moves Entangled new = ¬ LacksWindow × IsEntangled Used old × (new ≡ old)
  Moves NoMemory new = ¬ LacksWindow × ¬ (IsEntangled Used old) × NeedsPlace Used old × (new ≡ old)
  Moves Done new = ¬ LacksWindow × ¬ (IsEntangled Used old) × Transfers Used old new
  Moves other new = ⊥
