-- The form in which the kernel passes a delivery to the mapping database (this profile's own).
use Rattle.std.specs.Prelude.{◌≡◌, ◌↔◌, ◌⊎◌, ℕ, IsTrue, Some}
use Rattle.std.specs.FinSet as set
use Rattle.l4_fpage.specs.Rights.{no_rights}
use Rattle.l4_fpage.specs.Fpages.{rights_of}
use Rattle.l4_fpage.specs.declared.fpages.Fpage.{Fpage}
use Rattle.l4_msg.specs.Moves.{ItemMoves, MovePairs, StaysIn, fpage_of, is_grant}
use Rattle.l4_msg.specs.declared.items.Item.{Item}
use Rattle.l4_mapdb.specs.Mappings.{Mappings}
use Rattle.l4_mapdb.specs.declared.Cause.{Cause}
use Rattle.l4_mapdb.specs.declared.Cause.TheVariants.{Entangled as IsEntangled, NoMemory as WantOfMemory}
use Rattle.l4_msg.specs.declared.items.ItemMove.{ItemMove}
use Rattle.l4_ipc.specs.declared.steps.Outcome.{Outcome}
use Rattle.l4_ipc.specs.declared.steps.Outcome.TheVariants.{Entangled, NoMemory}
use Rattle.l4_fpage.specs.declared.sizes.PageSize.{PageSize}

-- both spaces exist
abbrev pub AreThere : Mappings → ℕ → ℕ → Type 0
AreThere s «from» to = IsTrue (set.contains s.spaces «from») × IsTrue (set.contains s.spaces to)

-- What the item moves in this window, as blocks of pages of a space. If it moves no page, it has no rights here, so that none of its moves
-- is used.
pub record IsListed (size : PageSize) (window : Fpage) (item : Item) (listed : ItemMove) : Type 0 where
  pub grant : listed.grant ≡ is_grant item
  pub inside : StaysIn size listed.mv
  pub moves :
      (((source target : ℕ) → MovePairs (Some listed.mv) source target ↔ ItemMoves size item window source target) × (listed.rights ≡ rights_of (fpage_of item)))
      ⊎ (((source target : ℕ) → ¬ (ItemMoves size item window source target)) × (listed.rights ≡ no_rights))

-- the outcome if nothing was delivered
abbrev pub outcome_of : Cause → Outcome
outcome_of IsEntangled = Entangled
outcome_of WantOfMemory = NoMemory
