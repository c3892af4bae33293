-- What a place becomes, by the kind of the item that fills it.
use Rattle.std.proofs.Common.{◌≡◌, Some, IsTrue, inl, inr, ◌⊎◌, arith}
use Rattle.l4_mapdb.specs.declared.Place.{Place}
use Rattle.l4_mapdb.specs.declared.Mapping.{Mapping}
use Rattle.l4_mapdb.specs.Mappings.{Mappings}
use Rattle.l4_mapdb.specs.Transfer.{PageMove, ParentLater, Stays, Becomes}

-- the place is the target of a used move of a map item
pub record IsMapped (Used : PageMove → Type 0) (place : Place) (m : Mapping) : Type 0 where
  pub move : PageMove
  pub used : Used move
  pub map : ¬ (IsTrue move.grant)
  pub target : move.target ≡ place
  pub frame : m.frame ≡ move.shows.frame
  pub rights : m.rights ≡ move.rights
  pub parent : m.parent ≡ Some move.source

-- the place is the target of a used move of a grant item
pub record IsHandedOver (Used : PageMove → Type 0) (place : Place) (m : Mapping) : Type 0 where
  pub move : PageMove
  pub used : Used move
  pub grant : IsTrue move.grant
  pub target : move.target ≡ place
  pub frame : m.frame ≡ move.shows.frame
  pub rights : m.rights ≡ move.rights
  pub parent : ParentLater Used move.shows.parent m.parent

abbrev pub BecomesBy : (PageMove → Type 0) → Mappings → Place → Mapping → Type 0
BecomesBy Used old place m = IsMapped Used place m ⊎ (IsHandedOver Used place m ⊎ Stays Used old place m)

pub by_kind : {Used : PageMove → Type 0} {old : Mappings} {place : Place} {m : Mapping} → Becomes Used old place m → BecomesBy Used old place m
by_kind (inl x) = grind arith
by_kind (inr x) = inr (inr x)
