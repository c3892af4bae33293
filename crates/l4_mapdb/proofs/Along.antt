-- The effect of a delivery depends on which moves are used, and not on how that is said.
use Rattle.std.proofs.Common.{Option, Some, None, inl, inr, arith}
use Rattle.l4_fpage.specs.Rights.{Right}
use Rattle.l4_mapdb.specs.declared.Place.{Place}
use Rattle.l4_mapdb.specs.declared.Mapping.{Mapping}
use Rattle.l4_mapdb.specs.Mappings.{Mappings}
use Rattle.l4_mapdb.specs.Losing.{IsLeft, LosesRights}
use Rattle.l4_mapdb.specs.Transfer.{PageMove, IsGranted, IsEntangled, IsGone, StandsAt, ParentLater, Becomes, IsCut, Transfers}

module _ (Used Other : PageMove → Type 0) (to : (move : PageMove) → Used move → Other move) (back : (move : PageMove) → Other move → Used move) where
  granted_along : (place : Place) → IsGranted Other place → IsGranted Used place
  granted_along place g = record { move = g.move; used = back g.move g.used; grant = g.grant; source = g.source }

  gone_along : (old : Mappings) (place : Place) → IsGone Other old place → IsGone Used old place
  gone_along old place g = record { move = g.move; used = back g.move g.used; present = g.present; below = g.below }

  pub entangled_along : (old : Mappings) → IsEntangled Used old → IsEntangled Other old
  entangled_along old e = record { one = e.one; other = e.other; one_used = to e.one e.one_used; other_used = to e.other e.other_used; clash = e.clash }

  stands_along : (place later : Place) → StandsAt Used place later → StandsAt Other place later
  stands_along place later (inl m) = inl (m.0, to m.0 m.1, m.2, m.3, m.4)
  stands_along place later (inr s) = inr (λ g. s.0 (granted_along place g), s.1)

  parent_along : (parent later : Option Place) → ParentLater Used parent later → ParentLater Other parent later
  parent_along None later h = h
  parent_along (Some parent) later h = (h.0, stands_along parent h.0 h.1, h.2)

  becomes_along : (old : Mappings) (place : Place) (m : Mapping) → Becomes Used old place m → Becomes Other old place m
  becomes_along old place m (inl x) = grind (arith, inl, inr, parent_along)
  becomes_along old place m (inr x) = grind (arith, inr, gone_along, granted_along, parent_along)

  cut_along : (middle : Mappings) (place : Place) (right : Right) → IsCut Used middle place right → IsCut Other middle place right
  cut_along middle place right c = record { move = c.move; used = to c.move c.used; grant = c.grant; had = c.had; lacks = c.lacks; below = c.below }

-- losing the same rights is the same loss
pub loses_along : (Lost Other : Place → Right → Type 0) (old new : Mappings) → ((p : Place) (k : Right) → Lost p k → Other p k) → ((p : Place) (k : Right) → Other p k → Lost p k)
    → LosesRights Lost old new → LosesRights Other old new
loses_along Lost Other old new to back l = record {
  spaces = l.spaces;
  places = λ place m. (
    λ s. let h = (l.places place m).0 s in (h.0, h.1, left_along Lost Other to back place h.0 m h.2),
    λ h. (l.places place m).1 (h.0, h.1, left_along Other Lost back to place h.0 m h.2),
  );
} where
  left_along : (Lost Other : Place → Right → Type 0) → ((p : Place) (k : Right) → Lost p k → Other p k) → ((p : Place) (k : Right) → Other p k → Lost p k)
      → (place : Place) (old new : Mapping) → IsLeft (Lost place) old new → IsLeft (Other place) old new
  left_along Lost Other to back place old new x = record {
    frame = x.frame;
    parent = x.parent;
    rights = λ k. grind arith;
    some_right = x.some_right;
  }

-- the same used moves have the same effect
pub transfers_along : (Used Other : PageMove → Type 0) → ((move : PageMove) → Used move → Other move) → ((move : PageMove) → Other move → Used move)
    → (old new : Mappings) → Transfers Used old new → Transfers Other old new
transfers_along Used Other to back old new t = record {
  middle = t.middle;
  moved = record {
    spaces = t.moved.spaces;
    places = λ place m. (
      λ s. becomes_along Used Other to back old place m ((t.moved.places place m).0 s),
      λ b. (t.moved.places place m).1 (becomes_along Other Used back to old place m b),
    );
  };
  cut = search (loses_along, cut_along, arith);
}
