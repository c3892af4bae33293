use Rattle.std.proofs.Common.{◌≡◌, IsTrue, sym, ap, ◌∙◌, subst}
use Rattle.std.specs.Cmp.{nat_cmp_total}
use Rattle.std.specs.FinSet as set
use Rattle.l4_mapdb.specs.Mappings.{Mappings}
use Rattle.l4_forest.specs.Boot.{IsFirst}
use Rattle.l4_parts_tests.proofs.unmap.mapped.Goals as goal

-- both spaces are there
there_0 : (s new : Mappings) → IsFirst 256 s → new ≡ record s { spaces = set.insert s.spaces 2 } → IsTrue (set.contains new.spaces 0)
there_0 s new first begun = subst (λ (m : Mappings). IsTrue (set.contains m.spaces 0)) (sym begun)
    (set.contains-insert nat_cmp_total s.spaces 2 0 ∙ ap (λ t. set.contains t 0) first.spaces ∙ set.contains-insert nat_cmp_total set.empty 0 0)

there_2 : (s new : Mappings) → new ≡ record s { spaces = set.insert s.spaces 2 } → IsTrue (set.contains new.spaces 2)
there_2 s new begun = subst (λ (m : Mappings). IsTrue (set.contains m.spaces 2)) (sym begun) (set.contains-insert nat_cmp_total s.spaces 2 2)

pub map_all-requires-clause-from_there : goal.map_all-requires-clause-from_there
map_all-requires-clause-from_there c = there_0 _ _ c.in_ok-forest.ensures c.in_ok-new_space.ensures.ok

pub map_all-requires-clause-to_there : goal.map_all-requires-clause-to_there
map_all-requires-clause-to_there c = there_2 _ _ c.in_ok-new_space.ensures.ok
