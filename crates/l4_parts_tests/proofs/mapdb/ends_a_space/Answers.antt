use Rattle.std.proofs.Common.{ap, ◌∙◌}
use Rattle.std.specs.FinSet as set
use Rattle.l4_parts_tests.proofs.Begun.{spaces_are, has_0, has_2, has_3}
use Rattle.l4_parts_tests.proofs.mapdb.ends_a_space.Goals as goal

pub map_all-requires-clause-from_there : goal.map_all-requires-clause-from_there
map_all-requires-clause-from_there g c =
    ap (λ t. set.contains t 0) (spaces_are _ _ _ c.in_ok-forest.ensures c.in_ok-new_space.ensures.ok c.in_ok-new_space-2.ensures.ok) ∙ has_0

pub map_all-requires-clause-to_there : goal.map_all-requires-clause-to_there
map_all-requires-clause-to_there g c =
    ap (λ t. set.contains t 2) (spaces_are _ _ _ c.in_ok-forest.ensures c.in_ok-new_space.ensures.ok c.in_ok-new_space-2.ensures.ok) ∙ has_2

pub map_all-requires-2-clause-from_there : goal.map_all-requires-2-clause-from_there
map_all-requires-2-clause-from_there g c =
    ap (λ t. set.contains t 2)
    (c.in-Ok.ensures.ok.cut.spaces ∙ c.in-Ok.ensures.ok.moved.spaces ∙ spaces_are _ _ _ c.in_ok-forest.ensures c.in_ok-new_space.ensures.ok c.in_ok-new_space-2.ensures.ok)
    ∙ has_2

pub map_all-requires-2-clause-to_there : goal.map_all-requires-2-clause-to_there
map_all-requires-2-clause-to_there g c =
    ap (λ t. set.contains t 3)
    (c.in-Ok.ensures.ok.cut.spaces ∙ c.in-Ok.ensures.ok.moved.spaces ∙ spaces_are _ _ _ c.in_ok-forest.ensures c.in_ok-new_space.ensures.ok c.in_ok-new_space-2.ensures.ok)
    ∙ has_3
