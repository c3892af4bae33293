use Rattle.std.proofs.Common.{ap, subst, ◌∙◌}
use Rattle.std.specs.FinSet as set
use Rattle.std.specs.Prelude.{IfOk}
use Rattle.l4_forest.specs.Boot.{IsFirst}
use Rattle.l4_parts_tests.proofs.Begun.{first_has_0}
use Rattle.l4_parts_tests.proofs.mapdb.revokes_and_tangles.Goals as goal

pub map_all-requires-clause-from_there : goal.map_all-requires-clause-from_there
map_all-requires-clause-from_there g c =
    ap (λ t. set.contains t 0) (subst (λ r. IfOk r (IsFirst 256)) c.expect-forest.ensures c.new.ensures).spaces ∙ first_has_0

pub map_all-requires-clause-to_there : goal.map_all-requires-clause-to_there
map_all-requires-clause-to_there g c =
    ap (λ t. set.contains t 0) (subst (λ r. IfOk r (IsFirst 256)) c.expect-forest.ensures c.new.ensures).spaces ∙ first_has_0
