use Rattle.std.proofs.Common.{◌∙◌, ap}
use Rattle.std.specs.Ordering.{nat_cmp}
use Rattle.std.specs.Cmp.{nat_cmp_total}
use Rattle.std.specs.FinSet as set
use Rattle.l4_links.specs.Entries.{Linked}
use Rattle.l4_forest.proofs.FirstPlaces.{first_space, owns_first, kept_first}
use Rattle.l4_forest.proofs.Forest.new.Goals as goal

pub own_places-requires-clause-there : goal.own_places-requires-clause-there
own_places-requires-clause-there c =
    let space = first_space c.in_ok-links.links c.add_space.new.self c.in_ok-links.ensures.spaces c.in_ok-add_space.ensures.ok in
    ap (λ (v : set.FinSet nat_cmp). set.contains v 0) space ∙ set.contains-insert nat_cmp_total set.empty 0 0

pub invariant_of-result : goal.invariant_of-result
invariant_of-result c =
    let space = first_space c.in_ok-links.links c.add_space.new.self c.in_ok-links.ensures.spaces c.in_ok-add_space.ensures.ok in
    let e = c.in_ok-own_places.ensures in
    kept_first c.args.frames _ c.requires.fit e.places e.owns (e.spaces ∙ space)

pub returns : goal.returns
returns c =
    let space = first_space c.in_ok-links.links c.add_space.new.self c.in_ok-links.ensures.spaces c.in_ok-add_space.ensures.ok in
    let e = c.in_ok-own_places.ensures in
    owns_first c.args.frames c.own_places.new.links c.own_places.new.roots.items e.places e.owns (e.spaces ∙ space)
