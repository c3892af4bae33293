use Rattle.std.proofs.Common.{◌≡◌, ◌∙◌, sym, ap, subst, true}
use Rattle.std.specs.FinSet as set
use Rattle.l4_spaces.specs.Tables.{space_pages}
use Rattle.l4_links.specs.Entries.{Linked}
use Rattle.l4_forest.specs.Losing.{EndsSpace}
use Rattle.l4_forest.proofs.Ended.{ended_absent}
use Rattle.l4_mapdb.specs.View.{mappings_of}
use Rattle.l4_forest.specs.Inside.Cuts.{IsCovered, TakesKeys}
use Rattle.l4_forest.proofs.SpaceGone.{ends_places, kept_ended}
use Rattle.l4_forest.proofs.Forest.end_space.Goals as goal

takes : (c : goal.After-law_trees-2) → TakesKeys (IsCovered c.self.inside.links.entries c.args.space 0 space_pages true) c.self.inside.links.entries c.end_space.new.self.entries
takes c = subst (λ (s : Linked). TakesKeys (IsCovered c.self.inside.links.entries c.args.space 0 space_pages true) c.self.inside.links.entries s.entries) (sym c.end_space.ensures) c.clear.ensures.takes

spaces : (c : goal.After-law_trees-2) → c.end_space.new.self.spaces ≡ set.remove c.self.inside.links.spaces c.args.space
spaces c = ap (λ (s : Linked). s.spaces) c.end_space.ensures ∙ ap (λ s. set.remove s c.args.space) c.clear.ensures.spaces

ends : (c : goal.After-law_trees-2) → EndsSpace c.args.space (mappings_of c.self.inside.links) (mappings_of c.end_space.new.self)
ends c =
    ends_places c.args.space c.self.inside.links c.end_space.new.self c.law_places.ensures c.law_trees.ensures c.law_places-2.ensures c.law_trees-2.ensures c.self.invariant.clean
    (takes c) (spaces c)

pub end_space-requires : goal.end_space-requires
end_space-requires c = record { empty = c.clear.ensures.empty }

pub invariant_of-self : goal.invariant_of-self
invariant_of-self c =
    kept_ended c.args.space c.self.inside c.end_space.new.self c.law_places.ensures c.law_trees.ensures c.law_places-2.ensures c.law_trees-2.ensures c.self.invariant (takes c) (spaces c)

pub returns-clause-ends : goal.returns-clause-ends
returns-clause-ends c = rw (← c.self.view_is) (ends c)

pub returns-clause-absent : goal.returns-clause-absent
returns-clause-absent c = rw (← c.self.view_is) (λ absent. ended_absent c.args.space (mappings_of c.self.inside.links) (mappings_of c.end_space.new.self) c.self.invariant.forest absent (ends c))
