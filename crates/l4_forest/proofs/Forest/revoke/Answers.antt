use Rattle.std.proofs.Common.{◌≡◌, ℕ, Option, Some, None, refl}
use Rattle.l4_forest.specs.Losing.{Revokes}
use Rattle.l4_forest.proofs.Absent.{revoked_absent}
use Rattle.l4_mapdb.specs.View.{mappings_of}
use Rattle.l4_forest.specs.Inside.Cuts.{IsOver}
use Rattle.l4_forest.proofs.Cut.{revokes_key, revokes_none, forest_over, kept_cut}
use Rattle.l4_forest.proofs.Forest.revoke.Goals as goal

pub returns-in_default-clause-revokes : goal.returns-in_default-clause-revokes
returns-in_default-clause-revokes c =
    rw (← c.self.view_is)
    (revokes_none c.self.inside.links c.law_places.ensures c.law_trees.ensures c.args.from c.args.rights c.args.with_self c.self.invariant.forest
    (λ key at. let k : ◌≡◌ {A = Option ℕ} None (Some key) = (c.in_default.ensures key).1 at in cc))

revokes : (c : goal.After-revoke_key) → Revokes c.args.from c.args.rights c.args.with_self (mappings_of c.self.inside.links) (mappings_of c.revoke_key.new.links)
revokes c =
    revokes_key c.self.inside.links c.law_places.ensures c.law_trees.ensures c.revoke_key.new.links c.revoke_key.ensures.places c.revoke_key.ensures.trees c.args.rights c.args.with_self
    c.self.invariant.clean c.revoke_key.ensures.spaces c.args.from c.in-Some.key ((c.in-Some.ensures c.in-Some.key).0 refl) c.revoke_key.ensures.cuts

pub invariant_of-self : goal.invariant_of-self
invariant_of-self c =
    kept_cut c.self.inside c.revoke_key.new.links (IsOver c.self.inside.links.entries c.args.with_self c.in-Some.key) c.args.rights c.self.invariant c.revoke_key.ensures.cuts
    (forest_over c.self.inside.links c.law_places.ensures c.law_trees.ensures c.args.from c.args.rights c.args.with_self (mappings_of c.revoke_key.new.links) c.self.invariant.forest (revokes c))

pub returns-clause-revokes : goal.returns-clause-revokes
returns-clause-revokes c = rw (← c.self.view_is) (revokes c)

pub returns-clause-absent : goal.returns-clause-absent
returns-clause-absent c = rw (← c.self.view_is)
    (λ absent. revoked_absent c.args.from c.args.rights c.args.with_self (mappings_of c.self.inside.links) (mappings_of c.revoke_key.new.links) c.self.invariant.forest absent (revokes c))
