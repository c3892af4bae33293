use Rattle.std.proofs.Common.{◌≡◌, sym, ap, ◌∙◌, subst, option_and_then}
use Rattle.l4_links.specs.declared.Entry.{Entry}
use Rattle.l4_mapdb.specs.Mappings.{IsForest}
use Rattle.l4_mapdb.proofs.Rooted.{are_forest}
use Rattle.l4_mapdb.specs.View.{mappings_of}
use Rattle.l4_mapdb.proofs.Unchanged.{unchanged}
use Rattle.l4_forest.proofs.Forest.map_all.Goals as goal

same_view : (c : goal.After-law_places-in-Err) → mappings_of c.deliver.new.links ≡ mappings_of c.self.inside.links
same_view c = unchanged c.self.inside.links c.deliver.new.links c.law_places.ensures c.law_places-in-Err.ensures c.deliver.ensures.spaces c.in-Err.ensures.err

pub invariant_of-self : goal.invariant_of-self
invariant_of-self c = record {
  clean = λ key e at. c.self.invariant.clean key e (sym (c.in-Err.ensures.err key) ∙ at);
  known = λ key t at top. c.self.invariant.known key t (sym (ap (option_and_then (λ (x : Entry). x.stands)) (c.in-Err.ensures.err key)) ∙ at) top;
  forest = subst IsForest (sym (same_view c)) c.self.invariant.forest;
}

pub returns-in-Err-clause-err : goal.returns-in-Err-clause-err
returns-in-Err-clause-err c = same_view c ∙ c.self.view_is

pub returns-in-Err-clause-cause : goal.returns-in-Err-clause-cause
returns-in-Err-clause-cause c = rw (← c.self.view_is) c.in-Err.ensures.cause

pub returns-in-Err-clause-succeeds : goal.returns-in-Err-clause-succeeds
returns-in-Err-clause-succeeds c = rw (← c.self.view_is) c.in-Err.ensures.succeeds

pub invariant_of-self-2 : goal.invariant_of-self-2
invariant_of-self-2 c = record {
  clean = c.in-Ok.ensures.ok.clean;
  known = c.in-Ok.ensures.ok.roots c.self.inside.roots.items c.self.invariant.known;
  forest = are_forest c.deliver.new.links c.law_places-2.ensures c.law_trees-2.ensures c.in-Ok.ensures.ok.clean c.self.inside.roots.items (c.in-Ok.ensures.ok.roots c.self.inside.roots.items c.self.invariant.known);
}

pub returns-clause-ok : goal.returns-clause-ok
returns-clause-ok c = rw (← c.self.view_is) c.in-Ok.ensures.ok.delivers

pub returns-clause-free : goal.returns-clause-free
returns-clause-free c = rw (← c.self.view_is) c.in-Ok.ensures.ok.free
