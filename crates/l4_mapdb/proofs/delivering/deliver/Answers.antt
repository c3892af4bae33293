use Rattle.std.proofs.Common.{◌≡◌, IsOk, ◌∙◌, subst}
use Rattle.std.proofs.lemmas.Result.{on_ok_weaker, on_err_weaker}
use Rattle.l4_mapdb.specs.Mappings.{Mappings}
use Rattle.l4_mapdb.specs.View.{mappings_of}
use Rattle.l4_mapdb.proofs.Unchanged.{unchanged}
use Rattle.l4_mapdb.proofs.Arrived.{delivered_same}
use Rattle.l4_mapdb.specs.Transfer.{IsUsed, IsEntangled, TargetsPresent}
use Rattle.l4_mapdb.proofs.delivering.deliver.Goals.{After-law_places-2}
use Rattle.l4_mapdb.proofs.delivering.deliver.Goals as goal

same_view : (c : goal.After-law_places-2) → mappings_of c.deliver_simple.new.links ≡ mappings_of c.args.links.now
same_view c = unchanged c.args.links.now c.deliver_simple.new.links c.law_places.ensures c.law_places-2.ensures c.deliver_simple.ensures.spaces (c.deliver_simple.ensures.left c.if-deliver_simple.false)

pub returns-clause-ok : goal.returns-clause-ok
returns-clause-ok c = on_ok_weaker c.deliver_any.result (delivered_same c.args.from c.args.to c.args.items.now c.args.links.now c.deliver_simple.new.links c.deliver_any.new.links (same_view (goal.at.returns-clause-ok c).After-law_places-2) (c.deliver_simple.ensures.left c.if-deliver_simple.false)) c.deliver_any.ensures.ok

pub returns-clause-err : goal.returns-clause-err
returns-clause-err c = on_err_weaker c.deliver_any.result (λ same key. same key ∙ c.deliver_simple.ensures.left c.if-deliver_simple.false key) c.deliver_any.ensures.err

pub returns-clause-cause : goal.returns-clause-cause
returns-clause-cause c = let view = same_view (goal.at.returns-clause-cause c).After-law_places-2 in rw (← view) c.deliver_any.ensures.cause

pub returns-clause-succeeds : goal.returns-clause-succeeds
returns-clause-succeeds c = subst (λ (m : Mappings). TargetsPresent (IsUsed m c.args.from c.args.to c.args.items.now) m → ¬ (IsEntangled (IsUsed m c.args.from c.args.to c.args.items.now) m) → IsOk c.deliver_any.result)
    (same_view (goal.at.returns-clause-succeeds c).After-law_places-2) c.deliver_any.ensures.succeeds
