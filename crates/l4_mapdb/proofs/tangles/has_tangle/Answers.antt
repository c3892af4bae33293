use Rattle.std.proofs.Common.{sym, ◌∙◌, inl, inr, arith}
use Rattle.std.proofs.lemmas.Bool.{false≢true}
use Rattle.l4_mapdb.specs.Inside.Messages.{IsMoved, turn_in}
use Rattle.l4_mapdb.specs.Inside.Tangles.{Tangles}
use Rattle.l4_mapdb.proofs.Marking.{turn_more, turn_all}
use Rattle.l4_mapdb.proofs.Restored.{marked_same}
use Rattle.l4_mapdb.proofs.Tangling.{so, not_so, tangled, not_tangled}
use Rattle.l4_mapdb.proofs.tangles.has_tangle.Goals as goal

pub loop-used-init : goal.loop-used-init
loop-used-init c = rw c.new-moves.ensures (record { fits = omega arith; marked = c.mark_sources.ensures.marked; none = λ m used lt. absurd (omega (arith, lt)); spaces = c.mark_sources.ensures.spaces })

pub returns-clause-answer : goal.returns-clause-answer
returns-clause-answer c = not_so (λ h.
    turn_all c.args.links.now c.law_places.ensures c.args.from c.args.to c.args.items.now (λ m. ¬ (Tangles (IsMoved c.args.links.now.entries c.args.from c.args.to c.args.items.now) c.args.links.now.entries m))
    c.loop-used.links.entries (turn_in c.loop-used.moves) c.loop-used.invariant.marked.marks.alike c.in_default.ensures.gives c.loop-used.invariant.none h.move h.used h.tangles)

pub returns-then-clashes-clause-answer : goal.returns-then-clashes-clause-answer
returns-then-clashes-clause-answer c = so (tangled c.args.links.now.entries c.loop-used.links.entries c.args.from c.args.to c.args.items.now c.loop-used.invariant.marked c.in-Some.used c.in-Some.ensures.gives.moved
    (inl (c.clashes.ensures.0 c.if-clashes.true)))

pub returns-then-is_above_source-clause-marked : goal.returns-then-is_above_source-clause-marked
returns-then-is_above_source-clause-marked c =
    marked_same c.args.links.now c.requires c.args.from c.args.to c.args.items.now c.loop-used.links.entries c.is_above_source.new.links.entries c.is_above_source.ensures.same c.loop-used.invariant.marked

pub returns-then-is_above_source-clause-answer : goal.returns-then-is_above_source-clause-answer
returns-then-is_above_source-clause-answer c = so (tangled c.args.links.now.entries c.loop-used.links.entries c.args.from c.args.to c.args.items.now c.loop-used.invariant.marked c.in-Some.used c.in-Some.ensures.gives.moved
    (inr (c.is_above_source.ensures.answer.0 c.if-is_above_source.true)))

pub loop-used-preserved : goal.loop-used-preserved
loop-used-preserved c =
    let fits = c.in-Some.ensures.fits in
    rw c.in-Some.ensures.passes (record {
      fits = omega (arith, fits);
      marked = marked_same c.args.links.now c.requires c.args.from c.args.to c.args.items.now c.loop-used.links.entries c.is_above_source.new.links.entries c.is_above_source.ensures.same c.loop-used.invariant.marked;
      none = turn_more c.args.links.now c.law_places.ensures c.args.from c.args.to c.args.items.now (λ m. ¬ (Tangles (IsMoved c.args.links.now.entries c.args.from c.args.to c.args.items.now) c.args.links.now.entries m))
          c.loop-used.links.entries (turn_in c.loop-used.moves) c.in-Some.used c.loop-used.invariant.marked.marks.alike c.in-Some.ensures.gives
          (not_tangled c.args.links.now.entries c.loop-used.links.entries c.args.from c.args.to c.args.items.now c.loop-used.invariant.marked c.in-Some.used
          (λ clash. false≢true (sym c.if-clashes.false ∙ c.clashes.ensures.1 clash)) (λ above. false≢true (sym c.if-is_above_source.false ∙ c.is_above_source.ensures.answer.1 above)))
          c.loop-used.invariant.none;
      spaces = c.is_above_source.ensures.spaces ∙ c.loop-used.invariant.spaces;
    })
