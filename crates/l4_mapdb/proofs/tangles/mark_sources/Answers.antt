use Rattle.std.proofs.Common.{refl, ◌∙◌, arith}
use Rattle.l4_links.specs.Entries.{IsSource}
use Rattle.l4_mapdb.specs.Inside.Messages.{IsMoved, turn_in}
use Rattle.l4_mapdb.proofs.Marking.{clean_marks, marks_source, sources_more, turn_all}
use Rattle.l4_mapdb.proofs.tangles.mark_sources.Goals as goal

pub loop-used-init : goal.loop-used-init
loop-used-init c = rw c.new-moves.ensures (record {
  fits = omega arith;
  marks = clean_marks (IsMoved c.args.links.now.entries c.args.from c.args.to c.args.items.now) c.args.links.now c.requires;
  sources = λ m used lt. absurd (omega (arith, lt));
  spaces = refl;
})

pub returns-clause-marked : goal.returns-clause-marked
returns-clause-marked c = record {
  marks = c.loop-used.invariant.marks;
  sources = turn_all c.args.links.now c.law_places.ensures c.args.from c.args.to c.args.items.now (λ m. IsSource c.loop-used.links.entries m.source) c.loop-used.links.entries (turn_in c.loop-used.moves)
      c.loop-used.invariant.marks.alike c.in_default.ensures.gives c.loop-used.invariant.sources;
}

pub loop-used-preserved : goal.loop-used-preserved
loop-used-preserved c =
    let fits = c.in-Some.ensures.fits in
    rw c.in-Some.ensures.passes (record {
      fits = omega (arith, fits);
      marks = marks_source c.args.links.now c.law_places.ensures c.args.from c.args.to c.args.items.now c.loop-used.links.entries c.set_source.new.self.entries (turn_in c.loop-used.moves) c.in-Some.used c.in-Some.ensures.gives
          c.set_source.ensures.sets c.loop-used.invariant.marks;
      sources = sources_more c.args.links.now c.law_places.ensures c.args.from c.args.to c.args.items.now c.loop-used.links.entries c.set_source.new.self.entries (turn_in c.loop-used.moves) c.in-Some.used c.in-Some.ensures.gives
          c.set_source.ensures.sets c.loop-used.invariant.marks.alike c.loop-used.invariant.sources;
      spaces = c.set_source.ensures.spaces ∙ c.loop-used.invariant.spaces;
    })
