use Rattle.std.proofs.Common.{◌≡◌, refl, ◌∙◌, inl, arith}
use Rattle.l4_mapdb.specs.Inside.Messages.{IsMoved, IsWanted, IsFilled, turn_in}
use Rattle.l4_mapdb.proofs.Marking.{turn_more, turn_all}
use Rattle.l4_mapdb.proofs.Rooming.{wants_alike, wanted_on}
use Rattle.l4_mapdb.proofs.RoomMade.{moved_before, wants_more, lacks_before}
use Rattle.l4_mapdb.proofs.room.make_room.Goals as goal

pub loop-used-init : goal.loop-used-init
loop-used-init c = rw c.new-moves.ensures (record { fits = omega arith; wants = λ key. inl refl; wanted = λ m used lt. absurd (omega (arith, lt)); spaces = refl })

pub returns-clause-ok : goal.returns-clause-ok
returns-clause-ok c =
    turn_all c.args.links.now c.law_places.ensures c.args.from c.args.to c.args.items.now (λ m. IsWanted c.loop-used.links.entries m.target) c.loop-used.links.entries (turn_in c.loop-used.moves)
    (wants_alike (IsFilled (IsMoved c.args.links.now.entries c.args.from c.args.to c.args.items.now)) c.args.links.now.entries c.loop-used.links.entries c.loop-used.invariant.wants) c.in_default.ensures.gives c.loop-used.invariant.wanted

pub returns-in-Err-clause-wants : goal.returns-in-Err-clause-wants
returns-in-Err-clause-wants c =
    wants_more c.args.links.now.entries c.loop-used.links.entries c.want_page.new.links.entries c.args.from c.args.to c.args.items.now c.loop-used.invariant.wants c.in-Some.used c.in-Some.ensures.gives.moved c.want_page.ensures.wants

pub returns-in-Err-clause-err : goal.returns-in-Err-clause-err
returns-in-Err-clause-err c = (
  c.in-Some.used,
  moved_before c.args.links.now.entries c.loop-used.links.entries c.want_page.new.links.entries c.args.from c.args.to c.args.items.now c.loop-used.invariant.wants c.in-Some.used c.in-Some.ensures.gives.moved,
  lacks_before (IsFilled (IsMoved c.args.links.now.entries c.args.from c.args.to c.args.items.now)) c.args.links.now.entries c.loop-used.links.entries c.loop-used.invariant.wants c.in-Some.used.target c.in-Err.ensures.err,
)

pub loop-used-preserved : goal.loop-used-preserved
loop-used-preserved c =
    let fits = c.in-Some.ensures.fits in
    rw c.in-Some.ensures.passes (record {
      fits = omega (arith, fits);
      wants = wants_more c.args.links.now.entries c.loop-used.links.entries c.want_page.new.links.entries c.args.from c.args.to c.args.items.now c.loop-used.invariant.wants c.in-Some.used c.in-Some.ensures.gives.moved c.want_page.ensures.wants;
      wanted = turn_more c.args.links.now c.law_places.ensures c.args.from c.args.to c.args.items.now (λ m. IsWanted c.want_page.new.links.entries m.target) c.loop-used.links.entries (turn_in c.loop-used.moves) c.in-Some.used
          (wants_alike (IsFilled (IsMoved c.args.links.now.entries c.args.from c.args.to c.args.items.now)) c.args.links.now.entries c.loop-used.links.entries c.loop-used.invariant.wants) c.in-Some.ensures.gives c.in-Ok.ensures.ok
          (λ m used lt. wanted_on (λ p. p ≡ c.in-Some.used.target) c.loop-used.links.entries c.want_page.new.links.entries m.target c.want_page.ensures.wants (c.loop-used.invariant.wanted m used lt));
      spaces = c.want_page.ensures.spaces ∙ c.loop-used.invariant.spaces;
    })
