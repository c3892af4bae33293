use Rattle.std.proofs.Common.{false, sym, ◌∙◌}
use Rattle.std.proofs.lemmas.Bool.{false≢true}
use Rattle.l4_mapdb.specs.Inside.Messages.{IsMoved, Roomed}
use Rattle.l4_mapdb.specs.Inside.Placing.{IsStart, Placed, IsDone}
use Rattle.l4_mapdb.specs.Inside.Tangles.{HasTangle}
use Rattle.l4_mapdb.proofs.Keyed.{entangled_keys, entangled_places}
use Rattle.l4_mapdb.proofs.Prepared.{begun, lacks_place, room_rights, room_wanted, room_stay}
use Rattle.l4_mapdb.proofs.Restored.{restored, marks_wanted}
use Rattle.l4_mapdb.proofs.RoomMade.{roomed, lacks_room}
use Rattle.l4_mapdb.proofs.delivering.deliver_any.Goals.{After-make_room, After-law_trees-2, After-clear_targets}
use Rattle.l4_mapdb.proofs.delivering.deliver_any.Goals as goal

pub returns-then-has_tangle-clause-err : goal.returns-then-has_tangle-clause-err
returns-then-has_tangle-clause-err c = restored c.args.links.now c.requires.clean c.args.from c.args.to c.args.items.now c.has_tangle.new.links.entries c.has_tangle.ensures.marked.marks c.unmark.new.links.entries c.unmark.ensures.tidies

pub returns-then-has_tangle-clause-cause : goal.returns-then-has_tangle-clause-cause
returns-then-has_tangle-clause-cause c = entangled_places c.args.links.now c.law_places.ensures c.law_trees.ensures c.args.from c.args.to c.args.items.now (c.has_tangle.ensures.answer.0 c.if-has_tangle.true)

pub returns-then-has_tangle-clause-succeeds : goal.returns-then-has_tangle-clause-succeeds
returns-then-has_tangle-clause-succeeds c = λ present free. absurd (free (entangled_places c.args.links.now c.law_places.ensures c.law_trees.ensures c.args.from c.args.to c.args.items.now (c.has_tangle.ensures.answer.0 c.if-has_tangle.true)))

pub returns-in_default-clause-err : goal.returns-in_default-clause-err
returns-in_default-clause-err c =
    restored c.args.links.now c.requires.clean c.args.from c.args.to c.args.items.now c.make_room.new.links.entries
    (marks_wanted c.args.links.now c.requires.clean c.args.from c.args.to c.args.items.now c.has_tangle.new.links.entries c.make_room.new.links.entries c.make_room.ensures.wants c.has_tangle.ensures.marked.marks)
    c.unmark-in_default.new.links.entries c.unmark-in_default.ensures.tidies

free : (c : goal.After-make_room) → ¬ (HasTangle (IsMoved c.args.links.now.entries c.args.from c.args.to c.args.items.now) c.args.links.now.entries)
free c = λ h. false≢true (sym c.if-has_tangle.false ∙ c.has_tangle.ensures.answer.1 h)

pub returns-in_default-clause-cause : goal.returns-in_default-clause-cause
returns-in_default-clause-cause c = lacks_place c.args.links.now c.law_places.ensures c.law_trees.ensures c.args.from c.args.to c.args.items.now (free (goal.at.returns-in_default-clause-cause c).After-make_room)
    (lacks_room c.args.links.now c.requires.clean c.args.from c.args.to c.args.items.now c.has_tangle.new.links.entries c.has_tangle.ensures.marked c.in_default.ensures.err)

pub returns-in_default-clause-succeeds : goal.returns-in_default-clause-succeeds
returns-in_default-clause-succeeds c = λ present _.
    let cause = lacks_place c.args.links.now c.law_places.ensures c.law_trees.ensures c.args.from c.args.to c.args.items.now (free (goal.at.returns-in_default-clause-succeeds c).After-make_room)
    (lacks_room c.args.links.now c.requires.clean c.args.from c.args.to c.args.items.now c.has_tangle.new.links.entries c.has_tangle.ensures.marked c.in_default.ensures.err) in
    absurd (cause.1.absent (present cause.1.move cause.1.used))

room : (c : goal.After-law_trees-2) → Roomed (IsMoved c.args.links.now.entries c.args.from c.args.to c.args.items.now) c.args.links.now.entries c.make_room.new.links.entries
room c = roomed c.args.links.now c.requires.clean c.args.from c.args.to c.args.items.now c.has_tangle.new.links.entries c.has_tangle.ensures.marked c.make_room.new.links.entries c.make_room.ensures.wants c.in-Ok.ensures.ok

pub clear_targets-requires : goal.clear_targets-requires
clear_targets-requires c =
    let made = room (goal.at.clear_targets-requires c).After-law_trees-2 in
    record {
      rights = room_rights c.args.links.now c.requires.clean c.args.from c.args.to c.args.items.now c.make_room.new.links.entries made;
      wanted = room_wanted c.args.links.now c.requires.clean c.args.from c.args.to c.args.items.now c.make_room.new.links.entries made;
      stay = room_stay c.args.links.now c.requires.clean c.args.from c.args.to c.args.items.now c.make_room.new.links.entries made c.law_trees-2.ensures (free (goal.at.clear_targets-requires c).After-make_room);
    }

start : (c : goal.After-clear_targets) → IsStart c.args.links.now c.args.from c.args.to c.args.items.now
start c = record {
  places = c.law_places.ensures;
  trees = c.law_trees.ensures;
  there = c.requires.there;
  clean = c.requires.clean;
  free = λ e. false≢true (sym c.if-has_tangle.false ∙ c.has_tangle.ensures.answer.1 (entangled_keys c.args.links.now c.law_places.ensures c.law_trees.ensures c.args.from c.args.to c.args.items.now e));
}

ready : (c : goal.After-clear_targets) → Placed c.args.links.now c.args.from c.args.to c.args.items.now (IsDone c.args.links.now c.args.from c.args.to c.args.items.now false 0 0) c.clear_targets.new.links
ready c =
    begun c.args.links.now c.requires.clean c.law_places.ensures c.law_trees.ensures c.args.from c.args.to c.args.items.now c.make_room.new.links c.law_places-2.ensures c.law_trees-2.ensures
    (roomed c.args.links.now c.requires.clean c.args.from c.args.to c.args.items.now c.has_tangle.new.links.entries c.has_tangle.ensures.marked c.make_room.new.links.entries c.make_room.ensures.wants c.in-Ok.ensures.ok)
    (λ h. false≢true (sym c.if-has_tangle.false ∙ c.has_tangle.ensures.answer.1 h))
    c.clear_targets.new.links (c.clear_targets.ensures.spaces ∙ c.make_room.ensures.spaces ∙ c.has_tangle.ensures.spaces) c.clear_targets.ensures.clears

pub carry_out-requires : goal.carry_out-requires
carry_out-requires c = let at = (goal.at.carry_out-requires c).After-clear_targets in record { ready = (c.args.links.now, start at, ready at) }

pub returns-clause-ok : goal.returns-clause-ok
returns-clause-ok c = let at = (goal.at.returns-clause-ok c).After-clear_targets in record {
  delivers = c.carry_out.ensures.delivers c.args.links.now (start at) (ready at);
  free = (start at).free;
  clean = c.carry_out.ensures.clean;
  roots = c.carry_out.ensures.roots c.args.links.now (start at) (ready at);
}
