use Rattle.std.proofs.Common.{refl, inr}
use Rattle.l4_mapdb.proofs.Waiting.{stands_there, shares, blank_found, not_absent}
use Rattle.l4_mapdb.proofs.moving.move_key.Goals as goal

pub returns-then-not-is_moved-clause-moves : goal.returns-then-not-is_moved-clause-moves
returns-then-not-is_moved-clause-moves c = λ source at. inr (c.is_moved.ensures.no c.if-not-is_moved.true source at, refl)

pub returns-in_default-clause-moves : goal.returns-in_default-clause-moves
returns-in_default-clause-moves c = absurd (not_absent c.args.links.now.entries c.requires.blank.0 c.args.target c.args.rights c.args.key c.requires.blank.2 (c.is_moved.ensures.yes c.if-not-is_moved.false c.requires.blank.0 ((c.requires.blank.1 c.args.key).0 refl)) c.find.result c.find.ensures c.in_default.is)

pub take_over-requires-clause-there : goal.take_over-requires-clause-there
take_over-requires-clause-there c = stands_there c.args.links.now.entries c.requires.blank.0 c.args.rights c.args.key (c.is_moved.ensures.yes c.if-not-is_moved.false c.requires.blank.0 ((c.requires.blank.1 c.args.key).0 refl))

pub take_over-requires-clause-blank : goal.take_over-requires-clause-blank
take_over-requires-clause-blank c = blank_found c.args.links.now.entries c.requires.blank.0 c.args.target c.args.rights c.args.key c.requires.blank.2 (c.is_moved.ensures.yes c.if-not-is_moved.false c.requires.blank.0 ((c.requires.blank.1 c.args.key).0 refl)) c.find.result c.find.ensures c.in-Some.blank c.in-Some.is

pub stand_under-requires-clause-there : goal.stand_under-requires-clause-there
stand_under-requires-clause-there c = stands_there c.args.links.now.entries c.requires.blank.0 c.args.rights c.args.key (c.is_moved.ensures.yes c.if-not-is_moved.false c.requires.blank.0 ((c.requires.blank.1 c.args.key).0 refl))

pub stand_under-requires-clause-blank : goal.stand_under-requires-clause-blank
stand_under-requires-clause-blank c = blank_found c.args.links.now.entries c.requires.blank.0 c.args.target c.args.rights c.args.key c.requires.blank.2 (c.is_moved.ensures.yes c.if-not-is_moved.false c.requires.blank.0 ((c.requires.blank.1 c.args.key).0 refl)) c.find.result c.find.ensures c.in-Some.blank c.in-Some.is

pub stand_under-requires-clause-some : goal.stand_under-requires-clause-some
stand_under-requires-clause-some c = shares c.args.links.now.entries c.requires.blank.0 c.args.rights c.args.key (c.is_moved.ensures.yes c.if-not-is_moved.false c.requires.blank.0 ((c.requires.blank.1 c.args.key).0 refl))
