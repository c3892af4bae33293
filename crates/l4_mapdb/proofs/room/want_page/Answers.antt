use Rattle.std.proofs.Common.{◌≡◌, ℕ, Option, Some, None, sym, ◌∙◌}
use Rattle.l4_mapdb.proofs.Rooming.{wants_found, wanted_found, wants_new, wanted_new}
use Rattle.l4_mapdb.proofs.room.want_page.Goals as goal

pub add_blank-requires-clause-free : goal.add_blank-requires-clause-free
add_blank-requires-clause-free c = λ key at. let k : ◌≡◌ {A = Option ℕ} None (Some key) = sym c.in_default.is ∙ (c.find.ensures key).1 at in cc

pub returns-in-Some-clause-wants : goal.returns-in-Some-clause-wants
returns-in-Some-clause-wants c = wants_found c.args.place c.in-Some.key c.args.links.now.entries c.set_wanted.new.self.entries ((c.find.ensures c.in-Some.key).0 c.in-Some.is) c.set_wanted.ensures.sets

pub returns-in-Some-clause-ok : goal.returns-in-Some-clause-ok
returns-in-Some-clause-ok c = wanted_found c.args.place c.in-Some.key c.args.links.now.entries c.set_wanted.new.self.entries ((c.find.ensures c.in-Some.key).0 c.in-Some.is) c.set_wanted.ensures.sets

pub returns-in-Ok-clause-wants : goal.returns-in-Ok-clause-wants
returns-in-Ok-clause-wants c = wants_new c.args.place c.in-Ok.key c.args.links.now.entries c.add_blank.new.self.entries c.set_wanted-in-Ok.new.self.entries c.in-Ok.ensures.ok c.set_wanted-in-Ok.ensures.sets

pub returns-in-Ok-clause-ok : goal.returns-in-Ok-clause-ok
returns-in-Ok-clause-ok c = wanted_new c.args.place c.in-Ok.key c.args.links.now.entries c.add_blank.new.self.entries c.set_wanted-in-Ok.new.self.entries c.in-Ok.ensures.ok c.set_wanted-in-Ok.ensures.sets
