use Rattle.std.proofs.Common.{sym, ◌∙◌}
use Rattle.l4_links.specs.Entries.{entry_at}
use Rattle.l4_mapdb.proofs.Tidying.{tidies_key, tidied_blank, tidied_plain, still_there}
use Rattle.l4_mapdb.proofs.unmarking.tidy_key.Goals as goal

pub returns-in_default : goal.returns-in_default
returns-in_default c = record {
  tidies = λ place at. tidies_key place c.args.key c.args.links.now.entries c.cut_key.new.links.entries c.take_blank.new.self.entries at c.cut_key.ensures.capped
      (tidied_blank c.cut_key.new.links.entries c.take_blank.new.self.entries c.args.key (sym c.standing.ensures ∙ c.in_default.is) c.take_blank.ensures.gone)
      c.take_blank.ensures.others;
  spaces = c.take_blank.ensures.spaces ∙ c.cut_key.ensures.spaces;
}

pub returns : goal.returns
returns c = record {
  tidies = λ place at. tidies_key place c.args.key c.args.links.now.entries c.cut_key.new.links.entries c.set_wanted.new.self.entries at c.cut_key.ensures.capped
      (tidied_plain c.cut_key.new.links.entries c.set_plain.new.self.entries c.set_wanted.new.self.entries c.args.key c.in-Some.field-0 (sym c.standing.ensures ∙ c.in-Some.is)
      c.set_plain.ensures.sets c.set_wanted.ensures.sets)
      (λ other ne. c.set_wanted.ensures.sets.others other ne ∙ c.set_plain.ensures.sets.others other ne);
  spaces = c.set_wanted.ensures.spaces ∙ c.set_plain.ensures.spaces ∙ c.cut_key.ensures.spaces;
}

pub take_blank-requires : goal.take_blank-requires
take_blank-requires c = record { blank = record { there = still_there (entry_at c.args.links.now.entries c.args.key) (entry_at c.cut_key.new.links.entries c.args.key) (c.cut_key.ensures.capped.same c.args.key) c.requires; blank = sym c.standing.ensures ∙ c.in_default.is } }
