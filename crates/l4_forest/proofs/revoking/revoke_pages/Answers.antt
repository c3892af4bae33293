use Rattle.std.proofs.Common.{◌∙◌, sym, ap, subst}
use Rattle.l4_fpage.specs.Rights.{RightsSet, without}
use Rattle.l4_links.proofs.Stacking.{none_is}
use Rattle.l4_forest.specs.Inside.Cuts.{IsCovered, CapsKeys}
use Rattle.l4_forest.proofs.Buried.{cuts_buried}
use Rattle.l4_forest.proofs.Taken.{taken_cuts}
use Rattle.l4_forest.proofs.revoking.revoke_pages.Goals as goal

pub returns-then-is_empty-clause-cuts : goal.returns-then-is_empty-clause-cuts
returns-then-is_empty-clause-cuts c =
    taken_cuts (IsCovered c.args.links.now.entries c.args.space c.args.first c.args.end c.args.with_self) c.args.rights c.args.links.now.entries c.take_pages.new.links.entries
    (sym (c.difference-cap.ensures ∙ ap (λ (a : RightsSet). without a c.args.rights) c.all.ensures) ∙ none_is c.difference-cap.result (sym c.is_empty.ensures ∙ c.if-is_empty.true))
    c.take_pages.ensures.takes

pub returns-clause-cuts : goal.returns-clause-cuts
returns-clause-cuts c =
    cuts_buried (IsCovered c.args.links.now.entries c.args.space c.args.first c.args.end c.args.with_self) c.args.rights c.args.links.now c.cap_pages.new.links.entries c.bury.new.self.entries c.requires.clean
    (subst (λ (cap : RightsSet). CapsKeys (IsCovered c.args.links.now.entries c.args.space c.args.first c.args.end c.args.with_self) cap c.args.links.now.entries c.cap_pages.new.links.entries)
    (c.difference-cap.ensures ∙ ap (λ (a : RightsSet). without a c.args.rights) c.all.ensures) c.cap_pages.ensures.caps)
    c.bury.ensures.buries
