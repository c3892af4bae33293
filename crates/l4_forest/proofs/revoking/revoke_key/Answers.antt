use Rattle.std.proofs.Common.{◌∙◌, sym, ap, subst}
use Rattle.l4_fpage.specs.Rights.{RightsSet, without}
use Rattle.l4_links.proofs.Stacking.{none_is}
use Rattle.l4_forest.specs.Inside.Cuts.{IsOver, CapsKeys}
use Rattle.l4_forest.proofs.Buried.{cuts_buried}
use Rattle.l4_forest.proofs.Taken.{taken_cuts}
use Rattle.l4_forest.proofs.revoking.revoke_key.Goals as goal

pub returns-then-is_empty-clause-cuts : goal.returns-then-is_empty-clause-cuts
returns-then-is_empty-clause-cuts c =
    taken_cuts (IsOver c.args.links.now.entries c.args.with_self c.args.top) c.args.rights c.args.links.now.entries c.take_key.new.links.entries
    (sym (c.difference-cap.ensures ∙ ap (λ (a : RightsSet). without a c.args.rights) c.all.ensures) ∙ none_is c.difference-cap.result (sym c.is_empty.ensures ∙ c.if-is_empty.true))
    c.take_key.ensures.takes

pub returns-clause-cuts : goal.returns-clause-cuts
returns-clause-cuts c =
    cuts_buried (IsOver c.args.links.now.entries c.args.with_self c.args.top) c.args.rights c.args.links.now c.cap_key.new.links.entries c.bury.new.self.entries c.requires.clean
    (subst (λ (cap : RightsSet). CapsKeys (IsOver c.args.links.now.entries c.args.with_self c.args.top) cap c.args.links.now.entries c.cap_key.new.links.entries)
    (c.difference-cap.ensures ∙ ap (λ (a : RightsSet). without a c.args.rights) c.all.ensures) c.cap_key.ensures.caps)
    c.bury.ensures.buries
