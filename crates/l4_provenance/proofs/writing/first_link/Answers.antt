use Rattle.std.proofs.Common.{sym, ◌∙◌, subst, arith}
use Rattle.std.proofs.lemmas.List.{get_or_default}
use Rattle.std.proofs.lemmas.List.Elements.{AllWithin-more}
use Rattle.l4_msg.specs.declared.items.Item.{Item}
use Rattle.l4_record.specs.Inside.Carrying.{IsWrittenBy}
use Rattle.l4_provenance.proofs.writing.first_link.Goals as goal

pub loop-item-preserved : goal.loop-item-preserved
loop-item-preserved c =
    let m = c.args.kernel.now in
    let s = c.args.letter.now in
    AllWithin-more (λ (item : Item). ¬ (IsWrittenBy m.size m.mappings s.«from» s.to s.window item c.args.place)) s.items.now 0 c.loop-item.item-index c.loop-item.invariant
    (λ d. subst (λ (item : Item). ¬ (IsWrittenBy m.size m.mappings s.«from» s.to s.window item c.args.place))
    (c.item-item.is ∙ get_or_default s.items.now c.loop-item.item-index c.item-item.result d c.loop-item-test.true) c.in_default.ensures)

pub returns : goal.returns
returns c = λ h.
    let m = c.args.kernel.now in
    let s = c.args.letter.now in
    c.loop-item.invariant h.1.0 h.0 (omega arith) (omega (arith, h.1.1, c.loop-item-test.false))
    (subst (λ (item : Item). IsWrittenBy m.size m.mappings s.«from» s.to s.window item c.args.place) (sym h.1.2) h.2)
