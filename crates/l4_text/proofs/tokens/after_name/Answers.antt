use Rattle.std.proofs.Common.{◌≡◌, length, take, eqb-true, sym, ap, ◌∙◌, rules}
use Rattle.std.proofs.Math.Seq.{take-length}
use Rattle.l4_text.proofs.Names.{after_is}
use Rattle.l4_text.proofs.tokens.after_name.Goals as goal

pub returns : goal.returns
returns g c =
    let long : length c.args.name ≡ g.row.COUNT = search rules in
    let at : c.loop-at.at ≡ g.row.COUNT = search rules in
    let front : take g.row.COUNT c.args.text.now ≡ c.args.name =
    ap (λ k. take k c.args.text.now) (sym at) ∙ c.loop-at.invariant ∙ ap (λ k. take k c.args.name) (at ∙ sym long) ∙ take-length c.args.name in
    after_is c.args.text.now c.args.name g.row.COUNT c.requires.some long c.requires.token front (eqb-true _ 0 (sym c.ends_token.ensures ∙ c.if-not-ends_token.false))
