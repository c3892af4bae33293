use Rattle.std.proofs.Common.{Option, Some, inl, inr, sym, ap, subst, ◌∙◌}
use Rattle.l4_outcomes.proofs.Lacking.{lacks_memory}
use Rattle.l4_outcomes.specs.Searching.{IsUnsearched}
use Rattle.l4_outcomes.specs.declared.faults.SearchResult.{SearchResult}
use Rattle.l4_outcomes.specs.declared.searched.Searched.{Searched}
use Rattle.l4_c_orders.specs.Searching.{Searches}
use Rattle.l4_c_orders.proofs.searching.fill.Goals as goal

pub returns-in-Ok-new : goal.returns-in-Ok-new
returns-in-Ok-new c =
    subst (λ (old : Option Searched). Searches c.args.frames c.args.size c.args.most c.args.text.now old c.without_line-in-Ok-new.result c.put-in-Ok-new.new.self.value) (sym c.in_default.ensures.taken)
    (inl (c.in-Ok.found, c.in-Ok.ensures, c.without_line-in-Ok-new.ensures, c.put-in-Ok-new.ensures ∙ ap (λ (s : Searched). Some s) c.in-Ok-new.ensures.ok))

pub returns : goal.returns
returns c =
    subst (λ (old : Option Searched). Searches c.args.frames c.args.size c.args.most c.args.text.now old c.without_line-in-Err-new.result c.take.new.self.value) (sym c.in_default.ensures.taken)
    (inr (
      subst (λ (r : SearchResult). IsUnsearched c.args.frames c.args.size c.args.text.now r) (sym c.without_line-in-Err-new.ensures)
          (lacks_memory c.args.frames c.args.size c.args.most c.args.text.now c.in-Ok.found c.in-Ok.ensures),
      c.take.ensures.empty,
    ))
