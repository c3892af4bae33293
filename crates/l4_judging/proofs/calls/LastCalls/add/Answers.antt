use Rattle.std.proofs.Common.{List, ℕ, ◌++◌, sym, ap, ◌∙◌}
use Rattle.std.proofs.lemmas.List.{append-nil}
use Rattle.l4_judging.proofs.LastCalls.{last_is, last_none}
use Rattle.l4_judging.proofs.calls.LastCalls.add.Goals as goal

pub returns-in_default-get : goal.returns-in_default-get
returns-in_default-get c = λ _.
    sym (append-nil c.args.text.now.items)
    ∙ ap (λ (t : List ℕ). c.args.text.now.items ++ t) (sym (last_none c.args.self.now c.self.inside.calls.entries c.args.thread c.in-Some.thread c.self.view_is c.in-Some.is c.in_default-get.ensures.value))

pub returns-in-Ok : goal.returns-in-Ok
returns-in-Ok c = λ _.
    c.in-Ok.ensures.items
    ∙ ap (λ (t : List ℕ). c.args.text.now.items ++ t) (c.as_slice.ensures ∙ last_is c.args.self.now c.self.inside.calls.entries c.args.thread c.in-Some.thread c.in-Some-get.line.now c.self.view_is c.in-Some.is c.in-Some-get.ensures.value)
