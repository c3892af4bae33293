use Rattle.std.proofs.Common.{ℕ, List, slice_get, sym, ap, subst, ◌∙◌}
use Rattle.l4_threads.specs.Inside.Numbers.{IsNowhere}
use Rattle.l4_threads.proofs.QueueLemmas.{left_by_none}
use Rattle.l4_threads.proofs.NumberLemmas.{removed_at, not_listed}
use Rattle.l4_threads.proofs.roster.leave.Goals as goal

pub returns-in-Some : goal.returns-in-Some
returns-in-Some c =
    c.remove.ensures.items
    ∙ removed_at c.args.queue.now.items c.requires c.args.number c.in-Some.at (ap (λ (l : List ℕ). slice_get l c.in-Some.at) (sym c.as_slice.ensures.value) ∙ c.in-Some.ensures.there)

pub returns-in_default : goal.returns-in_default
returns-in_default c =
    sym (left_by_none c.args.number c.args.queue.now.items
    (not_listed c.args.queue.now.items c.args.number (subst (λ (l : List ℕ). IsNowhere l c.args.number) c.as_slice.ensures.value c.in_default.ensures)))
