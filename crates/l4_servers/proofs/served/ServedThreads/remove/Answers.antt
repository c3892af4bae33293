use Rattle.std.proofs.Common.{◌≡◌, ℕ, ◌==◌, not, List, sym, ap, ◌∙◌, subst, rules}
use Rattle.std.specs.Ordering.{nat_cmp}
use Rattle.std.specs.FinSet as set
use Rattle.std.specs.List.Sorted.{IsStrictlySortedBy}
use Rattle.std.proofs.lemmas.Fn.{filter_same}
use Rattle.std.proofs.lemmas.List.Kept.{IsStrictlySortedBy-filter}
use Rattle.l4_servers.proofs.Numbers.{served_by, others, taken_out}
use Rattle.l4_servers.proofs.served.ServedThreads.remove.Goals as goal

pub invariant_of-self : goal.invariant_of-self
invariant_of-self c =
    let left : c.retain.new.self.items ≡ others c.args.number c.self.inside.numbers.items =
    filter_same _ (λ (m : ℕ). not (m == c.args.number)) _ (λ x b q h. search rules) _ _ c.retain.ensures.filtered in
    subst (λ (ks : List ℕ). IsStrictlySortedBy nat_cmp ks) (sym left) (IsStrictlySortedBy-filter nat_cmp (λ (m : ℕ). not (m == c.args.number)) c.self.inside.numbers.items c.self.invariant)

pub returns : goal.returns
returns c =
    let left : c.retain.new.self.items ≡ others c.args.number c.self.inside.numbers.items =
    filter_same _ (λ (m : ℕ). not (m == c.args.number)) _ (λ x b q h. search rules) _ _ c.retain.ensures.filtered in
    ap served_by left ∙ taken_out c.self.inside.numbers.items c.args.number ∙ ap (λ (s : set.FinSet nat_cmp). set.remove s c.args.number) c.self.view_is
