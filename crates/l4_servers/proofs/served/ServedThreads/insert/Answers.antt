use Rattle.std.proofs.Common.{◌≡◌, ℕ, List, refl, sym, ap, ◌∙◌, subst, not, true}
use Rattle.std.specs.Ordering.{nat_cmp}
use Rattle.std.specs.FinSet as set
use Rattle.std.specs.List.Sorted.{IsStrictlySortedBy}
use Rattle.std.proofs.lemmas.Bool.{false≢true}
use Rattle.l4_servers.proofs.Numbers.{served_by, found_in, goes_to, at_none, put_again, put_in, put_rises}
use Rattle.l4_servers.proofs.served.ServedThreads.insert.Goals as goal

pub returns-in_default : goal.returns-in_default
returns-in_default c =
    let there : set.contains c.args.self.now c.args.number ≡ true =
    ap (λ (s : set.FinSet nat_cmp). set.contains s c.args.number) (sym c.self.view_is)
    ∙ found_in c.self.inside.numbers.items c.deref.result.now c.in_default.field-0 c.args.number c.deref.ensures.value c.self.invariant c.in_default.ensures.position in
    (sym (ap not there), put_again c.args.self.now c.args.number there, λ _. refl)

pub returns-in_default-insert : goal.returns-in_default-insert
returns-in_default-insert c =
    let goes = goes_to c.self.inside.numbers.items c.deref.result.now c.in-Err.place c.args.number c.deref.ensures.value c.self.invariant c.in-Err.ensures.position in (
      ap (λ (s : set.FinSet nat_cmp). set.contains s c.args.number) (sym c.self.view_is) ∙ at_none c.self.inside.numbers.items c.in-Err.place c.args.number goes,
      ap served_by c.in_default-insert.ensures.items ∙ c.self.view_is,
    )

pub invariant_of-self-2 : goal.invariant_of-self-2
invariant_of-self-2 c =
    let goes = goes_to c.self.inside.numbers.items c.deref.result.now c.in-Err.place c.args.number c.deref.ensures.value c.self.invariant c.in-Err.ensures.position in
    subst (λ (ks : List ℕ). IsStrictlySortedBy nat_cmp ks) (sym c.in-Ok.ensures.items) (put_rises c.self.inside.numbers.items c.in-Err.place c.args.number c.self.invariant goes)

pub returns : goal.returns
returns c =
    let goes = goes_to c.self.inside.numbers.items c.deref.result.now c.in-Err.place c.args.number c.deref.ensures.value c.self.invariant c.in-Err.ensures.position in (
      sym (ap not (ap (λ (s : set.FinSet nat_cmp). set.contains s c.args.number) (sym c.self.view_is) ∙ at_none c.self.inside.numbers.items c.in-Err.place c.args.number goes)),
      ap served_by c.in-Ok.ensures.items ∙ put_in c.self.inside.numbers.items c.in-Err.place c.args.number ∙ ap (λ (s : set.FinSet nat_cmp). set.insert s c.args.number) c.self.view_is,
      λ e. absurd (false≢true (sym e)),
    )
