use Rattle.std.proofs.Common.{sym, ap, ◌∙◌, subst, vec_capacity}
use Rattle.l4_threads.specs.Inside.Entries.{Entries, IsAt, found, sends_in, changed_in, in_state}
use Rattle.l4_threads.specs.Inside.Passing.{taken}
use Rattle.l4_threads.proofs.PassingLemmas.{passed, passed_numbers}
use Rattle.l4_threads.proofs.roster.Roster.pass.Goals as goal

pub invariant_of-self : goal.invariant_of-self
invariant_of-self c =
    passed_numbers c.self.inside.entries.items c.as_mut_slice.result.now c.hand_over.new.entries c.self.inside.numbers.items c.self.inside.hints (vec_capacity c.self.inside.entries) c.self.inside.entries.len c.args.sender c.args.receiver c.in-Some.from c.in-Some-place.at c.args.envelope
    c.self.invariant c.self.inside.entries.ok.0
    (subst (λ (l : Entries). IsAt l c.args.sender c.in-Some.from) (sym c.self.view_is) c.in-Some.ensures)
    (subst (λ (l : Entries). IsAt l c.args.receiver c.in-Some-place.at) (sym c.self.view_is) c.in-Some-place.ensures)
    c.as_mut_slice.ensures.value c.hand_over.ensures (ap (λ (l : Entries). sends_in l c.args.sender) c.self.view_is ∙ c.requires.sends)

pub returns : goal.returns
returns c = λ sends sending there is.
    passed c.self.inside.entries.items c.as_mut_slice.result.now c.hand_over.new.entries c.self.inside.entries.len c.args.sender c.args.receiver c.in-Some.from c.in-Some-place.at c.args.envelope
    c.self.inside.entries.ok.0
    (subst (λ (l : Entries). IsAt l c.args.sender c.in-Some.from) (sym c.self.view_is) c.in-Some.ensures)
    (subst (λ (l : Entries). IsAt l c.args.receiver c.in-Some-place.at) (sym c.self.view_is) c.in-Some-place.ensures)
    c.as_mut_slice.ensures.value c.hand_over.ensures sends sending (ap (λ (l : Entries). found l c.args.sender) c.self.view_is ∙ there) is
    ∙ ap (λ (l : Entries). changed_in l c.args.receiver (in_state (taken c.args.envelope sending))) c.self.view_is
