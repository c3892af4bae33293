use Rattle.std.proofs.Common.{ℕ, List, [], ◌≡◌, subst, sym, ap, ◌∙◌}
use Rattle.std.proofs.lemmas.Bool.{false≢true}
use Rattle.std.specs.List.Sorted.{IsStrictlyIncreasing}
use Rattle.l4_threads.specs.Inside.Entries.{Entries, ended_in}
use Rattle.l4_threads.specs.Queue.{is_in}
use Rattle.l4_threads.proofs.DeleteLemmas.{ended_list, rises, ends_seen}
use Rattle.l4_threads.proofs.table.Threads.ended_with.Goals as goal

pub returns-clause-rising : goal.returns-clause-rising
returns-clause-rising c =
    let all = ended_list c.self.inside.threads c.args.number [] c.self.invariant.table.once tt (λ m h. absurd (false≢true h)) in
    let items : c.ended_by.result.items ≡ ended_in c.self.inside.threads c.args.number [] =
    c.ended_by.ensures ∙ ap (λ (es : Entries). ended_in es c.args.number []) c.as_slice.ensures.value in
    subst IsStrictlyIncreasing (sym items) (rises _ all.0)

pub returns-clause-each : goal.returns-clause-each
returns-clause-each c =
    let all = ended_list c.self.inside.threads c.args.number [] c.self.invariant.table.once tt (λ m h. absurd (false≢true h)) in
    let items : c.ended_by.result.items ≡ ended_in c.self.inside.threads c.args.number [] =
    c.ended_by.ensures ∙ ap (λ (es : Entries). ended_in es c.args.number []) c.as_slice.ensures.value in
    λ n. ap (λ (l : List ℕ). is_in l n) items ∙ all.1 n ∙ ends_seen c.self.inside.threads c.self.inside.queue.items c.self.inside.next_space c.args.number n c.args.self.now c.self.view_is
