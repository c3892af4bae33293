use Rattle.std.proofs.Common.{◌≡◌, ℕ, false, is_some, sym, ap, ◌∙◌, rules}
use Rattle.l4_threads.specs.Threads.{thread_at, number_of}
use Rattle.l4_threads.proofs.ControlLemmas.{ready, copied_none}
use Rattle.l4_threads.proofs.table.Threads.test_create.Goals as goal

pub returns-clause-ready : goal.returns-clause-ready
returns-clause-ready c =
    let none : is_some c.thread.result ≡ false = search rules in
    let free : is_some (thread_at c.args.self.now (number_of c.args.id)) ≡ false =
    ap (λ (n : ℕ). is_some (thread_at c.args.self.now n)) (sym c.number.ensures.value) ∙ copied_none c.thread.result _ c.thread.ensures none in
    ready c.args.self.now c.args.id c.args.space c.in-Some.own c.law_consistent.ensures free (sym c.in-Some.ensures) (sym c.if-is_full.ensures)
