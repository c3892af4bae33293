use Rattle.std.proofs.Common.{ℕ, ◌/◌, ◌%◌, ◌^◌, ◌∙◌, ap, ◌++◌, ◌∷◌, []}
use Rattle.l4_keys.specs.Words.{size_word}
use Rattle.l4_keys.proofs.Writing.{on_ok, kernel_written}
use Rattle.l4_keys.proofs.kernels.put_state.Goals as goal

pub returns : goal.returns
returns c =
    on_ok c.put_spaces.result
    (kernel_written c.args.kernel.now c.args.queue.now c.args.out.now.items c.put.new.out.items c.put_counted.new.out.items c.put_threads.new.out.items c.put_spaces.new.out.items c.law_forest.ensures c.requires.queue
    (c.in_ok-put.ensures
    ∙ (λ i. c.args.out.now.items ++ (c.size_word.ensures ∙ ap size_word c.page_size.ensures) i ∷ (c.low.ensures ∙ ap (λ (n : ℕ). n % 2 ^ 32) c.requires.next) i
    ∷ (c.high.ensures ∙ ap (λ (n : ℕ). n / 2 ^ 32) c.requires.next) i ∷ []))
    c.in_ok-put_counted.ensures c.in_ok-put_threads.ensures)
    c.put_spaces.ensures
