use Rattle.std.proofs.Common.{◌≡◌, ◌++◌, ◌∷◌, [], not, filter, flat_map, take}
use Rattle.l4_orders.proofs.possible.add_threads.Given as goal

abbrev pub invariant-loop-block : goal.invariant-loop-block
invariant-loop-block l = l.threads.items ≡ l.initial.threads.items ++ flat_map (λ block. block.thread ∷ []) (filter (λ block. not block.cancels) (take l.block-index l.blocks))
