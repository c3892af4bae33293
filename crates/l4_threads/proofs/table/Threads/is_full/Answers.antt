use Rattle.std.proofs.Common.{◌-◌, ◌^◌, ◌||◌, ◌&&◌, nat_lt, sym, ap, ◌∙◌}
use Rattle.l4_threads.proofs.ControlLemmas.{is_full_seen}
use Rattle.l4_threads.proofs.table.Threads.is_full.Goals as goal

pub returns-then-is_full : goal.returns-then-is_full
returns-then-is_full c =
    c.if-is_full.true
    ∙ sym (is_full_seen c.self.inside.threads c.self.inside.queue.items c.self.inside.next_space c.args.self.now c.self.invariant.table c.self.view_is c.args.new_space ∙ ap (λ b. b || (c.args.new_space && nat_lt (2 ^ 64 - 2) c.self.inside.next_space)) (sym c.if-is_full.ensures))

pub returns-then-new_space : goal.returns-then-new_space
returns-then-new_space c =
    sym (is_full_seen c.self.inside.threads c.self.inside.queue.items c.self.inside.next_space c.args.self.now c.self.invariant.table c.self.view_is c.args.new_space ∙ ap (λ b. b || (c.args.new_space && nat_lt (2 ^ 64 - 2) c.self.inside.next_space)) (sym c.if-is_full.ensures)
    ∙ ap (λ b. b && nat_lt (2 ^ 64 - 2) c.self.inside.next_space) c.if-new_space.true)

pub returns-else-new_space : goal.returns-else-new_space
returns-else-new_space c =
    c.if-new_space.false
    ∙ sym (is_full_seen c.self.inside.threads c.self.inside.queue.items c.self.inside.next_space c.args.self.now c.self.invariant.table c.self.view_is c.args.new_space ∙ ap (λ b. b || (c.args.new_space && nat_lt (2 ^ 64 - 2) c.self.inside.next_space)) (sym c.if-is_full.ensures)
    ∙ ap (λ b. b && nat_lt (2 ^ 64 - 2) c.self.inside.next_space) c.if-new_space.false)
