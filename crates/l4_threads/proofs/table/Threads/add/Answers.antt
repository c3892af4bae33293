use Rattle.std.proofs.Common.{◌≡◌, ℕ, ◌+◌, ◌<◌, ◌^◌, length, if◌then◌else◌, refl, sym, ap, ◌∙◌, subst, arith, eq-eqb}
use Rattle.l4_threads.specs.Threads.{number_of}
use Rattle.l4_threads.proofs.TableLemmas.{differ}
use Rattle.l4_threads.proofs.ViewLemmas.{thread_at_seen}
use Rattle.l4_threads.proofs.BootLemmas.{grown_table, new_thread}
use Rattle.l4_threads.proofs.FocusLemmas.{focused_grown}
use Rattle.l4_threads.proofs.ControlLemmas.{len_seen, next_space_seen, seen_grown}
use Rattle.l4_threads.proofs.table.Threads.add.Goals as goal

pub push-requires-clause-free : goal.push-requires-clause-free
push-requires-clause-free c =
    rw c.number.ensures.value (sym (thread_at_seen c.self.inside.threads c.self.inside.queue.items c.self.inside.next_space c.args.self.now c.self.view_is (number_of c.args.id)) ∙ c.requires.free)

pub push-requires-clause-room : goal.push-requires-clause-room
push-requires-clause-room c = subst (λ (k : ℕ). k < 64) (len_seen c.self.inside.threads c.self.inside.queue.items c.self.inside.next_space c.args.self.now c.self.invariant.table c.self.view_is) c.requires.room

pub invariant_of-self : goal.invariant_of-self
invariant_of-self c =
    let number : c.number.result ≡ number_of c.args.id = c.number.ensures.value in
    let free = (sym (thread_at_seen c.self.inside.threads c.self.inside.queue.items c.self.inside.next_space c.args.self.now c.self.view_is (number_of c.args.id)) ∙ c.requires.free) in
    let room : length c.self.inside.threads < 64 = subst (λ (k : ℕ). k < 64) (len_seen c.self.inside.threads c.self.inside.queue.items c.self.inside.next_space c.args.self.now c.self.invariant.table c.self.view_is) c.requires.room in
    let next = next_space_seen c.self.inside.threads c.self.inside.queue.items c.self.inside.next_space c.args.self.now c.self.invariant.table c.self.view_is in
    let small : number_of c.args.id < 2 ^ 18 = subst (λ (k : ℕ). k < 2 ^ 18) number c.number.ensures.small in
    let space = c.requires.space in
    let space_fits = c.requires.space_fits in
    let fits = c.self.invariant.table.fits in
    let same = c.if-space-self.true in
    rw (c.push.ensures, c.idle.ensures, number) (record {
      table = grown_table c.self.inside.threads c.self.inside.queue.items c.self.inside.next_space (c.self.inside.next_space + 1) (number_of c.args.id) c.args.id c.args.space c.args.pager c.self.invariant.table free room refl small (omega arith) (omega arith) (omega arith);
      focused = focused_grown c.self.inside.threads c.self.inside.focus (number_of c.args.id) (new_thread c.args.id c.args.space c.args.pager) free refl c.self.invariant.focused;
    })

pub invariant_of-self-else-space-self : goal.invariant_of-self-else-space-self
invariant_of-self-else-space-self c =
    let number : c.number.result ≡ number_of c.args.id = c.number.ensures.value in
    let free = (sym (thread_at_seen c.self.inside.threads c.self.inside.queue.items c.self.inside.next_space c.args.self.now c.self.view_is (number_of c.args.id)) ∙ c.requires.free) in
    let room : length c.self.inside.threads < 64 = subst (λ (k : ℕ). k < 64) (len_seen c.self.inside.threads c.self.inside.queue.items c.self.inside.next_space c.args.self.now c.self.invariant.table c.self.view_is) c.requires.room in
    let next = next_space_seen c.self.inside.threads c.self.inside.queue.items c.self.inside.next_space c.args.self.now c.self.invariant.table c.self.view_is in
    let small : number_of c.args.id < 2 ^ 18 = subst (λ (k : ℕ). k < 2 ^ 18) number c.number.ensures.small in
    let space = c.requires.space in
    let space_fits = c.requires.space_fits in
    let fits = c.self.invariant.table.fits in
    let other = c.if-space-self.false in
    rw (c.push.ensures, c.idle.ensures, number) (record {
      table = grown_table c.self.inside.threads c.self.inside.queue.items c.self.inside.next_space c.self.inside.next_space (number_of c.args.id) c.args.id c.args.space c.args.pager c.self.invariant.table free room refl small (omega arith) (omega arith) (omega arith);
      focused = focused_grown c.self.inside.threads c.self.inside.focus (number_of c.args.id) (new_thread c.args.id c.args.space c.args.pager) free refl c.self.invariant.focused;
    })

pub returns-then-space-self : goal.returns-then-space-self
returns-then-space-self c =
    let number : c.number.result ≡ number_of c.args.id = c.number.ensures.value in
    let free = (sym (thread_at_seen c.self.inside.threads c.self.inside.queue.items c.self.inside.next_space c.args.self.now c.self.view_is (number_of c.args.id)) ∙ c.requires.free) in
    rw (← c.self.view_is, c.push.ensures, c.idle.ensures, number)
    (seen_grown c.self.inside.threads c.self.inside.queue.items c.self.inside.next_space (c.self.inside.next_space + 1) c.args.id c.args.space c.args.pager free (sym (ap (λ b. if b then c.self.inside.next_space + 1 else c.self.inside.next_space) (eq-eqb c.args.space c.self.inside.next_space c.if-space-self.true))))

pub returns-else-space-self : goal.returns-else-space-self
returns-else-space-self c =
    let number : c.number.result ≡ number_of c.args.id = c.number.ensures.value in
    let free = (sym (thread_at_seen c.self.inside.threads c.self.inside.queue.items c.self.inside.next_space c.args.self.now c.self.view_is (number_of c.args.id)) ∙ c.requires.free) in
    rw (← c.self.view_is, c.push.ensures, c.idle.ensures, number)
    (seen_grown c.self.inside.threads c.self.inside.queue.items c.self.inside.next_space c.self.inside.next_space c.args.id c.args.space c.args.pager free (sym (ap (λ b. if b then c.self.inside.next_space + 1 else c.self.inside.next_space) (differ c.args.space c.self.inside.next_space c.if-space-self.false))))
