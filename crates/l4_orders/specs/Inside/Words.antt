-- The words of a state determine it (this profile's own).
use Rattle.std.proofs.Common.{◌≡◌, ℕ, List, [], ◌++◌, sym, ◌∙◌, append-nil}
use Rattle.l4_keys.specs.Words.{counted, counts_words, names_words}
use Rattle.l4_keys.proofs.Prefixes.{ends_counted, ends_counts, apart}
use Rattle.l4_keys.proofs.Ends.{ends_names}
use Rattle.l4_keys.proofs.Same.{same_kernel, same_servers}
use Rattle.l4_orders.specs.Turns.{PlanPoint}
use Rattle.l4_orders.specs.Words.{HasWords}
use Rattle.l4_orders.specs.Inside.Laws.{AreAkin}

-- two states of one plan with the same words are one
pub one_point : (p q : PlanPoint) (key : List ℕ) → AreAkin p q → HasWords p key → HasWords q key → p ≡ q
one_point p q key akin a b =
    let both = sym a.are ∙ b.are in
    let last = apart (counts_words p.gone ++ a.kernel ++ a.servers) (counted p.numbers) (counts_words q.gone ++ b.kernel ++ b.servers) (counted q.numbers) (names_words p.names) (names_words q.names) both in
    let third = apart (counts_words p.gone ++ a.kernel) a.servers (counts_words q.gone ++ b.kernel) b.servers _ _ last in
    let gone = ends_counts p.gone q.gone _ _ (apart (counts_words p.gone) a.kernel (counts_words q.gone) b.kernel _ _ third) in
    let machine = same_kernel p.machine q.machine a.kernel b.kernel _ _ a.of_kernel b.of_kernel gone.1 in
    let servers = same_servers p.servers q.servers a.servers b.servers _ _ a.of_servers b.of_servers machine.1 in
    let numbers = ends_counted p.numbers q.numbers _ _ servers.1 in
    let names = ends_names p.names q.names [] [] (append-nil (names_words p.names) ∙ numbers.1 ∙ sym (append-nil (names_words q.names))) in
    λ i. record { plan = akin i; machine = machine.0 i; servers = servers.0 i; numbers = numbers.0 i; names = names.0 i; gone = gone.0 i }
