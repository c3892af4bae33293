-- A call that is entered is one start more of its number.
use Rattle.std.proofs.Common.{◌≡◌, ℕ, ◌+◌, if◌then◌else◌, List, [], ◌∷◌, ◌++◌, map, refl, ap, eq-eqb, arith}
use Rattle.l4_ipc.specs.declared.calls.Call.{Call}
use Rattle.l4_ipc.specs.declared.steps.Answer.{Answer}
use Rattle.l4_ipc.specs.declared.steps.NextStep.{NextStep}
use Rattle.l4_ipc.specs.declared.steps.NextStep.TheVariants.{Transfer as Transferred, Expire as Expires}
use Rattle.l4_ipc.specs.declared.steps.Step.TheVariants.{Start}
use Rattle.l4_record.specs.declared.entries.Entry.{Entry}
use Rattle.l4_record.specs.Following.{start_entry, next_entry}
use Rattle.l4_lock.specs.Books.{one_if, starts_of}

both : (n : ℕ) (es fs : List Entry) → starts_of n (es ++ fs) ≡ starts_of n es + starts_of n fs
both n [] fs = omega arith
both n (e ∷ es) fs = let more = both n es fs in omega (arith, more)

-- what comes next starts no call
none_next : (n k : ℕ) (steps : List NextStep) → starts_of n (map (next_entry k) steps) ≡ 0
none_next n k [] = refl
none_next n k (Transferred sender receiver outcome ends ∷ steps) = let rest = none_next n k steps in omega (arith, rest)
none_next n k (Expires thread ∷ steps) = let rest = none_next n k steps in omega (arith, rest)

pub one_more : (n : ℕ) (call : Call) (answer : Answer) (es : List Entry) (steps : List NextStep)
    → starts_of n (es ++ start_entry n call answer ∷ map (next_entry n) steps) ≡ starts_of n es + 1
one_more n call answer es steps =
    let all = both n es (start_entry n call answer ∷ map (next_entry n) steps) in
    let own : one_if n (Start n call) ≡ 1 = ap (λ t. if t then 1 else 0) (eq-eqb n n refl) in
    let rest = none_next n n steps in
    omega (arith, all, own, rest)
