-- Deletions of threads, as the machine says them.
use Rattle.std.proofs.Common.{◌≡◌, ◌≢◌, ℕ, ◌-◌, ◌<◌, ◌≤◌, ◌==◌, ◌||◌, not, Bool, true, false, cond, if◌then◌else◌, zero, suc, Option, Some, None, List, [], ◌∷◌, length, slice_index_or, Result, Ok, Err, MatchOption, IsTrue, refl, sym, ap, ◌∙◌, subst, inl, inr, ◌⊎◌, option_and_then, is_some, eq-eqb, arith}
use Rattle.std.specs.Option.{option_map_or, option_map}
use Rattle.std.specs.Ordering.{nat_cmp}
use Rattle.std.specs.Cmp.{unsigned_tied, nat_cmp_total}
use Rattle.std.specs.List.{AllPairs}
use Rattle.std.proofs.lemmas.Bool.{false≢true}
use Rattle.std.proofs.lemmas.Bool.Decides.{eqb_tells}
use Rattle.std.proofs.lemmas.List.Kept.{AllPairs-from_increasing}
use Rattle.std.specs.FinMap as fin
use Rattle.l4_mapdb.specs.Mappings.{Mappings}
use Rattle.l4_forest.specs.Losing.{EndsSpace}
use Rattle.l4_threads.specs.declared.Reply.TheVariants.{Controlled}
use Rattle.l4_threads.specs.declared.State.TheVariants.{Running}
use Rattle.l4_threads.specs.declared.Thread.{Thread}
use Rattle.l4_threads.specs.declared.ThreadId.{ThreadId}
use Rattle.l4_threads.specs.declared.ThreadFault.{ThreadFault}
use Rattle.l4_threads.specs.declared.ThreadFault.TheVariants.{NoPrivilege, Unknown, Kept}
use Rattle.l4_threads.specs.Threads.{Threads, thread_at, state_of, number_of, runs, is_running, out_of_queue, end_call, IsConsistent}
use Rattle.l4_threads.specs.Control.{delete_test, is_privileged, freed, Deletes, waits, IsEndedList, HasEnded, TellsEnd}
use Rattle.l4_ipc.specs.declared.calls.Call.TheVariants.{Control as Controls}
use Rattle.l4_ipc.specs.declared.calls.Control.TheVariants.{Delete}
use Rattle.l4_ipc.specs.declared.steps.Answer.{Answer}
use Rattle.l4_ipc.specs.declared.steps.Outcome.TheVariants.{Started}
use Rattle.l4_ipc.specs.declared.steps.Step.TheVariants.{Start}
use Rattle.l4_ipc.specs.Machine.{machine}
use Rattle.l4_ipc.specs.Steps.{Steps}
use Rattle.l4_ipc.proofs.Threads.{past, running_thread, state_other}
use Rattle.l4_fpage.specs.declared.sizes.PageSize.{PageSize}

pub differs : (a b : ℕ) → a ≢ b → (a == b) ≡ false
differs a b ne = elim (eqb_tells a b) [ inl h ↦ absurd (ne h.1) | inr h ↦ h.0 ]

-- WHO IS DELETED

-- the deleted thread is there, and is another than the caller
abbrev IsVictim : Threads → ℕ → ℕ → Type 0
IsVictim t caller victim = (thread : Thread) × ((thread_at t victim ≡ Some thread) × (victim ≢ caller))

last_false : (a b c : Bool) → (a || (b || c)) ≡ false → c ≡ false
last_false true b c h = absurd (false≢true (sym h))
last_false false true c h = absurd (false≢true (sym h))
last_false false false c h = h

pub victim_is : (t : Threads) (caller victim : ℕ) (id : ThreadId) → delete_test t caller id ≡ Ok victim → IsVictim t caller victim
victim_is t caller victim id test =
    let a = past (not (is_privileged t caller)) NoPrivilege _ victim test in
    elim (thread_at t (number_of id)) as (λ o. thread_at t (number_of id) ≡ o → tested (option_and_then (λ (thread : Thread). if thread.id.0 == id.0 then Some (number_of id) else None) o) ≡ Ok victim → IsVictim t caller victim) [
      | None ↦ λ _ e. absurd (let k : ◌≡◌ {A = Result ℕ ThreadFault} (Err Unknown) (Ok victim) = e in cc)
      | Some thread ↦ λ at e.
          elim (thread.id.0 == id.0) as (λ b. tested (if b then Some (number_of id) else None) ≡ Ok victim → IsVictim t caller victim) [
            | true ↦ λ h.
                let n : ℕ = number_of id in
                let kept = past ((n == 1) || ((n == 2) || (n == caller))) Kept (Ok n) victim h in
                let k : ◌≡◌ {A = Result ℕ ThreadFault} (Ok n) (Ok victim) = kept.1 in
                let same : n ≡ victim = cc in
                (thread, (ap (thread_at t) (sym same) ∙ at, λ own. false≢true (sym (last_false (n == 1) (n == 2) (n == caller) kept.0) ∙ eq-eqb n caller (same ∙ own))))
            | false ↦ λ h. absurd (let k : ◌≡◌ {A = Result ℕ ThreadFault} (Err Unknown) (Ok victim) = h in cc)
          ] e
    ] refl a.1 where
      tested : Option ℕ → Result ℕ ThreadFault
      tested o = option_map_or (λ n. if (n == 1) || ((n == 2) || (n == caller)) then Err Kept else Ok n) o (Err Unknown)

-- WHO IS LEFT

-- a thread that is left was there before
pub left_at : (old left : Threads) (victim m : ℕ) (thread : Thread) → Deletes victim old left → thread_at left m ≡ Some thread
    → (before : Thread) × ((thread_at old m ≡ Some before) × (thread ≡ freed victim before))
left_at old left victim m thread d at =
    elim (m == victim) as (λ b. (if b then None else option_map (freed victim) (thread_at old m)) ≡ Some thread → (before : Thread) × ((thread_at old m ≡ Some before) × (thread ≡ freed victim before))) [
      | true ↦ λ e. absurd (let k : ◌≡◌ {A = Option Thread} None (Some thread) = e in cc)
      | false ↦ λ e.
          elim (thread_at old m) as (λ o. thread_at old m ≡ o → option_map (freed victim) o ≡ Some thread → (before : Thread) × ((thread_at old m ≡ Some before) × (thread ≡ freed victim before))) [
            | None ↦ λ _ f. absurd (let k : ◌≡◌ {A = Option Thread} None (Some thread) = f in cc)
            | Some before ↦ λ is f. (before, (is, let k : ◌≡◌ {A = Option Thread} (Some (freed victim before)) (Some thread) = f in cc))
          ] refl e
    ] (sym (d.threads m) ∙ at)

-- HOW MANY CALLS END

-- rising numbers of threads are no more than the threads
few_numbers : (m : fin.FinMap nat_cmp Thread) (xs : List ℕ) → AllPairs (λ x y. x < y) xs → ((k d : ℕ) → k < length xs → fin.get m (slice_index_or xs k d) ≢ None) → length xs ≤ fin.len m
few_numbers m [] rising each = omega arith
few_numbers m (x ∷ xs) rising each =
    let rest = few_numbers (fin.remove m x) xs (λ i j d less within. rising (suc i) (suc j) d (omega (arith, less)) (omega (arith, within))) (λ k d within none.
    let q : ℕ = slice_index_or xs k d in
    let above : x < q = rising 0 (suc k) d (omega arith) (omega (arith, within)) in
    let other : (q == x) ≡ false = differs q x (λ same. absurd (omega (arith, above, same))) in
    let e : fin.get (fin.remove m x) q ≡ fin.get m q =
    fin.get-remove nat_cmp_total m x q ∙ ap (λ b. cond b None (fin.get m q)) (unsigned_tied q x ∙ other) in
    each (suc k) d (omega (arith, within)) (sym e ∙ none)) in
    let there : fin.contains_key m x ≡ true = is_there (fin.get m x) (each 0 0 (omega arith)) in
    let less : fin.len (fin.remove m x) ≡ fin.len m - 1 = fin.len-remove nat_cmp_total m x ∙ ap (λ b. cond b (fin.len m - 1) (fin.len m)) there in
    let some : fin.len m ≢ 0 = λ zero_len. each 0 0 (omega arith) (ap (λ (n : fin.FinMap nat_cmp Thread). fin.get n x) (fin.empty_of_len m zero_len) ∙ fin.get-empty {X = Thread} nat_cmp x) in
    omega (arith, rest, less, some) where
      is_there : (o : Option Thread) → o ≢ None → is_some o ≡ true
      is_there None h = absurd (h refl)
      is_there (Some t) h = refl

-- the thread that waits isn't the one that runs
waits_apart : (t : Threads) (caller n : ℕ) → IsTrue (runs t caller) → waits t n → n ≢ caller
waits_apart t caller n h waiting same =
    let there = running_thread t caller h in
    let e : option_map is_running (state_of t n) ≡ Some (is_running there.0.state) =
    ap (λ (k : ℕ). option_map is_running (state_of t k)) same ∙ ap (λ (o : Option Thread). option_map is_running (option_map (λ (x : Thread). x.state) o)) there.1.0 in
    let k : ◌≡◌ {A = Option Bool} (Some true) (Some false) = ap Some (sym there.1.1) ∙ sym e ∙ waiting in
    cc

-- the thread that waits is there
waits_there : (t : Threads) (n : ℕ) → waits t n → thread_at t n ≢ None
waits_there t n waiting none =
    let k : ◌≡◌ {A = Option Bool} None (Some false) = ap (λ (o : Option Thread). option_map is_running (option_map (λ (x : Thread). x.state) o)) (sym none) ∙ waiting in
    cc

-- with the caller they are at most 64
pub few_ended : (old left : Threads) (caller : ℕ) (others : List ℕ) → IsConsistent old → IsTrue (runs old caller) → IsEndedList old left others → length others < 64
few_ended old left caller others consistent h ended =
    let there = running_thread old caller h in
    let rest : length others ≤ fin.len (fin.remove old.threads caller) =
    few_numbers (fin.remove old.threads caller) others (AllPairs-from_increasing others ended.rising) (λ k d within none.
    let q : ℕ = slice_index_or others k d in
    let waiting : waits old q = ((ended.each q).0 (k, within, same_default others k d q within)).0 in
    let e : fin.get (fin.remove old.threads caller) q ≡ thread_at old q =
    fin.get-remove nat_cmp_total old.threads caller q ∙ ap (λ b. cond b None (thread_at old q)) (unsigned_tied q caller ∙ differs q caller (waits_apart old caller q h waiting)) in
    waits_there old q waiting (sym e ∙ none)) in
    let has : fin.contains_key old.threads caller ≡ true = ap is_some there.1.0 in
    let less : fin.len (fin.remove old.threads caller) ≡ fin.len old.threads - 1 = fin.len-remove nat_cmp_total old.threads caller ∙ ap (λ b. cond b (fin.len old.threads - 1) (fin.len old.threads)) has in
    let few : fin.len old.threads ≤ 64 = consistent.few in
    omega (arith, rest, less, few) where
      same_default : (xs : List ℕ) (k d e : ℕ) → k < length xs → slice_index_or xs k e ≡ slice_index_or xs k d
      same_default [] k d e within = absurd (omega (arith, within))
      same_default (x ∷ xs) zero d e within = refl
      same_default (x ∷ xs) (suc k) d e within = same_default xs k d e (omega (arith, within))

-- WHAT A DELETE DOES

-- what the caller's end changes are not the others
ended_list : (old left : Threads) (caller : ℕ) (others : List ℕ) → IsTrue (runs old caller) → IsEndedList old left others → IsEndedList old (end_call left caller Controlled) others
ended_list old left caller others h ended = record {
  rising = ended.rising;
  each = λ n. (
    λ among. let by = (ended.each n).0 among in (by.0, λ waiting. by.1 (sym (same n by.0) ∙ waiting)),
    λ by. (ended.each n).1 (by.0, λ waiting. by.1 (same n by.0 ∙ waiting)),
  );
} where
  same : (n : ℕ) → waits old n → option_map is_running (state_of (end_call left caller Controlled) n) ≡ option_map is_running (state_of left n)
  same n waiting = ap (λ (o : Option Thread). option_map is_running (option_map (λ (x : Thread). x.state) o))
      (state_other (out_of_queue left caller) caller (Running (Some Controlled)) n (waits_apart old caller n h waiting))

space_goes : (t left : Threads) (victim : ℕ) (thread : Thread) (s new : Mappings) (space : Option ℕ) → thread_at t victim ≡ Some thread → TellsEnd t left victim space
    → MatchOption space (new ≡ s) (λ ended. EndsSpace ended s new)
    → (HasEnded left thread.space × EndsSpace thread.space s new) ⊎ (¬ (HasEnded left thread.space) × (new ≡ s))
space_goes t left victim thread s new None at tells same = inr (λ ended. ended tells.0 (tells.1 ∙ ap (option_map (λ (x : Thread). x.space)) at), same)
space_goes t left victim thread s new (Some space) at tells ends =
    let both : ◌≡◌ {A = Option ℕ} (Some space) (Some thread.space) = sym tells.0 ∙ ap (option_map (λ (x : Thread). x.space)) at in
    let same : space ≡ thread.space = cc in
    inl (subst (HasEnded left) same tells.1, subst (λ (k : ℕ). EndsSpace k s new) same ends)

pub deleted : (size : PageSize) (t left after : Threads) (s new : Mappings) (n : ℕ) (id : ThreadId) (victim : ℕ) (others : List ℕ) (space : Option ℕ) (answer : Answer)
    → IsTrue (runs t n) → delete_test t n id ≡ Ok victim → Deletes victim t left → IsEndedList t left others → TellsEnd t left victim space
    → MatchOption space (new ≡ s) (λ ended. EndsSpace ended s new) → after ≡ end_call left n Controlled → answer.outcome ≡ Started → answer.ended.items ≡ n ∷ others
    → Steps (machine size t s) (Start n (Controls (Delete id))) (Ok answer) (machine size after new)
deleted size t left after s new n id victim others space answer h test deletes ended tells goes is outcome list =
    let there = running_thread t n h in
    let gone = victim_is t n victim id test in (
      there.0,
      there.1.0,
      there.1.1,
      outcome,
      (
        victim,
        gone.0,
        test,
        gone.1.0,
        (others, list, subst (λ (v : Threads). IsEndedList t v others) (sym is) (ended_list t left n others h ended)),
        record { left = left; size = refl; deleted = deletes; threads = is; mappings = space_goes t left victim gone.0 s new space gone.1.0 tells goes },
      ),
    )
