-- The call of one thread ends: if no step was enabled, none is enabled afterwards.
use Rattle.std.proofs.Common.{◌≡◌, ◌≢◌, ℕ, ◌==◌, ◌&&◌, not, ◌⊎◌, inl, inr, Bool, true, false, if◌then◌else◌, Option, Some, None, Ok, IsTrue, refl, sym, ap, ◌∙◌, subst, eq-eqb}
use Rattle.std.specs.Option.{option_map_or, option_map}
use Rattle.std.specs.FinMap as fin
use Rattle.std.specs.FinSet as set
use Rattle.std.proofs.lemmas.Bool.{false≢true}
use Rattle.std.proofs.lemmas.Bool.Decides.{eqb_tells}
use Rattle.l4_threads.specs.declared.Reply.{Reply}
use Rattle.l4_threads.specs.declared.State.{State}
use Rattle.l4_threads.specs.declared.State.TheVariants.{Running, Sending as IsSender, Receiving as IsReceiver}
use Rattle.l4_threads.specs.Threads.{Threads, state_of, Before, with_state, out_of_queue, end_call, IsConsistent}
use Rattle.l4_threads.specs.Enabled.{offers_to, Offers, IsFirstSender, CanExpire}
use Rattle.l4_threads.proofs.QueuePairs.{exact_number_pairs}
use Rattle.l4_ipc.specs.declared.steps.Answer.{Answer}
use Rattle.l4_ipc.specs.declared.steps.CancelCause.{CancelCause}
use Rattle.l4_ipc.specs.declared.steps.Step.TheVariants.{Cancel}
use Rattle.l4_ipc.specs.Machine.{Machine}
use Rattle.l4_ipc.specs.Steps.{Steps, IsIdle, cancellation}
use Rattle.l4_ipc.proofs.Deletes.{differs}
use Rattle.l4_ipc.proofs.Waiting.{IsOver, over_end}
use Rattle.l4_record.proofs.Staying.{elsewhere, waiting_state}

-- a thread whose call is over sends nothing
sends_nothing : (s other : Option State) (a b : ℕ) → IsOver s → ¬ (IsTrue (offers_to s other a b))
sends_nothing None other a b o = λ h. false≢true h
sends_nothing (Some (Running None)) other a b o = λ h. o
sends_nothing (Some (Running (Some reply))) other a b o = λ h. false≢true h
sends_nothing (Some (IsSender s)) other a b o = λ h. o
sends_nothing (Some (IsReceiver r)) other a b o = λ h. o

-- and accepts nothing
accepts_nothing : (other s : Option State) (a b : ℕ) → IsOver s → ¬ (IsTrue (offers_to other s a b))
accepts_nothing None s a b o = λ h. false≢true h
accepts_nothing (Some (Running reply)) s a b o = λ h. false≢true h
accepts_nothing (Some (IsReceiver r)) s a b o = λ h. false≢true h
accepts_nothing (Some (IsSender x)) None a b o = λ h. false≢true h
accepts_nothing (Some (IsSender x)) (Some (Running None)) a b o = λ h. o
accepts_nothing (Some (IsSender x)) (Some (Running (Some reply))) a b o = λ h. false≢true h
accepts_nothing (Some (IsSender x)) (Some (IsSender s)) a b o = λ h. o
accepts_nothing (Some (IsSender x)) (Some (IsReceiver r)) a b o = λ h. o

-- The call of thread n is over. The other threads are as before, and those that send are in the same order.
record Ended (old new : Threads) (n : ℕ) : Type 0 where
  pub over : IsOver (state_of new n)
  pub others : (m : ℕ) → m ≢ n → state_of new m ≡ state_of old m
  pub queue : (a b : ℕ) → a ≢ n → b ≢ n → Before old a b → Before new a b

same_or : (a b : ℕ) → (a ≡ b) ⊎ (a ≢ b)
same_or a b = elim (eqb_tells a b) [ inl h ↦ inl h.1 | inr h ↦ inr (λ is. false≢true (sym h.0 ∙ eq-eqb a b is)) ]

-- the queue does not depend on states
same_queue : (t : Threads) (n : ℕ) (state : State) → (with_state t n state).before ≡ t.before
same_queue t n state =
    elim (fin.get t.threads n) as (λ o. (option_map_or (λ x. record t { threads = fin.insert t.threads n (record x { state = state }) }) o t).before ≡ t.before) [
      | None ↦ refl
      | Some old ↦ refl
    ]

out_before : (t : Threads) (n a b : ℕ) → set.contains (out_of_queue t n).before (a, b) ≡ (set.contains t.before (a, b) && (not (a == n) && not (b == n)))
out_before t n a b =
    set.contains-retain t.before (λ p. not (p.0 == n) && not (p.1 == n)) (a, b)
    (λ x tied. ap (λ (p : ℕ × ℕ). not (p.0 == n) && not (p.1 == n)) (sym (exact_number_pairs (a, b) x tied)))

ended : (t : Threads) (n : ℕ) (reply : Reply) → Ended t (end_call t n reply) n
ended t n reply = record {
  over = over_end t n reply;
  others = λ m apart. elsewhere (out_of_queue t n) n (Running (Some reply)) m apart;
  queue = λ a b p q h.
      ap (λ s. set.contains s (a, b)) (same_queue (out_of_queue t n) n (Running (Some reply))) ∙ out_before t n a b
      ∙ ap (λ v. v && (not (a == n) && not (b == n))) h
      ∙ ap (λ v. not v && not (b == n)) (differs a n p) ∙ ap not (differs b n q);
}

-- who offers a message afterwards did so before, and is not that thread, nor sends to it
offered : (old new : Threads) (n s r : ℕ) → Ended old new n → Offers new s r → (s ≢ n) × (r ≢ n) × Offers old s r
offered old new n s r x h =
    let p : s ≢ n = λ is. sends_nothing (state_of new s) (state_of new r) s r (subst (λ (m : ℕ). IsOver (state_of new m)) (sym is) x.over) h in
    let q : r ≢ n = λ is. accepts_nothing (state_of new s) (state_of new r) s r (subst (λ (m : ℕ). IsOver (state_of new m)) (sym is) x.over) h in
    (p, q, ap (λ o. offers_to o (state_of old r) s r) (sym (x.others s p)) ∙ ap (λ o. offers_to (state_of new s) o s r) (sym (x.others r q)) ∙ h)

offers_on : (old new : Threads) (n s r : ℕ) → Ended old new n → s ≢ n → r ≢ n → Offers old s r → Offers new s r
offers_on old new n s r x p q h =
    ap (λ o. offers_to o (state_of new r) s r) (x.others s p) ∙ ap (λ o. offers_to (state_of old s) o s r) (x.others r q) ∙ h

-- If a transfer were enabled afterwards, the same one would have been before, or one of the thread whose call ended, if it sent first.
still_none : (old new : Threads) (n : ℕ) → IsConsistent old → Ended old new n → ((s r : ℕ) → ¬ (IsFirstSender old r s)) → (s r : ℕ) → ¬ (IsFirstSender new r s)
still_none old new n c x none s r = λ f.
    let here = offered old new n s r x f.offers in
    none s r (record {
      offers = here.2;
      first = λ other offers before. elim (same_or other n) [
        | inl is ↦ none n r (record {
          offers = subst (λ (m : ℕ). Offers old m r) is offers;
          first = λ third off bef.
              let apart : third ≢ n = λ same. c.irreflexive n (subst (λ (m : ℕ). Before old m n) same bef) in
              f.first third (offers_on old new n third r x apart here.1 off)
              (x.queue third s apart here.0 (c.transitive third n s bef (subst (λ (m : ℕ). Before old m s) is before)));
        })
        | inr apart ↦ f.first other (offers_on old new n other r x apart here.1 offers) (x.queue other s apart here.0 before)
      ];
    })

still_no_expiry : (old new : Threads) (n : ℕ) → Ended old new n → ((s r : ℕ) → ¬ (IsFirstSender old r s)) → ((k : ℕ) → ¬ (CanExpire old k)) → (k : ℕ) → ¬ (CanExpire new k)
still_no_expiry old new n x none no_expiry k = λ e.
    let apart : k ≢ n = λ is. waiting_state e.state (subst IsOver e.at (subst (λ (m : ℕ). IsOver (state_of new m)) (sym is) x.over)) e.zero in
    no_expiry k (record {
      state = e.state;
      at = sym (x.others k apart) ∙ e.at;
      zero = e.zero;
      sends_none = λ other. none k other;
      receives_none = λ other. none other k;
    })

pub ends_idle : (old new : Machine) (n : ℕ) (cause : CancelCause) (answer : Answer) → IsConsistent old.threads → Steps old (Cancel n cause) (Ok answer) new → IsIdle old → IsIdle new
ends_idle old new n cause answer c step idle =
    let t = old.threads in
    let reply = cancellation cause step.0.state in
    subst IsIdle (sym step.3)
    (record {
      no_transfer = still_none t (end_call t n reply) n c (ended t n reply) idle.no_transfer;
      no_expiry = still_no_expiry t (end_call t n reply) n (ended t n reply) idle.no_transfer idle.no_expiry;
    })
