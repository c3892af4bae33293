-- The next step is one, and so are the steps that come next, unless memory runs out in them.
use Rattle.std.proofs.Common.{◌≡◌, ◌≢◌, ℕ, ◌==◌, ◌&&◌, ◌⊎◌, Bool, true, false, List, [], ◌∷◌, Option, Some, None, Result, Ok, IsTrue, refl, sym, ap, ◌∙◌, subst, inl, inr, eq-eqb, arith}
use Rattle.std.specs.Option.{option_map_or}
use Rattle.std.proofs.lemmas.Bool.{false≢true}
use Rattle.std.proofs.lemmas.Bool.Decides.{eqb_tells}
use Rattle.l4_threads.specs.declared.State.{State}
use Rattle.l4_threads.specs.declared.State.TheVariants.{Running, Sending as IsSender, Receiving as IsReceiver}
use Rattle.l4_threads.specs.Threads.{Threads, state_of, is_sending}
use Rattle.l4_threads.specs.Enabled.{takes_from, offers_to, Offers, IsNextTransfer}
use Rattle.l4_ipc.specs.declared.steps.Answer.{Answer}
use Rattle.l4_ipc.specs.declared.steps.Refused.{Refused}
use Rattle.l4_ipc.specs.declared.steps.Step.{Step}
use Rattle.l4_ipc.specs.declared.steps.Step.TheVariants.{Start, Transfer, Expire, Cancel}
use Rattle.l4_ipc.specs.Following.{Done, AreNext}
use Rattle.l4_ipc.specs.Machine.{Machine}
use Rattle.l4_ipc.specs.Steps.{Steps, IsNext, IsIdle}
use Rattle.l4_ipc.proofs.OneState.{one_step}
use Rattle.l4_record.proofs.OneAnswer.{one_answer}
use Rattle.l4_determined.specs.Inside.InOrder.{IsInOrder}
use Rattle.l4_determined.specs.Memory.{NoneRanOut}
use Rattle.l4_determined.proofs.InOrder.{step_in_order}

same_or : (a b : ℕ) → (a ≡ b) ⊎ (a ≢ b)
same_or a b = elim (eqb_tells a b) [ inl h ↦ inl h.1 | inr h ↦ inr (λ is. false≢true (sym h.0 ∙ eq-eqb a b is)) ]

equal : (a b : ℕ) → IsTrue (a == b) → a ≡ b
equal a b h = elim (eqb_tells a b) [ inl k ↦ k.1 | inr k ↦ absurd (false≢true (sym k.0 ∙ h)) ]

left : (a b : Bool) → IsTrue (a && b) → IsTrue a
left true b h = refl
left false b h = absurd (false≢true h)

offer_sends : (x y : Option State) (s r : ℕ) → IsTrue (offers_to x y s r) → option_map_or is_sending x false ≡ true
offer_sends None y s r h = absurd (false≢true h)
offer_sends (Some (Running p)) y s r h = absurd (false≢true h)
offer_sends (Some (IsReceiver p)) y s r h = absurd (false≢true h)
offer_sends (Some (IsSender p)) y s r h = refl

-- one sender sends to one receiver
offers_one : (x y z : Option State) (s q r : ℕ) → IsTrue (offers_to x y s q) → IsTrue (offers_to x z s r) → q ≡ r
offers_one None y z s q r h k = absurd (false≢true h)
offers_one (Some (Running p)) y z s q r h k = absurd (false≢true h)
offers_one (Some (IsReceiver p)) y z s q r h k = absurd (false≢true h)
offers_one (Some (IsSender p)) None z s q r h k = absurd (false≢true h)
offers_one (Some (IsSender p)) (Some (Running u)) z s q r h k = absurd (false≢true h)
offers_one (Some (IsSender p)) (Some (IsSender u)) z s q r h k = absurd (false≢true h)
offers_one (Some (IsSender p)) (Some (IsReceiver u)) None s q r h k = absurd (false≢true k)
offers_one (Some (IsSender p)) (Some (IsReceiver u)) (Some (Running v)) s q r h k = absurd (false≢true k)
offers_one (Some (IsSender p)) (Some (IsReceiver u)) (Some (IsSender v)) s q r h k = absurd (false≢true k)
offers_one (Some (IsSender p)) (Some (IsReceiver u)) (Some (IsReceiver v)) s q r h k =
    sym (equal p.to q (left (p.to == q) (takes_from u.«from» s) h)) ∙ equal p.to r (left (p.to == r) (takes_from v.«from» s) k)

one_transfer : (t : Threads) (a b c d : ℕ) → IsInOrder t → IsNextTransfer t (a, b) → IsNextTransfer t (c, d) → Transfer a b ≡ Transfer c d
one_transfer t a b c d so x y =
    let senders : a ≡ c = elim (same_or a c) [
      | inl is ↦ is
      | inr ne ↦ absurd (elim (so.total a c (offer_sends _ _ a b x.first_sender.offers) (offer_sends _ _ c d y.first_sender.offers) ne) [
        | inl before ↦ y.first a b x.first_sender before
        | inr before ↦ x.first c d y.first_sender before
      ])
    ] in
    let receivers : b ≡ d = offers_one (state_of t c) (state_of t b) (state_of t d) c b d (subst (λ (n : ℕ). Offers t n b) senders x.first_sender.offers) y.first_sender.offers in
    λ i. Transfer (senders i) (receivers i)

-- the next step of a kernel is one
pub one_next : (m : Machine) (s t : Step) → IsInOrder m.threads → IsNext m s → IsNext m t → s ≡ t
one_next m (Start n call) t so x y = absurd x
one_next m (Transfer a b) (Start n call) so x y = absurd y
one_next m (Transfer a b) (Transfer c d) so x y = one_transfer m.threads a b c d so x y
one_next m (Transfer a b) (Expire n) so x y = absurd (y.0 a b x.first_sender)
one_next m (Transfer a b) (Cancel n cause) so x y = absurd y
one_next m (Cancel n cause) t so x y = absurd x
one_next m (Expire n) (Start k call) so x y = absurd y
one_next m (Expire n) (Cancel k cause) so x y = absurd y
one_next m (Expire n) (Transfer a b) so x y = absurd (x.0 a b y.first_sender)
one_next m (Expire n) (Expire k) so x y =
    let low = x.1.least k y.1.can_expire in
    let high = y.1.least n x.1.can_expire in
    ap Expire (omega (arith, low, high))

-- no step comes next where none is enabled
pub idle_ends : (m : Machine) (s : Step) → IsIdle m → ¬ (IsNext m s)
idle_ends m (Start n call) idle x = x
idle_ends m (Cancel n cause) idle x = x
idle_ends m (Transfer a b) idle x = idle.no_transfer a b x.first_sender
idle_ends m (Expire n) idle x = idle.no_expiry n x.1.can_expire

same_ok : (a b : Answer) → ◌≡◌ {A = Result Answer Refused} (Ok a) (Ok b) → a ≡ b
same_ok a b e = cc

-- the steps that come next, up to the last one, lead to one machine
pub one_end : (old a b : Machine) (xs ys : List Done) → IsInOrder old.threads → AreNext old xs a → AreNext old ys b → IsIdle a → IsIdle b → NoneRanOut xs → NoneRanOut ys → a ≡ b
one_end old a b [] [] so x y i j p q = x ∙ sym y
one_end old a b [] (done ∷ ys) so x y i j p q = absurd (idle_ends old done.step (subst IsIdle x i) y.0)
one_end old a b (done ∷ xs) [] so x y i j p q = absurd (idle_ends old done.step (subst IsIdle y j) x.0)
one_end old a b (c ∷ xs) (d ∷ ys) so x y i j p q =
    let step : d.step ≡ c.step = one_next old d.step c.step so y.0 x.0 in
    let taken : Steps old c.step (Ok d.answer) d.after = subst (λ (s : Step). Steps old s (Ok d.answer) d.after) step y.1 in
    let answer : d.answer ≡ c.answer = same_ok d.answer c.answer (one_answer old c.step c.answer (Ok d.answer) c.after d.after x.1 taken p.0 q.0) in
    let after : d.after ≡ c.after = one_step old c.step (Ok c.answer) d.after c.after (subst (λ (r : Answer). Steps old c.step (Ok r) d.after) answer taken) x.1 in
    one_end c.after a b xs ys (step_in_order old c.step (Ok c.answer) c.after x.1 so) x.2 (subst (λ (m : Machine). AreNext m ys b) after y.2) i j p.1 q.1

-- they keep the queue in order
pub next_in_order : (old new : Machine) (steps : List Done) → IsInOrder old.threads → AreNext old steps new → IsInOrder new.threads
next_in_order old new [] so x = subst (λ (m : Machine). IsInOrder m.threads) (sym x) so
next_in_order old new (done ∷ steps) so x = next_in_order done.after new steps (step_in_order old done.step (Ok done.answer) done.after x.1 so) x.2
