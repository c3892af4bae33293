-- What is enabled, where it is remembered who may act.
use Rattle.std.proofs.Common.{◌≡◌, ℕ, true, false, List, Option, Some, None, refl, sym, ap, ◌∙◌, subst, inl, inr, ◌⊎◌, arith}
use Rattle.std.specs.Option.{option_map, option_map_or}
use Rattle.std.specs.List.{find}
use Rattle.std.proofs.lemmas.Bool.{false≢true}
use Rattle.l4_threads.specs.declared.focus.Focus.{Focus}
use Rattle.l4_threads.specs.declared.focus.Focus.TheVariants.{Nobody, One}
use Rattle.l4_threads.specs.declared.State.{State}
use Rattle.l4_threads.specs.declared.State.TheVariants.{Running, Sending as Sends, Receiving as Receives}
use Rattle.l4_threads.specs.Threads.{Threads, state_of, sends, is_sending, Before, IsConsistent}
use Rattle.l4_threads.specs.Enabled.{offers_to, Offers, IsFirstSender, IsNextTransfer, expires, CanExpire, IsNextExpiry}
use Rattle.l4_threads.specs.Inside.Taker.{taker, TakesPart}
use Rattle.l4_threads.specs.Inside.Entries.{Entries, is_receiving, IsTable}
use Rattle.l4_threads.specs.Inside.Kept.{threads_of}
use Rattle.l4_threads.specs.Inside.Focused.{may_act, state_in, IsFocused}
use Rattle.l4_threads.proofs.TableLemmas.{same_of}
use Rattle.l4_threads.proofs.QueueLemmas.{or_true}
use Rattle.l4_threads.proofs.EnabledLemmas.{queue_of, no_sender, first_sender_is, offer_sends, offer_receives, taker_offers, offer_taker, one_sender}
use Rattle.l4_threads.proofs.ViewLemmas.{thread_at_seen}

both : (o : Option State) → option_map_or is_sending o false ≡ true → option_map_or is_receiving o false ≡ true → ⊥
both None h k = false≢true h
both (Some (Running x)) h k = false≢true h
both (Some (Sends x)) h k = false≢true k
both (Some (Receives x)) h k = false≢true h

-- A THREAD THAT TAKES PART IN EACH TRANSFER

module _ (t : Threads) (n : ℕ) (part : TakesPart t n) where
  sent_by : sends t n ≡ true → (s r : ℕ) → Offers t s r → s ≡ n
  sent_by sending s r o = elim (part s r o) [
    | inl is ↦ is
    | inr is ↦ absurd (both (state_of t n) sending (sym (ap (λ (m : ℕ). option_map_or is_receiving (state_of t m) false) is) ∙ offer_receives (state_of t s) (state_of t r) s r o))
  ]

  taken_by : sends t n ≡ false → (s r : ℕ) → Offers t s r → r ≡ n
  taken_by quiet s r o = elim (part s r o) [
    | inl is ↦ absurd (false≢true (sym quiet ∙ sym (ap (λ (m : ℕ). sends t m) is) ∙ offer_sends (state_of t s) (state_of t r) s r o))
    | inr is ↦ is
  ]

  pub none_to : sends t n ≡ true → taker t n ≡ None → (s r : ℕ) → ¬ (IsFirstSender t r s)
  none_to sending none s r first =
      let it : taker t n ≡ Some r = sym (ap (taker t) (sent_by sending s r first.offers)) ∙ offer_taker t s r first.offers in
      absurd (let k : ◌≡◌ {A = Option ℕ} None (Some r) = sym none ∙ it in cc)

  pub none_from : sends t n ≡ false → ((s : ℕ) → ¬ (Offers t s n)) → (s r : ℕ) → ¬ (IsFirstSender t r s)
  none_from quiet none s r first = none s (subst (λ (m : ℕ). Offers t s m) (taken_by quiet s r first.offers) first.offers)

  module _ (holds : IsConsistent t) where
    pub next_to : sends t n ≡ true → (r : ℕ) → taker t n ≡ Some r → IsNextTransfer t (n, r)
    next_to sending r takes =
        let not_before : (s : ℕ) (q : ℕ) → Offers t s q → ¬ (Before t s n) = λ s q o before.
        holds.irreflexive n (subst (λ (m : ℕ). Before t m n) (sent_by sending s q o) before) in
        record {
          first_sender = record { offers = taker_offers t n r takes; first = λ other o. not_before other r o };
          first = λ s q first. not_before s q first.offers;
        }

    pub next_from : sends t n ≡ false → (s : ℕ) → IsFirstSender t n s → IsNextTransfer t (s, n)
    next_from quiet s first = record {
      first_sender = first;
      first = λ other q it before.
          let same = one_sender t holds n other s (subst (λ (m : ℕ). IsFirstSender t m other) (taken_by quiet other q it.offers) it) first in
          holds.irreflexive s (subst (λ (m : ℕ). Before t m s) same before);
    }

-- WHO IS REMEMBERED

module _ (es : Entries) (queue : List ℕ) (next : ℕ) (t : Threads) (is : threads_of es queue next ≡ t) (focus : Focus) (focused : IsFocused es focus) where
  state_seen : (n : ℕ) → state_of t n ≡ state_in es n
  state_seen n = ap (option_map (λ thread. thread.state)) (thread_at_seen es queue next t is n)

  pub acts : (s r : ℕ) → Offers t s r → (may_act focus s ≡ true) ⊎ (may_act focus r ≡ true)
  acts s r o = or_true _ _ (focused.offers s r (sym (λ i. offers_to (state_seen s i) (state_seen r i) s r) ∙ o))

  pub zero_acts : (n : ℕ) → CanExpire t n → may_act focus n ≡ true
  zero_acts n can = focused.zero n (sym (ap (λ o. option_map_or expires o false) (state_seen n)) ∙ ap (λ o. option_map_or expires o false) can.at ∙ can.zero)

  pub nobody_transfers : focus ≡ Nobody → (s r : ℕ) → ¬ (IsFirstSender t r s)
  nobody_transfers none s r first = elim (acts s r first.offers) [
    | inl act ↦ absurd (false≢true (sym (ap (λ f. may_act f s) none) ∙ act))
    | inr act ↦ absurd (false≢true (sym (ap (λ f. may_act f r) none) ∙ act))
  ]

  pub nobody_expires : focus ≡ Nobody → (n : ℕ) → ¬ (CanExpire t n)
  nobody_expires none n can = false≢true (sym (ap (λ f. may_act f n) none) ∙ zero_acts n can)

  pub one_takes_part : (m : ℕ) → focus ≡ One m → TakesPart t m
  one_takes_part m one s r o = elim (acts s r o) [
    | inl act ↦ inl (same_of s m (sym (ap (λ f. may_act f s) one) ∙ act))
    | inr act ↦ inr (same_of r m (sym (ap (λ f. may_act f r) one) ∙ act))
  ]

  pub one_expires : (m : ℕ) → focus ≡ One m → (n : ℕ) → CanExpire t n → n ≡ m
  one_expires m one n can = same_of n m (sym (ap (λ f. may_act f n) one) ∙ zero_acts n can)

-- where no thread but one can expire
pub only_expiry : (t : Threads) (m : ℕ) → ((n : ℕ) → CanExpire t n → n ≡ m) → CanExpire t m → IsNextExpiry t m
only_expiry t m only can = record { can_expire = can; least = λ other it. let same : other ≡ m = only other it in omega arith }

pub no_expiry : (t : Threads) (m : ℕ) → ((n : ℕ) → CanExpire t n → n ≡ m) → ¬ (CanExpire t m) → (n : ℕ) → ¬ (CanExpire t n)
no_expiry t m only cannot n can = cannot (subst (CanExpire t) (only n can) can)

-- where nothing is enabled, nobody may act
pub focused_idle : (es : Entries) (queue : List ℕ) (next : ℕ) (t : Threads) → IsTable es queue next → (is : threads_of es queue next ≡ t) → ((s r : ℕ) → ¬ (IsFirstSender t r s)) → ((n : ℕ) → ¬ (CanExpire t n))
    → IsFocused es Nobody
focused_idle es queue next t table is none_moves none_expires = record {
  offers = λ s r h. absurd (unmet s r (find (λ n. offers_to (state_of t n) (state_of t r) n r) queue) refl (at s r ∙ h));
  zero = λ n h. absurd (waits n (state_of t n) refl (ap (λ o. option_map_or expires o false) (seen n) ∙ h));
} where
  seen : (n : ℕ) → state_of t n ≡ state_in es n
  seen n = ap (option_map (λ thread. thread.state)) (thread_at_seen es queue next t is n)

  at : (s r : ℕ) → offers_to (state_of t s) (state_of t r) s r ≡ offers_to (state_in es s) (state_in es r) s r
  at s r = λ i. offers_to (seen s i) (seen r i) s r

  unmet : (s r : ℕ) (o : Option ℕ) → find (λ n. offers_to (state_of t n) (state_of t r) n r) queue ≡ o → Offers t s r → ⊥
  unmet s r None none offers = no_sender t queue (queue_of es queue next t table is) r none s offers
  unmet s r (Some first) it offers = none_moves first r (first_sender_is t queue (queue_of es queue next t table is) r first it)

  waits : (n : ℕ) (o : Option State) → state_of t n ≡ o → option_map_or expires (state_of t n) false ≡ true → ⊥
  waits n None there h = false≢true (sym (ap (λ o. option_map_or expires o false) there) ∙ h)
  waits n (Some state) there h = none_expires n (record {
    state = state;
    at = there;
    zero = sym (ap (λ o. option_map_or expires o false) there) ∙ h;
    sends_none = λ other. none_moves n other;
    receives_none = λ other. none_moves other n;
  })
