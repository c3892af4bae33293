-- Which transfers and expiries are enabled, as the queue in its order tells.
use Rattle.std.proofs.Common.{◌≡◌, ℕ, zero, suc, ◌+◌, ◌<◌, ◌≤◌, ◌==◌, ◌||◌, Bool, true, false, cond, [], ◌∷◌, ◌↔◌, if◌then◌else◌, List, length, drop, get_or, Option, Some, None, is_some, MatchOption, nat_eq, nat_lt, slice_get, refl, sym, ap, ◌∙◌, subst, arith, inl, inr, eq-eqb, IsTrue, option_and_then}
use Rattle.std.specs.Option.{option_map_or, option_eq}
use Rattle.std.specs.List.{find}
use Rattle.std.specs.FinSet as set
use Rattle.std.proofs.lemmas.Bool.{false≢true}
use Rattle.std.proofs.lemmas.List.{at_drop_more, at_drop_all}
use Rattle.l4_threads.specs.declared.State.{State}
use Rattle.l4_threads.specs.declared.State.TheVariants.{Running, Sending as Sends, Receiving as Receives}
use Rattle.l4_threads.specs.Threads.{Threads, state_of, sends, is_sending, Before, IsConsistent}
use Rattle.l4_threads.specs.Enabled.{takes_from, offers_to, Offers, IsFirstSender, IsNextTransfer, expires, CanExpire, IsNextExpiry}
use Rattle.l4_threads.specs.Inside.Taker.{target_of, taker}
use Rattle.l4_threads.specs.Inside.Entries.{Entries, found, precedes, IsTable, is_receiving, any_state}
use Rattle.l4_threads.specs.Queue.{is_in, IsOnce}
use Rattle.l4_threads.specs.Inside.Kept.{threads_of}
use Rattle.std.proofs.lemmas.Option.{slice_get_within}
use Rattle.std.proofs.lemmas.Bool.Decides.{nat_tests}
use Rattle.l4_threads.specs.declared.Thread.{Thread}
use Rattle.l4_threads.proofs.TableLemmas.{same_or, same_of, found_at}
use Rattle.l4_threads.proofs.QueueLemmas.{and_true, first_passes, first_is_first, none_passes}
use Rattle.l4_threads.proofs.ViewLemmas.{sends_seen, order_seen, found_some, found_seen}

-- the list is the queue of these threads
pub record IsQueueOf (t : Threads) (queue : List ℕ) : Type 0 where
  pub once : IsOnce queue
  pub senders : (n : ℕ) → is_in queue n ≡ sends t n
  pub order : (a b : ℕ) → set.contains t.before (a, b) ≡ precedes queue a b

pub queue_of : (es : Entries) (queue : List ℕ) (next : ℕ) (t : Threads) → IsTable es queue next → threads_of es queue next ≡ t → IsQueueOf t queue
queue_of es queue next t table is = record {
  once = table.queue_once;
  senders = λ n. table.queued n ∙ sym (sends_seen es queue next t is n);
  order = order_seen es queue next t is;
}

-- A LOOP THAT LOOKS FOR THE FIRST

pub find_here : (p : ℕ → Bool) (xs : List ℕ) (i : ℕ) → i < length xs → find p xs ≡ find p (drop i xs) → p (get_or xs i 0) ≡ true → find p xs ≡ Some (get_or xs i 0)
find_here p xs i lt so_far passes =
    so_far ∙ at_drop_more (find p) xs i 0 lt ∙ ap (λ b. cond b (Some (get_or xs i 0)) (find p (drop (i + 1) xs))) passes

pub find_further : (p : ℕ → Bool) (xs : List ℕ) (i : ℕ) → i < length xs → find p xs ≡ find p (drop i xs) → p (get_or xs i 0) ≡ false → find p xs ≡ find p (drop (i + 1) xs)
find_further p xs i lt so_far fails =
    so_far ∙ at_drop_more (find p) xs i 0 lt ∙ ap (λ b. cond b (Some (get_or xs i 0)) (find p (drop (i + 1) xs))) fails

pub find_end : (p : ℕ → Bool) (xs : List ℕ) (i : ℕ) → length xs ≤ i → find p xs ≡ find p (drop i xs) → find p xs ≡ None
find_end p xs i le so_far = so_far ∙ at_drop_all (find p) xs i le

-- WHO OFFERS

pub offer_sends : (a b : Option State) (s r : ℕ) → offers_to a b s r ≡ true → option_map_or is_sending a false ≡ true
offer_sends None b s r h = absurd (false≢true h)
offer_sends (Some (Running reply)) b s r h = absurd (false≢true h)
offer_sends (Some (Sends x)) b s r h = refl
offer_sends (Some (Receives x)) b s r h = absurd (false≢true h)

pub offer_target : (a b : Option State) (s r : ℕ) → offers_to a b s r ≡ true → target_of a ≡ Some r
offer_target None b s r h = absurd (false≢true h)
offer_target (Some (Running reply)) b s r h = absurd (false≢true h)
offer_target (Some (Receives x)) b s r h = absurd (false≢true h)
offer_target (Some (Sends x)) None s r h = absurd (false≢true h)
offer_target (Some (Sends x)) (Some (Running reply)) s r h = absurd (false≢true h)
offer_target (Some (Sends x)) (Some (Sends y)) s r h = absurd (false≢true h)
offer_target (Some (Sends x)) (Some (Receives y)) s r h = ap (λ n. Some n) (same_of x.to r (and_true (x.to == r) (takes_from y.«from» s) h).0)

pub taker_offers : (t : Threads) (s r : ℕ) → taker t s ≡ Some r → Offers t s r
taker_offers t s r h =
    elim (target_of (state_of t s)) as (λ o. option_and_then (λ n. if offers_to (state_of t s) (state_of t n) s n then Some n else None) o ≡ Some r → Offers t s r) [
      | None ↦ λ k. absurd (let e : ◌≡◌ {A = Option ℕ} None (Some r) = k in cc)
      | Some n ↦ λ k.
          elim (offers_to (state_of t s) (state_of t n) s n) as (λ b. offers_to (state_of t s) (state_of t n) s n ≡ b → (if b then Some n else None) ≡ Some r → Offers t s r) [
            | true ↦ λ offers e. let v : n ≡ r = cc in subst (Offers t s) v offers
            | false ↦ λ _ e. absurd (let e : ◌≡◌ {A = Option ℕ} None (Some r) = e in cc)
          ] refl k
    ] h

pub offer_taker : (t : Threads) (s r : ℕ) → Offers t s r → taker t s ≡ Some r
offer_taker t s r offers =
    ap (option_and_then (λ n. if offers_to (state_of t s) (state_of t n) s n then Some n else None)) (offer_target (state_of t s) (state_of t r) s r offers)
    ∙ ap (λ b. if b then Some r else None) offers

-- THE FIRST SENDER

module _ (t : Threads) (queue : List ℕ) (is : IsQueueOf t queue) where
  pub first_sender_is : (r s : ℕ) → find (λ n. offers_to (state_of t n) (state_of t r) n r) queue ≡ Some s → IsFirstSender t r s
  first_sender_is r s h = record {
    offers = (first_passes (λ n. offers_to (state_of t n) (state_of t r) n r) queue s h).1;
    first = λ other offers before.
        first_is_first (λ n. offers_to (state_of t n) (state_of t r) n r) queue is.once s h other offers (sym (is.order other s) ∙ before);
  }

  pub no_sender : (r : ℕ) → find (λ n. offers_to (state_of t n) (state_of t r) n r) queue ≡ None → (s : ℕ) → ¬ (Offers t s r)
  no_sender r h s offers =
      none_passes (λ n. offers_to (state_of t n) (state_of t r) n r) queue h s (is.senders s ∙ offer_sends (state_of t s) (state_of t r) s r offers) offers

  -- THE NEXT TRANSFER

  pub next_transfer_is : (s r : ℕ) → find (λ n. is_some (taker t n)) queue ≡ Some s → taker t s ≡ Some r → IsNextTransfer t (s, r)
  next_transfer_is s r h takes =
      let none_before : (other receiver : ℕ) → Offers t other receiver → ¬ (Before t other s) = λ other receiver offers before.
      first_is_first (λ n. is_some (taker t n)) queue is.once s h other (ap is_some (offer_taker t other receiver offers)) (sym (is.order other s) ∙ before) in
      record {
        first_sender = record { offers = taker_offers t s r takes; first = λ other offers. none_before other r offers };
        first = λ other receiver first. none_before other receiver first.offers;
      }

  pub no_transfer : find (λ n. is_some (taker t n)) queue ≡ None → (s r : ℕ) → ¬ (IsFirstSender t r s)
  no_transfer h s r first =
      none_passes (λ n. is_some (taker t n)) queue h s (is.senders s ∙ offer_sends (state_of t s) (state_of t r) s r first.offers) (ap is_some (offer_taker t s r first.offers))

-- ONE FIRST SENDER

module _ (t : Threads) (holds : IsConsistent t) where
  -- the receiver has one first sender
  pub one_sender : (r a b : ℕ) → IsFirstSender t r a → IsFirstSender t r b → a ≡ b
  one_sender r a b first other =
      elim (same_or a b) [
        | inl same ↦ same
        | inr ne ↦
            elim (holds.total a b (offer_sends (state_of t a) (state_of t r) a r first.offers) (offer_sends (state_of t b) (state_of t r) b r other.offers) ne) [
              | inl before ↦ absurd (other.first a first.offers before)
              | inr before ↦ absurd (first.first b other.offers before)
            ]
      ]

  -- what was found tells which transfers are enabled
  pub is_found : (r : ℕ) (found : Option ℕ) → MatchOption found ((s : ℕ) → ¬ (Offers t s r)) (IsFirstSender t r) → (s : ℕ) → IsFirstSender t r s → found ≡ Some s
  is_found r None h s first = absurd (h s first.offers)
  is_found r (Some n) h s first = ap (λ x. Some x) (one_sender r n s h first)

  pub was_found : (r : ℕ) (found : Option ℕ) → MatchOption found ((s : ℕ) → ¬ (Offers t s r)) (IsFirstSender t r) → (s : ℕ) → found ≡ Some s → IsFirstSender t r s
  was_found r None h s e = absurd (let k : ◌≡◌ {A = Option ℕ} None (Some s) = e in cc)
  was_found r (Some n) h s e = let k : ◌≡◌ {A = Option ℕ} (Some n) (Some s) = e in let v : n ≡ s = cc in subst (IsFirstSender t r) v h

  pub found_test : (r : ℕ) (found : Option ℕ) → MatchOption found ((s : ℕ) → ¬ (Offers t s r)) (IsFirstSender t r) → (s : ℕ) (b : Bool) → b ≡ option_eq nat_eq found (Some s) → IsTrue b ↔ IsFirstSender t r s
  found_test r found h s b is = (
    λ yes. was_found r found h s (test_same found (sym is ∙ yes)),
    λ first. is ∙ ap (λ o. option_eq nat_eq o (Some s)) (is_found r found h s first) ∙ eq-eqb s s refl,
  ) where
    test_same : (o : Option ℕ) → option_eq nat_eq o (Some s) ≡ true → o ≡ Some s
    test_same None t = absurd (false≢true t)
    test_same (Some n) t = ap (λ x. Some x) (same_of n s t)

-- WHO CAN EXPIRE

pub never_expires : (t : Threads) (n : ℕ) → option_map_or expires (state_of t n) false ≡ false → ¬ (CanExpire t n)
never_expires t n h can = false≢true (sym h ∙ ap (λ o. option_map_or expires o false) can.at ∙ can.zero)

-- where no thread of the table is in such a state, no number's is

or_true : (a b : Bool) → b ≡ true → (a || b) ≡ true
or_true true b h = refl
or_true false b h = h

any_at : (such : State → Bool) (es : Entries) (i : ℕ) (e : ℕ × Thread) → slice_get es i ≡ Some e → such e.1.state ≡ true → any_state such es ≡ true
any_at such [] i e at h = absurd (let k : ◌≡◌ {A = Option (ℕ × Thread)} None (Some e) = at in cc)
any_at such (x ∷ xs) zero e at h =
    let both : ◌≡◌ {A = Option (ℕ × Thread)} (Some x) (Some e) = at in
    let v : x ≡ e = cc in
    ap (λ (b : Bool). b || any_state such xs) (ap (λ (y : ℕ × Thread). such y.1.state) v ∙ h)
any_at such (x ∷ xs) (suc i) e at h = or_true (such x.1.state) (any_state such xs) (any_at such xs i e at h)

pub none_such : (such : State → Bool) (es : Entries) (queue : List ℕ) (next : ℕ) (t : Threads) → threads_of es queue next ≡ t → any_state such es ≡ false
    → (n : ℕ) → option_map_or such (state_of t n) false ≡ false
none_such such es queue next t is none n = elim (option_map_or such (state_of t n) false) as (λ b. option_map_or such (state_of t n) false ≡ b → b ≡ false) [
  | true ↦ λ h.
      let f = found_seen es queue next t is such n h in
      let at = found_at es n f.0 f.1 in
      absurd (false≢true (sym none ∙ any_at such es at.0 (n, f.0) at.1 f.2))
  | false ↦ λ _. refl
] refl

-- an offer is to a thread that receives
pub offer_receives : (a b : Option State) (s r : ℕ) → offers_to a b s r ≡ true → option_map_or is_receiving b false ≡ true
offer_receives a (Some (Receives y)) s r h = refl
offer_receives None None s r h = absurd (false≢true h)
offer_receives None (Some (Running y)) s r h = absurd (false≢true h)
offer_receives None (Some (Sends y)) s r h = absurd (false≢true h)
offer_receives (Some (Running x)) None s r h = absurd (false≢true h)
offer_receives (Some (Running x)) (Some (Running y)) s r h = absurd (false≢true h)
offer_receives (Some (Running x)) (Some (Sends y)) s r h = absurd (false≢true h)
offer_receives (Some (Receives x)) None s r h = absurd (false≢true h)
offer_receives (Some (Receives x)) (Some (Running y)) s r h = absurd (false≢true h)
offer_receives (Some (Receives x)) (Some (Sends y)) s r h = absurd (false≢true h)
offer_receives (Some (Sends x)) None s r h = absurd (false≢true h)
offer_receives (Some (Sends x)) (Some (Running y)) s r h = absurd (false≢true h)
offer_receives (Some (Sends x)) (Some (Sends y)) s r h = absurd (false≢true h)

pub none_first : (t : Threads) → ((n : ℕ) → option_map_or is_receiving (state_of t n) false ≡ false) → (s r : ℕ) → ¬ (IsFirstSender t r s)
none_first t none s r first = false≢true (sym (none r) ∙ offer_receives (state_of t s) (state_of t r) s r first.offers)

-- the least so far, of the entries before a place, for which this holds
abbrev pub LeastSoFar : (ℕ → Type 0) → Entries → ℕ → Option ℕ → Type 0
LeastSoFar P es i None = (k : ℕ) (e : ℕ × Thread) → k < i → slice_get es k ≡ Some e → ¬ (P e.0)
LeastSoFar P es i (Some n) = P n × ((k : ℕ) (e : ℕ × Thread) → k < i → slice_get es k ≡ Some e → P e.0 → n ≤ e.0)

-- what holds of the entries before a place and of the one there
up_to : (P : ℕ → Type 0) (es : Entries) (i : ℕ) (x : ℕ × Thread) → slice_get es i ≡ Some x → P x.0 → ((k : ℕ) (e : ℕ × Thread) → k < i → slice_get es k ≡ Some e → P e.0)
    → (k : ℕ) (e : ℕ × Thread) → k < i + 1 → slice_get es k ≡ Some e → P e.0
up_to P es i x there here before k e lt at =
    elim (same_or k i) [
      | inl is ↦
          let both : ◌≡◌ {A = Option (ℕ × Thread)} (Some x) (Some e) = sym (ap (slice_get es) is ∙ there) ∙ at in
          let v : x ≡ e = cc in
          subst (λ (y : ℕ × Thread). P y.0) v here
      | inr other ↦ before k e (omega arith) at
    ]

pub least_skips : (P : ℕ → Type 0) (es : Entries) (i : ℕ) (x : ℕ × Thread) → slice_get es i ≡ Some x → ¬ (P x.0) → (o : Option ℕ) → LeastSoFar P es i o → LeastSoFar P es (i + 1) o
least_skips P es i x there cannot None h = up_to (λ n. ¬ (P n)) es i x there cannot h
least_skips P es i x there cannot (Some n) h = (h.0, up_to (λ m. P m → n ≤ m) es i x there (λ can. absurd (cannot can)) h.1)

pub least_takes : (P : ℕ → Type 0) (es : Entries) (i : ℕ) (x : ℕ × Thread) → slice_get es i ≡ Some x → P x.0 → (o : Option ℕ) → LeastSoFar P es i o
    → LeastSoFar P es (i + 1) (Some (option_map_or (λ other. if nat_lt other x.0 then other else x.0) o x.0))
least_takes P es i x there can None h =
    (can, up_to (λ m. P m → x.0 ≤ m) es i x there (λ _. omega arith) (λ k e lt at other. absurd (h k e lt at other)))
least_takes P es i x there can (Some n) h =
    elim (nat_lt n x.0) as (λ b. nat_lt n x.0 ≡ b → LeastSoFar P es (i + 1) (Some (if b then n else x.0))) [
      | true ↦ λ less. let le : n ≤ x.0 = grind (arith, nat_tests) in (h.0, up_to (λ m. P m → n ≤ m) es i x there (λ _. le) h.1)
      | false ↦ λ more.
          let le : x.0 ≤ n = grind (arith, nat_tests) in
          (can, up_to (λ m. P m → x.0 ≤ m) es i x there (λ _. omega arith) (λ k e lt at other. let far = h.1 k e lt at other in omega arith))
    ] refl

pub least_of_all : (es : Entries) (queue : List ℕ) (next : ℕ) (t : Threads) → threads_of es queue next ≡ t → (i : ℕ) → length es ≤ i → (o : Option ℕ) → LeastSoFar (CanExpire t) es i o
    → MatchOption o ((n : ℕ) → ¬ (CanExpire t n)) (IsNextExpiry t)
least_of_all es queue next t is i all o h = each o h where
  stands : (n : ℕ) → CanExpire t n → (k : ℕ) × (thread : Thread) × (k < i) × (slice_get es k ≡ Some (n, thread))
  stands n can =
      let there = found_some es queue next t is n (ap is_some can.at) in
      let at = found_at es n there.0 there.1 in
      let within = slice_get_within es at.0 (n, there.0) at.1 in
      (at.0, there.0, omega arith, at.1)

  each : (o : Option ℕ) → LeastSoFar (CanExpire t) es i o → MatchOption o ((n : ℕ) → ¬ (CanExpire t n)) (IsNextExpiry t)
  each None h = λ n can. let s = stands n can in h s.0 (n, s.1) s.2 s.3 can
  each (Some m) h = record { can_expire = h.0; least = λ n can. let s = stands n can in h.1 s.0 (n, s.1) s.2 s.3 can }
