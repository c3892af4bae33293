-- The enabled transfers, as a walk over the queue lists them, and who expires beside them.
use Rattle.std.proofs.Common.{◌≡◌, ◌≢◌, ℕ, zero, suc, ◌+◌, ◌<◌, ◌≤◌, ◌==◌, not, nat_eq, Bool, true, false, cond, if◌then◌else◌, [], ◌∷◌, ◌++◌, ◌↔◌, List, length, take, map, get_or, Option, Some, None, is_some, MatchOption, slice_get, refl, sym, ap, ◌∙◌, arith, inl, inr, eq-eqb}
use Rattle.std.specs.Option.{option_map, option_map_or, option_eq}
use Rattle.std.specs.List.{find}
use Rattle.std.proofs.lemmas.Bool.{false≢true}
use Rattle.std.proofs.lemmas.List.{take_more, take_all}
use Rattle.l4_threads.specs.declared.Thread.{Thread}
use Rattle.l4_threads.specs.declared.State.{State}
use Rattle.l4_threads.specs.declared.State.TheVariants.{Running, Sending as Sends, Receiving as Receives}
use Rattle.l4_threads.specs.Threads.{Threads, state_of, is_sending, IsConsistent}
use Rattle.l4_threads.specs.Enabled.{offers_to, Offers, IsFirstSender, expires, CanExpire}
use Rattle.l4_threads.specs.Queue.{is_in, IsOnce}
use Rattle.l4_threads.specs.Inside.Taker.{target_of, taker}
use Rattle.l4_threads.specs.Inside.Entries.{Entries, found, is_receiving, IsTable}
use Rattle.l4_threads.specs.Inside.Kept.{threads_of}
use Rattle.l4_threads.specs.Inside.Transfers.{sender_to, with_transfer, AreTransfers, expires_beside}
use Rattle.l4_threads.proofs.TableLemmas.{same_or, differ, found_here, found_further}
use Rattle.l4_threads.proofs.QueueLemmas.{and_true, both_true, or_left, or_right}
use Rattle.l4_threads.proofs.EnabledLemmas.{IsQueueOf, offer_sends, offer_target, offer_receives, taker_offers, offer_taker, first_sender_is, no_sender, is_found, was_found, found_test}
use Rattle.l4_threads.proofs.ViewLemmas.{thread_at_seen}

-- THE FIRST IN A LIST THAT GROWS

push_not : {A : Type 0} (p : A → Bool) (xs : List A) (x : A) → p x ≡ false → find p (xs ++ x ∷ []) ≡ find p xs
push_not p [] x h = ap (λ b. cond b (Some x) None) h
push_not p (y ∷ xs) x h = ap (cond (p y) (Some y)) (push_not p xs x h)

push_found : {A : Type 0} (p : A → Bool) (xs : List A) (x y : A) → find p xs ≡ Some y → find p (xs ++ x ∷ []) ≡ Some y
push_found {A = A} p [] x y h = absurd (let k : ◌≡◌ {A = Option A} None (Some y) = h in cc)
push_found {A = A} p (z ∷ xs) x y h =
    elim (p z) as (λ b. cond b (Some z) (find p xs) ≡ Some y → cond b (Some z) (find p (xs ++ x ∷ [])) ≡ Some y) [
      | true ↦ λ k. k
      | false ↦ λ k. push_found p xs x y k
    ] h

push_new : {A : Type 0} (p : A → Bool) (xs : List A) (x : A) → find p xs ≡ None → p x ≡ true → find p (xs ++ x ∷ []) ≡ Some x
push_new {A = A} p [] x h t = ap (λ b. cond b (Some x) None) t
push_new {A = A} p (y ∷ xs) x h t =
    elim (p y) as (λ b. cond b (Some y) (find p xs) ≡ None → cond b (Some y) (find p (xs ++ x ∷ [])) ≡ Some x) [
      | true ↦ λ k. absurd (let e : ◌≡◌ {A = Option A} (Some y) None = k in cc)
      | false ↦ λ k. push_new p xs x k t
    ] h

-- THE TRANSFERS SO FAR

-- of the senders before a place, the list has the first to each receiver
pub record AreTransfersOf (t : Threads) (queue : List ℕ) (i : ℕ) (transfers : List (ℕ × ℕ)) : Type 0 where
  pub few : length transfers ≤ i
  pub each : (r : ℕ) → sender_to transfers r ≡ find (λ n. offers_to (state_of t n) (state_of t r) n r) (take i queue)

module _ (t : Threads) (queue : List ℕ) (i n : ℕ) (lt : i < length queue) (here : n ≡ get_or queue i 0) where
  one_more : (p : ℕ → Bool) → find p (take (i + 1) queue) ≡ find p (take i queue ++ n ∷ [])
  one_more p = ap (find p) (take_more queue i 0 lt ∙ ap (λ (m : ℕ). take i queue ++ m ∷ []) (sym here))

  -- a thread that doesn't offer to a receiver isn't its first sender
  skips : (r : ℕ) → offers_to (state_of t n) (state_of t r) n r ≡ false
      → find (λ m. offers_to (state_of t m) (state_of t r) m r) (take (i + 1) queue) ≡ find (λ m. offers_to (state_of t m) (state_of t r) m r) (take i queue)
  skips r not_it = one_more (λ m. offers_to (state_of t m) (state_of t r) m r) ∙ push_not (λ m. offers_to (state_of t m) (state_of t r) m r) (take i queue) n not_it

  pub offers_none : (transfers : List (ℕ × ℕ)) → AreTransfersOf t queue i transfers → taker t n ≡ None → AreTransfersOf t queue (i + 1) transfers
  offers_none transfers so_far none = record {
    few = let few = so_far.few in omega arith;
    each = λ r. so_far.each r ∙ sym (skips r (quiet r (offers_to (state_of t n) (state_of t r) n r) refl));
  } where
    quiet : (r : ℕ) (b : Bool) → offers_to (state_of t n) (state_of t r) n r ≡ b → b ≡ false
    quiet r true h = absurd (let k : ◌≡◌ {A = Option ℕ} None (Some r) = sym none ∙ offer_taker t n r h in cc)
    quiet r false h = refl

  pub offers_one : (transfers later : List (ℕ × ℕ)) (m : ℕ) → AreTransfersOf t queue i transfers → taker t n ≡ Some m → later ≡ with_transfer transfers n m → length later ≤ length transfers + 1
      → AreTransfersOf t queue (i + 1) later
  offers_one transfers later m so_far takes is grows = record {
    few = let few = so_far.few in omega arith;
    each = λ r. ap (λ (l : List (ℕ × ℕ)). sender_to l r) is ∙ elim (same_or r m) [
      | inl same ↦ ap (sender_to (with_transfer transfers n m)) same ∙ to_it ∙ sym (ap (λ (q : ℕ). find (λ k. offers_to (state_of t k) (state_of t q) k q) (take (i + 1) queue)) same)
      | inr other ↦ to_another r other ∙ so_far.each r ∙ sym (skips r (quiet r other (offers_to (state_of t n) (state_of t r) n r) refl))
    ];
  } where
    offers : offers_to (state_of t n) (state_of t m) n m ≡ true
    offers = taker_offers t n m takes

    quiet : (r : ℕ) → r ≢ m → (b : Bool) → offers_to (state_of t n) (state_of t r) n r ≡ b → b ≡ false
    quiet r other true h = absurd (let k : ◌≡◌ {A = Option ℕ} (Some m) (Some r) = sym takes ∙ offer_taker t n r h in let v : m ≡ r = cc in other (sym v))
    quiet r other false h = refl

    to_another : (r : ℕ) → r ≢ m → sender_to (with_transfer transfers n m) r ≡ sender_to transfers r
    to_another r other =
        elim (is_some (sender_to transfers m)) as (λ b. sender_to (if b then transfers else transfers ++ (n, m) ∷ []) r ≡ sender_to transfers r) [
          | true ↦ refl
          | false ↦ ap (option_map (λ (pair : ℕ × ℕ). pair.0)) (push_not (λ (pair : ℕ × ℕ). pair.1 == r) transfers (n, m) (differ m r (λ h. other (sym h))))
        ]

    to_it : sender_to (with_transfer transfers n m) m ≡ find (λ k. offers_to (state_of t k) (state_of t m) k m) (take (i + 1) queue)
    to_it =
        elim (sender_to transfers m) as (λ o. sender_to transfers m ≡ o → sender_to (if is_some o then transfers else transfers ++ (n, m) ∷ []) m ≡ find (λ k. offers_to (state_of t k) (state_of t m) k m) (take (i + 1) queue)) [
          | Some s ↦ λ had.
              had ∙ sym (one_more (λ k. offers_to (state_of t k) (state_of t m) k m)
              ∙ push_found (λ k. offers_to (state_of t k) (state_of t m) k m) (take i queue) n s (sym (so_far.each m) ∙ had))
          | None ↦ λ had.
              ap (option_map (λ (pair : ℕ × ℕ). pair.0)) (push_new (λ (pair : ℕ × ℕ). pair.1 == m) transfers (n, m) (none_there transfers m had) (eq-eqb m m refl))
              ∙ sym (one_more (λ k. offers_to (state_of t k) (state_of t m) k m)
              ∙ push_new (λ k. offers_to (state_of t k) (state_of t m) k m) (take i queue) n (sym (so_far.each m) ∙ had) offers)
        ] refl where
          none_there : (l : List (ℕ × ℕ)) (q : ℕ) → sender_to l q ≡ None → find (λ (pair : ℕ × ℕ). pair.1 == q) l ≡ None
          none_there l q h =
              elim (find (λ (pair : ℕ × ℕ). pair.1 == q) l) as (λ (o : Option (ℕ × ℕ)). option_map (λ (pair : ℕ × ℕ). pair.0) o ≡ None → o ≡ None) [
                | None ↦ λ _. refl
                | Some pair ↦ λ k. absurd (let e : ◌≡◌ {A = Option ℕ} (Some pair.0) None = k in cc)
              ] h

-- once the walk is at its end
pub are_transfers : (t : Threads) (queue : List ℕ) → IsQueueOf t queue → (i : ℕ) → length queue ≤ i → (transfers : List (ℕ × ℕ)) → AreTransfersOf t queue i transfers → AreTransfers t transfers
are_transfers t queue is i all transfers walked r = each (sender_to transfers r) (sym (walked.each r ∙ ap (find (λ n. offers_to (state_of t n) (state_of t r) n r)) (take_all i queue all))) where
  each : (o : Option ℕ) → find (λ n. offers_to (state_of t n) (state_of t r) n r) queue ≡ o → MatchOption o ((s : ℕ) → ¬ (Offers t s r)) (IsFirstSender t r)
  each None h = no_sender t queue is r h
  each (Some s) h = first_sender_is t queue is r s h

-- WHO EXPIRES

stands_in : (es : Entries) (i : ℕ) (e : ℕ × Thread) → slice_get es i ≡ Some e → is_in (map (λ e. e.0) es) e.0 ≡ true
stands_in [] i e at = absurd (let k : ◌≡◌ {A = Option (ℕ × Thread)} None (Some e) = at in cc)
stands_in (x ∷ es) zero e at =
    let k : ◌≡◌ {A = Option (ℕ × Thread)} (Some x) (Some e) = at in
    let v : x ≡ e = cc in
    or_left _ _ (eq-eqb e.0 x.0 (ap (λ (y : ℕ × Thread). y.0) (sym v)))
stands_in (x ∷ es) (suc i) e at = or_right (e.0 == x.0) _ (stands_in es i e at)

-- where each number stands once, each entry is found
found_once : (es : Entries) → IsOnce (map (λ e. e.0) es) → (i : ℕ) (e : ℕ × Thread) → slice_get es i ≡ Some e → found es e.0 ≡ Some e.1
found_once [] once i e at = absurd (let k : ◌≡◌ {A = Option (ℕ × Thread)} None (Some e) = at in cc)
found_once (x ∷ es) once zero e at =
    let k : ◌≡◌ {A = Option (ℕ × Thread)} (Some x) (Some e) = at in
    let v : x ≡ e = cc in
    found_here x es e.0 (ap (λ (y : ℕ × Thread). y.0) (sym v)) ∙ ap (λ (y : ℕ × Thread). Some y.1) v
found_once (x ∷ es) once (suc i) e at =
    found_further x es e.0 (λ same. false≢true (sym once.0 ∙ ap (is_in (map (λ y. y.0) es)) (sym same) ∙ stands_in es i e at))
    ∙ found_once es once.1 i e at

module _ (t : Threads) (holds : IsConsistent t) (transfers : List (ℕ × ℕ)) (are : AreTransfers t transfers) (n : ℕ) where
  expiry_is : (state : State) → state_of t n ≡ Some state → expires_beside transfers n state ≡ true → CanExpire t n
  expiry_is (Running reply) at h = absurd (false≢true h)
  expiry_is (Sends s) at h =
      let both = and_true s.expires (not (option_eq nat_eq (sender_to transfers s.to) (Some n))) h in
      record {
        state = Sends s;
        at = at;
        zero = both.0;
        sends_none = λ other first.
            let target : ◌≡◌ {A = Option ℕ} (Some s.to) (Some other) = ap target_of (sym at) ∙ offer_target (state_of t n) (state_of t other) n other first.offers in
            let v : s.to ≡ other = cc in
            let it : sender_to transfers s.to ≡ Some n = ap (sender_to transfers) v ∙ is_found t holds other (sender_to transfers other) (are other) n first in
            false≢true (sym (ap (λ (o : Option ℕ). not (option_eq nat_eq o (Some n))) it ∙ ap not (eq-eqb n n refl)) ∙ both.1);
        receives_none = λ other first.
            false≢true (ap (λ o. option_map_or is_receiving o false) (sym at) ∙ offer_receives (state_of t other) (state_of t n) other n first.offers);
      }
  expiry_is (Receives r) at h =
      let both = and_true r.expires (not (is_some (sender_to transfers n))) h in
      record {
        state = Receives r;
        at = at;
        zero = both.0;
        sends_none = λ other first.
            false≢true (ap (λ o. option_map_or is_sending o false) (sym at) ∙ offer_sends (state_of t n) (state_of t other) n other first.offers);
        receives_none = λ other first.
            false≢true (sym (ap (λ (o : Option ℕ). not (is_some o)) (is_found t holds n (sender_to transfers n) (are n) other first)) ∙ both.1);
      }

  is_expiry : (state : State) → state_of t n ≡ Some state → CanExpire t n → expires_beside transfers n state ≡ true
  is_expiry state at can =
      let both : ◌≡◌ {A = Option State} (Some can.state) (Some state) = sym can.at ∙ at in
      let v : can.state ≡ state = cc in
      each state (ap expires (sym v) ∙ can.zero) where
        each : (state : State) → expires state ≡ true → expires_beside transfers n state ≡ true
        each (Running reply) h = h
        each (Sends s) h = both_true _ _ h (unmet (option_eq nat_eq (sender_to transfers s.to) (Some n)) refl) where
          unmet : (b : Bool) → b ≡ option_eq nat_eq (sender_to transfers s.to) (Some n) → not b ≡ true
          unmet true is = absurd (can.sends_none s.to ((found_test t holds s.to (sender_to transfers s.to) (are s.to) n true is).0 refl))
          unmet false is = refl
        each (Receives r) h = both_true _ _ h (unmet (sender_to transfers n) refl) where
          unmet : (o : Option ℕ) → sender_to transfers n ≡ o → not (is_some o) ≡ true
          unmet None is = refl
          unmet (Some s) is = absurd (can.receives_none s (was_found t holds n (sender_to transfers n) (are n) s is))

-- who expires beside the enabled transfers can expire
pub expires_as : (es : Entries) (queue : List ℕ) (next : ℕ) (t : Threads) → IsTable es queue next → threads_of es queue next ≡ t → IsConsistent t
    → (transfers : List (ℕ × ℕ)) → AreTransfers t transfers → (i : ℕ) (e : ℕ × Thread) → slice_get es i ≡ Some e
    → (b : Bool) → b ≡ expires_beside transfers e.0 e.1.state → (b ≡ true) ↔ CanExpire t e.0
expires_as es queue next t table is holds transfers are i e there b says = (
  λ h. expiry_is t holds transfers are e.0 e.1.state at (sym says ∙ h),
  λ can. says ∙ is_expiry t holds transfers are e.0 e.1.state at can,
) where
  at : state_of t e.0 ≡ Some e.1.state
  at = ap (option_map (λ thread. thread.state)) (thread_at_seen es queue next t is e.0 ∙ found_once es table.once i e there)
