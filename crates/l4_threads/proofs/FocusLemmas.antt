-- Who may act, as states change.
use Rattle.std.proofs.Common.{◌≡◌, ◌≢◌, ℕ, ◌==◌, Bool, true, false, if◌then◌else◌, [], ◌∷◌, ◌++◌, Option, Some, None, refl, sym, ap, ◌∙◌, inl, inr, ◌⊎◌, eq-eqb}
use Rattle.std.specs.Option.{option_map, option_map_or}
use Rattle.std.proofs.lemmas.Bool.{false≢true}
use Rattle.l4_threads.specs.declared.focus.Focus.{Focus}
use Rattle.l4_threads.specs.declared.focus.Focus.TheVariants.{Nobody, One, Anybody}
use Rattle.l4_threads.specs.declared.Thread.{Thread}
use Rattle.l4_threads.specs.declared.ThreadId.{ThreadId}
use Rattle.l4_threads.specs.declared.State.{State}
use Rattle.l4_threads.specs.declared.State.TheVariants.{Running, Sending as Sends, Receiving as Receives}
use Rattle.l4_threads.specs.Threads.{is_running}
use Rattle.l4_threads.specs.Control.{freed, without_partner, waits_for}
use Rattle.l4_threads.specs.Enabled.{offers_to, expires}
use Rattle.l4_threads.specs.Inside.Entries.{Entries, found, changed_in, in_state, in_pager}
use Rattle.l4_threads.specs.Inside.Focused.{may_act, with_waiting, with_running, state_in, IsFocused}
use Rattle.l4_threads.proofs.TableLemmas.{same_or, same_of, found-changed_in, found-changed_in_other}
use Rattle.l4_threads.proofs.QueueLemmas.{or_true, or_left, or_right}
use Rattle.l4_threads.proofs.EnabledLemmas.{offer_receives}
use Rattle.l4_threads.proofs.BootLemmas.{found_new, found_old, sigma0, root}
use Rattle.l4_threads.proofs.DeleteLemmas.{gone_in, found-gone_in_other, found-without_in}

-- no thread, or one that runs
abbrev pub is_quiet : Option State → Bool
is_quiet None = true
is_quiet (Some (Running reply)) = true
is_quiet (Some (Sends s)) = false
is_quiet (Some (Receives r)) = false

quiet_sender : (a b : Option State) (s r : ℕ) → is_quiet a ≡ true → offers_to a b s r ≡ true → ⊥
quiet_sender None b s r q h = false≢true h
quiet_sender (Some (Running x)) b s r q h = false≢true h
quiet_sender (Some (Sends x)) b s r q h = false≢true q
quiet_sender (Some (Receives x)) b s r q h = false≢true q

quiet_receiver : (a b : Option State) (s r : ℕ) → is_quiet b ≡ true → offers_to a b s r ≡ true → ⊥
quiet_receiver a None s r q h = false≢true (offer_receives a None s r h)
quiet_receiver a (Some (Running x)) s r q h = false≢true (offer_receives a (Some (Running x)) s r h)
quiet_receiver a (Some (Sends x)) s r q h = false≢true q
quiet_receiver a (Some (Receives x)) s r q h = false≢true q

quiet_zero : (a : Option State) → is_quiet a ≡ true → option_map_or expires a false ≡ true → ⊥
quiet_zero None q h = false≢true h
quiet_zero (Some (Running x)) q h = false≢true h
quiet_zero (Some (Sends x)) q h = false≢true q
quiet_zero (Some (Receives x)) q h = false≢true q

-- each number may act, or is quiet, or is as it was and may act if it might
abbrev pub Goes : Entries → Entries → Focus → Focus → ℕ → Type 0
Goes es later focus after q =
    (may_act after q ≡ true) ⊎ ((is_quiet (state_in later q) ≡ true) ⊎ ((state_in later q ≡ state_in es q) × (may_act focus q ≡ true → may_act after q ≡ true)))

pub focused_on : (es later : Entries) (focus after : Focus) → IsFocused es focus → ((q : ℕ) → Goes es later focus after q) → IsFocused later after
focused_on es later focus after is each = record {
  offers = λ s r h. elim (each s) [
    | inl act ↦ or_left _ _ act
    | inr (inl quiet) ↦ absurd (quiet_sender (state_in later s) (state_in later r) s r quiet h)
    | inr (inr (same, keep)) ↦ elim (each r) [
      | inl act ↦ or_right (may_act after s) _ act
      | inr (inl quiet) ↦ absurd (quiet_receiver (state_in later s) (state_in later r) s r quiet h)
      | inr (inr (other, hold)) ↦ elim (or_true _ _ (is.offers s r (sym (λ i. offers_to (same i) (other i) s r) ∙ h))) [
        | inl act ↦ or_left _ _ (keep act)
        | inr act ↦ or_right (may_act after s) _ (hold act)
      ]
    ]
  ];
  zero = λ n h. elim (each n) [
    | inl act ↦ act
    | inr (inl quiet) ↦ absurd (quiet_zero (state_in later n) quiet h)
    | inr (inr (same, keep)) ↦ keep (is.zero n (sym (ap (λ o. option_map_or expires o false) same) ∙ h))
  ];
}

-- A THREAD WAITS, OR RUNS

pub waiting_acts : (focus : Focus) (n : ℕ) → may_act (with_waiting focus n) n ≡ true
waiting_acts Nobody n = eq-eqb n n refl
waiting_acts (One m) n =
    elim (m == n) as (λ b. m == n ≡ b → may_act (if b then One m else Anybody) n ≡ true) [
      | true ↦ λ is. eq-eqb n m (sym (same_of m n is))
      | false ↦ λ _. refl
    ] refl
waiting_acts Anybody n = refl

pub waiting_keeps : (focus : Focus) (n q : ℕ) → may_act focus q ≡ true → may_act (with_waiting focus n) q ≡ true
waiting_keeps Nobody n q h = absurd (false≢true h)
waiting_keeps (One m) n q h =
    elim (m == n) as (λ b. may_act (if b then One m else Anybody) q ≡ true) [
      | true ↦ h
      | false ↦ refl
    ]
waiting_keeps Anybody n q h = refl

pub running_keeps : (focus : Focus) (n q : ℕ) → q ≢ n → may_act focus q ≡ true → may_act (with_running focus n) q ≡ true
running_keeps Nobody n q ne h = absurd (false≢true h)
running_keeps (One m) n q ne h =
    elim (m == n) as (λ b. m == n ≡ b → may_act (if b then Nobody else One m) q ≡ true) [
      | true ↦ λ is. absurd (ne (same_of q m h ∙ same_of m n is))
      | false ↦ λ _. h
    ] refl
running_keeps Anybody n q ne h = refl

-- the state of one thread is another
state_there : (es : Entries) (n : ℕ) (t : Thread) (s : State) → found es n ≡ Some t → state_in (changed_in es n (in_state s)) n ≡ Some s
state_there es n t s there = ap (option_map (λ thread. thread.state)) (found-changed_in es n (in_state s) ∙ ap (option_map (in_state s)) there)

state_elsewhere : (es : Entries) (n : ℕ) (s : State) (q : ℕ) → q ≢ n → state_in (changed_in es n (in_state s)) q ≡ state_in es q
state_elsewhere es n s q ne = ap (option_map (λ thread. thread.state)) (found-changed_in_other es n (in_state s) q ne)

pub focused_waiting : (es : Entries) (focus : Focus) (n : ℕ) (s : State) → IsFocused es focus → IsFocused (changed_in es n (in_state s)) (with_waiting focus n)
focused_waiting es focus n s is =
    focused_on es (changed_in es n (in_state s)) focus (with_waiting focus n) is (λ q. elim (same_or q n) [
      | inl same ↦ inl (ap (may_act (with_waiting focus n)) same ∙ waiting_acts focus n)
      | inr ne ↦ inr (inr (state_elsewhere es n s q ne, waiting_keeps focus n q))
    ])

pub focused_running : (es : Entries) (focus : Focus) (n : ℕ) (t : Thread) (s : State) → found es n ≡ Some t → is_running s ≡ true → IsFocused es focus
    → IsFocused (changed_in es n (in_state s)) (with_running focus n)
focused_running es focus n t s there runs is =
    focused_on es (changed_in es n (in_state s)) focus (with_running focus n) is (λ q. elim (same_or q n) [
      | inl same ↦ inr (inl (ap (λ (m : ℕ). is_quiet (state_in (changed_in es n (in_state s)) m)) same ∙ ap is_quiet (state_there es n t s there) ∙ quiet s runs))
      | inr ne ↦ inr (inr (state_elsewhere es n s q ne, running_keeps focus n q ne))
    ]) where
      quiet : (s : State) → is_running s ≡ true → is_quiet (Some s) ≡ true
      quiet (Running reply) h = refl
      quiet (Sends s) h = absurd (false≢true h)
      quiet (Receives r) h = absurd (false≢true h)

-- THE TABLE CHANGES

pub focused_pager : (es : Entries) (focus : Focus) (n : ℕ) (p : ThreadId) → IsFocused es focus → IsFocused (changed_in es n (in_pager p)) focus
focused_pager es focus n p is =
    focused_on es (changed_in es n (in_pager p)) focus focus is (λ q. inr (inr (
      elim (same_or q n) [
        | inl same ↦ ap (state_in (changed_in es n (in_pager p))) same ∙ ap (option_map (λ thread. thread.state)) (found-changed_in es n (in_pager p)) ∙ still (found es n) ∙ ap (state_in es) (sym same)
        | inr ne ↦ ap (option_map (λ thread. thread.state)) (found-changed_in_other es n (in_pager p) q ne)
      ],
      λ act. act,
    ))) where
      still : (o : Option Thread) → option_map (λ thread. thread.state) (option_map (in_pager p) o) ≡ option_map (λ thread. thread.state) o
      still None = refl
      still (Some t) = refl

pub focused_grown : (es : Entries) (focus : Focus) (n : ℕ) (t : Thread) → found es n ≡ None → is_quiet (Some t.state) ≡ true → IsFocused es focus → IsFocused (es ++ (n, t) ∷ []) focus
focused_grown es focus n t free quiet is =
    focused_on es (es ++ (n, t) ∷ []) focus focus is (λ q. elim (same_or q n) [
      | inl same ↦ inr (inl (ap (λ (m : ℕ). is_quiet (state_in (es ++ (n, t) ∷ []) m)) same ∙ ap (λ (o : Option Thread). is_quiet (option_map (λ thread. thread.state) o)) (found_new es n t free) ∙ quiet))
      | inr ne ↦ inr (inr (ap (option_map (λ thread. thread.state)) (found_old es n t q ne), λ act. act))
    ])

pub focused_none : IsFocused [] Nobody
focused_none = record {
  offers = λ s r h. absurd (false≢true h);
  zero = λ n h. absurd (false≢true h);
}

pub first_focused : IsFocused ((1, sigma0) ∷ (2, root) ∷ []) Nobody
first_focused = focused_grown ((1, sigma0) ∷ []) Nobody 2 root refl refl (focused_grown [] Nobody 1 sigma0 refl refl focused_none)

pub focused_gone : (es : Entries) (focus : Focus) (n : ℕ) → IsFocused es focus → IsFocused (gone_in es n) focus
focused_gone es focus n is =
    focused_on es (gone_in es n) focus focus is (λ q. elim (same_or q n) [
      | inl same ↦ inr (inl (ap (λ (o : Option Thread). is_quiet (option_map (λ thread. thread.state) o)) (ap (found (gone_in es n)) same ∙ found-without_in _ n)))
      | inr ne ↦
          let at = found-gone_in_other es n q ne in
          elim (each (found es q)) [
            | inl quiet ↦ inr (inl (ap (λ (o : Option Thread). is_quiet (option_map (λ thread. thread.state) o)) at ∙ quiet))
            | inr still ↦ inr (inr (ap (option_map (λ thread. thread.state)) at ∙ still, λ act. act))
          ]
    ]) where
      by : (b : Bool) (s old : State) → s ≡ old → (r : State) → is_quiet (Some r) ≡ true → (is_quiet (Some (if b then r else s)) ≡ true) ⊎ (Some (if b then r else s) ≡ Some old)
      by true s old same r quiet = inl quiet
      by false s old same r quiet = inr (ap (λ (x : State). Some x) same)

      of : (s : State) → (is_quiet (Some (without_partner n s)) ≡ true) ⊎ (Some (without_partner n s) ≡ Some s)
      of (Running reply) = inl refl
      of (Sends s) = by (s.to == n) (Sends s) (Sends s) refl _ refl
      of (Receives r) = by (waits_for n r.«from») (Receives r) (Receives r) refl _ refl

      each : (o : Option Thread) → (is_quiet (option_map (λ thread. thread.state) (option_map (freed n) o)) ≡ true) ⊎ (option_map (λ thread. thread.state) (option_map (freed n) o) ≡ option_map (λ thread. thread.state) o)
      each None = inl refl
      each (Some t) = of t.state
