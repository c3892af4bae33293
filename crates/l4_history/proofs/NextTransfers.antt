-- The entries of a history that were executed up to its next transfer.
use Rattle.std.proofs.Common.{◌≡◌, ℕ, zero, suc, ◌+◌, ◌≤◌, true, false, List, [], ◌∷◌, length, drop, Some, Ok, Err, Bool, Result, Option, IfOk, IfErr, refl, sym, ap, ◌∙◌, subst, inl, inr, arith}
use Rattle.std.proofs.Math.ListN.{drop_of_length-le}
use Rattle.std.proofs.lemmas.Option.{slice_get_within}
use Rattle.std.specs.Prelude.{slice_get}
use Rattle.l4_ipc.proofs.OneState.{same_value}
use Rattle.l4_ipc.specs.Machine.{Machine}
use Rattle.l4_ipc.specs.Steps.{Steps, is_done}
use Rattle.l4_record.specs.declared.entries.Entry.{Entry}
use Rattle.l4_text.specs.Streams.{Tells}
use Rattle.l4_text.specs.declared.faults.RunFault.{RunFault}
use Rattle.l4_text.specs.declared.faults.RunFault.TheVariants.{Memory}
use Rattle.l4_history.specs.Moves.{IsMovesText, is_transfer, NextMoves}

-- what is next from this place on is next from the first place on
pub record Ahead (first : Machine) (history : List Entry) (start place : ℕ) (now : Machine) : Type 0 where
  pub on : (text : List ℕ) (after : Machine) (next : ℕ) → NextMoves (drop place history) now place text after next → NextMoves (drop start history) first start text after next

pub ahead_first : (m : Machine) (history : List Entry) (start : ℕ) → Ahead m history start start m
ahead_first m history start = record { on = λ text after next h. h }

drop_at : {A : Type 0} (xs : List A) (k : ℕ) (x : A) → slice_get xs k ≡ Some x → drop k xs ≡ x ∷ drop (k + 1) xs
drop_at [] k x at = let short = slice_get_within [] k x at in absurd (omega (arith, short))
drop_at (y ∷ xs) zero x at = ap (λ z. z ∷ xs) (same_value at)
drop_at (y ∷ xs) (suc k) x at = let more : suc (k + 1) ≡ suc k + 1 = omega arith in drop_at xs k x at ∙ ap (λ n. x ∷ drop n (y ∷ xs)) more

module _ (first now between : Machine) (history : List Entry) (start place : ℕ) (entry : Entry) (ahead : Ahead first history start place now) (at : slice_get history place ≡ Some entry)
    (steps : Steps now entry.step (Ok entry.answer) between) where
  pub ahead_on : is_transfer entry.step ≡ false → Ahead first history start (place + 1) between
  ahead_on other = record {
    on = λ text after next h.
        ahead.on text after next (subst (λ (es : List Entry). NextMoves es now place text after next) (sym (drop_at history place entry at)) (between, steps, inr (other, h)));
  }

  pub transfer_next : (text : List ℕ) (next : ℕ) → is_transfer entry.step ≡ true → IsMovesText now entry.step between (is_done entry.answer.outcome) text → next ≡ place + 1
      → NextMoves (drop start history) first start text between next
  transfer_next text next transfer moves is =
      ahead.on text between next (subst (λ (es : List Entry). NextMoves es now place text between next) (sym (drop_at history place entry at)) (between, steps, inl (transfer, moves, refl, is)))

-- no transfer is left
pub none_next : (first now : Machine) (history : List Entry) (start place next : ℕ) → Ahead first history start place now → length history ≤ place → next ≡ place → NextMoves (drop start history) first start [] now next
none_next first now history start place next ahead all is =
    ahead.on [] now next (subst (λ (es : List Entry). NextMoves es now place [] now next) (sym (drop_of_length-le history all)) (refl, refl, is))

-- what is told from here on is told from the start on, where nothing was told before
tells_from : (old mid new : Option (List ℕ)) (before s after : List ℕ × Bool) (text : List ℕ) → mid ≡ old → s ≡ before → Tells mid new s after text → Tells old new before after text
tells_from old mid new before s after text w o tells =
    subst (λ (x : Option (List ℕ)). Tells x new before after text) w (subst (λ (x : List ℕ × Bool). Tells mid new x after text) o tells)

-- the transfer was executed, and its moves were told
pub transfer_ok : (r : Result (Unit {0}) RunFault) (first now after : Machine) (history : List Entry) (start place next : ℕ) (entry : Entry) (old mid new : Option (List ℕ)) (before s told_to : List ℕ × Bool)
    → Ahead first history start place now → slice_get history place ≡ Some entry → is_transfer entry.step ≡ true → mid ≡ old → s ≡ before
    → IfOk r (λ _. (text : List ℕ) × IsMovesText now entry.step after (is_done entry.answer.outcome) text × Steps now entry.step (Ok entry.answer) after × (next ≡ place + 1) × Tells mid new s told_to text)
    → IfOk r (λ _. (text : List ℕ) × NextMoves (drop start history) first start text after next × Tells old new before told_to text)
transfer_ok (Ok done) first now after history start place next entry old mid new before s told_to ahead at is w o h =
    (h.0, transfer_next first now after history start place entry ahead at h.2 h.0 next is h.1 h.3, tells_from old mid new before s told_to h.0 w o h.4)
transfer_ok (Err fault) first now after history start place next entry old mid new before s told_to ahead at is w o h = h

-- it was not, and nothing was told
pub transfer_err : (r : Result (Unit {0}) RunFault) (old mid new : Option (List ℕ)) (before s told_to : List ℕ × Bool) → mid ≡ old → s ≡ before
    → IfErr r (λ e. (e ≡ Memory) × (new ≡ mid) × (told_to ≡ s)) → IfErr r (λ e. (e ≡ Memory) × (new ≡ old) × (told_to ≡ before))
transfer_err (Ok done) old mid new before s told_to w o h = h
transfer_err (Err fault) old mid new before s told_to w o h = (h.0, h.1 ∙ w, h.2 ∙ o)
