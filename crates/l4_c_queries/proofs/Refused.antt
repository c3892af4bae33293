-- Calls that the lock refused, as they are told.
use Rattle.std.proofs.Common.{◌≡◌, ℕ, Option, None, Some, is_some, codes, ap, ◌∙◌, sym}
use Rattle.std.proofs.lemmas.Bool.{false≢true}
use Rattle.std.specs.Option.{option_map}
use Rattle.l4_lock.specs.Books.{Book, SeatState}
use Rattle.l4_lock.specs.declared.refusals.LockRefusal.{LockRefusal}
use Rattle.l4_seated_lock.specs.Seated.{seat_of}
use Rattle.l4_refusals.specs.Texts.{spelled}
use Rattle.l4_c_values.specs.Recorded.{lock_code, lock_carries, unseated_result, refused_call}
use Rattle.l4_c_values.specs.declared.recorded.SeatedResult.{SeatedResult}

module _ (n : ℕ) (e : LockRefusal) (r : SeatedResult) where
  pub refused_unseated : (b : Option Book) → b ≡ None → r ≡ unseated_result (spelled (codes "X2")) n → r ≡ refused_call b n e
  refused_unseated b none told = told ∙ ap (λ (o : Option Book). refused_call o n e) (sym none)

  pub refused_seated : (b : Option Book) (s : SeatState) (code carries : ℕ) → option_map seat_of b ≡ Some s
      → code ≡ lock_code e → carries ≡ lock_carries e → r ≡ unseated_result code carries → r ≡ refused_call b n e
  refused_seated None s code carries there is has told = absurd (false≢true (ap (λ (o : Option SeatState). is_some o) there))
  refused_seated (Some b) s code carries there is has told =
      told ∙ ap (λ (c : ℕ). unseated_result c carries) is ∙ ap (λ (c : ℕ). unseated_result (lock_code e) c) has
