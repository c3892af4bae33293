-- What a handle of a pointer holds. Assumes `Logic`.
use Rattle.std.proofs.Common.{◌≡◌, ℕ, List, ◌∷◌, refl}
use seplogic.Ra.Ura.{Ura}
use mir.Raw.{raw as bare}
use mir.Val.{Val, vstruct, vcons, vnil}
use base.Logic.{via, snd∗, guard, guard_i, ent}
use types.Logic.{Logic, sem}
use types.Kit.{Item, Goal, Seq, given, ‵, ◌$◌, drop, fpick, use1, learn}
use contract.Monad.{fact_use}
use denote.Memory.{lone}
use denote.RattleType.{RattleType}
use denote.RawPtr.{Ptr, block_ptr, null_ptr, ptr_val, lies_at, Testable}
use base.Fraction.{full_share}
use base.Fml.{Fml}
use Rattle.std.specs.Prelude.{Option, None, Some}
use Rattle.std.specs.contracts.impls.GlobalAllocator.TheImpl.{ghosts}
use Rattle.std.proofs.GlobalToken.{dealloc_token-Testable}
use Rattle.l4_c_values.specs.Inside.Held.{held}

-- the struct of one pointer
abbrev pub one : Ptr → Val
one p = vstruct (vcons (ptr_val p) vnil)

abbrev pub boxed : (R : RattleType) → ℕ → ℕ → R.Denot → Fml
boxed R b o x = held R (block_ptr b o) (Some x)

module _ {M : Type 1} {𝓤 : Ura M} (𝓛 : Logic 𝓤) (R : RattleType) where
  tested : (b o : ℕ) (x : R.Denot) → ent 𝓤 (sem 𝓛 (boxed R b o x)) (guard 𝓤 (Testable (block_ptr b o)) (sem 𝓛 (boxed R b o x)))
  tested b o x = let p : Ptr = block_ptr b o in
      fact_use 𝓤 (Testable p) (via 𝓤 _ (snd∗ 𝓤 (sem 𝓛 (lies_at R full_share p x)) (sem 𝓛 (ghosts.dealloc_token (record { memory = record { seal = tt } }) (bare (lone R.mir)) p)))
      (dealloc_token-Testable 𝓛 (record { memory = record { seal = tt } }) (bare (lone R.mir)) p)) (guard_i 𝓤 (Testable p) (sem 𝓛 (boxed R b o x)))

module _ {M : Type 1} {𝓤 : Ura M} {𝓛 : Logic 𝓤} {K : Type 0} {Γ : List (Item 𝓤)} {G : Goal 𝓤 𝓛.H} (R : RattleType) where
  -- nothing is held at null, and elsewhere a value at a pointer that may be compared with null
  pub either_held : K → (p : Ptr) (x : Option R.Denot) → (p ≡ null_ptr → x ≡ None → Seq K 𝓛 Γ G)
      → ((b o : ℕ) (y : R.Denot) → p ≡ block_ptr b o → x ≡ Some y → Testable (block_ptr b o) → Seq K 𝓛 (‵ (boxed R b o y) ∷ Γ) G)
      → Seq K 𝓛 (‵ (held R p x) ∷ Γ) G
  either_held t null_ptr None none some = drop t $ none refl refl
  either_held t null_ptr (Some y) none some = fpick t (λ bad. absurd bad)
  either_held t (block_ptr b o) None none some = fpick t (λ bad. absurd bad)
  either_held t (block_ptr b o) (Some y) none some =
      use1 𝓛 (given (Testable (block_ptr b o)) (‵ (boxed R b o y))) (tested 𝓛 R b o y) $ learn t (λ e. some b o y refl refl e)
