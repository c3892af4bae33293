-- What a handle owns (this profile's own).
use Rattle.std.specs.Prelude.{Option, None, Some}
use base.Fml.{Fml, ftrue, fex}
use denote.RattleType.{RattleType}
use denote.RawPtr.{Ptr, null_ptr, block_ptr}
use Rattle.std.specs.Box.Ownership.{box_owns}
use Rattle.std.specs.contracts.impls.GlobalAllocator.TheImpl.{ghosts}

-- a formula that never holds
abbrev never : Fml
never = fex ⊥ (λ _. ftrue)

-- a null pointer owns nothing, and any other pointer owns a block with a value
abbrev pub held : (R : RattleType) → Ptr → Option R.Denot → Fml
held R null_ptr None = ftrue
held R null_ptr (Some x) = never
held R (block_ptr b o) None = never
held R (block_ptr b o) (Some x) = box_owns (ghosts.dealloc_token (record { memory = record { seal = tt } })) R (block_ptr b o) x
