-- Copies of a kernel (this profile's own).
use Rattle.std.specs.Prelude.{◌≡◌, ◌⊎◌, ℕ, codes, Option, None, Some}
use Rattle.std.specs.Option.{option_map}
use Rattle.l4_ipc.specs.Machine.{Machine}
use Rattle.l4_lock.specs.Locked.{Lock}
use Rattle.l4_refusals.specs.Texts.{spelled}

-- An empty second handle then holds the same machine as the first one, unless an allocation failed. If the first handle is empty (B1) or
-- the second one is not (B2), the second handle is unchanged.
abbrev pub Copies : Option Machine → Option Machine → ℕ → Option Machine → Type 0
Copies None old number new = (number ≡ spelled (codes "B1")) × (new ≡ old)
Copies (Some m) (Some held) number new = (number ≡ spelled (codes "B2")) × (new ≡ Some held)
Copies (Some m) None number new = ((number ≡ 0) × (new ≡ Some m)) ⊎ ((number ≡ spelled (codes "NoMemory")) × (new ≡ None))

-- the kernel in a handle's lock
abbrev pub kernel_of : Option Lock → Option Machine
kernel_of held = option_map (λ l. l.kernel) held
