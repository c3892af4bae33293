-- The keys that a node can keep.
use Rattle.std.specs.Prelude.{ℕ, ◌-◌, ◌^◌, ◌<◌}

-- the number that stands for no key
abbrev pub no_key : ℕ
no_key = 2 ^ 32 - 1

-- the key is one that a node can keep
abbrev pub IsKey : ℕ → Type 0
IsKey key = key < no_key
