-- A version as one number, which is larger for a later version (this profile's own).
use Rattle.std.specs.Prelude.{ℕ, ◌+◌, ◌*◌}

abbrev pub version_number : ℕ → ℕ → ℕ → ℕ
version_number major minor patch = major * 1000000 + minor * 1000 + patch
