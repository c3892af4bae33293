-- The sizes of a reason (this profile's own).
use Rattle.std.specs.Prelude.{ℕ}

-- the bytes of a reason, at most
abbrev pub reason_bytes : ℕ
reason_bytes = 640

-- the bytes of a token that are quoted, at most
abbrev pub quoted_bytes : ℕ
quoted_bytes = 24
