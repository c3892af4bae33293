-- The description of a test in TAP (this profile's own, by the Test Anything Protocol).
use Rattle.std.specs.Prelude.{ℕ, ◌==◌, List, Option, Some, None, if◌then◌else◌, codes}

-- What stands for a character: a backslash comes before `#` and before a backslash, and a newline is written as in a string of C. Any other
-- character stands for itself.
abbrev pub escape_of : ℕ → Option (List ℕ)
escape_of character =
    if character == 35 then Some (codes "\\#") else (if character == 92 then Some (codes "\\\\") else (if character == 10 then Some (codes "\\n") else None))
