-- The sizes of threads and of their ids (L4 X.2 manual, ThreadId: global thread ids; the maximum number of threads and the numbers of
-- spaces are this profile's own).
use Rattle.std.specs.Prelude.{ℕ, ◌^◌}

-- the greatest number of threads that exist at a time
abbrev pub max_threads : ℕ
max_threads = 64

-- the number of values of a thread number, of a version, and of the part of a version that is 0 in a local id
abbrev pub numbers : ℕ
numbers = 2 ^ 18

abbrev pub versions : ℕ
versions = 2 ^ 14

abbrev pub local_marks : ℕ
local_marks = 2 ^ 6

-- the number of values of a word
abbrev pub word_values : ℕ
word_values = 2 ^ 32

-- the number of space numbers, each of which is used once
abbrev pub space_numbers : ℕ
space_numbers = 2 ^ 64
