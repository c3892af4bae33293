-- The sizes of the text layer (this profile's own).
use Rattle.std.specs.Prelude.{ℕ}

-- the number of bytes of a line that are stored
abbrev pub line_bytes : ℕ
line_bytes = 4096

-- the greatest number of reads of a stream
abbrev pub most_reads : ℕ
most_reads = 16777216

-- the greatest number of bytes of a text
abbrev pub text_bytes : ℕ
text_bytes = 160

-- the greatest number of bytes of an answer's line: three numbers and 64 words
abbrev pub answer_bytes : ℕ
answer_bytes = 704

-- the greatest number of bytes that an output holds back
abbrev pub held_bytes : ℕ
held_bytes = 16384
