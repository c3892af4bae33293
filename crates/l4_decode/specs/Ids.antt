-- The text of a thread's id (this profile's own).
use Rattle.std.specs.Prelude.{ℕ, ◌==◌, ◌%◌, List, [], ◌++◌, if◌then◌else◌, codes, decimal}
use Rattle.l4_threads.specs.declared.ThreadId.{ThreadId}
use Rattle.l4_threads.specs.Sizes.{local_marks}
use Rattle.l4_threads.specs.Threads.{nilthread, anythread, number_of, version_of}
use Rattle.l4_threads.specs.Control.{is_bad_id}
use Rattle.l4_decode.specs.Spelling.{meaning_line}

-- the id that means any thread of the caller's own space: all bits are 1 except the low six (L4 X.2 manual, ThreadId: anylocalthread)
abbrev pub anylocalthread : ThreadId
anylocalthread = record { 0 = 0xffff_ffc0 }

-- the text after an id that no thread can have
unfoldable pub bad_text : ThreadId → List ℕ
bad_text id = if is_bad_id id then codes ", not a valid thread id" else []

-- The thread's number and the version, unless the id is nilthread or anythread, or a local id, whose low six bits are 0 (L4 X.2 manual,
-- ThreadId: local thread ids). anylocalthread is one of these.
unfoldable pub id_text : ThreadId → List ℕ
id_text id =
    if id.0 == nilthread.0 then codes "nilthread"
    else (if id.0 == anythread.0 then codes "anythread"
    else (if id.0 == anylocalthread.0 then codes "anylocalthread, not supported"
    else (if id.0 % local_marks == 0 then codes "local thread id, not supported"
    else (codes "thread " ++ decimal (number_of id) ++ codes ", version " ++ decimal (version_of id) ++ bad_text id))))

unfoldable pub id_line : ℕ → List ℕ
id_line word = meaning_line (codes "id ") word (id_text (record { 0 = word }))
