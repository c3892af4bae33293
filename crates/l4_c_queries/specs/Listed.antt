-- Lists of the threads and the spaces of a kernel, as C gets them (this profile's own).
use Rattle.std.specs.Prelude.{◌≡◌, ◌⊎◌, ℕ, codes, Option, None, Some}
use Rattle.l4_threads.specs.Listed.{NoThreadFrom, IsNextThread}
use Rattle.l4_forest.specs.Listed.{NoSpaceFrom, IsNextSpace}
use Rattle.l4_ipc.specs.Machine.{Machine}
use Rattle.l4_refusals.specs.Texts.{spelled}
use Rattle.l4_c_values.specs.declared.results.SpaceResult.{SpaceResult}
use Rattle.l4_c_queries.specs.Asked.{space_result}
use Rattle.l4_c_queries.specs.declared.asking.ThreadResult.{ThreadResult}

-- the result for a thread that may have been found; the code says why the query was refused, or is 0
abbrev pub thread_result : ℕ → Option ℕ → ThreadResult
thread_result code None = record { refusal = code; there = 0; thread = 0 }
thread_result code (Some thread) = record { refusal = code; there = 1; thread = thread }

-- the lowest thread number that is not below `from`, if there is one; an empty handle is refused (B1)
abbrev pub TellsNextThread : Option Machine → ℕ → ThreadResult → Type 0
TellsNextThread None from r = r ≡ thread_result (spelled (codes "B1")) None
TellsNextThread (Some m) from r =
    ((r ≡ thread_result 0 None) × NoThreadFrom m.threads from) ⊎ ((found : ℕ) × (r ≡ thread_result 0 (Some found)) × IsNextThread m.threads from found)

-- the lowest space number that is not below `from`, if there is one; an empty handle is refused (B1)
abbrev pub TellsNextSpace : Option Machine → ℕ → SpaceResult → Type 0
TellsNextSpace None from r = r ≡ space_result (spelled (codes "B1")) None
TellsNextSpace (Some m) from r =
    ((r ≡ space_result 0 None) × NoSpaceFrom m.mappings from) ⊎ ((found : ℕ) × (r ≡ space_result 0 (Some found)) × IsNextSpace m.mappings from found)
