-- What the tables of threads keep, and what a contract sees of them. (this profile's own)
use Rattle.std.specs.Prelude.{ℕ, List}
use Rattle.std.specs.FinMap as fin
use Rattle.std.specs.FinSet as set
use Rattle.l4_threads.specs.declared.table.Threads.TheInside.{Inside}
use Rattle.l4_threads.specs.Threads.{Threads as Seen}
use Rattle.l4_threads.specs.Inside.Entries.{Entries, IsTable}
use Rattle.l4_threads.specs.Inside.Focused.{IsFocused}
use Rattle.l4_threads.specs.Queue.{pairs_of}

-- the threads of a table, a queue and the next space
abbrev pub threads_of : Entries → List ℕ → ℕ → Seen
threads_of es queue next = record { threads = fin.from_entries es; before = set.from_list (pairs_of queue); next_space = next }

abbrev pub seen : Inside → Seen
seen a = threads_of a.threads a.queue.items a.next_space

pub record IsKept (a : Inside) : Type 0 where
  pub table : IsTable a.threads a.queue.items a.next_space
  pub focused : IsFocused a.threads a.focus
