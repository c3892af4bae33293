-- The words by which a kernel and its servers are recognized (this profile's own).
use Rattle.std.specs.Prelude.{◌≡◌, ℕ, Bool, List, ◌∷◌, ◌++◌, Some, IsTrue, is_some}
use Rattle.std.specs.FinMap as fin
use Rattle.std.specs.FinSet as set
use Rattle.l4_mapdb.specs.Mappings.{Mappings, shown}
use Rattle.l4_mapdb.specs.declared.Mapping.{Mapping}
use Rattle.l4_mapdb.specs.declared.Place.{Place}
use Rattle.l4_pager.specs.Regions.{Regions}
use Rattle.l4_sigma0.specs.Owners.{Owners, owner_of}
use Rattle.l4_servers.specs.Servers.{Servers}
use Rattle.l4_threads.specs.Queue.{pairs_of}
use Rattle.l4_threads.specs.Threads.{Threads, thread_at}
use Rattle.l4_threads.specs.declared.Thread.{Thread}
use Rattle.l4_ipc.specs.Machine.{Machine}
use Rattle.l4_keys.specs.Listings.{Lists}
use Rattle.l4_keys.specs.Words.{wide, counted, size_word, thread_words, mapping_words, table_words}

-- THREADS

abbrev pub has_thread : Threads → ℕ → Bool
has_thread t n = is_some (thread_at t n)

-- the number of a thread, and its words
abbrev pub AreOfThread : Threads → ℕ → List ℕ → Type 0
AreOfThread t n words = (thread : Thread) × (thread_at t n ≡ Some thread) × (words ≡ n ∷ thread_words thread)

-- the queue of senders is this list
abbrev pub IsQueue : Threads → List ℕ → Type 0
IsQueue t queue = set.from_list (pairs_of queue) ≡ t.before

-- the words of the threads: the number of the next new space, the queue of senders, and each thread
pub record AreOfThreads (t : Threads) (words : List ℕ) : Type 0 where
  pub queue : List ℕ
  pub is_queue : IsQueue t queue
  pub threads : List ℕ
  pub lists : Lists (has_thread t) (AreOfThread t) threads
  pub are : words ≡ wide t.next_space ++ counted queue ++ threads

-- PAGES

abbrev pub place : ℕ → ℕ → Place
place space page = record { space = space; page = page }

abbrev pub has_page : Mappings → ℕ → ℕ → Bool
has_page s space page = is_some (shown s (place space page))

-- the number of a page, and the words of its mapping
abbrev pub AreOfPage : Mappings → ℕ → ℕ → List ℕ → Type 0
AreOfPage s space page words = (mapping : Mapping) × (shown s (place space page) ≡ Some mapping) × (words ≡ page ∷ mapping_words mapping)

abbrev pub has_space : Mappings → ℕ → Bool
has_space s space = set.contains s.spaces space

-- the number of a space, and its pages
abbrev pub AreOfSpace : Mappings → ℕ → List ℕ → Type 0
AreOfSpace s space words = (pages : List ℕ) × Lists (has_page s space) (AreOfPage s space) pages × (words ≡ wide space ++ pages)

-- the words of the mappings: each space. There is no page in any other space.
pub record AreOfMappings (s : Mappings) (words : List ℕ) : Type 0 where
  pub lists : Lists (has_space s) (AreOfSpace s) words
  pub in_space : (p : Place) (mapping : Mapping) → shown s p ≡ Some mapping → IsTrue (has_space s p.space)

-- SERVERS

abbrev pub has_table : Servers → ℕ → Bool
has_table s thread = is_some (fin.get s.tables thread)

-- the number of a thread, and its table
abbrev pub AreOfTable : Servers → ℕ → List ℕ → Type 0
AreOfTable s thread words = (table : Regions) × (fin.get s.tables thread ≡ Some table) × (words ≡ thread ∷ table_words table)

abbrev pub has_owner : Owners → ℕ → Bool
has_owner o frame = is_some (owner_of o frame)

-- a frame, and the space that owns it
abbrev pub AreOfFrame : Owners → ℕ → List ℕ → Type 0
AreOfFrame o frame words = (space : ℕ) × (owner_of o frame ≡ Some space) × (words ≡ frame ∷ wide space)

-- the words of the servers: the served threads, the table of each thread that has one, and the owner of each frame that has one
pub record AreOfServers (s : Servers) (words : List ℕ) : Type 0 where
  pub served : List ℕ
  pub are_served : set.from_list served ≡ s.served
  pub tables : List ℕ
  pub lists_tables : Lists (has_table s) (AreOfTable s) tables
  pub frames : List ℕ
  pub lists_frames : Lists (has_owner s.owners) (AreOfFrame s.owners) frames
  pub are : words ≡ counted served ++ tables ++ size_word s.owners.size ∷ s.owners.frames ∷ frames

-- the words of a kernel: the size of pages, the threads and the mappings
pub record AreOfKernel (m : Machine) (words : List ℕ) : Type 0 where
  pub threads : List ℕ
  pub of_threads : AreOfThreads m.threads threads
  pub mappings : List ℕ
  pub of_mappings : AreOfMappings m.mappings mappings
  pub are : words ≡ size_word m.size ∷ threads ++ mappings
