-- The lists that the tables of threads keep: the threads with their numbers, and the queue of senders. (this profile's own)
use Rattle.std.specs.Prelude.{◌≡◌, ◌≢◌, ℕ, ◌<◌, ◌≤◌, length, ◌==◌, ◌&&◌, ◌||◌, Bool, false, true, not, nat_lt, filter, if◌then◌else◌, List, [], ◌∷◌, map, Option, Some, slice_get}
use Rattle.std.specs.List.{list_any}
use Rattle.std.specs.Option.{option_map_or, option_map}
use Rattle.std.specs.Ordering.{nat_cmp}
use Rattle.std.specs.FinMap as fin
use Rattle.l4_threads.specs.Threads.{number_of, is_sending, is_running}
use Rattle.l4_threads.specs.Control.{freed}
use Rattle.l4_threads.specs.Inside.Ending.{frees}
use Rattle.l4_threads.specs.declared.Thread.{Thread}
use Rattle.l4_threads.specs.declared.ThreadId.{ThreadId}
use Rattle.l4_threads.specs.declared.State.{State}
use Rattle.l4_threads.specs.declared.State.TheVariants.{Running, Sending as Sends, Receiving as Receives}
use Rattle.l4_threads.specs.Queue.{is_in, IsOnce}
use Rattle.l4_threads.specs.Sizes.{max_threads, numbers, space_numbers}

-- the threads with their numbers, in the order of their creation
abbrev pub Entries : Type 0
Entries = List (ℕ × Thread)

-- the thread of this number in a table
abbrev pub found : Entries → ℕ → Option Thread
found es n = fin.find nat_cmp n es

-- the first entry of this number stands at this place
pub record IsAt (es : Entries) (n at : ℕ) : Type 0 where
  pub thread : Thread
  pub there : slice_get es at ≡ Some (n, thread)
  pub first : (i : ℕ) (e : ℕ × Thread) → i < at → slice_get es i ≡ Some e → e.0 ≢ n

-- the table where the thread of this number is changed
abbrev pub changed_in : Entries → ℕ → (Thread → Thread) → Entries
changed_in [] n f = []
changed_in (e ∷ es) n f = if n == e.0 then (e.0, f e.1) ∷ es else e ∷ changed_in es n f

-- the thread in this state, and with this pager
abbrev pub in_state : State → Thread → Thread
in_state state thread = record thread { state = state }

abbrev pub in_pager : ThreadId → Thread → Thread
in_pager pager thread = record thread { pager = pager }

-- whether the one number stands before the other
abbrev pub precedes : List ℕ → ℕ → ℕ → Bool
precedes [] a b = false
precedes (x ∷ rest) a b = ((a == x) && is_in rest b) || precedes rest a b

-- the table where each thread is freed from its wait for one
abbrev pub freed_in : Entries → ℕ → Entries
freed_in es n = map (λ e. (e.0, freed n e.1)) es

-- the table without one thread
abbrev pub without_in : Entries → ℕ → Entries
without_in es n = filter (λ e. not (e.0 == n)) es

-- whether the thread's call ends with the victim
abbrev pub ends_with : ℕ → ℕ × Thread → Bool
ends_with victim e = not (is_running e.1.state) && ((e.0 == victim) || frees victim e.1.state)

-- the list in rising order with one more number
abbrev pub rising_with : List ℕ → ℕ → List ℕ
rising_with [] n = n ∷ []
rising_with (x ∷ xs) n = if nat_lt n x then n ∷ (x ∷ xs) else x ∷ rising_with xs n

-- the numbers of the threads whose calls end with the victim, put into a rising list
abbrev pub ended_in : Entries → ℕ → List ℕ → List ℕ
ended_in [] victim ended = ended
ended_in (e ∷ es) victim ended = ended_in es victim (if ends_with victim e then rising_with ended e.0 else ended)

-- whether a thread of the table is in this space
abbrev pub has_space : Entries → ℕ → Bool
has_space es space = list_any (λ e. e.1.space == space) es

-- whether the table has a sending thread of this number
abbrev pub sends_in : Entries → ℕ → Bool
sends_in es n = option_map_or is_sending (option_map (λ thread. thread.state) (found es n)) false

-- the state waits for a message
abbrev pub is_receiving : State → Bool
is_receiving (Running reply) = false
is_receiving (Sends s) = false
is_receiving (Receives r) = true

-- whether a thread of the table is in such a state
abbrev pub any_state : (State → Bool) → Entries → Bool
any_state such es = list_any (λ e. such e.1.state) es

-- each number stands once in the table and in the queue, the queue holds just the senders, each thread's id has
-- its number, there are no more than there is room for, and each space lies below the next one
pub record IsTable (es : Entries) (queue : List ℕ) (next : ℕ) : Type 0 where
  pub once : IsOnce (map (λ e. e.0) es)
  pub number : (n : ℕ) (thread : Thread) → found es n ≡ Some thread → number_of thread.id ≡ n
  pub small : (n : ℕ) (thread : Thread) → found es n ≡ Some thread → n < numbers
  pub space : (n : ℕ) (thread : Thread) → found es n ≡ Some thread → thread.space < next
  pub few : length es ≤ max_threads
  pub fits : next < space_numbers
  pub queue_once : IsOnce queue
  pub queued : (n : ℕ) → is_in queue n ≡ sends_in es n
