-- Creating, changing and deleting threads: the refusals in their order, and the effect. This is a profile of the L4 X.2 manual,
-- ThreadControl: the caller must be in root's space.
use Rattle.std.specs.List.Sorted.{IsStrictlyIncreasing}
use Rattle.std.specs.Prelude.{◌≡◌, ◌≢◌, ◌↔◌, List, Contains, true, ℕ, ◌+◌, ◌-◌, ◌%◌, ◌<◌, ◌≤◌, ◌==◌, ◌&&◌, ◌||◌, not, nat_lt, nat_le, Bool, false, if◌then◌else◌, Option, Some, None, is_some, option_and_then, Result, Ok, Err}
use Rattle.std.specs.Option.{option_map_or, option_map}
use Rattle.std.specs.FinMap as fin
use Rattle.std.specs.FinSet as set
use Rattle.l4_threads.specs.Sizes.{max_threads, local_marks, word_values, space_numbers}
use Rattle.l4_threads.specs.declared.ThreadId.{ThreadId}
use Rattle.l4_threads.specs.declared.ThreadFault.{ThreadFault}
use Rattle.l4_threads.specs.declared.ThreadFault.TheVariants.{NoPrivilege, BadId, Taken, Unknown, Full, Kept}
use Rattle.l4_threads.specs.declared.Source.{Source}
use Rattle.l4_threads.specs.declared.Source.TheVariants.{Anyone, Thread as One}
use Rattle.l4_threads.specs.declared.State.{State}
use Rattle.l4_threads.specs.declared.State.TheVariants.{Running, Sending as Sends, Receiving as Receives}
use Rattle.l4_threads.specs.declared.Thread.{Thread}
use Rattle.l4_threads.specs.Threads.{Threads, thread_at, state_of, space_of, named, number_of, version_of, failed, sends, is_running}

-- the caller is in root's space, which is space 1
abbrev pub is_privileged : Threads → ℕ → Bool
is_privileged t caller = option_map_or (λ space. space == 1) (space_of t caller) false

-- No thread can have this id: it is nilthread or anythread, its number is 0, or the low six bits of its version are 0, which mark a local
-- id (L4 X.2 manual, ThreadId).
abbrev pub is_bad_id : ThreadId → Bool
is_bad_id id = (id.0 == 0) || ((id.0 == 0xffff_ffff) || ((number_of id == 0) || (id.0 % local_marks == 0)))

-- the id has this number and this version, and a thread can have it (L4 X.2 manual, ThreadId: global thread ids)
pub record IsGlobalId (number version : ℕ) (id : ThreadId) : Type 0 where
  pub has_number : number_of id ≡ number
  pub has_version : version_of id ≡ version
  pub one_word : id.0 < word_values
  pub good : is_bad_id id ≡ false

-- `space` is the new thread's own id, which requests a new space
abbrev pub asks_new : ThreadId → ThreadId → Bool
asks_new id space = space.0 == id.0

-- the space of a new thread, if there is one
abbrev pub space_for : Threads → ThreadId → ThreadId → Option ℕ
space_for t id space = if asks_new id space then Some t.next_space else option_and_then (space_of t) (named t space)

-- there are as many threads as there can be, or a new space is requested and the space numbers are used up (this profile's own)
abbrev pub is_full : Threads → Bool → Bool
is_full t new_space = nat_le max_threads (fin.len t.threads) || (new_space && nat_lt (space_numbers - 2) t.next_space)

-- the first refusal of a Create that applies, or the space of the new thread
abbrev pub create_test : Threads → ℕ → ThreadId → ThreadId → Result ℕ ThreadFault
create_test t caller id space =
    if not (is_privileged t caller) then Err NoPrivilege else
    (if is_bad_id id then Err BadId else
    (if is_some (thread_at t (number_of id)) then Err Taken else
    (option_map_or (λ own. if is_full t (asks_new id space) then Err Full else Ok own) (space_for t id space) (Err Unknown))))

-- What holds after a test that passed: the number is free, there is room for a thread, and the space is one that exists or the next new
-- one.
pub record CanCreate (t : Threads) (id : ThreadId) (own : ℕ) : Type 0 where
  pub free : thread_at t (number_of id) ≡ None
  pub room : fin.len t.threads < max_threads
  pub space : own ≤ t.next_space
  pub space_fits : own < space_numbers - 1

-- a new thread is running at once, and has no reply yet (this profile's own)
abbrev pub created : Threads → ThreadId → ℕ → ThreadId → Threads
created t id space pager = record t {
  threads = fin.insert t.threads (number_of id) (record { id = id; space = space; pager = pager; state = Running None });
  next_space = if space == t.next_space then t.next_space + 1 else t.next_space;
}

-- the first refusal of a SetPager that applies, or the thread's number
abbrev pub set_pager_test : Threads → ℕ → ThreadId → Result ℕ ThreadFault
set_pager_test t caller id =
    if not (is_privileged t caller) then Err NoPrivilege else option_map_or (λ n. Ok n) (named t id) (Err Unknown)

-- the thread has this pager, and nothing else changes
abbrev pub with_pager : Threads → ℕ → ThreadId → Threads
with_pager t n pager = option_map_or (λ thread. record t { threads = fin.insert t.threads n (record thread { pager = pager }) }) (thread_at t n) t

-- the first refusal of a Delete that applies, or the thread's number; sigma0, root and the caller cannot be deleted
abbrev pub delete_test : Threads → ℕ → ThreadId → Result ℕ ThreadFault
delete_test t caller id =
    if not (is_privileged t caller) then Err NoPrivilege else
    option_map_or (λ n. if (n == 1) || ((n == 2) || (n == caller)) then Err Kept else Ok n) (named t id) (Err Unknown)

-- a receive phase that accepts only messages of thread n
abbrev pub waits_for : ℕ → Source → Bool
waits_for n Anyone = false
waits_for n (One from) = from == n

-- the state after thread n was deleted: a receive phase that accepts only messages of n has failed, and so has a send phase to n
abbrev pub without_partner : ℕ → State → State
without_partner n (Running reply) = Running reply
without_partner n (Sends s) = if s.to == n then Running (Some (failed s.fault 4)) else Sends s
without_partner n (Receives r) = if waits_for n r.«from» then Running (Some (failed r.fault 5)) else Receives r

-- the thread after its wait for n, if it waits for n, has ended
abbrev pub freed : ℕ → Thread → Thread
freed n thread = record thread { state = without_partner n thread.state }

-- the thread is deleted, and every wait for it has ended
pub record Deletes (n : ℕ) (old new : Threads) : Type 0 where
  pub threads : (other : ℕ) → thread_at new other ≡ (if other == n then None else option_map (freed n) (thread_at old other))
  pub queue : (a b : ℕ) → set.contains new.before (a, b) ≡ (set.contains old.before (a, b) && (sends new a && sends new b))
  pub next_space : new.next_space ≡ old.next_space

-- the thread is waiting
abbrev pub waits : Threads → ℕ → Type 0
waits t n = option_map is_running (state_of t n) ≡ Some false

-- the threads whose calls ended between the two states, in rising order: they waited before, and do not wait afterwards
pub record IsEndedList (old new : Threads) (ended : List ℕ) : Type 0 where
  pub rising : IsStrictlyIncreasing ended
  pub each : (n : ℕ) → Contains ended n ↔ (waits old n × ¬ (waits new n))

-- the space has no thread
abbrev pub HasEnded : Threads → ℕ → Type 0
HasEnded t space = (n : ℕ) → space_of t n ≢ Some space

-- the victim's space is returned exactly if it has no threads any more
abbrev pub TellsEnd : Threads → Threads → ℕ → Option ℕ → Type 0
TellsEnd old new victim None = (n : ℕ) × (space_of new n ≡ space_of old victim)
TellsEnd old new victim (Some space) = (space_of old victim ≡ Some space) × HasEnded new space
