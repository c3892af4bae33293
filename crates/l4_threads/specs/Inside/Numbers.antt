-- A list of numbers, and where one stands in it. (this profile's own)
use Rattle.std.specs.Prelude.{◌≡◌, ◌≢◌, ℕ, ◌<◌, ◌≤◌, List, Some, slice_get, map, length}
use Rattle.l4_threads.specs.Inside.Entries.{Entries}
use Rattle.l4_threads.specs.Queue.{IsOnce}
use Rattle.l4_threads.specs.Sizes.{max_threads}

-- the number first stands at this place
pub record IsFirst (numbers : List ℕ) (n at : ℕ) : Type 0 where
  pub there : slice_get numbers at ≡ Some n
  pub first : (i m : ℕ) → i < at → slice_get numbers i ≡ Some m → m ≢ n

-- the number stands nowhere
abbrev pub IsNowhere : List ℕ → ℕ → Type 0
IsNowhere numbers n = (i m : ℕ) → slice_get numbers i ≡ Some m → m ≢ n

-- how many hints there are
abbrev pub hint_count : ℕ
hint_count = 256

-- the numbers of the table, of which each stands once, and the hints
pub record AreNumbers (numbers hints : List ℕ) (es : Entries) : Type 0 where
  pub listed : numbers ≡ map (λ e. e.0) es
  pub once : IsOnce numbers
  pub counted : length hints ≡ hint_count

-- the table with its numbers, where so many threads have room: all that there can be
pub record IsRoster (numbers hints : List ℕ) (es : Entries) (capacity : ℕ) : Type 0 where
  pub numbered : AreNumbers numbers hints es
  pub few : length numbers ≤ max_threads
  pub room : max_threads ≤ capacity
