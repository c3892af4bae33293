-- A recorded kernel and the numbers that have their seats, as one value; which calls it enters, and why it refuses one (this profile's
-- own).
use Rattle.std.specs.Prelude.{◌≡◌, ℕ, ◌<◌, ◌≤◌, ◌⊎◌, Bool, true, false, nat_eq, if◌then◌else◌, List, [], ◌∷◌, ◌++◌, length, Err, IsTrue, refl}
use Rattle.std.specs.List.{list_any}
use Rattle.std.specs.Coded.{Coded, code_by, coded×, coded_ℕ, coded_list}
use Rattle.l4_fpage.specs.declared.sizes.PageSize.{PageSize}
use Rattle.l4_threads.specs.declared.Thread.{Thread}
use Rattle.l4_threads.specs.Threads.{runs}
use Rattle.l4_ipc.specs.declared.calls.Call.{Call}
use Rattle.l4_ipc.specs.declared.steps.CancelCause.{CancelCause}
use Rattle.l4_ipc.specs.declared.steps.Step.TheVariants.{Start, Cancel}
use Rattle.l4_ipc.specs.declared.steps.Refused.TheVariants.{UnknownThread}
use Rattle.l4_ipc.specs.Machine.{Machine, machine_code, IsBoot}
use Rattle.l4_ipc.specs.Steps.{Steps}
use Rattle.l4_record.specs.declared.entries.Entry.{Entry}
use Rattle.l4_record.specs.declared.refusals.RecordRefusal.{RecordRefusal}
use Rattle.l4_record.specs.declared.refusals.RecordRefusal.TheVariants.{HistoryFull, NoMemory, Kernel as ByKernel}
use Rattle.l4_record.specs.declared.segments.Segment.{Segment}
use Rattle.l4_record.specs.Segments.{kept}
use Rattle.l4_record.specs.Sizes.{last_start}

-- the number is in the list
abbrev pub is_among : ℕ → List ℕ → Bool
is_among n numbers = list_any (λ k. nat_eq k n) numbers

-- What a contract sees: the machine, the list of all entries since boot, the numbers that have their seats, the length of the history that
-- was seen last, and the number of the first entry that is kept.
pub record Seated : Type 0 where
  pub machine : Machine
  pub history : List Entry
  pub numbers : List ℕ
  pub seen : ℕ
  pub kept_from : ℕ

abbrev pub seated : Machine → List Entry → List ℕ → ℕ → ℕ → Seated
seated machine history numbers seen kept_from =
    record { machine = machine; history = history; numbers = numbers; seen = seen; kept_from = kept_from }

abbrev pub seated_code : Coded Thread → Coded Entry → Coded Seated
seated_code thread entry =
    code_by (Machine × (List Entry × (List ℕ × (ℕ × ℕ))))
    (coded× (machine_code thread) (coded× (coded_list entry) (coded× (coded_list coded_ℕ) (coded× coded_ℕ coded_ℕ))))
    (λ s. (s.machine, (s.history, (s.numbers, (s.seen, s.kept_from)))))
    (λ p. seated p.0 p.1.0 p.1.1.0 p.1.1.1.0 p.1.1.1.1) (λ _. refl)

-- the value at boot, with pages of this size: the history is empty, and no number has its seat
abbrev pub IsNew : ℕ → PageSize → Seated → Type 0
IsNew frames size s =
    IsBoot frames s.machine × (s.history ≡ []) × (s.numbers ≡ []) × (s.seen ≡ 0) × (s.machine.size ≡ size) × (s.kept_from ≡ 0)

-- The segment has the entries that were kept, and the number of the first of them. They were handed out, so none is kept now. Nothing else
-- has changed.
pub record HandsOut (old new : Seated) (segment : Segment) : Type 0 where
  pub first : segment.first ≡ old.kept_from
  pub entries : segment.history.entries ≡ kept old.kept_from old.history
  pub new_is : new ≡ record old { kept_from = length old.history }

-- the list with this number, once
abbrev pub with_number : List ℕ → ℕ → List ℕ
with_number numbers n = if is_among n numbers then numbers else numbers ++ n ∷ []

-- the number has its seat, and a history that keeps this many entries has room for another call
abbrev pub CanEnter : ℕ → List ℕ → ℕ → Type 0
CanEnter entries numbers n = (is_among n numbers ≡ true) × (entries ≤ last_start)

-- a call of the number's thread may be entered: the conditions of `CanEnter`, and the thread is running
abbrev pub MayEnter : Machine → ℕ → List ℕ → ℕ → Type 0
MayEnter m entries numbers n = CanEnter entries numbers n × IsTrue (runs m.threads n)

-- The reason why a call is not entered: its number has no seat; else the history is full; else an allocation failed or the kernel refuses
-- the call.
abbrev pub Refuses : Machine → ℕ → List ℕ → ℕ → Call → RecordRefusal → Type 0
Refuses m entries numbers n call HistoryFull = (is_among n numbers ≡ true) × (last_start < entries)
Refuses m entries numbers n call NoMemory = CanEnter entries numbers n
Refuses m entries numbers n call (ByKernel e) =
    ((is_among n numbers ≡ false) × (e ≡ UnknownThread)) ⊎ (CanEnter entries numbers n × Steps m (Start n call) (Err e) m)

-- the reason why a wait is not canceled: the history is full; else an allocation failed or the thread does not wait
abbrev pub RefusesCancel : Machine → ℕ → ℕ → CancelCause → RecordRefusal → Type 0
RefusesCancel m entries n cause HistoryFull = last_start < entries
RefusesCancel m entries n cause NoMemory = entries ≤ last_start
RefusesCancel m entries n cause (ByKernel e) = (entries ≤ last_start) × Steps m (Cancel n cause) (Err e) m
