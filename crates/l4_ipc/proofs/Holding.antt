-- Threads and mappings that can be those of a kernel.
use Rattle.std.proofs.Common.{◌≡◌, ℕ, ◌+◌, ◌<◌, ◌≤◌, ◌↔◌, Bool, true, List, Option, Some, IsTrue, is_some, refl, sym, ap, ◌∙◌, subst, inl, inr, ◌⊎◌, arith}
use Rattle.std.specs.FinSet as set
use Rattle.l4_fpage.specs.declared.sizes.PageSize.{PageSize}
use Rattle.l4_fpage.specs.Pages.{space_pages}
use Rattle.l4_msg.specs.Messages.{MessageReads}
use Rattle.l4_msg.specs.declared.messages.Message.{Message}
use Rattle.l4_mapdb.specs.declared.Mapping.{Mapping}
use Rattle.l4_mapdb.specs.declared.Place.{Place}
use Rattle.l4_mapdb.specs.Mappings.{Mappings, shown, IsPresent, IsForest}
use Rattle.l4_forest.specs.Listed.{NoSpaceFrom, IsNextSpace}
use Rattle.l4_forest.specs.Places.{NonePresentFrom}
use Rattle.l4_threads.specs.Threads.{Threads, thread_at, is_sending, sending_of, start_send}
use Rattle.l4_threads.specs.Listed.{NoThreadFrom, IsNextThread}
use Rattle.l4_threads.specs.declared.SendPhase.{SendPhase}
use Rattle.l4_threads.specs.declared.State.TheVariants.{Sending as IsSender}
use Rattle.l4_threads.specs.declared.Thread.{Thread}
use Rattle.l4_ipc.specs.Machine.{machine}
use Rattle.l4_ipc.specs.SpacePages.{FitIn}
use Rattle.l4_ipc.specs.Parts.{IsPart, AreParts}
use Rattle.l4_ipc.specs.Inside.Sound.{IsSound}
use Rattle.l4_ipc.proofs.SoundKept.{sound_state}

sides : (a b : ℕ) → (a < b) ⊎ (b ≤ a)
sides a b = grind arith

-- SPACES

-- the spaces are below the number from which there is none
pub below_limit : (s : Mappings) (limit : ℕ) → NoSpaceFrom s limit → (space : ℕ) → IsTrue (set.contains s.spaces space) → space < limit
below_limit s limit none space there = elim (sides space limit) [
  | inl below ↦ below
  | inr above ↦ absurd (none space above there)
]

-- THREADS

-- each thread below a number is one of the parts
abbrev pub HaveBelow : Threads → Mappings → ℕ → Type 0
HaveBelow t s limit = (n : ℕ) (thread : Thread) → thread_at t n ≡ Some thread → n < limit → IsPart s thread

abbrev pub HaveAll : Threads → Mappings → Type 0
HaveAll t s = (n : ℕ) (thread : Thread) → thread_at t n ≡ Some thread → IsPart s thread

pub have_none : (t : Threads) (s : Mappings) → HaveBelow t s 0
have_none t s n thread at below = absurd (omega (arith, below))

there_at : (t : Threads) (n : ℕ) (thread : Thread) → thread_at t n ≡ Some thread → IsTrue (is_some (thread_at t n))
there_at t n thread at = ap is_some at

pub have_more : (t : Threads) (s : Mappings) (start number : ℕ) (thread : Thread) → HaveBelow t s start → IsNextThread t start number → Some thread ≡ thread_at t number → IsPart s thread → HaveBelow t s (number + 1)
have_more t s start number thread so next at has n other there below = elim (sides n start) [
  | inl before ↦ so n other there before
  | inr after ↦
      let least = next.least n after (there_at t n other there) in
      let one : number ≡ n = omega (arith, least, below) in
      let k : ◌≡◌ {A = Option Thread} (Some thread) (Some other) = at ∙ ap (thread_at t) one ∙ there in
      let same : thread ≡ other = cc in
      subst (IsPart s) same has
]

pub have_all : (t : Threads) (s : Mappings) (start : ℕ) → HaveBelow t s start → NoThreadFrom t start → IsTrue true ↔ HaveAll t s
have_all t s start so none = (
  λ yes n thread at. elim (sides n start) [
    | inl before ↦ so n thread at before
    | inr after ↦ absurd (none n after (there_at t n thread at))
  ],
  λ all. refl,
)

-- PAGES

-- each page of a space below a number fits
abbrev pub FitBelow : PageSize → Mappings → ℕ → Type 0
FitBelow size s limit = (place : Place) (m : Mapping) → shown s place ≡ Some m → place.space < limit → place.page < space_pages size

pub fit_none : (size : PageSize) (s : Mappings) → FitBelow size s 0
fit_none size s place m at below = absurd (omega (arith, below))

present_at : (s : Mappings) (place : Place) (m : Mapping) → shown s place ≡ Some m → IsPresent s place
present_at s place m at = ap is_some at

pub fit_more : (size : PageSize) (s : Mappings) (start space pages : ℕ) → IsForest s → FitBelow size s start → IsNextSpace s start space → pages ≡ space_pages size → NonePresentFrom s space pages
    → FitBelow size s (space + 1)
fit_more size s start space pages trees so next is none place m at below = elim (sides place.space start) [
  | inl before ↦ so place m at before
  | inr after ↦
      let least = next.least place.space after (trees.in_space place m at) in
      let one : place.space ≡ space = omega (arith, least, below) in
      elim (sides place.page (space_pages size)) [
        | inl inside ↦ inside
        | inr beyond ↦ absurd (none place.page (subst (λ n. n ≤ place.page) (sym is) beyond) (subst (λ n. IsPresent s (record { space = n; page = place.page })) one (present_at s place m at)))
      ]
]

pub all_fit : (size : PageSize) (s : Mappings) (start : ℕ) → IsForest s → FitBelow size s start → NoSpaceFrom s start → IsTrue true ↔ FitIn size s
all_fit size s start trees so none = (
  λ yes place m at. elim (sides place.space start) [
    | inl before ↦ so place m at before
    | inr after ↦ absurd (none place.space after (trees.in_space place m at))
  ],
  λ all. refl,
)

-- BOTH

pub all_parts : (size : PageSize) (t : Threads) (s : Mappings) (limit : ℕ) (result : Bool) → limit ≡ t.next_space → NoSpaceFrom s limit → FitIn size s → IsTrue result ↔ HaveAll t s → IsTrue result ↔ AreParts size t s
all_parts size t s limit result is none fits have = (
  λ yes. record { threads = have.0 yes; below = λ space there. subst (λ n. space < n) is (below_limit s limit none space there); pages = fits },
  λ all. have.1 all.threads,
)

-- parts make a kernel that keeps its invariant
pub parts_sound : (size : PageSize) (t : Threads) (s : Mappings) → AreParts size t s → IsSound (machine size t s)
parts_sound size t s parts = record {
  have_spaces = λ n thread at. (parts.threads n thread at).space;
  below = parts.below;
  messages = λ n thread sends at is. absurd ((parts.threads n thread at).silent (ap is_sending is));
}

-- and so does a thread that sends a message
pub sends_sound : (size : PageSize) (t : Threads) (s : Mappings) (n : ℕ) (words : List ℕ) (phase : SendPhase) (message : Message) → MessageReads words message → IsSound (machine size t s)
    → IsSound (machine size (start_send t n (sending_of words message.items.items phase)) s)
sends_sound size t s n words phase message reads sound = sound_state s.spaces t _ n (IsSender (sending_of words message.items.items phase)) reads.items sound
