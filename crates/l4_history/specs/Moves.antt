-- The lines of the pages that transfers moved, and the transfers of a history one after another (this profile's own).
use Rattle.std.specs.Prelude.{ℕ, ◌≡◌, ◌+◌, ◌<◌, ◌⊎◌, ◌↔◌, Bool, true, false, List, [], ◌∷◌, ◌++◌, Contains, Option, Some, None, Ok, codes, decimal}
use Rattle.std.specs.List.{flat_map, AllPairs}
use Rattle.l4_mapdb.specs.declared.Mapping.{Mapping}
use Rattle.l4_mapdb.specs.Mappings.{Mappings, shown}
use Rattle.l4_mapdb.specs.Transfer.{PageMove}
use Rattle.l4_ipc.specs.Machine.{Machine}
use Rattle.l4_ipc.specs.Steps.{Steps, is_done}
use Rattle.l4_ipc.specs.declared.steps.Step.{Step}
use Rattle.l4_ipc.specs.declared.steps.Step.TheVariants.{Start, Transfer, Expire, Cancel}
use Rattle.l4_record.specs.declared.entries.Entry.{Entry}
use Rattle.l4_provenance.specs.Moved.{IsMoved}
use Rattle.l4_answers.specs.Pages.{rights_text}
use Rattle.l4_answers.specs.Replies.{space, newline}

-- what a space has at a page: its rights, or that the page is absent
unfoldable pub left_text : Option Mapping → List ℕ
left_text None = codes "absent"
left_text (Some mapping) = rights_text mapping.rights

-- A page that a transfer moved: its page in the sender's space and in the receiver's, and what the receiver has there after the transfer. The
-- grants of the same message may have cut the rights, or removed the page again.
abbrev pub moved_line : Mappings → PageMove → List ℕ
moved_line after move =
    codes "# moved " ++ decimal move.source.page ++ codes " to " ++ decimal move.target.page ++ space ++ left_text (shown after move.target) ++ newline

-- by item, and then by the sender's page
abbrev pub Before : PageMove → PageMove → Type 0
Before one other = (one.item < other.item) ⊎ ((one.item ≡ other.item) × (one.source.page < other.source.page))

-- these are the used moves of the step's message, in this order
pub record AreMoves (m : Machine) (step : Step) (moves : List PageMove) : Type 0 where
  pub rising : AllPairs Before moves
  pub each : (move : PageMove) → Contains moves move ↔ IsMoved m step move

-- the lines of the pages that the step moved, with the machine after it; it moves pages only if the message is delivered
abbrev pub IsMovesText : Machine → Step → Machine → Bool → List ℕ → Type 0
IsMovesText m step after true text = (moves : List PageMove) × AreMoves m step moves × (text ≡ flat_map (moved_line after.mappings) moves)
IsMovesText m step after false text = text ≡ []

abbrev pub is_transfer : Step → Bool
is_transfer (Transfer sender receiver) = true
is_transfer (Start number call) = false
is_transfer (Expire number) = false
is_transfer (Cancel number cause) = false

-- The next transfer of a history: from this machine on, the entries are executed up to the first transfer, which is executed too, and this is
-- the text of its moves. The first number is that of the first entry, and the last that of the entry behind. If there is no transfer, all
-- entries are executed, and there is no text.
abbrev pub NextMoves : List Entry → Machine → ℕ → List ℕ → Machine → ℕ → Type 0
NextMoves [] m number text after next = (text ≡ []) × (after ≡ m) × (next ≡ number)
NextMoves (entry ∷ entries) m number text after next =
    (between : Machine) × Steps m entry.step (Ok entry.answer) between
    × (((is_transfer entry.step ≡ true) × IsMovesText m entry.step between (is_done entry.answer.outcome) text × (after ≡ between) × (next ≡ number + 1))
    ⊎ ((is_transfer entry.step ≡ false) × NextMoves entries between (number + 1) text after next))
