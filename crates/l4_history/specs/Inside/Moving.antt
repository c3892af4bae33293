-- The pages that a step moves, as data.
use Rattle.std.specs.Prelude.{ℕ, ◌≡◌, Bool, true, false, List, [], ◌++◌, map, codes, decimal}
use Rattle.l4_mapdb.specs.Mappings.{Mappings, shown}
use Rattle.l4_mapdb.specs.Transfer.{PageMove}
use Rattle.l4_ipc.specs.Machine.{Machine}
use Rattle.l4_ipc.specs.declared.steps.Step.{Step}
use Rattle.l4_provenance.specs.declared.moves.MovedPage.{MovedPage}
use Rattle.l4_answers.specs.Replies.{space, newline}
use Rattle.l4_history.specs.Moves.{AreMoves, left_text}

-- a move as data
abbrev pub page_of : PageMove → MovedPage
page_of move = record { item = move.item; source = move.source.page; space = move.target.space; target = move.target.page; rights = move.rights }

-- these are the pages that the step moves; it moves pages only if the message is delivered
abbrev pub ArePages : Machine → Step → Bool → List MovedPage → Type 0
ArePages m step true pages = (moves : List PageMove) × AreMoves m step moves × (pages ≡ map page_of moves)
ArePages m step false pages = pages ≡ []

-- the line of a page, with what its receiver has in these mappings
unfoldable pub page_line : Mappings → MovedPage → List ℕ
page_line after page =
    codes "# moved " ++ decimal page.source ++ codes " to " ++ decimal page.target ++ space
    ++ left_text (shown after (record { space = page.space; page = page.target })) ++ newline
