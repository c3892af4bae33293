-- The board: one word, which the publisher writes and watches read, and the rule that all of them keep (this profile's own).
use Rattle.std.specs.Prelude.{◌≡◌, ℕ, ◌+◌, ◌≤◌, Bool, true, false, [], ◌∷◌, refl}
use Rattle.std.specs.Coded.{Coded, code_by, coded×, coded_ℕ}
use Rattle.atomic_table.specs.Seated.{TableId, table_id_coded}
use Rattle.atomic_table.specs.Table.{State, Step, Me}
use Rattle.l4_board.specs.declared.board.View.{View}
use mathlib.Core.Option.{some}
use lib.ListN.{get_elem?}

-- what a contract sees of a watch: its board, how often it has looked, and the number that it saw last
pub record Watching : Type 0 where
  pub board : TableId
  pub looks : ℕ
  pub seen : ℕ

abbrev pub watching : TableId → ℕ → ℕ → Watching
watching board looks seen = record { board = board; looks = looks; seen = seen }

abbrev pub watching_code : Coded Watching
watching_code = code_by (TableId × (ℕ × ℕ)) (coded× table_id_coded (coded× coded_ℕ coded_ℕ)) (λ w. (w.board, (w.looks, w.seen))) (λ p. watching p.0 p.1.0 p.1.1) (λ _. refl)

-- a watch of this board that has not looked yet
abbrev pub IsNewWatch : TableId → Watching → Type 0
IsNewWatch board w = w ≡ watching board 0 0

-- what a contract sees of the publisher: its board, and the number that it published last
pub record Publishing : Type 0 where
  pub board : TableId
  pub shown : ℕ

abbrev pub publishing : TableId → ℕ → Publishing
publishing board shown = record { board = board; shown = shown }

abbrev pub publishing_code : Coded Publishing
publishing_code = code_by (TableId × ℕ) (coded× table_id_coded coded_ℕ) (λ p. (p.board, p.shown)) (λ p. publishing p.0 p.1) (λ _. refl)

-- THE RULE

-- the view of a seat: whether it is the publisher's, how often it has looked, and the number that it has seen
abbrev pub view : Bool → ℕ → ℕ → View
view publishes looks seen = record { publishes = publishes; looks = looks; seen = seen }

-- The word is the publisher's number, the publisher's seat is the first one, and no seat has seen a greater number.
pub record IsBoard {S : Type 0} (s : State S View) : Type 0 where
  pub word : ℕ
  pub words : s.words ≡ word ∷ []
  pub publisher : (id : ℕ) (v : View) → get_elem? s.views id ≡ some v → v.publishes ≡ true → (id ≡ 0) × (v.seen ≡ word)
  pub seen : (id : ℕ) (v : View) → get_elem? s.views id ≡ some v → v.seen ≤ word

-- a new watch has not looked yet
abbrev pub Begins : {S : Type 0} → Step S → Me S View → ℕ → Me S View → Type 0
Begins s me found after = after.0 ≡ view false 0 0

-- the publisher stores a number, which is the number that it has seen from then on
abbrev pub Publishes : {S : Type 0} → Step S → Me S View → ℕ → Me S View → Type 0
Publishes s me stored after = (after.0 ≡ view true me.0.looks stored) × (after.1 ≡ me.1)

-- A watch loads the word, which is not below the number that it has seen. From then on it has seen this number, and has looked once more.
abbrev pub Looks : {S : Type 0} → Step S → Me S View → ℕ → Me S View → Type 0
Looks s me found after = (me.0.seen ≤ found) × (after.0 ≡ view false (me.0.looks + 1) found)
