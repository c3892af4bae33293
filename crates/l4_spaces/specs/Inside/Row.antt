-- The blocks of a table that are noted.
use Rattle.std.specs.Prelude.{◌≡◌, ◌/◌, ◌%◌, ℕ, Bool, true, false, List, length, Option, None, Some, slice_index_or}
use Rattle.l4_spaces.specs.Tables.{row_block}

-- how many blocks are told apart; a longer table's block is noted where the one so many before it is
abbrev pub row_blocks : ℕ
row_blocks = 32

-- the block of each place with a key is noted
pub record IsNoted (line : List (Option ℕ)) (used : List Bool) : Type 0 where
  pub whole : length used ≡ row_blocks
  pub noted : (low key : ℕ) → slice_index_or line low None ≡ Some key → slice_index_or used (low / row_block % row_blocks) false ≡ true
