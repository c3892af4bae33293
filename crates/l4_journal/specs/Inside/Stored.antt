-- Records of words in one list, and a second list with the place at which each record ends (this profile's own).
use Rattle.std.specs.Prelude.{◌≡◌, ℕ, zero, suc, ◌+◌, ◌-◌, ◌*◌, ◌≤◌, ◌<◌, List, [], ◌∷◌, length, take, drop, ◌^◌, slice_index_or}

-- the greatest number of words of a record
abbrev pub record_words : ℕ
record_words = 144

-- what a contract sees of a store: the records, and the number of records for which there is room
pub record RecordList : Type 0 where
  pub records : List (List ℕ)
  pub room : ℕ

abbrev pub record_list : List (List ℕ) → ℕ → RecordList
record_list records room = record { records = records; room = room }

-- the records of these words; the first one begins at `start`, and each ends at its place
abbrev pub cut : ℕ → List ℕ → List ℕ → List (List ℕ)
cut start [] words = []
cut start (end ∷ ends) words = take (end - start) (drop start words) ∷ cut end ends words

-- the place at which the record with this index begins
abbrev pub start_at : ℕ → List ℕ → ℕ → ℕ
start_at start ends zero = start
start_at start ends (suc place) = slice_index_or ends place 0

-- no record ends before it begins, and the last one ends with the words
abbrev pub AreEnds : ℕ → List ℕ → ℕ → Type 0
AreEnds start [] all = start ≡ all
AreEnds start (end ∷ ends) all = (start ≤ end) × AreEnds end ends all

-- There is room for this many records in all, whatever their words, and the place at which any of them ends fits into a word.
pub record IsStore (ends words : List ℕ) (ends_capacity words_capacity room : ℕ) : Type 0 where
  pub cuts : AreEnds 0 ends (length words)
  pub within : length ends ≤ room
  pub listed : room ≤ ends_capacity
  pub enough : length words + record_words * (room - length ends) ≤ words_capacity
  pub few : length words + record_words * (room - length ends) < 2 ^ 32
