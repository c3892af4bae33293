-- How bytes begin and end, as the reader of a checkpoint finds it (this profile's own).
use Rattle.std.specs.Prelude.{◌≡◌, ◌≢◌, ◌<◌, ◌≤◌, ◌+◌, ◌*◌, ◌^◌, ◌⊎◌, ℕ, List, ◌++◌, length, take, drop, slice_index}
use Rattle.sha2.specs.Sha256.{sha256}
use Rattle.l4_fpage.specs.Pages.{page_bytes, max_frames}
use Rattle.l4_fpage.specs.declared.sizes.PageSize.{PageSize}
use Rattle.l4_record.specs.Sizes.{max_handed_out}
use Rattle.l4_segments.specs.Entries.{AreWords}
use Rattle.l4_segments.specs.Files.{bytes_of}
use Rattle.l4_checkpoints.specs.Checkpoints.{heading_words}

-- the words are a heading
pub record AreHeading (frames : ℕ) (size : PageSize) (entries count : ℕ) (words : List ℕ) : Type 0 where
  pub some : 1 ≤ frames
  pub few : frames ≤ max_frames
  pub numbers : entries ≤ max_handed_out
  pub words_are : words ≡ heading_words frames size entries count

-- one of the eight words of a heading is not one that a heading has there
abbrev pub AreNoHeading : List ℕ → Type 0
AreNoHeading words =
    (slice_index words 0 ≢ 877675340) ⊎ (slice_index words 1 ≢ 1) ⊎ (slice_index words 2 ≡ 0) ⊎ (max_frames < slice_index words 2)
    ⊎ ((size : PageSize) → slice_index words 3 ≢ page_bytes size) ⊎ (max_handed_out < slice_index words 4 + 2 ^ 32 * slice_index words 5)

-- the bytes begin with the heading
pub record BeginsWith (bytes : List ℕ) (frames : ℕ) (size : PageSize) (entries count : ℕ) : Type 0 where
  pub words : List ℕ
  pub heading : AreHeading frames size entries count words
  pub are_words : AreWords words
  pub bytes_are : bytes ≡ bytes_of words ++ drop 32 bytes
  pub within : 32 ≤ length bytes

-- after a heading, the bytes are those of this number of words, and the checksum of all bytes before it
abbrev pub EndsRight : List ℕ → ℕ → Type 0
EndsRight bytes count = (32 + 4 * count + 32 ≡ length bytes) × (drop (32 + 4 * count) bytes ≡ sha256 (take (32 + 4 * count) bytes))

-- the bytes are not a heading, this number of words, and the checksum of both
abbrev pub EndsWrong : List ℕ → ℕ → Type 0
EndsWrong bytes count =
    (head words : List ℕ) → length head ≡ 8 → length words ≡ count → bytes ≢ (bytes_of head ++ bytes_of words) ++ sha256 (bytes_of head ++ bytes_of words)
