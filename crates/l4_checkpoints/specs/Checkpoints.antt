-- What a checkpoint is: the words of a kernel after a heading, and a checksum (this profile's own).
use Rattle.std.specs.Prelude.{◌≡◌, ◌<◌, ◌≤◌, ◌*◌, ◌^◌, ℕ, List, ◌∷◌, ◌++◌, length}
use Rattle.sha2.specs.Sha256.{sha256}
use Rattle.l4_fpage.specs.Pages.{page_bytes, max_frames}
use Rattle.l4_fpage.specs.declared.sizes.PageSize.{PageSize}
use Rattle.l4_ipc.specs.Machine.{Machine}
use Rattle.l4_journal.specs.Codes.{place_code}
use Rattle.l4_keys.specs.Keys.{AreOfKernel}
use Rattle.l4_record.specs.Sizes.{max_handed_out}
use Rattle.l4_segments.specs.Entries.{AreWords}
use Rattle.l4_segments.specs.Files.{bytes_of}

-- the heading: "LCP4", the version of the form, the frames, the bytes of a page, the number of entries since boot, and the number of words
-- of the kernel
abbrev pub heading_words : ℕ → PageSize → ℕ → ℕ → List ℕ
heading_words frames size entries count = 877675340 ∷ 1 ∷ frames ∷ page_bytes size ∷ (place_code entries ++ place_code count)

-- everything but the checksum
abbrev pub body_of : ℕ → PageSize → ℕ → List ℕ → List ℕ
body_of frames size entries words = bytes_of (heading_words frames size entries (length words)) ++ bytes_of words

-- the whole file: its last 32 bytes are the SHA-256 digest of all bytes before them
abbrev pub file_of : ℕ → PageSize → ℕ → List ℕ → List ℕ
file_of frames size entries words = body_of frames size entries words ++ sha256 (body_of frames size entries words)

-- the bytes are the file of the words of this machine
pub record IsWritten (frames entries : ℕ) (m : Machine) (bytes : List ℕ) : Type 0 where
  pub words : List ℕ
  pub are_of_kernel : AreOfKernel m words
  pub are_words : AreWords words
  pub few : length words < 2 ^ 64
  pub bytes_are : bytes ≡ file_of frames m.size entries words

-- The bytes are a checkpoint of this machine, which booted with this number of frames, and whose history has this number of entries since boot.
pub record IsCheckpoint (frames entries : ℕ) (m : Machine) (bytes : List ℕ) : Type 0 where
  pub written : IsWritten frames entries m bytes
  pub some : 1 ≤ frames
  pub few : frames ≤ max_frames
  pub numbers : entries ≤ max_handed_out

-- The bytes have the heading of a checkpoint, the bytes of as many words as it says, and the checksum of all these. The words may be those of
-- no machine.
pub record HasForm (bytes : List ℕ) : Type 0 where
  pub frames : ℕ
  pub size : PageSize
  pub entries : ℕ
  pub count : ℕ
  pub words : List ℕ
  pub some : 1 ≤ frames
  pub few : frames ≤ max_frames
  pub numbers : entries ≤ max_handed_out
  pub so_many : length words ≡ 4 * count
  pub bytes_are : bytes ≡ (bytes_of (heading_words frames size entries count) ++ words) ++ sha256 (bytes_of (heading_words frames size entries count) ++ words)

-- they are a checkpoint of no machine
abbrev pub IsNoCheckpoint : List ℕ → Type 0
IsNoCheckpoint bytes = (frames entries : ℕ) (m : Machine) → ¬ (IsCheckpoint frames entries m bytes)
