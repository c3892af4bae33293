-- What the reader has read so far.
use Rattle.std.specs.Prelude.{◌≡◌, ◌≤◌, ◌+◌, ℕ, List, ◌++◌, length, take, drop, Some}
use Rattle.sha2.specs.Sha256.{sha256}
use Rattle.l4_journal.specs.Codes.{counted}
use Rattle.l4_record.specs.declared.entries.Entry.{Entry}
use Rattle.l4_segments.specs.declared.files.Heading.{Heading}
use Rattle.l4_segments.specs.Entries.{entry_code, entry_at, IsWritable}
use Rattle.l4_segments.specs.Files.{bytes_of, heading_code, IsHeading}
use Rattle.l4_segments.specs.Faults.{HasBegun}

-- the bytes begin with the heading
pub record BeginsWith (bytes : List ℕ) (h : Heading) : Type 0 where
  pub heading : IsHeading h
  pub bytes_are : bytes ≡ bytes_of (heading_code h) ++ drop 32 bytes
  pub within : 32 ≤ length bytes

-- these words at the position are an entry, which ends at the next position
pub record ReadsEntry (bytes : List ℕ) (at : ℕ) (words : List ℕ) (next : ℕ) : Type 0 where
  pub entry : Entry
  pub writable : IsWritable entry
  pub words_are : words ≡ entry_code entry
  pub reads : entry_at words ≡ Some entry
  pub bytes_are : drop at bytes ≡ bytes_of (counted (entry_code entry)) ++ drop next bytes
  pub within : next ≤ length bytes

-- the checksum of the bytes before the position is there, and ends at this one
pub record EndsWithSum (bytes : List ℕ) (at end : ℕ) : Type 0 where
  pub end_is : end ≡ at + length (sha256 (take at bytes))
  pub within : end ≤ length bytes
  pub sum : drop at bytes ≡ sha256 (take at bytes) ++ drop end bytes

-- the bytes begin with the file of a segment with this heading and these entries, which ends at this position
pub record ReadsFront (bytes : List ℕ) (h : Heading) (entries : List Entry) (end : ℕ) : Type 0 where
  pub at : ℕ
  pub begins : HasBegun bytes h entries at
  pub all : length entries ≡ h.count
  pub ends : EndsWithSum bytes at end
