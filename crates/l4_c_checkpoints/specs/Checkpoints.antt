-- Checkpoints that C gets and passes (this profile's own).
use Rattle.std.specs.Prelude.{◌≡◌, ◌⊎◌, ◌<◌, ◌≤◌, ℕ, List, length, codes, Option, None, Some}
use Rattle.l4_fpage.specs.Pages.{max_frames}
use Rattle.l4_ipc.specs.Machine.{Machine}
use Rattle.l4_record.specs.Sizes.{max_handed_out}
use Rattle.l4_refusals.specs.Texts.{spelled}
use Rattle.l4_checkpoints.specs.Checkpoints.{IsCheckpoint, IsNoCheckpoint, HasForm}
use Rattle.l4_checkpoints.specs.declared.faults.CheckpointFault.{CheckpointFault}
use Rattle.l4_checkpoints.specs.declared.faults.CheckpointFaultKind.{CheckpointFaultKind}
use Rattle.l4_checkpoints.specs.declared.faults.CheckpointFaultKind.TheVariants.{NoMemory, Magic, Version, Frames, Pages, Numbers, Cut, Checksum, Extra, Machine as IsOfWords}
use Rattle.l4_c_queries.specs.declared.descending.CountResult.{CountResult}
use Rattle.l4_c_queries.specs.Placed.{placed}
use Rattle.l4_c_checkpoints.specs.declared.reading.CheckpointResult.{CheckpointResult}

-- WRITING

-- a number of bytes, or the code of the reason why there are none
abbrev pub count_result : ℕ → ℕ → CountResult
count_result code count = record { refusal = code; count = count }

-- A number of frames that no kernel has is refused first (K6), and then a number of entries that no history has (B7). Otherwise the bytes of
-- the machine's checkpoint are counted, and written as far as there is room, or memory ran out. Nothing is written after a refusal.
abbrev pub Writes : ℕ → ℕ → Machine → List ℕ → CountResult → List ℕ → Type 0
Writes frames entries m old r new =
    (((frames ≡ 0) ⊎ (max_frames < frames)) × (r ≡ count_result (spelled (codes "K6")) 0) × (new ≡ old))
    ⊎ ((1 ≤ frames) × (frames ≤ max_frames) × (max_handed_out < entries) × (r ≡ count_result (spelled (codes "B7")) 0) × (new ≡ old))
    ⊎ ((bytes : List ℕ) × IsCheckpoint frames entries m bytes × (r ≡ count_result 0 (length bytes)) × (new ≡ placed bytes old))
    ⊎ ((1 ≤ frames) × (frames ≤ max_frames) × (entries ≤ max_handed_out) × (r ≡ count_result (spelled (codes "NoMemory")) 0) × (new ≡ old))

-- an empty handle is refused (B1)
abbrev pub WritesCheckpoint : Option Machine → ℕ → ℕ → List ℕ → CountResult → List ℕ → Type 0
WritesCheckpoint None frames entries old r new = (r ≡ count_result (spelled (codes "B1")) 0) × (new ≡ old)
WritesCheckpoint (Some m) frames entries old r new = Writes frames entries m old r new

-- READING

abbrev pub refusal_result : ℕ → CheckpointResult
refusal_result code = record { refusal = code; fault = 0; position = 0; entries = 0; frames = 0; reserved = 0 }

-- bytes that are not read as a checkpoint (B6): what is wrong with them, and where
abbrev pub no_checkpoint : ℕ → ℕ → CheckpointResult
no_checkpoint fault position = record { refusal = spelled (codes "B6"); fault = fault; position = position; entries = 0; frames = 0; reserved = 0 }

-- memory ran out, or the bytes have this fault
abbrev pub fault_result : CheckpointFaultKind → ℕ → CheckpointResult
fault_result NoMemory position = refusal_result (spelled (codes "NoMemory"))
fault_result Magic position = no_checkpoint 1 position
fault_result Version position = no_checkpoint 2 position
fault_result Frames position = no_checkpoint 3 position
fault_result Pages position = no_checkpoint 4 position
fault_result Numbers position = no_checkpoint 5 position
fault_result Cut position = no_checkpoint 6 position
fault_result Checksum position = no_checkpoint 7 position
fault_result Extra position = no_checkpoint 8 position
fault_result IsOfWords position = no_checkpoint 9 position

abbrev pub checkpoint_result : ℕ → ℕ → CheckpointResult
checkpoint_result frames entries = record { refusal = 0; fault = 0; position = 0; entries = entries; frames = frames; reserved = 0 }

-- Memory ran out, no machine was built from the words, or the bytes are no checkpoint. If no machine was built, the heading, the length and the
-- checksum are right.
abbrev pub IsFault : List ℕ → CheckpointFault → Type 0
IsFault bytes f = ((f.kind ≡ NoMemory) ⊎ (f.kind ≡ IsOfWords) ⊎ IsNoCheckpoint bytes) × (f.kind ≡ IsOfWords → HasForm bytes)

-- An empty handle then holds the machine of which the bytes are a checkpoint, with the two numbers beside it; or the bytes have a fault, or
-- memory ran out. A handle that is not empty is refused (B2) and unchanged.
abbrev pub ReadsCheckpoint : Option Machine → List ℕ → CheckpointResult → Option Machine → Type 0
ReadsCheckpoint (Some held) bytes r new = (r ≡ refusal_result (spelled (codes "B2"))) × (new ≡ Some held)
ReadsCheckpoint None bytes r new =
    ((frames : ℕ) × (entries : ℕ) × (m : Machine) × IsCheckpoint frames entries m bytes × (r ≡ checkpoint_result frames entries) × (new ≡ Some m))
    ⊎ ((f : CheckpointFault) × IsFault bytes f × (r ≡ fault_result f.kind f.position) × (new ≡ None))
    ⊎ ((r ≡ refusal_result (spelled (codes "NoMemory"))) × (new ≡ None))
