-- sigma0's table of frames, and its answers (L4 X.2 manual, sigma0 protocol; which frames are given is this profile's own).
use Rattle.std.specs.Prelude.{◌≡◌, ℕ, ◌+◌, ◌-◌, ◌*◌, ◌/◌, ◌^◌, ◌<◌, ◌≤◌, ◌⊎◌, Bool, ◌&&◌, nat_le, nat_lt, if◌then◌else◌, List, [], ◌∷◌, Option, Some, None, MatchOption, refl}
use Rattle.std.specs.Ordering.{nat_cmp}
use Rattle.std.specs.Coded.{Coded, code_by, coded×, coded_ℕ}
use Rattle.std.specs.FinMap as fin
use Rattle.l4_fpage.specs.Fpages.{bytes_of}
use Rattle.l4_fpage.specs.Rights.{all_rights}
use Rattle.l4_fpage.specs.Pages.{InBlock, page_bytes, page_log}
use Rattle.l4_fpage.specs.declared.fpages.Fpage.{Fpage}
use Rattle.l4_msg.specs.declared.messages.Message.{Message}
use Rattle.l4_msg.specs.declared.protocols.FrameRequest.{FrameRequest}
use Rattle.l4_msg.specs.declared.protocols.PageFault.{PageFault}
use Rattle.l4_msg.specs.Protocols.{FaultReads, RequestReads, nothing, GivesPages}
use Rattle.l4_fpage.specs.declared.sizes.PageSize.{PageSize}
use Rattle.l4_fpage.specs.Pages.{size_code}

-- the size of pages and frames, the number of frames, and for each frame that has an owner the number of its space
pub record Owners : Type 0 where
  pub size : PageSize
  pub frames : ℕ
  pub owner : fin.FinMap nat_cmp ℕ

-- a table of owners is stored as the size, the number and the map
abbrev pub owners_code : Coded Owners
owners_code =
    code_by (PageSize × (ℕ × fin.FinMap nat_cmp ℕ)) (coded× size_code (coded× coded_ℕ (fin.code coded_ℕ coded_ℕ)))
    (λ t. (t.size, (t.frames, t.owner))) (λ p. record { size = p.0; frames = p.1.0; owner = p.1.1 }) (λ _. refl)

-- the space that owns the frame, if one does
abbrev pub owner_of : Owners → ℕ → Option ℕ
owner_of t frame = fin.get t.owner frame

-- the fpage's whole pages are 2 ^ log pages of this size, from the page `first` on
abbrev pub NamesPages : PageSize → Fpage → ℕ → ℕ → Type 0
NamesPages size fpage first log = MatchOption (bytes_of fpage) ⊥ (λ b. (page_log size ≤ b.log) × (first ≡ b.base / page_bytes size) × (log ≡ b.log - page_log size))

-- The message requests 2 ^ log frames from `first` on: a fault requests that of its page, and a request without attributes those of its
-- fpage's pages. The frame of a page has the page's number.
abbrev pub Wants : PageSize → Message → ℕ → ℕ → Type 0
Wants size m first log =
    ((fault : PageFault) × FaultReads m fault × (first ≡ fault.address / page_bytes size) × (log ≡ 0))
    ⊎ ((fpage : Fpage) × RequestReads m (record { fpage = fpage; attributes = 0 }) × NamesPages size fpage first log)

-- The message requests what the request does: it is read as a request for the same bytes with the same attributes. The rights of a
-- request's fpage are ignored.
pub record AsksFor (m : Message) (request : FrameRequest) : Type 0 where
  pub read : FrameRequest
  pub reads : RequestReads m read
  pub bytes : bytes_of read.fpage ≡ bytes_of request.fpage
  pub attributes : read.attributes ≡ request.attributes

-- the frame exists, and has no owner or is owned by the space
abbrev pub MayHave : Owners → ℕ → ℕ → Type 0
MayHave t space frame = (frame < t.frames) × MatchOption (owner_of t frame) (Unit {0}) (λ owner. owner ≡ space)

-- each of these frames exists, and has no owner or is owned by the space
abbrev pub MayHaveAll : Owners → ℕ → ℕ → ℕ → Type 0
MayHaveAll t space first log = (frame : ℕ) → InBlock first log frame → MayHave t space frame

-- the frame is one of the 2 ^ log frames from `first` on
abbrev pub is_in : ℕ → ℕ → ℕ → Bool
is_in first log frame = nat_le first frame && nat_lt frame (first + 2 ^ log)

-- the space owns these frames, and the owner of every other frame is unchanged
pub record Gives (old : Owners) (space first log : ℕ) (new : Owners) : Type 0 where
  pub size : new.size ≡ old.size
  pub frames : new.frames ≡ old.frames
  pub owner : (frame : ℕ) → owner_of new frame ≡ (if is_in first log frame then Some space else owner_of old frame)

-- sigma0's answer to a message from a space. If the space may have all frames that the message requests, sigma0 gives them with all rights.
-- Otherwise it gives nothing, and no frame gets an owner.
abbrev pub Answers : Owners → ℕ → Message → Message → Owners → Type 0
Answers old space m answer new =
    ((first : ℕ) × (log : ℕ) × Wants old.size m first log × MayHaveAll old space first log × GivesPages old.size first first log all_rights answer × Gives old space first log new)
    ⊎ (((first log : ℕ) → Wants old.size m first log → ¬ MayHaveAll old space first log) × (answer ≡ nothing) × (new ≡ old))
