-- The calls that C passes (this profile's own).
use Rattle.std.specs.Prelude.{◌≡◌, ◌⊎◌, ℕ, ◌<◌, List, [], take}
use Rattle.l4_fpage.specs.Rights.{set_of_bits}
use Rattle.l4_ipc.specs.declared.calls.Call.{Call}
use Rattle.l4_ipc.specs.declared.calls.Call.TheVariants.{Ipc, Fault, Unmap, Control as Controls}
use Rattle.l4_ipc.specs.declared.calls.Control.TheVariants.{Create, SetPager, Delete}
use Rattle.l4_c_values.specs.Told.{filled}
use Rattle.l4_c_values.specs.declared.calls.CallGiven.{CallGiven}

-- the reserved members are 0
abbrev pub IsPlain : CallGiven → Type 0
IsPlain g = g.reserved ≡ filled 4 []

-- the kind is not one of the six, or a reserved member is not 0
abbrev pub IsNoCall : CallGiven → Type 0
IsNoCall g = (g.kind ≡ 0) ⊎ (6 < g.kind) ⊎ ¬ (IsPlain g)

-- an Ipc without words
abbrev pub IsBlank : Call → Type 0
IsBlank (Ipc call) = call.words.items ≡ []
IsBlank (Fault call) = ⊥
IsBlank (Unmap call) = ⊥
IsBlank (Controls control) = ⊥

-- The members that the call's kind uses, and the words. Words beyond the first 64 are ignored.
abbrev pub HasMembers : CallGiven → List ℕ → Call → Type 0
HasMembers g words (Ipc call) =
    (g.kind ≡ 1) × (call.to.0 ≡ g.to) × (call.«from».0 ≡ g.«from») × (call.timeouts ≡ g.timeouts) × (call.acceptor ≡ g.acceptor)
    × (call.words.items ≡ take 64 words)
HasMembers g words (Fault call) = (g.kind ≡ 2) × (call.address ≡ g.address) × (call.ip ≡ g.ip) × (call.access ≡ set_of_bits g.access)
HasMembers g words (Unmap call) = (g.kind ≡ 3) × (call.control ≡ g.control) × (call.words.items ≡ take 64 words)
HasMembers g words (Controls (Create c)) = (g.kind ≡ 4) × (c.id.0 ≡ g.id) × (c.space.0 ≡ g.space) × (c.pager.0 ≡ g.pager)
HasMembers g words (Controls (SetPager c)) = (g.kind ≡ 5) × (c.id.0 ≡ g.id) × (c.pager.0 ≡ g.pager)
HasMembers g words (Controls (Delete id)) = (g.kind ≡ 6) × (id.0 ≡ g.id)

-- the call that C passed, with reserved members that are 0
abbrev pub IsCall : CallGiven → List ℕ → Call → Type 0
IsCall g words call = IsPlain g × HasMembers g words call
