-- The calls that threads usually make (L4 X.2 manual, IPC: Call, Send, Receive, ReplyWait and Wait; Unmap). That every timeout is never or
-- zero is this profile's own.
use Rattle.std.specs.Prelude.{⊤, ◌≡◌, ℕ, ◌+◌, ◌*◌, ◌^◌, Bool, false, List}
use Rattle.l4_fpage.specs.Fpages.{fpage_word, ReadsAs}
use Rattle.l4_fpage.specs.declared.fpages.Fpage.{Fpage}
use Rattle.l4_threads.specs.declared.ThreadId.{ThreadId}
use Rattle.l4_unmap.specs.Unmap.{UnmapReads, with_own}
use Rattle.l4_ipc.specs.declared.calls.Call.{Call}
use Rattle.l4_ipc.specs.declared.calls.Call.TheVariants.{Ipc, Unmap}
use Rattle.l4_ipc.specs.declared.calls.IpcCall.{IpcCall}
use Rattle.l4_ipc.specs.declared.constructors.Timeout.{Timeout}
use Rattle.l4_ipc.specs.declared.constructors.Timeout.TheVariants.{Never, Zero}
use Rattle.l4_ipc.specs.Start.{has_bad_timeout}

-- the timeout as a half of the timeouts word
abbrev pub timeout_bits : Timeout → ℕ
timeout_bits Never = 0
timeout_bits Zero = 0x400

-- the Ipc of these phases, with the send timeout, the receive timeout, the receive window and the message registers; nilthread means that
-- there is no such phase
abbrev pub ipc_call : ThreadId → ThreadId → Timeout → Timeout → Fpage → List ℕ → IpcCall
ipc_call to «from» send receive window words =
    record { to = to; «from» = «from»; timeouts = timeout_bits send * 2 ^ 16 + timeout_bits receive; acceptor = fpage_word window; words = record { items = words } }

-- no timeout of the call is refused
abbrev pub HasGoodTimeouts : Call → Type 0
HasGoodTimeouts (Ipc call) = has_bad_timeout call ≡ false
HasGoodTimeouts other = ⊤

-- the word is read as the fpage
abbrev pub IsWordOf : Fpage → ℕ → Type 0
IsWordOf fpage word = ReadsAs word fpage

-- the call is an Unmap that is read as exactly these fpages, and that includes the caller's own pages if `own` is true
abbrev pub IsUnmapOf : Bool → List Fpage → Call → Type 0
IsUnmapOf own fpages (Unmap call) = UnmapReads call.control call.words.items fpages × (with_own call.control ≡ own)
IsUnmapOf own fpages other = ⊥
