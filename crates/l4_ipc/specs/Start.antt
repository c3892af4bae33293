-- How a call starts: the refusals in their order, and what the caller does next (L4 X.2 manual: Ipc, Unmap, ThreadControl and the page
-- fault protocol; the timeouts, the fault label and the ErrorCodes are this profile's own).
use Rattle.std.specs.Prelude.{◌≡◌, ℕ, ◌+◌, ◌/◌, ◌%◌, ◌^◌, ◌==◌, ◌&&◌, ◌||◌, not, ◌⊎◌, Bool, true, false, if◌then◌else◌, List, [], take, Option, Some, None, MatchOption, Err}
use Rattle.std.specs.Option.{option_map_or}
use Rattle.l4_fpage.specs.Rights.{RightsSet, is_none, without, all_rights}
use Rattle.l4_fpage.specs.declared.fpages.Fpage.{Fpage}
use Rattle.l4_fpage.specs.declared.fpages.Fpage.TheVariants.{Nil, Complete}
use Rattle.l4_fpage.specs.Pages.{page_bytes}
use Rattle.l4_msg.specs.Tags.{untyped_of, typed_of}
use Rattle.l4_msg.specs.Words.{WindowReads, IsBadWindow}
use Rattle.l4_msg.specs.Messages.{MessageReads, MessageFails, tag_of, message_words}
use Rattle.l4_msg.specs.Protocols.{fault_message}
use Rattle.l4_msg.specs.declared.messages.Message.{Message}
use Rattle.l4_msg.specs.declared.messages.MsgFault.{MsgFault}
use Rattle.l4_msg.specs.declared.messages.MsgFault.TheVariants.{BadWindow}
use Rattle.l4_mapdb.specs.Mappings.{Mappings, rights_at}
use Rattle.l4_unmap.specs.declared.UnmapFault.{UnmapFault}
use Rattle.l4_unmap.specs.Unmap.{UnmapFails}
use Rattle.l4_threads.specs.declared.ThreadId.{ThreadId}
use Rattle.l4_threads.specs.declared.ThreadFault.{ThreadFault}
use Rattle.l4_threads.specs.declared.Later.{Later}
use Rattle.l4_threads.specs.declared.Reply.TheVariants.{Hit}
use Rattle.l4_threads.specs.Threads.{Threads, state_of, is_running, failed}
use Rattle.l4_threads.specs.Control.{create_test, set_pager_test, delete_test}
use Rattle.l4_ipc.specs.declared.calls.Call.{Call}
use Rattle.l4_ipc.specs.declared.calls.Call.TheVariants.{Ipc, Fault, Unmap, Control as Controls}
use Rattle.l4_ipc.specs.declared.calls.IpcCall.{IpcCall}
use Rattle.l4_ipc.specs.declared.calls.FaultCall.{FaultCall}
use Rattle.l4_ipc.specs.declared.calls.Control.TheVariants.{Create, SetPager, Delete}
use Rattle.l4_ipc.specs.declared.steps.Lower.TheVariants.{Message as LowerMessage, Unmap as LowerUnmap, Thread as LowerThread}
use Rattle.l4_ipc.specs.declared.steps.Refused.{Refused}
use Rattle.l4_ipc.specs.declared.steps.Refused.TheVariants.{UnknownThread, Busy, BadTimeout, Lower}
use Rattle.l4_phases.specs.declared.turns.Next.{Next}
use Rattle.l4_phases.specs.declared.turns.Next.TheVariants.{Ends, Sends}
use Rattle.l4_phases.specs.declared.turns.Sent.{Sent}
use Rattle.l4_phases.specs.Phases.{going_on, partner}
use Rattle.l4_ipc.specs.Machine.{Machine}
use Rattle.l4_fpage.specs.declared.sizes.PageSize.{PageSize}

-- WHAT THE PHASES OF AN IPC PASS ON

abbrev pub has_send : IpcCall → Bool
has_send call = not (call.to.0 == 0)

abbrev pub has_receive : IpcCall → Bool
has_receive call = not (call.«from».0 == 0)

-- the send timeout is the upper half of the timeouts word, and the receive timeout is the lower half
abbrev pub send_timeout : IpcCall → ℕ
send_timeout call = call.timeouts / 2 ^ 16

abbrev pub receive_timeout : IpcCall → ℕ
receive_timeout call = call.timeouts % 2 ^ 16

-- a timeout is never, or zero
abbrev pub is_timeout : ℕ → Bool
is_timeout timeout = (timeout == 0) || (timeout == 0x400)

-- the timeout of a phase that the call has is neither never nor zero
abbrev pub has_bad_timeout : IpcCall → Bool
has_bad_timeout call = (has_send call && not (is_timeout (send_timeout call))) || (has_receive call && not (is_timeout (receive_timeout call)))

-- the registers of a message: the tag, and as many more as the tag counts
abbrev pub counted_words : List ℕ → List ℕ
counted_words words = take (1 + untyped_of (tag_of words) + typed_of (tag_of words)) words

-- the registers as a message; without a send phase they are not read
abbrev pub IsSent : Bool → List ℕ → Sent → Type 0
IsSent true words sent = (message : Message) × MessageReads words message × (sent.words.items ≡ counted_words words) × (sent.items ≡ message.items)
IsSent false words sent = (sent.words.items ≡ []) × (sent.items.items ≡ [])

-- the receive window; without a receive phase it is nil
abbrev pub IsWindow : Bool → ℕ → Fpage → Type 0
IsWindow true acceptor window = WindowReads acceptor window
IsWindow false acceptor window = window ≡ Nil

-- no word of the call is refused, and this is the message that it sends and the window in which it receives
pub record IsAccepted (call : IpcCall) (sent : Sent) (window : Fpage) : Type 0 where
  pub timeouts : has_bad_timeout call ≡ false
  pub sends : IsSent (has_send call) call.words.items sent
  pub receives : IsWindow (has_receive call) call.acceptor window

-- REFUSALS

-- the message is refused; or it is valid, and the window is not
abbrev pub PhaseFails : IpcCall → MsgFault → Type 0
PhaseFails call fault =
    ((has_send call ≡ true) × MessageFails call.words.items fault)
    ⊎ ((sent : Sent) × IsSent (has_send call) call.words.items sent × (has_receive call ≡ true) × IsBadWindow call.acceptor × (fault ≡ BadWindow))

-- the first refusal of an Ipc: a timeout, then the message, then the window, each for a phase that exists
abbrev pub IpcRefuses : IpcCall → Refused → Type 0
IpcRefuses call e =
    ((has_bad_timeout call ≡ true) × (e ≡ BadTimeout))
    ⊎ ((has_bad_timeout call ≡ false) × ((fault : MsgFault) × PhaseFails call fault × (e ≡ Lower (LowerMessage fault))))

-- the refusal of a call of this running thread, without regard to memory
abbrev pub CallRefuses : Machine → ℕ → Call → Refused → Type 0
CallRefuses m n (Ipc call) e = IpcRefuses call e
CallRefuses m n (Fault call) e = ⊥
CallRefuses m n (Unmap call) e = (fault : UnmapFault) × UnmapFails call.control call.words.items fault × (e ≡ Lower (LowerUnmap fault))
CallRefuses m n (Controls (Create c)) e = (fault : ThreadFault) × (create_test m.threads n c.id c.space ≡ Err fault) × (e ≡ Lower (LowerThread fault))
CallRefuses m n (Controls (SetPager c)) e = (fault : ThreadFault) × (set_pager_test m.threads n c.id ≡ Err fault) × (e ≡ Lower (LowerThread fault))
CallRefuses m n (Controls (Delete id)) e = (fault : ThreadFault) × (delete_test m.threads n id ≡ Err fault) × (e ≡ Lower (LowerThread fault))

-- a thread that isn't running is busy
abbrev pub RefusesIn : Bool → Machine → ℕ → Call → Refused → Type 0
RefusesIn true m n call e = CallRefuses m n call e
RefusesIn false m n call e = e ≡ Busy

-- the first refusal of a Start that applies, without regard to memory
abbrev pub StartRefuses : Machine → ℕ → Call → Refused → Type 0
StartRefuses m n call e = MatchOption (state_of m.threads n) (e ≡ UnknownThread) (λ state. RefusesIn (is_running state) m n call e)

-- WHAT THE CALLER DOES NEXT

-- the receive phase of a call, if it has one
abbrev pub later_of : IpcCall → Fpage → Option Later
later_of call window = if has_receive call then Some (record { «from» = call.«from»; window = window; expires = receive_timeout call == 0x400 }) else None

-- An Ipc starts: it sends to its partner, if that exists, and fails if it does not. Without a send phase it receives.
abbrev pub ipc_next : Threads → ℕ → IpcCall → Sent → Fpage → Next
ipc_next t n call sent window =
    if has_send call then
    option_map_or (λ to. Sends (record { words = sent.words; items = sent.items; to = to; expires = send_timeout call == 0x400; «then» = later_of call window; fault = false }))
    (partner t n call.to) (Ends (failed false 4))
    else going_on t (later_of call window) false

-- the page is present in the space, with at least one right and all rights of the access
abbrev pub has_page : PageSize → Mappings → ℕ → FaultCall → Bool
has_page size s space call = holds (rights_at s (record { space = space; page = call.address / page_bytes size })) where
  holds : RightsSet → Bool
  holds rights = is_none (without call.access rights) && not (is_none rights)

-- the words with which the fault is reported to the pager: those of the message of a page fault
abbrev pub fault_words : FaultCall → List ℕ
fault_words call = message_words (fault_message (record { address = call.address; ip = call.ip; access = call.access }))

-- a fault starts: it is a hit, or it is sent to the pager, from which the thread then receives
abbrev pub fault_next : PageSize → Threads → Mappings → ℕ → ℕ → ThreadId → FaultCall → Next
fault_next size t s n space pager call =
    if has_page size s space call then Ends Hit else
    option_map_or (λ to. Sends (record { words = record { items = fault_words call }; items = record { items = [] }; to = to; expires = false; «then» = Some (record { «from» = pager; window = Complete all_rights; expires = false }); fault = true }))
    (partner t n pager) (Ends (failed true 4))
