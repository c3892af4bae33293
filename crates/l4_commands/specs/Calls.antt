-- The calls that the lines of a script enter (this profile's own).
use Rattle.std.specs.Prelude.{ℕ, ◌+◌, ◌*◌, ◌%◌, List, []}
use Rattle.l4_fpage.specs.Rights.{RightsSet}
use Rattle.l4_threads.specs.declared.ThreadId.{ThreadId}
use Rattle.l4_threads.specs.Threads.{nilthread, anythread}
use Rattle.l4_threads.specs.Sizes.{versions, word_values}
use Rattle.l4_ipc.specs.declared.calls.Call.{Call}
use Rattle.l4_ipc.specs.declared.calls.Call.TheVariants.{Ipc as Exchanges, Fault as Faults, Unmap as Unmaps, Control as Controls}
use Rattle.l4_ipc.specs.declared.calls.Control.TheVariants.{Create, SetPager as ChangePager, Delete as End}
use Rattle.l4_commands.specs.declared.partners.Partner.{Partner}
use Rattle.l4_commands.specs.declared.partners.Partner.TheVariants.{Nil, Any, Thread as One}
use Rattle.l4_commands.specs.declared.partners.NewSpace.{NewSpace}
use Rattle.l4_commands.specs.declared.partners.NewSpace.TheVariants.{New, Of}

-- the thread id of a script's thread: its number in bits 31 to 14, and version 1; a number below 2^18 fits into these bits
abbrev pub script_id : ℕ → ThreadId
script_id number = record { 0 = number * versions % word_values + 1 }

abbrev pub partner_id : Partner → ThreadId
partner_id Nil = nilthread
partner_id Any = anythread
partner_id (One number) = script_id number

-- the id that determines the space of a new thread: its own id for a new space
abbrev pub space_id : ℕ → NewSpace → ThreadId
space_id number New = script_id number
space_id number (Of other) = script_id other

-- `thread`: creates a thread
abbrev pub create_call : ℕ → NewSpace → Partner → Call
create_call number space pager =
    Controls (Create (record { id = script_id number; space = space_id number space; pager = partner_id pager }))

-- `setpager`: changes a thread's pager
abbrev pub set_pager_call : ℕ → Partner → Call
set_pager_call number pager = Controls (ChangePager (record { id = script_id number; pager = partner_id pager }))

-- `delete`: deletes a thread
abbrev pub delete_call : ℕ → Call
delete_call number = Controls (End (script_id number))

-- `ipc`: both partners, the timeouts, the receive window and the message registers from MR0 on
abbrev pub ipc_call : Partner → Partner → ℕ → ℕ → List ℕ → Call
ipc_call to «from» timeouts window words =
    Exchanges (record { to = partner_id to; «from» = partner_id «from»; timeouts = timeouts; acceptor = window; words = record { items = words } })

-- `recv`: only a receive phase, without a timeout
abbrev pub receive_call : Partner → ℕ → Call
receive_call partner window = ipc_call Nil partner 0 window []

-- `send`: only a send phase, without a timeout
abbrev pub send_call : Partner → List ℕ → Call
send_call partner words = ipc_call partner Nil 0 0 words

-- `unmap`: the control word, and the message registers from MR0 on
abbrev pub unmap_call : ℕ → List ℕ → Call
unmap_call control words = Unmaps (record { control = control; words = record { items = words } })

-- `fault`: the fault address, the instruction pointer and the access
abbrev pub fault_call : ℕ → ℕ → RightsSet → Call
fault_call address ip access = Faults (record { address = address; ip = ip; access = access })

-- the number of root, the thread that creates and deletes threads, and changes their pagers
abbrev pub root : ℕ
root = 2
