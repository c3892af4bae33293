-- What a line of a list asks for (this profile's own).
use Rattle.std.specs.Prelude.{ℕ, nat_le, nat_lt, List, [], ◌∷◌, length, Option, Some, None, option_map, if◌then◌else◌, codes}
use Rattle.std.specs.Str.{bytes_eq}
use Rattle.l4_fpage.specs.Rights.{RightsSet, set_of_bits}
use Rattle.l4_msg.specs.Sizes.{max_words}
use Rattle.l4_ipc.specs.declared.calls.Control.{Control}
use Rattle.l4_ipc.specs.declared.calls.Control.TheVariants.{Create, SetPager, Delete}
use Rattle.l4_ipc.specs.declared.calls.Call.{Call}
use Rattle.l4_ipc.specs.declared.calls.Call.TheVariants.{Ipc, Fault, Unmap, Control as Controls}
use Rattle.l4_ipc.specs.declared.steps.Step.{Step}
use Rattle.l4_ipc.specs.declared.steps.Step.TheVariants.{Start, Transfer, Expire, Cancel}
use Rattle.l4_step_lines.specs.declared.requests.Request.{Request}
use Rattle.l4_step_lines.specs.declared.requests.Request.TheVariants.{Do, Enabled, Reply, Space, Pages}
use Rattle.l4_text.specs.Grammar.{◌>>=◌, numbers_of}
use Rattle.l4_text.specs.Numbers.{number_of}
use Rattle.l4_ipc.specs.declared.steps.CancelCause.TheVariants.{Timeout, Canceled}

-- the only number
abbrev pub only_of : List ℕ → Option ℕ
only_of (n ∷ []) = Some n
only_of ns = None

-- words that message registers hold
abbrev pub registers_of : List ℕ → Option (List ℕ)
registers_of words = if nat_le (length words) max_words then Some words else None

-- rights as the sum of r (4), w (2) and x (1)
abbrev pub access_of : ℕ → Option RightsSet
access_of sum = if nat_lt sum 8 then Some (set_of_bits sum) else None

-- TO FROM TIMEOUTS ACCEPTOR WORD..
abbrev pub ipc_of : List ℕ → Option Call
ipc_of (to ∷ «from» ∷ timeouts ∷ acceptor ∷ words) = registers_of words >>= λ ws. Some (Ipc (record { to = record { 0 = to }; «from» = record { 0 = «from» }; timeouts = timeouts; acceptor = acceptor; words = record { items = ws } }))
ipc_of ns = None

-- ADDRESS IP ACCESS
abbrev pub fault_of : List ℕ → Option Call
fault_of (address ∷ ip ∷ sum ∷ []) = access_of sum >>= λ rights. Some (Fault (record { address = address; ip = ip; access = rights }))
fault_of ns = None

-- CONTROL WORD..
abbrev pub unmap_of : List ℕ → Option Call
unmap_of (control ∷ words) = registers_of words >>= λ ws. Some (Unmap (record { control = control; words = record { items = ws } }))
unmap_of ns = None

-- ID SPACE PAGER
abbrev pub create_of : List ℕ → Option Control
create_of (id ∷ space ∷ pager ∷ []) = Some (Create (record { id = record { 0 = id }; space = record { 0 = space }; pager = record { 0 = pager } }))
create_of ns = None

-- ID PAGER
abbrev pub set_pager_of : List ℕ → Option Control
set_pager_of (id ∷ pager ∷ []) = Some (SetPager (record { id = record { 0 = id }; pager = record { 0 = pager } }))
set_pager_of ns = None

-- SENDER RECEIVER
abbrev pub transfer_of : List ℕ → Option Step
transfer_of (sender ∷ receiver ∷ []) = Some (Transfer sender receiver)
transfer_of ns = None

-- a control of threads, by the word in front of its numbers
abbrev pub control_of : List ℕ → List ℕ → Option Control
control_of kind ns =
    if bytes_eq kind (codes "create") then create_of ns
    else (if bytes_eq kind (codes "setpager") then set_pager_of ns
    else (if bytes_eq kind (codes "delete") then only_of ns >>= (λ id. Some (Delete (record { 0 = id })))
    else None))

-- a call, by the word in front of its numbers
abbrev pub call_of : List ℕ → List ℕ → Option Call
call_of kind ns =
    if bytes_eq kind (codes "ipc") then ipc_of ns
    else (if bytes_eq kind (codes "fault") then fault_of ns
    else (if bytes_eq kind (codes "unmap") then unmap_of ns
    else control_of kind ns >>= (λ control. Some (Controls control))))

-- N KIND NUMBER..
abbrev pub start_of : List (List ℕ) → Option Step
start_of (caller ∷ kind ∷ tokens) = number_of caller >>= λ n. numbers_of tokens >>= λ ns. call_of kind ns >>= λ call. Some (Start n call)
start_of tokens = None

-- another step or a question, by the word in front of its numbers
abbrev pub named_of : List ℕ → List ℕ → Option Request
named_of name ns =
    if bytes_eq name (codes "transfer") then option_map Do (transfer_of ns)
    else (if bytes_eq name (codes "expire") then option_map (λ n. Do (Expire n)) (only_of ns)
    else (if bytes_eq name (codes "timeout") then option_map (λ n. Do (Cancel n Timeout)) (only_of ns)
    else (if bytes_eq name (codes "cancel") then option_map (λ n. Do (Cancel n Canceled)) (only_of ns)
    else (if bytes_eq name (codes "reply") then option_map Reply (only_of ns)
    else (if bytes_eq name (codes "space") then option_map Space (only_of ns)
    else (if bytes_eq name (codes "pages") then option_map Pages (only_of ns)
    else (if bytes_eq name (codes "enabled") then (if nat_le (length ns) 0 then Some Enabled else None)
    else None)))))))

-- what the tokens of a line ask for, None where they can't be read
abbrev pub request_of : List (List ℕ) → Option Request
request_of [] = None
request_of (name ∷ tokens) = if bytes_eq name (codes "start") then option_map Do (start_of tokens) else numbers_of tokens >>= named_of name
