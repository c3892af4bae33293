-- Reading calls, answers, replies and places from words: the value, and the words after it if there may be others (this profile's own).
use Rattle.std.specs.Prelude.{ℕ, zero, suc, ◌+◌, ◌*◌, ◌^◌, List, length, Option, Some, None, nat_lt, if◌then◌else◌}
use Rattle.l4_fpage.specs.Rights.{set_of_bits}
use Rattle.l4_msg.specs.Sizes.{max_words}
use Rattle.l4_threads.specs.Sizes.{max_threads}
use Rattle.l4_threads.specs.declared.Reply.{Reply}
use Rattle.l4_threads.specs.declared.Reply.TheVariants.{Ipc as ByIpc, Hit, Answered, FaultFailed, Unmapped, Controlled, Gone}
use Rattle.l4_ipc.specs.declared.calls.Call.{Call}
use Rattle.l4_ipc.specs.declared.calls.Call.TheVariants.{Ipc, Fault, Unmap, Control as Controls}
use Rattle.l4_ipc.specs.declared.calls.IpcCall.{IpcCall}
use Rattle.l4_ipc.specs.declared.calls.FaultCall.{FaultCall}
use Rattle.l4_ipc.specs.declared.calls.UnmapCall.{UnmapCall}
use Rattle.l4_ipc.specs.declared.calls.Create.{Create as ACreate}
use Rattle.l4_ipc.specs.declared.calls.SetPager.{SetPager as ASetPager}
use Rattle.l4_ipc.specs.declared.calls.Control.TheVariants.{Create, SetPager, Delete}
use Rattle.l4_ipc.specs.declared.steps.Outcome.{Outcome}
use Rattle.l4_ipc.specs.declared.steps.Outcome.TheVariants.{Started, Done, NoWindow, Entangled, NoMemory, Expired, Canceled}
use Rattle.l4_ipc.specs.declared.steps.Answer.{Answer}
use Rattle.l4_journal.specs.Words.{◌>>=◌, word_at, words_at}

-- a list of all remaining words, if there are no more than the limit
unfoldable pub list_at : ℕ → List ℕ → Option (List ℕ)
list_at limit words = if nat_lt limit (length words) then None else Some words

-- a list after its length, if that is no more than the limit
unfoldable pub counted_at : ℕ → List ℕ → Option (List ℕ × List ℕ)
counted_at limit words = do
  count ← word_at words
  front ← words_at count.0 count.1
  list ← list_at limit front.0
  Some (list, front.1)

abbrev pub ipc_at : List ℕ → Option IpcCall
ipc_at words = do
  to ← word_at words
  partner ← word_at to.1
  timeouts ← word_at partner.1
  acceptor ← word_at timeouts.1
  message ← list_at max_words acceptor.1
  Some (record { to = record { 0 = to.0 }; «from» = record { 0 = partner.0 }; timeouts = timeouts.0; acceptor = acceptor.0; words = record { items = message } })

abbrev pub fault_at : List ℕ → Option FaultCall
fault_at words = do
  address ← word_at words
  ip ← word_at address.1
  access ← word_at ip.1
  if nat_lt access.0 8 then Some (record { address = address.0; ip = ip.0; access = set_of_bits access.0 }) else None

abbrev pub unmap_at : List ℕ → Option UnmapCall
unmap_at words = do
  control ← word_at words
  fpages ← list_at max_words control.1
  Some (record { control = control.0; words = record { items = fpages } })

abbrev pub create_at : List ℕ → Option ACreate
create_at words = do
  id ← word_at words
  space ← word_at id.1
  pager ← word_at space.1
  Some (record { id = record { 0 = id.0 }; space = record { 0 = space.0 }; pager = record { 0 = pager.0 } })

abbrev pub set_pager_at : List ℕ → Option ASetPager
set_pager_at words = do
  id ← word_at words
  pager ← word_at id.1
  Some (record { id = record { 0 = id.0 }; pager = record { 0 = pager.0 } })

-- the call with this tag and these fields
abbrev pub call_of : ℕ → List ℕ → Option Call
call_of zero words = ipc_at words >>= (λ call. Some (Ipc call))
call_of (suc zero) words = fault_at words >>= (λ call. Some (Fault call))
call_of (suc (suc zero)) words = unmap_at words >>= (λ call. Some (Unmap call))
call_of (suc (suc (suc zero))) words = create_at words >>= (λ create. Some (Controls (Create create)))
call_of (suc (suc (suc (suc zero)))) words = set_pager_at words >>= (λ set. Some (Controls (SetPager set)))
call_of (suc (suc (suc (suc (suc zero))))) words = word_at words >>= (λ id. Some (Controls (Delete (record { 0 = id.0 }))))
call_of (suc (suc (suc (suc (suc (suc tag)))))) words = None

abbrev pub outcome_of : ℕ → Option Outcome
outcome_of zero = Some Started
outcome_of (suc zero) = Some Done
outcome_of (suc (suc zero)) = Some NoWindow
outcome_of (suc (suc (suc zero))) = Some Entangled
outcome_of (suc (suc (suc (suc zero)))) = Some NoMemory
outcome_of (suc (suc (suc (suc (suc zero))))) = Some Expired
outcome_of (suc (suc (suc (suc (suc (suc zero)))))) = Some Canceled
outcome_of (suc (suc (suc (suc (suc (suc (suc word))))))) = None

abbrev pub outcome_at : List ℕ → Option (Outcome × List ℕ)
outcome_at words = do
  word ← word_at words
  outcome ← outcome_of word.0
  Some (outcome, word.1)

abbrev pub answer_at : List ℕ → Option (Answer × List ℕ)
answer_at words = do
  outcome ← outcome_at words
  ended ← counted_at max_threads outcome.1
  Some (record { outcome = outcome.0; ended = record { items = ended.0 } }, ended.1)

-- an Ipc's reply after its tag
abbrev pub received_at : List ℕ → Option (Reply × List ℕ)
received_at words = do
  tag ← word_at words
  error ← word_at tag.1
  sender ← word_at error.1
  message ← counted_at max_words sender.1
  Some (ByIpc (record { tag = tag.0; error = error.0; «from» = record { 0 = sender.0 }; words = record { items = message.0 } }), message.1)

-- a reply after its tag
abbrev pub reply_of : ℕ → List ℕ → Option (Reply × List ℕ)
reply_of zero words = received_at words
reply_of (suc zero) words = Some (Hit, words)
reply_of (suc (suc zero)) words = Some (Answered, words)
reply_of (suc (suc (suc zero))) words = do
  error ← word_at words
  Some (FaultFailed error.0, error.1)
reply_of (suc (suc (suc (suc zero)))) words = Some (Unmapped, words)
reply_of (suc (suc (suc (suc (suc zero))))) words = Some (Controlled, words)
reply_of (suc (suc (suc (suc (suc (suc zero)))))) words = Some (Gone, words)
reply_of (suc (suc (suc (suc (suc (suc (suc tag))))))) words = None

unfoldable pub reply_at : List ℕ → Option (Reply × List ℕ)
reply_at words = do
  tag ← word_at words
  reply_of tag.0 tag.1

-- a place, from its lower and its upper word
abbrev pub place_at : List ℕ → Option (ℕ × List ℕ)
place_at words = do
  lower ← word_at words
  upper ← word_at lower.1
  Some (lower.0 + 2 ^ 32 * upper.0, upper.1)
