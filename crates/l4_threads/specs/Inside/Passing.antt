-- What becomes of the table where a message is taken. (this profile's own)
use Rattle.std.specs.Prelude.{◌≡◌, ℕ, drop, Some, slice_get, slice_set}
use Rattle.l4_threads.specs.Threads.{message_of}
use Rattle.l4_threads.specs.Inside.Entries.{Entries, found, changed_in, in_state}
use Rattle.l4_threads.specs.declared.Envelope.{Envelope}
use Rattle.l4_threads.specs.declared.Sending.{Sending}
use Rattle.l4_threads.specs.declared.State.{State}
use Rattle.l4_threads.specs.declared.State.TheVariants.{Running, Sending as Sends}
use Rattle.l4_threads.specs.declared.Reply.TheVariants.{Ipc}
use Rattle.l4_threads.specs.declared.Thread.{Thread}

-- the state of a thread that has taken what was sent
abbrev pub taken : Envelope → Sending → State
taken envelope sending = Running (Some (Ipc (message_of envelope (drop 1 sending.words.items))))

-- what the thread at the one place sends is the reply of the thread at the other
abbrev pub HandsOver : Entries → ℕ → ℕ → Envelope → Entries → Type 0
HandsOver old «from» at envelope new =
    (sender receiver : ℕ) (sends takes : Thread) (sending : Sending) → slice_get old «from» ≡ Some (sender, sends) → sends.state ≡ Sends sending → slice_get old at ≡ Some (receiver, takes)
    → new ≡ slice_set old at (receiver, in_state (taken envelope sending) takes)

-- what the thread of the one number sends is the reply of the thread of the other
abbrev pub Passes : Entries → ℕ → ℕ → Envelope → Entries → Type 0
Passes old sender receiver envelope new =
    (sends : Thread) (sending : Sending) → found old sender ≡ Some sends → sends.state ≡ Sends sending → new ≡ changed_in old receiver (in_state (taken envelope sending))
