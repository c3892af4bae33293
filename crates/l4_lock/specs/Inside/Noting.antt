-- How a book changes with each step (this profile's own).
use Rattle.std.specs.Prelude.{ℕ, ◌+◌, if◌then◌else◌, List, [], ◌∷◌, length, map, Option, Some, None, false}
use Rattle.std.specs.Option.{option_map, option_map_or}
use Rattle.l4_threads.specs.declared.Reply.{Reply}
use Rattle.l4_threads.specs.declared.Reply.TheVariants.{Gone}
use Rattle.l4_ipc.specs.declared.steps.NextStep.{NextStep}
use Rattle.l4_ipc.specs.NextSteps.{answer_of}
use Rattle.l4_ipc.specs.Machine.{Machine}
use Rattle.l4_ipc.specs.Reading.{reply_of}
use Rattle.l4_lock.specs.declared.entries.Pending.{Pending}
use Rattle.l4_lock.specs.Books.{Book, pending_count, is_among, has_ended}

-- the number of calls that were begun for the book's number
abbrev pub started_by : Book → ℕ
started_by b = length b.receipts + pending_count b.pending

-- the reply of the thread's last call, right after a step that ended it
abbrev pub reply_in : Machine → ℕ → Reply
reply_in m n = option_map_or (λ reply. reply) (reply_of m.threads n) Gone

-- a pending call after the step whose entry is at this place and in which these calls ended
abbrev pub noted_call : Machine → List ℕ → ℕ → ℕ → Pending → Pending
noted_call m ended place number o =
    option_map_or (λ e. o) o.ended
    (if is_among number ended then record o { ended = Some (record { entry = place; reply = reply_in m number }) } else o)

abbrev pub noted : Machine → List ℕ → ℕ → Book → Book
noted m ended place b = record b { pending = option_map (noted_call m ended place b.number) b.pending }

-- the books after the next steps are recorded in them; the entries of the steps begin at this place
abbrev pub noted_steps : Machine → ℕ → List NextStep → List Book → List Book
noted_steps m place [] books = books
noted_steps m place (next ∷ steps) books = noted_steps m (place + 1) steps (map (noted m (answer_of next).ended.items place) books)
