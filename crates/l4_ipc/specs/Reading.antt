-- What can be read of the kernel between steps (this profile's own).
use Rattle.std.specs.Prelude.{ℕ, Option, option_and_then}
use Rattle.l4_threads.specs.declared.Reply.{Reply}
use Rattle.l4_threads.specs.Activities.{last_reply}
use Rattle.l4_threads.specs.Threads.{Threads, state_of}

-- the reply of a running thread's last call
abbrev pub reply_of : Threads → ℕ → Option Reply
reply_of t n = option_and_then last_reply (state_of t n)
