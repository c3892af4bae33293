-- A thread whose call ended in a step has its reply right after it.
use Rattle.std.proofs.Common.{ℕ, Option, Some, None, Ok, Contains, refl}
use Rattle.std.specs.Option.{option_map_or, option_and_then}
use Rattle.l4_threads.specs.declared.Reply.{Reply}
use Rattle.l4_threads.specs.declared.Reply.TheVariants.{Gone}
use Rattle.l4_threads.specs.declared.State.{State}
use Rattle.l4_threads.specs.declared.State.TheVariants.{Running, Sending as IsSender, Receiving as IsReceiver}
use Rattle.l4_threads.specs.Threads.{state_of}
use Rattle.l4_ipc.specs.declared.steps.Answer.{Answer}
use Rattle.l4_ipc.specs.declared.steps.Step.{Step}
use Rattle.l4_ipc.specs.Machine.{Machine}
use Rattle.l4_threads.specs.Activities.{last_reply}
use Rattle.l4_ipc.specs.Steps.{Steps}
use Rattle.l4_ipc.proofs.Waiting.{IsOver, over}
use Rattle.l4_lock.specs.Receipts.{Says, Replied}
use Rattle.l4_lock.specs.Inside.Noting.{reply_in}

says : (o : Option State) → IsOver o → Says o (option_map_or (λ (reply : Reply). reply) (option_and_then last_reply o) Gone)
says None h = refl
says (Some (Running None)) h = absurd h
says (Some (Running (Some reply))) h = refl
says (Some (IsSender s)) h = absurd h
says (Some (IsReceiver r)) h = absurd h

pub ended_replied : (old new : Machine) (step : Step) (answer : Answer) (n : ℕ) → Steps old step (Ok answer) new → Contains answer.ended.items n → Replied new n (reply_in new n)
ended_replied old new step answer n s among = says (state_of new.threads n) (over old new step answer n s among)
