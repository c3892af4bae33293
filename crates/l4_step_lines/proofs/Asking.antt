-- A request done or answered.
use Rattle.std.proofs.Common.{◌≡◌, ℕ, Bool, List, [], Option, Result, sym, ap, subst, refl}
use Rattle.l4_threads.specs.declared.Reply.{Reply as ThreadReply}
use Rattle.l4_ipc.specs.declared.steps.Answer.{Answer}
use Rattle.l4_ipc.specs.declared.steps.Refused.{Refused}
use Rattle.l4_ipc.specs.declared.steps.Step.{Step}
use Rattle.l4_ipc.specs.Machine.{Machine}
use Rattle.l4_ipc.specs.Reading.{reply_of}
use Rattle.l4_ipc.specs.Steps.{Steps}
use Rattle.l4_text.specs.Streams.{Tells}
use Rattle.l4_text.proofs.Telling.{tells_is}
use Rattle.l4_step_lines.specs.declared.requests.Request.{Request}
use Rattle.l4_step_lines.specs.declared.requests.Request.TheVariants.{Do, Reply}
use Rattle.l4_step_lines.specs.Answers.{answer_lines, reply_line}
use Rattle.l4_step_lines.specs.Lists.{Answers}

-- a step was done
pub answers_step : (old new : Machine) (request : Request) (step : Step) (written b : Option (List ℕ)) (before t : List ℕ × Bool) → request ≡ Do step
    → (answer : Result Answer Refused) × Steps old step answer new × Tells written b before t (answer_lines [] answer new)
    → (text : List ℕ) × Answers old request text new × Tells written b before t text
answers_step old new request step written b before t is done = (
  answer_lines [] done.0 new,
  subst (λ (r : Request). Answers old r (answer_lines [] done.0 new) new) (sym is) (done.0, done.1, refl),
  done.2,
)

-- the reply of a thread was told
pub answers_reply : (old : Machine) (request : Request) (thread : ℕ) (reply : Option ThreadReply) (written b : Option (List ℕ)) (before t : List ℕ × Bool) → request ≡ Reply thread
    → reply ≡ reply_of old.threads thread → Tells written b before t (reply_line reply)
    → (text : List ℕ) × Answers old request text old × Tells written b before t text
answers_reply old request thread reply written b before t is same tells = (
  reply_line (reply_of old.threads thread),
  subst (λ (r : Request). Answers old r (reply_line (reply_of old.threads thread)) old) (sym is) (refl, refl),
  tells_is written b before t _ _ (ap reply_line same) tells,
)
