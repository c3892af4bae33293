-- The size of pages is chosen at boot, and stays.
use Rattle.std.proofs.Common.{◌≡◌, ℕ, List, ap, Result, Ok, Err}
use Rattle.l4_threads.specs.declared.Thread.{Thread}
use Rattle.l4_ipc.specs.declared.calls.Call.{Call}
use Rattle.l4_ipc.specs.declared.calls.Call.TheVariants.{Ipc, Fault, Unmap, Control as Controls}
use Rattle.l4_ipc.specs.declared.calls.Control.TheVariants.{Create, SetPager, Delete}
use Rattle.l4_ipc.specs.declared.steps.Answer.{Answer}
use Rattle.l4_ipc.specs.declared.steps.Refused.{Refused}
use Rattle.l4_ipc.specs.declared.steps.Step.{Step}
use Rattle.l4_ipc.specs.declared.steps.Step.TheVariants.{Start, Transfer, Expire, Cancel}
use Rattle.l4_ipc.specs.Machine.{Machine}
use Rattle.l4_ipc.specs.Steps.{Steps, Starts}

started : (old : Machine) (n : ℕ) (caller : Thread) (call : Call) (ended : List ℕ) (new : Machine) → Starts old n caller call ended new → new.size ≡ old.size
started old n caller (Ipc call) ended new x = ap (λ (m : Machine). m.size) x.4
started old n caller (Fault call) ended new x = ap (λ (m : Machine). m.size) x.1
started old n caller (Unmap call) ended new x = x.5
started old n caller (Controls (Create c)) ended new x = ap (λ (m : Machine). m.size) x.3
started old n caller (Controls (SetPager c)) ended new x = ap (λ (m : Machine). m.size) x.3
started old n caller (Controls (Delete id)) ended new x = x.5.size

pub size_stays : (old : Machine) (step : Step) (answer : Result Answer Refused) (new : Machine) → Steps old step answer new → new.size ≡ old.size
size_stays old (Start n call) (Ok answer) new x = started old n x.0 call answer.ended.items new x.4
size_stays old (Start n call) (Err e) new x = ap (λ (m : Machine). m.size) x.1
size_stays old (Transfer s r) (Ok answer) new x = x.8
size_stays old (Transfer s r) (Err e) new x = ap (λ (m : Machine). m.size) x.2
size_stays old (Expire n) (Ok answer) new x = ap (λ (m : Machine). m.size) x.3
size_stays old (Expire n) (Err e) new x = ap (λ (m : Machine). m.size) x.2
size_stays old (Cancel n cause) (Ok answer) new x = ap (λ (m : Machine). m.size) x.3
size_stays old (Cancel n cause) (Err e) new x = ap (λ (m : Machine). m.size) x.2
