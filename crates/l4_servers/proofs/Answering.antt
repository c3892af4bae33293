-- An answer of sigma0's.
use Rattle.std.proofs.Common.{◌≡◌, ℕ, List, inl, refl, subst}
use Rattle.std.specs.Ordering.{nat_cmp}
use Rattle.std.specs.FinMap as fin
use Rattle.std.specs.FinSet as set
use Rattle.l4_msg.specs.declared.messages.Message.{Message}
use Rattle.l4_threads.specs.declared.ThreadId.{ThreadId}
use Rattle.l4_threads.specs.Threads.{Threads}
use Rattle.l4_pager.specs.declared.regions.Entry.{Entry}
use Rattle.l4_sigma0.specs.Owners.{Owners, Answers as GrantsFrames}
use Rattle.l4_servers.specs.Servers.{Servers, servers}
use Rattle.l4_servers.specs.Acting.{sigma0, space_of_sender, Answers}
use Rattle.l4_pager.specs.Regions.{Regions}

pub by_sigma0 : (t : Threads) (s : Servers) (o new : Owners) (tables : fin.FinMap nat_cmp Regions) (served : set.FinSet nat_cmp) (thread : ℕ) (sender : ThreadId) (space : ℕ) (m answer : Message)
    → servers o tables served ≡ s → thread ≡ sigma0 → space ≡ space_of_sender t sender → GrantsFrames o space m answer new → Answers t s thread sender m answer (servers new tables served)
by_sigma0 t s o new tables served thread sender space m answer view is space_is grants =
    subst (λ (x : Servers). Answers t x thread sender m answer (servers new tables served)) view
    (inl (is, (new, subst (λ (k : ℕ). GrantsFrames o k m answer new) space_is grants, refl)))
