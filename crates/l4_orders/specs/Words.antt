-- The words by which a state of a plan is recognized (this profile's own).
use Rattle.std.specs.Prelude.{◌≡◌, ℕ, List, ◌++◌}
use Rattle.l4_keys.specs.Keys.{AreOfKernel, AreOfServers}
use Rattle.l4_keys.specs.Words.{counted, counts_words, names_words}
use Rattle.l4_orders.specs.Turns.{PlanPoint}

-- how many lines each thread has executed, the kernel, the servers, the numbers that have their seats, and the names
pub record HasWords (p : PlanPoint) (key : List ℕ) : Type 0 where
  pub kernel : List ℕ
  pub of_kernel : AreOfKernel p.machine kernel
  pub servers : List ℕ
  pub of_servers : AreOfServers p.servers servers
  pub are : key ≡ counts_words p.gone ++ kernel ++ servers ++ counted p.numbers ++ names_words p.names
