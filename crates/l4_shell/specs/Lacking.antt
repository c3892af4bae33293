-- Answers that report that memory ran out, or that the history is full (this profile's own).
use Rattle.std.specs.Prelude.{◌≡◌, ℕ, Bool, true, false, ◌||◌, List, [], ◌∷◌, codes, bytes_eq}
use Rattle.l4_ipc.specs.declared.steps.Outcome.TheVariants.{NoMemory}
use Rattle.l4_answers.specs.Reports.{Report, RefusedLine, RefusedAct, Transferred}

-- a refusal with this code says so
abbrev pub lacks_by_code : List ℕ → Bool
lacks_by_code name = bytes_eq name (codes "NoMemory") || bytes_eq name (codes "L1")

-- an answer says so
abbrev pub lacks : Report → Bool
lacks (RefusedLine line refusal) = lacks_by_code refusal.name
lacks (RefusedAct thread refusal) = lacks_by_code refusal.name
lacks (Transferred sender receiver NoMemory) = true
lacks report = false

-- none of these answers says so
abbrev pub LacksNothing : List Report → Type 0
LacksNothing [] = Unit {0}
LacksNothing (report ∷ reports) = (lacks report ≡ false) × LacksNothing reports
