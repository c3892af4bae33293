-- What answers lack: memory, or room in the history (this profile's own).
use Rattle.std.specs.Prelude.{◌≡◌, ℕ, List, [], ◌∷◌, if◌then◌else◌, codes, bytes_eq}
use Rattle.l4_ipc.specs.declared.steps.Outcome.TheVariants.{NoMemory}
use Rattle.l4_answers.specs.Reports.{Report, RefusedLine, RefusedAct, Transferred}
use Rattle.l4_orders.specs.declared.lacking.Lack.{Lack}
use Rattle.l4_orders.specs.declared.lacking.Lack.TheVariants.{Nothing, Memory, History}
use Rattle.l4_orders.specs.declared.lacking.Lacking.{Lacking}

-- what a refusal with this code lacks
abbrev pub lack_of_code : List ℕ → Lack
lack_of_code name = if bytes_eq name (codes "NoMemory") then Memory else (if bytes_eq name (codes "L1") then History else Nothing)

-- what an answer lacks
abbrev pub lack_of : Report → Lack
lack_of (RefusedLine line refusal) = lack_of_code refusal.name
lack_of (RefusedAct thread refusal) = lack_of_code refusal.name
lack_of (Transferred sender receiver NoMemory) = Memory
lack_of report = Nothing

-- a lack, unless there was one before
abbrev pub then_lack : Lack → Lack → Lack
then_lack Nothing next = next
then_lack Memory next = Memory
then_lack History next = History

-- the first lack of these answers, unless there was one before
abbrev pub first_lack : Lack → List Report → Lack
first_lack lack [] = lack
first_lack lack (report ∷ reports) = first_lack (then_lack lack (lack_of report)) reports

-- the sink noted the first lack of these answers
abbrev pub HasNoted : Lacking → Lacking → List Report → Type 0
HasNoted first now told = now.lack ≡ first_lack first.lack told
