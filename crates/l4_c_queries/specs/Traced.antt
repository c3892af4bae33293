-- The provenance of the pages of a locked kernel, as C gets it (this profile's own).
use Rattle.std.specs.Prelude.{◌≡◌, ◌⊎◌, ◌&&◌, ℕ, Bool, true, false, nat_eq, List, [], ◌∷◌, length, map, codes, Option, None, Some}
use Rattle.l4_mapdb.specs.declared.Place.{Place}
use Rattle.l4_ipc.specs.Machine.{Machine}
use Rattle.l4_record.specs.declared.links.ChainLink.{ChainLink}
use Rattle.l4_record.specs.Chains.{IsProvenance, IsAbsent}
use Rattle.l4_record.specs.Replays.{IsBootWith, IsReplayed}
use Rattle.l4_lock.specs.Locked.{Lock}
use Rattle.l4_seated_lock.specs.Seated.{IsNotTraced}
use Rattle.l4_seated_lock.specs.declared.faults.TraceFault.{TraceFault}
use Rattle.l4_refusals.specs.Texts.{spelled}
use Rattle.l4_c_values.specs.Linked.{link_result, link_given, fault_code, fault_carries, chain_result}
use Rattle.l4_c_values.specs.declared.links.ChainResult.{ChainResult}
use Rattle.l4_c_values.specs.declared.links.Link.{Link}
use Rattle.l4_c_queries.specs.Placed.{placed}
use Rattle.l4_c_queries.specs.declared.tracing.Verdict.{Verdict}

-- the result of a check: the number of the reason why it does not hold, or 0, and the number that this carries
abbrev pub verdict_of : ℕ → ℕ → Verdict
verdict_of code number = record { refusal = code; detail = number }

-- the machine that the locked kernel was at boot
abbrev pub IsBootOf : Lock → Machine → Type 0
IsBootOf l boot = IsBootWith l.frames l.kernel.size boot

-- The page is present: its provenance in the history is written, as far as there is room, and all its links are counted. Or it is absent, or
-- entries were handed out, or the history is not replayed, and nothing is written.
abbrev pub TracesPage : Lock → Place → List Link → ChainResult → List Link → Type 0
TracesPage l place old r new =
    ((boot : Machine) × (links : List ChainLink) × IsBootOf l boot × IsProvenance boot l.history place links
    × (r ≡ chain_result 0 0 1 (length links)) × (new ≡ placed (map link_result links) old))
    ⊎ ((boot : Machine) × IsBootOf l boot × IsAbsent boot l.history place × (r ≡ chain_result 0 0 0 0) × (new ≡ old))
    ⊎ ((fault : TraceFault) × IsNotTraced l fault
    × (r ≡ chain_result (fault_code fault) (fault_carries fault) 0 0) × (new ≡ old))

-- the same for a page of a space in a handle's lock; an empty handle is refused (B1)
abbrev pub TellsProvenance : Option Lock → ℕ → ℕ → List Link → ChainResult → List Link → Type 0
TellsProvenance None space page old r new = (r ≡ chain_result (spelled (codes "B1")) 0 0 0) × (new ≡ old)
TellsProvenance (Some l) space page old r new = TracesPage l (record { space = space; page = page }) old r new

-- the reserved member of each link is 0
abbrev pub are_plain : List Link → Bool
are_plain [] = true
are_plain (link ∷ links) = nat_eq link.reserved 0 && are_plain links

-- The links are the page's provenance in the history, or the whole history is replayed and they are not (L7), or entries were handed out, or
-- the history is not replayed, or there was no memory for the links.
abbrev pub ProvesLinks : Lock → Place → List Link → Verdict → Type 0
ProvesLinks l place links v =
    ((boot : Machine) × IsBootOf l boot × IsProvenance boot l.history place (map link_given links) × (v ≡ verdict_of 0 0))
    ⊎ ((boot : Machine) × IsBootOf l boot × IsReplayed boot l.history × ¬ (IsProvenance boot l.history place (map link_given links)) × (v ≡ verdict_of (spelled (codes "L7")) 0))
    ⊎ ((fault : TraceFault) × IsNotTraced l fault × (v ≡ verdict_of (fault_code fault) (fault_carries fault)))
    ⊎ (v ≡ verdict_of (spelled (codes "NoMemory")) 0)

-- the same for links whose reserved members are 0; others are refused (B3)
abbrev pub JudgesLinks : Lock → Place → List Link → Verdict → Type 0
JudgesLinks l place links v =
    ((are_plain links ≡ false) × (v ≡ verdict_of (spelled (codes "B3")) 0)) ⊎ ((are_plain links ≡ true) × ProvesLinks l place links v)

-- the same for a page of a space in a handle's lock; an empty handle is refused (B1)
abbrev pub TellsJudgement : Option Lock → ℕ → ℕ → List Link → Verdict → Type 0
TellsJudgement None space page links v = v ≡ verdict_of (spelled (codes "B1")) 0
TellsJudgement (Some l) space page links v = JudgesLinks l (record { space = space; page = page }) links v
