-- The sink that notes the first lack, and what it says of the answers.
use Rattle.std.proofs.Common.{◌≡◌, ℕ, Bool, true, false, ◌||◌, if◌then◌else◌, List, [], ◌∷◌, ◌++◌, codes, bytes_eq, refl, sym, ap, subst, ◌∙◌}
use Rattle.l4_ipc.specs.declared.steps.Outcome.TheVariants.{Started, Done, NoWindow, Entangled, NoMemory, Expired, Canceled as ByCancel}
use Rattle.l4_answers.specs.Reports.{Report, RefusedLine, UnreadLine, RefusedAct, Transferred, TimedOut, Canceled, Waits, Ended, NoneEnded, Page, Shown, Parent, AddedRegion, Named, StepCount}
use Rattle.l4_shell.specs.Lacking.{lacks, lacks_by_code, LacksNothing}
use Rattle.l4_orders.specs.declared.lacking.Lack.{Lack}
use Rattle.l4_orders.specs.declared.lacking.Lack.TheVariants.{Nothing, Memory, History}
use Rattle.l4_orders.specs.declared.lacking.Lacking.{Lacking}
use Rattle.l4_orders.specs.Inside.Lacking.{lack_of_code, lack_of, then_lack, first_lack, HasNoted}

-- ONE ANSWER MORE

first_more : (lack : Lack) (told : List Report) (report : Report) → first_lack lack (told ++ report ∷ []) ≡ then_lack (first_lack lack told) (lack_of report)
first_more lack [] report = refl
first_more lack (r ∷ told) report = first_more (then_lack lack (lack_of r)) told report

pub noted_more : (first now new : Lacking) (told : List Report) (report : Report) → HasNoted first now told → new.lack ≡ then_lack now.lack (lack_of report) → HasNoted first new (told ++ report ∷ [])
noted_more first now new told report h is = is ∙ ap (λ (l : Lack). then_lack l (lack_of report)) h ∙ sym (first_more first.lack told report)

then_nothing : (lack : Lack) → then_lack lack Nothing ≡ lack
then_nothing Nothing = refl
then_nothing Memory = refl
then_nothing History = refl

pub noted_other : (first now : Lacking) (told : List Report) (report : Report) → lack_of report ≡ Nothing → HasNoted first now told → HasNoted first now (told ++ report ∷ [])
noted_other first now told report quiet h = noted_more first now now told report h (sym (then_nothing now.lack) ∙ ap (then_lack now.lack) (sym quiet))

-- NO LACK

abbrev IsNothing : Lack → Type 0
IsNothing Nothing = Unit {0}
IsNothing Memory = ⊥
IsNothing History = ⊥

is_nothing : (lack : Lack) → lack ≡ Nothing → IsNothing lack
is_nothing lack e = subst IsNothing (sym e) tt

by_code : (name : List ℕ) → lack_of_code name ≡ Nothing → lacks_by_code name ≡ false
by_code name h = cases (bytes_eq name (codes "NoMemory")) (bytes_eq name (codes "L1")) h where
  cases : (a b : Bool) → (if a then Memory else (if b then History else Nothing)) ≡ Nothing → (a || b) ≡ false
  cases true b e = absurd (is_nothing Memory e)
  cases false true e = absurd (is_nothing History e)
  cases false false e = refl

quiet_report : (report : Report) → lack_of report ≡ Nothing → lacks report ≡ false
quiet_report (RefusedLine line refusal) h = by_code refusal.name h
quiet_report (UnreadLine size names line refusal bytes) h = refl
quiet_report (RefusedAct thread refusal) h = by_code refusal.name h
quiet_report (Transferred sender receiver Started) h = refl
quiet_report (Transferred sender receiver Done) h = refl
quiet_report (Transferred sender receiver NoWindow) h = refl
quiet_report (Transferred sender receiver Entangled) h = refl
quiet_report (Transferred sender receiver NoMemory) h = absurd (is_nothing Memory h)
quiet_report (Transferred sender receiver Expired) h = refl
quiet_report (Transferred sender receiver ByCancel) h = refl
quiet_report (TimedOut n) h = refl
quiet_report (Canceled n cause) h = refl
quiet_report (Waits n) h = refl
quiet_report (Ended n reply) h = refl
quiet_report (NoneEnded n) h = refl
quiet_report (Page page mapping) h = refl
quiet_report (Shown count) h = refl
quiet_report (Parent mapping) h = refl
quiet_report AddedRegion h = refl
quiet_report (Named n) h = refl
quiet_report (StepCount count) h = refl

before_nothing : (lack : Lack) (told : List Report) → first_lack lack told ≡ Nothing → lack ≡ Nothing
before_nothing lack [] h = h
before_nothing Nothing (r ∷ told) h = refl
before_nothing Memory (r ∷ told) h = before_nothing Memory told h
before_nothing History (r ∷ told) h = before_nothing History told h

pub lacks_nothing : (told : List Report) → first_lack Nothing told ≡ Nothing → LacksNothing told
lacks_nothing [] h = tt
lacks_nothing (r ∷ told) h =
    let quiet : lack_of r ≡ Nothing = before_nothing (lack_of r) told h in
    (quiet_report r quiet, lacks_nothing told (subst (λ (l : Lack). first_lack l told ≡ Nothing) quiet h))
