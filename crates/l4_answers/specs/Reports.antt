-- The answers of a script as reports, and the text of each.
use Rattle.std.specs.Prelude.{ℕ, Bool, List, [], ◌∷◌, ◌++◌, Option, Some, None, is_some, codes, decimal}
use Rattle.std.specs.List.{list_any}
use Rattle.l4_fpage.specs.declared.sizes.PageSize.{PageSize}
use Rattle.l4_ipc.specs.declared.steps.CancelCause.{CancelCause}
use Rattle.l4_ipc.specs.declared.steps.Outcome.{Outcome}
use Rattle.l4_mapdb.specs.declared.Mapping.{Mapping}
use Rattle.l4_names.specs.Names.{Names}
use Rattle.l4_threads.specs.declared.Reply.{Reply}
use Rattle.l4_answers.specs.Pages.{page_text, shown_text, parent_text}
use Rattle.l4_answers.specs.Refusals.{Refusal, number_text, refused_text}
use Rattle.l4_answers.specs.Replies.{newline, numbered_text, transfer_text, expire_text, cancel_text, waits_text, none_text, reply_text}

-- an answer
pub data Report : Type 0 where
  -- the script's line with this number is refused
  RefusedLine : ℕ → Refusal → Report
  -- the script's line with this number can't be read, where pages have this size and threads these names: its refusal, and its bytes
  UnreadLine : PageSize → Names → ℕ → Refusal → List ℕ → Report
  -- a served thread's call is refused
  RefusedAct : ℕ → Refusal → Report
  -- a transfer between two threads, and its outcome
  Transferred : ℕ → ℕ → Outcome → Report
  -- a thread's zero timeout expired
  TimedOut : ℕ → Report
  -- a thread's wait was canceled, for this cause
  Canceled : ℕ → CancelCause → Report
  -- a thread's call blocks
  Waits : ℕ → Report
  -- a thread's call ended; a deleted thread has no reply
  Ended : ℕ → Option Reply → Report
  -- no call of a thread has ended
  NoneEnded : ℕ → Report
  -- a page that is present
  Page : ℕ → Mapping → Report
  -- the number of pages that were listed
  Shown : ℕ → Report
  -- the mapping of the page of a `parent` line
  Parent : Option Mapping → Report
  -- a region was added to a table
  AddedRegion : Report
  -- a name was given to a thread
  Named : ℕ → Report
  -- the number of entries of the history
  StepCount : ℕ → Report

abbrev pub refused_act_text : ℕ → Refusal → List ℕ
refused_act_text thread refusal = numbered_text thread (codes " refused " ++ refusal.name ++ number_text refusal.number)

abbrev pub region_text : List ℕ
region_text = codes "region ok\n"

abbrev pub named_text : ℕ → List ℕ
named_text number = codes "named " ++ decimal number ++ newline

abbrev pub steps_text : ℕ → List ℕ
steps_text count = codes "steps " ++ decimal count ++ newline

-- the line of an answer
abbrev pub report_text : Report → List ℕ
report_text (RefusedLine line refusal) = refused_text line refusal
report_text (UnreadLine size names line refusal bytes) = refused_text line refusal
report_text (RefusedAct thread refusal) = refused_act_text thread refusal
report_text (Transferred sender receiver outcome) = transfer_text sender receiver outcome
report_text (TimedOut n) = expire_text n
report_text (Canceled n cause) = cancel_text n cause
report_text (Waits n) = waits_text n
report_text (Ended n reply) = reply_text n reply
report_text (NoneEnded n) = none_text n
report_text (Page page mapping) = page_text page mapping
report_text (Shown count) = shown_text count
report_text (Parent mapping) = parent_text mapping
report_text AddedRegion = region_text
report_text (Named number) = named_text number
report_text (StepCount count) = steps_text count

-- the number of the script's line that it refuses, if it refuses one
abbrev pub refused_line : Report → Option ℕ
refused_line (RefusedLine line refusal) = Some line
refused_line (UnreadLine size names line refusal bytes) = Some line
refused_line report = None

-- whether one of these refuses a line
abbrev pub has_refusal : List Report → Bool
has_refusal reports = list_any (λ report. is_some (refused_line report)) reports

-- SINKS. `has_told first old told` means that exactly `told` was reported to the sink between the states `first` and `old`.

-- whatever was reported before, this was reported after it
abbrev pub Adds : {T : Type 0} → (T → T → List Report → Type 0) → T → T → Report → Type 0
Adds has_told old new report = (first : _) (told : List Report) → has_told first old told → has_told first new (told ++ report ∷ [])

-- whatever was reported before, these were reported after it
abbrev pub AddsAll : {T : Type 0} → (T → T → List Report → Type 0) → T → T → List Report → Type 0
AddsAll has_told old new reports = (first : _) (told : List Report) → has_told first old told → has_told first new (told ++ reports)

-- what was reported is still so
abbrev pub Keeps : {T : Type 0} → (T → T → List Report → Type 0) → T → T → Type 0
Keeps has_told old new = (first : _) (told : List Report) → has_told first old told → has_told first new told

-- everything that was reported has been written
abbrev pub AllOut : {T : Type 0} → (T → T → List Report → Type 0) → (T → T → List Report → Type 0) → T → T → Type 0
AllOut has_told is_out old new = (first : _) (told : List Report) → has_told first old told → is_out first new told
