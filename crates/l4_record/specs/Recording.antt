-- The recorder as one value, and the effects of its calls (this profile's own).
use Rattle.std.specs.Prelude.{◌≡◌, ℕ, ◌<◌, ◌≤◌, ◌⊎◌, List, [], ◌∷◌, ◌++◌, length, map, Ok, Err, refl}
use Rattle.std.specs.Coded.{Coded, code_by, coded×, coded_ℕ, coded_list}
use Rattle.atomic_table.specs.Seated.{TableId, table_id_coded}
use Rattle.l4_fpage.specs.Pages.{max_frames}
use Rattle.l4_threads.specs.declared.Thread.{Thread}
use Rattle.l4_ipc.specs.declared.calls.Call.{Call}
use Rattle.l4_ipc.specs.declared.steps.CancelCause.{CancelCause}
use Rattle.l4_ipc.specs.declared.steps.Refused.TheVariants.{BadFrames, Lower}
use Rattle.l4_ipc.specs.declared.steps.Lower.TheVariants.{NoMemory as LowerNoMemory}
use Rattle.l4_ipc.specs.declared.steps.Step.TheVariants.{Start, Cancel}
use Rattle.l4_ipc.specs.Machine.{Machine, machine_code}
use Rattle.l4_ipc.specs.NextSteps.{cancel_answer}
use Rattle.l4_ipc.specs.Steps.{Steps, IsIdle}
use Rattle.l4_record.specs.declared.appended.Appended.{Appended}
use Rattle.l4_record.specs.declared.entries.Entry.{Entry}
use Rattle.l4_record.specs.declared.refusals.RecordRefusal.{RecordRefusal}
use Rattle.l4_record.specs.declared.refusals.RecordRefusal.TheVariants.{HistoryFull, NoMemory, Kernel as ByKernel}
use Rattle.l4_record.specs.declared.segments.Segment.{Segment}
use Rattle.l4_record.specs.Sizes.{max_entries, max_steps, last_start, max_handed_out}
use Rattle.l4_record.specs.History.{IsLegal}
use Rattle.l4_record.specs.Segments.{kept, kept_count, HasBase}
use Rattle.l4_record.specs.Following.{start_entry, next_entry, cancel_entry, Lasts, ComeNext}

-- What a contract sees of the recorder. The history is the list of all entries since boot. Those with lower numbers than `kept_from` were
-- handed out.
pub record Recording : Type 0 where
  pub frames : ℕ
  pub kernel : Machine
  pub history : List Entry
  pub kept_from : ℕ
  pub board : TableId
  pub published : ℕ

abbrev pub recording : ℕ → Machine → List Entry → ℕ → TableId → ℕ → Recording
recording frames kernel history kept_from board published =
    record { frames = frames; kernel = kernel; history = history; kept_from = kept_from; board = board; published = published }

abbrev pub recording_code : Coded Thread → Coded Entry → Coded Recording
recording_code thread entry =
    code_by (ℕ × (Machine × (List Entry × (ℕ × (TableId × ℕ)))))
    (coded× coded_ℕ (coded× (machine_code thread) (coded× (coded_list entry) (coded× coded_ℕ (coded× table_id_coded coded_ℕ)))))
    (λ r. (r.frames, (r.kernel, (r.history, (r.kept_from, (r.board, r.published))))))
    (λ p. recording p.0 p.1.0 p.1.1.0 p.1.1.1.0 p.1.1.1.1.0 p.1.1.1.1.1) (λ _. refl)

-- The history is legal, the kernel is the result of its replay, and the mappings were a forest throughout. No step is enabled, and the
-- publisher has published the length of the history. The entries that were handed out are the first ones of the history, and lead to a base.
pub record IsKept (r : Recording) : Type 0 where
  pub legal : IsLegal r.frames r.history r.kernel
  pub idle : IsIdle r.kernel
  pub few : kept_count r.kept_from r.history ≤ max_entries
  pub shown : r.published ≡ length r.history
  pub within : r.kept_from ≤ length r.history
  pub handed_out : r.kept_from ≤ max_handed_out
  pub base : HasBase r.frames r.history r.kept_from r.kernel

-- The call was entered, for which the history had room. Its start, and the next steps until no step is enabled, at most 128, were appended.
-- The replies of all calls that ended in these steps can still be read.
pub record Enters (old new : Recording) (n : ℕ) (call : Call) (appended : Appended) : Type 0 where
  pub room : kept_count old.kept_from old.history ≤ last_start
  pub started : Machine
  pub starts : Steps old.kernel (Start n call) (Ok appended.start) started
  pub lasts : Lasts new.kernel started appended.start
  pub next : ComeNext started appended.next.items new.kernel
  pub few : length appended.next.items ≤ max_steps
  pub idle : IsIdle new.kernel
  pub history : new.history ≡ old.history ++ start_entry n call appended.start ∷ map (next_entry n) appended.next.items
  pub same : (new.frames ≡ old.frames) × (new.board ≡ old.board)
  pub kept_from : new.kept_from ≡ old.kept_from

-- The wait of the thread was canceled, for which the history had room, and this step was appended. The reply of the call that ended can
-- still be read, and no step is enabled.
pub record Cancels (old new : Recording) (n : ℕ) (cause : CancelCause) : Type 0 where
  pub room : kept_count old.kept_from old.history ≤ last_start
  pub steps : Steps old.kernel (Cancel n cause) (Ok (cancel_answer n)) new.kernel
  pub idle : IsIdle new.kernel
  pub history : new.history ≡ old.history ++ cancel_entry n cause ∷ []
  pub same : (new.frames ≡ old.frames) × (new.board ≡ old.board)
  pub kept_from : new.kept_from ≡ old.kept_from

-- The segment has the entries that were kept, and the number of the first of them. They were handed out, so none is kept now. Nothing else
-- has changed.
pub record HandsOut (old new : Recording) (segment : Segment) : Type 0 where
  pub first : segment.first ≡ old.kept_from
  pub entries : segment.history.entries ≡ kept old.kept_from old.history
  pub new_is : new ≡ record old { kept_from = length old.history }

-- the reason why no recorder is created: the number of frames is out of range, or it is in range and an allocation failed
abbrev pub RefusesBoot : ℕ → RecordRefusal → Type 0
RefusesBoot frames e =
    (((frames ≡ 0) ⊎ (max_frames < frames)) × (e ≡ ByKernel BadFrames))
    ⊎ ((1 ≤ frames) × (frames ≤ max_frames) × ((e ≡ NoMemory) ⊎ (e ≡ ByKernel (Lower LowerNoMemory))))

-- the reason why a call is not entered: the first of these that applies
abbrev pub Refuses : Recording → ℕ → Call → RecordRefusal → Type 0
Refuses r n call HistoryFull = last_start < kept_count r.kept_from r.history
Refuses r n call NoMemory = kept_count r.kept_from r.history ≤ last_start
Refuses r n call (ByKernel e) = (kept_count r.kept_from r.history ≤ last_start) × Steps r.kernel (Start n call) (Err e) r.kernel

-- the reason why a wait is not canceled: the first of these that applies
abbrev pub RefusesCancel : Recording → ℕ → CancelCause → RecordRefusal → Type 0
RefusesCancel r n cause HistoryFull = last_start < kept_count r.kept_from r.history
RefusesCancel r n cause NoMemory = kept_count r.kept_from r.history ≤ last_start
RefusesCancel r n cause (ByKernel e) = (kept_count r.kept_from r.history ≤ last_start) × Steps r.kernel (Cancel n cause) (Err e) r.kernel
