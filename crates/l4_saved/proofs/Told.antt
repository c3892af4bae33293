-- Entries that were executed and written, one more each time.
use Rattle.std.proofs.Common.{◌≡◌, ◌⊎◌, ℕ, ◌+◌, ◌<◌, Bool, true, false, inl, inr, List, [], ◌∷◌, ◌++◌, length, take, drop, slice_get, Option, Some, refl, sym, ap, ◌∙◌, subst, arith}
use Rattle.std.proofs.lemmas.List.{append_assoc, append-nil, take_more, drop_more, take-append-drop, length-take-le}
use Rattle.std.proofs.lemmas.Option.{slice_get_within, get_or_from_slice_get}
use Rattle.l4_ipc.specs.Machine.{Machine}
use Rattle.l4_record.specs.declared.entries.Entry.{Entry}
use Rattle.l4_record.specs.History.{Follows, steps_of}
use Rattle.l4_record.specs.Replays.{FailsAt}
use Rattle.l4_record.specs.declared.faults.ReplayFault.{ReplayFault}
use Rattle.l4_record.specs.declared.faults.ReplayFault.TheVariants.{NoMemory, BadFrames, OtherAnswer as Otherwise}
use Rattle.std.specs.List.{flat_map}
use Rattle.l4_history.specs.Histories.{TellsEntries}
use Rattle.l4_saved.specs.Inside.Telling.{Continues, history_fault, entry_text, IsTold, StopsTold}
use Rattle.l4_saved.specs.Stopping.{seat_after, Fails}
use Rattle.l4_saved.specs.declared.following.HistoryFault.{HistoryFault}
use Rattle.l4_step_lines.specs.Steps.{step_line}

pub seat_append : (last : Option ℕ) (es fs : List Entry) → seat_after last (es ++ fs) ≡ seat_after (seat_after last es) fs
seat_append last [] fs = refl
seat_append last (e ∷ es) fs = seat_append (Some e.seat) es fs

pub told_append : (answers : Bool) (old : Machine) (last : Option ℕ) (es : List Entry) (mid : Machine) (t : List ℕ) (fs : List Entry) (new : Machine) (u : List ℕ)
    → IsTold answers old last es mid t → IsTold answers mid (seat_after last es) fs new u → IsTold answers old last (es ++ fs) new (t ++ u)
told_append answers old last [] mid t fs new u first then =
    subst (λ (m : Machine). IsTold answers m last fs new (t ++ u)) first.0 (subst (λ (l : List ℕ). IsTold answers mid last fs new (l ++ u)) (sym first.1) then)
told_append answers old last (e ∷ es) mid t fs new u first then = (
  first.0,
  first.1 ++ u,
  first.2,
  told_append answers first.0 (Some e.seat) es mid first.1 fs new u first.3 then,
  ap (λ (l : List ℕ). l ++ u) first.4 ∙ append_assoc (entry_text answers e first.0) first.1 u,
)

-- LEGAL HISTORIES AND THEIR TEXTS

pub told_follows : (answers : Bool) (old : Machine) (last : Option ℕ) (es : List Entry) (new : Machine) (t : List ℕ) → IsTold answers old last es new t → Follows old last es new
told_follows answers old last [] new t told = told.0
told_follows answers old last (e ∷ es) new t told = (told.2.0, (told.0, told.2.1, told_follows answers told.0 (Some e.seat) es new told.1 told.3))

pub told_steps : (old : Machine) (last : Option ℕ) (es : List Entry) (new : Machine) (t : List ℕ) → IsTold false old last es new t → t ≡ flat_map step_line (steps_of es)
told_steps old last [] new t told = told.1
told_steps old last (e ∷ es) new t told = told.4 ∙ ap (λ (l : List ℕ). step_line e.step ++ l) (told_steps told.0 (Some e.seat) es new told.1 told.3)

pub told_answers : (old : Machine) (last : Option ℕ) (es : List Entry) (new : Machine) (t : List ℕ) → IsTold true old last es new t → TellsEntries old es t
told_answers old last [] new t told = told.1
told_answers old last (e ∷ es) new t told = (told.0, told.1, told.2.1, told_answers told.0 (Some e.seat) es new told.1 told.3, told.4)

-- ONE ENTRY MORE

module _ (answers : Bool) (old : Machine) (last : Option ℕ) (entries : List Entry) (place : ℕ) (now : Machine) (t : List ℕ) (entry : Entry) (at : slice_get entries place ≡ Some entry)
    (told : IsTold answers old last (take place entries) now t) (seat : Option ℕ) (seat_is : seat ≡ seat_after last (take place entries)) where
  within : place < length entries
  within = slice_get_within entries place entry at

  taken : take (place + 1) entries ≡ take place entries ++ entry ∷ []
  taken = take_more entries place entry within ∙ ap (λ (e : Entry). take place entries ++ e ∷ []) (get_or_from_slice_get entries place entry entry at)

  pub told_more : (new : Machine) → Continues now seat entry new → IsTold answers old last (take (place + 1) entries) new (t ++ entry_text answers entry new)
  told_more new does =
      let one : IsTold answers now (seat_after last (take place entries)) (entry ∷ []) new (entry_text answers entry new) =
      (new, [], subst (λ (o : Option ℕ). Continues now o entry new) seat_is does, (refl, refl), sym (append-nil (entry_text answers entry new))) in
      subst (λ (l : List Entry). IsTold answers old last l new (t ++ entry_text answers entry new)) (sym taken)
      (told_append answers old last (take place entries) now t (entry ∷ []) new (entry_text answers entry new) told one)

  pub seat_more : Some entry.seat ≡ seat_after last (take (place + 1) entries)
  seat_more = sym (ap (seat_after last) taken ∙ seat_append last (take place entries) (entry ∷ []))

  pub stops : (first number : ℕ) (fault : HistoryFault) → number ≡ first + place → Fails number now seat entry fault → StopsTold answers old last first entries fault t
  stops first number fault is fails = record {
    earlier = take place entries;
    entry = entry;
    later = drop (place + 1) entries;
    entries_are = sym (take-append-drop place entries)
        ∙ ap (λ (l : List Entry). take place entries ++ l) (drop_more entries place entry within ∙ ap (λ (e : Entry). e ∷ drop (place + 1) entries) (get_or_from_slice_get entries place entry entry at));
    before = now;
    told = told;
    fails = subst (λ (k : ℕ). Fails k now (seat_after last (take place entries)) entry fault)
        (is ∙ ap (λ (k : ℕ). first + k) (sym (length-take-le place entries (omega (arith, within)))))
        (subst (λ (o : Option ℕ). Fails number now o entry fault) seat_is fails);
  }

-- WHY AN ENTRY STOPS A REPLAY

no_frames : (k : ℕ) → ◌≡◌ {A = ReplayFault} BadFrames NoMemory ⊎ ◌≡◌ {A = ReplayFault} BadFrames (Otherwise k) → ⊥
no_frames k (inl e) = cc
no_frames k (inr e) = cc

pub fails_as : (number : ℕ) (m : Machine) (last : Option ℕ) (entry : Entry) (after : Machine) (fault : ReplayFault) → FailsAt number m entry after fault → Fails number m last entry (history_fault fault)
fails_as number m last entry after (Otherwise n) fails = (after, fails)
fails_as number m last entry after NoMemory fails = (after, fails)
fails_as number m last entry after BadFrames fails = absurd (no_frames number (elim fails.why [ inl lacks ↦ inl lacks.1 | inr differs ↦ inr differs.1 ]))
