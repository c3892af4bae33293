-- The text of segments goes out.
use Rattle.std.proofs.Common.{◌≡◌, ℕ, ◌+◌, ◌<◌, Bool, true, false, List, [], ◌∷◌, ◌++◌, length, take, drop, get_or, Option, None, Result, Ok, Err, IfOk, IfErr, inr, refl, sym, ap, ◌∙◌, subst, arith}
use Rattle.std.specs.Io.KnownBytes.{Appends}
use Rattle.std.proofs.lemmas.List.{append_assoc, append-nil, length-append, take_more, drop_more, take-append-drop}
use Rattle.l4_fpage.specs.declared.sizes.PageSize.{PageSize}
use Rattle.l4_ipc.specs.Machine.{Machine, IsBoot}
use Rattle.l4_record.specs.declared.entries.Entry.{Entry}
use Rattle.l4_record.specs.Replays.{IsBootWith}
use Rattle.l4_history.specs.Histories.{IsHistoryText}
use Rattle.l4_segments.specs.Joining.{JoinedEntries, all_entries, Fit}
use Rattle.l4_segments.specs.Saved.{Saved}
use Rattle.l4_text.specs.Streams.{WentOut}
use Rattle.l4_saved.specs.Inside.Telling.{IsTold, StopsTold}
use Rattle.l4_saved.specs.Stopping.{seat_after, Fails}
use Rattle.l4_saved.specs.Telling.{IsLegalText, StopsAt, HasBegun, TellsSegments}
use Rattle.l4_saved.specs.declared.following.HistoryFault.{HistoryFault}
use Rattle.l4_saved.specs.declared.following.HistoryFault.TheVariants.{Memory as LacksMemory, Write as WriteFailed, NotNext, OtherAnswer}
use Rattle.l4_saved.proofs.Told.{told_append, told_follows, told_steps, told_answers, seat_append}

-- ALL ENTRIES

is_text : (frames : ℕ) (size : PageSize) (answers : Bool) (boot : Machine) → IsBootWith frames size boot → (es : List Entry) (now : Machine) (t : List ℕ) → IsTold answers boot None es now t
    → IsHistoryText frames size answers es t
is_text frames size false boot boots es now t told = told_steps boot None es now t told
is_text frames size true boot boots es now t told = (boot, boots.0, boots.1, told_answers boot None es now t told)

pub legal : (frames : ℕ) (size : PageSize) (answers : Bool) (boot : Machine) → IsBootWith frames size boot → (es : List Entry) (now : Machine) (t : List ℕ) → IsTold answers boot None es now t
    → IsLegalText frames size answers es now t
legal frames size answers boot boots es now t told =
    record { boot = boot; boots = boots; follows = told_follows answers boot None es now t told; is_text = is_text frames size answers boot boots es now t told }

pub stops_at : (answers : Bool) (j : JoinedEntries) (boot : Machine) → IsBootWith j.frames j.size boot → (fault : HistoryFault) (t : List ℕ) → StopsTold answers boot None j.first j.entries fault t
    → StopsAt answers j fault t
stops_at answers j boot boots fault t stop = record {
  earlier = stop.earlier;
  entry = stop.entry;
  later = stop.later;
  entries_are = stop.entries_are;
  before = stop.before;
  legal = legal j.frames j.size answers boot boots stop.earlier stop.before t stop.told;
  fails = stop.fails;
}

module _ (answers : Bool) (j : JoinedEntries) (written now : Option (List ℕ)) (boot : Machine) (boots : IsBootWith j.frames j.size boot) where
  pub all_told : (last : Machine) (t : List ℕ) → IsTold answers boot None j.entries last t → Appends written now t → TellsSegments answers j written now (Ok tt)
  all_told last t told out = (last, t, legal j.frames j.size answers boot boots j.entries last t told, out)

  pub begun : (last : Machine) (t : List ℕ) → IsTold answers boot None j.entries last t → WentOut written now t → HasBegun answers j written now
  begun last t told out = record {
    told = j.entries;
    left = [];
    entries_are = sym (append-nil j.entries);
    last = last;
    text = t;
    legal = legal j.frames j.size answers boot boots j.entries last t told;
    out = out;
  }

  pub begun_before : (fault : HistoryFault) (t : List ℕ) → StopsTold answers boot None j.first j.entries fault t → WentOut written now t → HasBegun answers j written now
  begun_before fault t stop out = record {
    told = stop.earlier;
    left = stop.entry ∷ stop.later;
    entries_are = stop.entries_are;
    last = stop.before;
    text = t;
    legal = legal j.frames j.size answers boot boots stop.earlier stop.before t stop.told;
    out = out;
  }

  pub stopped : (fault : HistoryFault) (t : List ℕ) → StopsTold answers boot None j.first j.entries fault t → Appends written now t → TellsSegments answers j written now (Err fault)
  stopped LacksMemory t stop out = inr (t, stops_at answers j boot boots LacksMemory t stop, out)
  stopped WriteFailed t stop out = absurd stop.fails
  stopped (NotNext n) t stop out = (t, stops_at answers j boot boots (NotNext n) t stop, out)
  stopped (OtherAnswer n) t stop out = (t, stops_at answers j boot boots (OtherAnswer n) t stop, out)

  -- after all entries, or before one that stops the replay
  pub goes_out : (r : Result (Unit {0}) HistoryFault) → IfOk r (λ _. (last : Machine) × (t : List ℕ) × IsTold answers boot None j.entries last t × Appends written now t)
      → IfErr r (λ fault. (t : List ℕ) × StopsTold answers boot None j.first j.entries fault t × Appends written now t) → TellsSegments answers j written now r
  goes_out (Ok done) ok err = all_told ok.0 ok.1 ok.2 ok.3
  goes_out (Err fault) ok err = stopped fault err.0 err.1 err.2

  pub begins : (r : Result (Unit {0}) HistoryFault) → IfOk r (λ _. (last : Machine) × (t : List ℕ) × IsTold answers boot None j.entries last t × WentOut written now t)
      → IfErr r (λ fault. (t : List ℕ) × StopsTold answers boot None j.first j.entries fault t × WentOut written now t) → HasBegun answers j written now
  begins (Ok done) ok err = begun ok.0 ok.1 ok.2 ok.3
  begins (Err fault) ok err = begun_before fault err.0 err.1 err.2

pub boots_with : (m : Machine) (f g : ℕ) (a b : PageSize) → f ≡ g → a ≡ b → IsBoot f m → m.size ≡ a → IsBootWith g b m
boots_with m f g a b frames size boots is = (subst (λ (k : ℕ). IsBoot k m) frames boots, is ∙ size)
