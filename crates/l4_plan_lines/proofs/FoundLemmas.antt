-- What is found in lines, one after another.
use Rattle.std.proofs.Common.{◌≡◌, ℕ, ◌+◌, ◌<◌, ◌≤◌, ap, ◌∙◌, sym, refl, arith, subst, nat_lt, Bool, true, false, List, [], ◌∷◌, ◌++◌, length, length-take, take, Option, Some, None, Ok, MatchOption, append_assoc, inl, inr}
use Rattle.std.proofs.lemmas.Bool.{false≢true}
use Rattle.std.proofs.lemmas.Bool.Decides.{nat_tests}
use Rattle.std.proofs.lemmas.List.{append-nil, take_all}
use Rattle.std.proofs.lemmas.List.Elements.{All-nil, All-push}
use Rattle.std.specs.Io.KnownBytes.{Consumes, IsAtEnd}
use Rattle.std.specs.List.{All, flat_map}
use denote.Enum.Bare.{sameb}
use Rattle.l4_text.proofs.LineSteps.{consumes_more, consumes_same, empty_list}
use Rattle.l4_text.specs.Lines.{NoNewline, TakesLine, TakesRest, GivesLine}
use Rattle.l4_text.specs.contracts.lines.Ending.{the_type}
use Rattle.l4_text.specs.declared.lines.Ending.{Ending}
use Rattle.l4_text.specs.declared.lines.Ending.TheVariants.{Whole, Long, Cut}
use Rattle.l4_plan_lines.specs.Lines.{ended}
use Rattle.l4_plan_lines.specs.Claims.{IsClaimOf, IsBeginning, IsSecondTag}
use Rattle.l4_plan_lines.specs.Inside.Claims.{SaysMore, SaysAll, IsSecond, IsSingle}
use Rattle.l4_plan_lines.specs.Inputs.{IsLine, IsWrongWhole, IsFirstWrong}
use Rattle.l4_plan_lines.specs.Answers.{IsAnswer, answer_line, Answered}
use Rattle.l4_plan_lines.specs.Inside.Inputs.{Reflects, Stops, EndsSo, TakesOne, HasEnded, HasRead}
use Rattle.l4_plan_lines.specs.declared.answers.Answer.{Answer}
use Rattle.l4_msg.specs.declared.regions.Region.{Region}
use Rattle.l4_plan_lines.specs.declared.found.Found.{Found}
use Rattle.l4_plan_lines.specs.declared.found.WrongLine.{WrongLine}
use Rattle.l4_plan_lines.specs.declared.found.LineFault.{LineFault}
use Rattle.l4_plan_lines.specs.declared.found.LineFault.TheVariants.{BadTokens, LineTooLong, CutLine}
use Rattle.l4_fpage.specs.declared.sizes.PageSize.{PageSize}

-- ---- a line more

-- what is wrong stays wrong, whatever line follows
abbrev line_stays : (lines : List (List ℕ)) (number : ℕ) (line : List ℕ) → IsLine lines number → IsLine (lines ++ line ∷ []) number
line_stays lines number line l = record {
  before = l.before;
  line = l.line;
  after = l.after ++ line ∷ [];
  split = ap (λ (t : List (List ℕ)). t ++ line ∷ []) l.split ∙ append_assoc l.before (l.line ∷ l.after) (line ∷ []);
  place = l.place;
  good = l.good;
}

stays_wrong : (lines : List (List ℕ)) (number : ℕ) (fault : LineFault) (line : List ℕ) → IsWrongWhole lines number fault → IsWrongWhole (lines ++ line ∷ []) number fault
stays_wrong lines number CutLine line w = w
stays_wrong lines number LineTooLong line w = (line_stays lines number line w.0, w.1)
stays_wrong lines number BadTokens line w = elim w [
  | inl x ↦ inl (record { at = line_stays lines number line x.at; short = x.short; bad = x.bad; single = x.single })
  | inr x ↦ inr (record {
    before = x.before;
    line = x.line;
    after = x.after ++ line ∷ [];
    split = ap (λ (t : List (List ℕ)). t ++ line ∷ []) x.split ∙ append_assoc x.before (x.line ∷ x.after) (line ∷ []);
    place = x.place;
    good = x.good;
    second = x.second;
  })
]

whole_first : (lines : List (List ℕ)) (rest : List ℕ) (number : ℕ) (fault : LineFault) → IsWrongWhole lines number fault → IsFirstWrong lines rest number fault
whole_first lines rest number CutLine w = absurd w
whole_first lines rest number LineTooLong w = w
whole_first lines rest number BadTokens w = inr (inr w)

old_wrong : (s : Found) (lines : List (List ℕ)) (w : WrongLine) → s.wrong ≡ Some w → Reflects s lines → IsWrongWhole lines w.number w.fault
old_wrong s lines w is h =
    subst (λ (x : Option WrongLine). MatchOption x (IsClaimOf lines s.claim) (λ v. IsWrongWhole lines v.number v.fault)) is h

-- a line after a wrong one
pub after_wrong : (ending : Ending) (s : Found) (lines : List (List ℕ)) (bytes : List ℕ) (w : WrongLine) → s.wrong ≡ Some w → Reflects s lines → TakesOne ending s lines bytes
after_wrong Whole s lines bytes w is h =
    subst (λ (x : Option WrongLine). MatchOption x (IsClaimOf (lines ++ bytes ∷ []) s.claim) (λ v. IsWrongWhole (lines ++ bytes ∷ []) v.number v.fault))
    (sym is) (stays_wrong lines w.number w.fault bytes (old_wrong s lines w is h))
after_wrong Long s lines bytes w is h =
    subst (λ (x : Option WrongLine). MatchOption x (IsClaimOf (lines ++ bytes ∷ []) s.claim) (λ v. IsWrongWhole (lines ++ bytes ∷ []) v.number v.fault))
    (sym is) (stays_wrong lines w.number w.fault bytes (old_wrong s lines w is h))
after_wrong Cut s lines bytes w is h =
    subst (λ (x : Option WrongLine). MatchOption x (IsClaimOf lines s.claim × (bytes ≡ [])) (λ v. IsFirstWrong lines bytes v.number v.fault))
    (sym is) (whole_first lines bytes w.number w.fault (old_wrong s lines w is h))

claim_so_far : (s : Found) (lines : List (List ℕ)) → s.wrong ≡ None → Reflects s lines → IsClaimOf lines s.claim
claim_so_far s lines is h =
    subst (λ (x : Option WrongLine). MatchOption x (IsClaimOf lines s.claim) (λ v. IsWrongWhole lines v.number v.fault)) is h

-- the number of the next line
abbrev Counts : Found → ℕ → Type 0
Counts s number = (lines : List (List ℕ)) → IsClaimOf lines s.claim → number ≡ length lines + 1

-- the next line is the one that the input cuts
next_cut : (s t : Found) (lines : List (List ℕ)) (bytes : List ℕ) (number : ℕ) → s.wrong ≡ None → Counts s number → t.wrong ≡ Some (record { number = number; fault = CutLine })
    → 0 < length bytes → Reflects s lines → Stops t lines bytes
next_cut s t lines bytes number is place wrong some h =
    let c = claim_so_far s lines is h in
    let first : IsFirstWrong lines bytes number CutLine = ((s.claim.head, s.claim.tags.items, s.claim.items.items, s.claim.pages.items, c), some, place lines c) in
    subst (λ (x : Option WrongLine). MatchOption x (IsClaimOf lines t.claim × (bytes ≡ [])) (λ v. IsFirstWrong lines bytes v.number v.fault))
    (sym wrong) first

-- the next line is too long
next_long : (s t : Found) (lines : List (List ℕ)) (bytes : List ℕ) (number : ℕ) → s.wrong ≡ None → Counts s number → t.wrong ≡ Some (record { number = number; fault = LineTooLong })
    → 4096 < length bytes → Reflects s lines → Reflects t (lines ++ bytes ∷ [])
next_long s t lines bytes number is place wrong many h =
    let c = claim_so_far s lines is h in
    let l : IsLine (lines ++ bytes ∷ []) number = record { before = lines; line = bytes; after = []; split = refl; place = place lines c; good = (s.claim.head, s.claim.tags.items, s.claim.items.items, s.claim.pages.items, c) } in
    subst (λ (x : Option WrongLine). MatchOption x (IsClaimOf (lines ++ bytes ∷ []) t.claim) (λ v. IsWrongWhole (lines ++ bytes ∷ []) v.number v.fault))
    (sym wrong) (l, many)

-- the next line may not stand there
next_bad : (s t : Found) (lines : List (List ℕ)) (line bytes : List ℕ) (number : ℕ) → s.wrong ≡ None → Counts s number → SaysAll s.claim line → IsSingle s.claim line
    → t.wrong ≡ Some (record { number = number; fault = BadTokens }) → (length bytes ≤ 4096) × (line ≡ bytes) → Reflects s lines → Reflects t (lines ++ bytes ∷ [])
next_bad s t lines line bytes number is place all single wrong kept h =
    let c = claim_so_far s lines is h in
    let l : IsLine (lines ++ bytes ∷ []) number = record { before = lines; line = bytes; after = []; split = refl; place = place lines c; good = (s.claim.head, s.claim.tags.items, s.claim.items.items, s.claim.pages.items, c) } in
    let none : IsBeginning (lines ++ bytes ∷ []) → ⊥ = subst (λ (x : List ℕ). IsBeginning (lines ++ x ∷ []) → ⊥) kept.1 (all lines c) in
    let one : IsSecondTag lines bytes → ⊥ = subst (λ (x : List ℕ). IsSecondTag lines x → ⊥) kept.1 (single lines c) in
    let w : IsWrongWhole (lines ++ bytes ∷ []) number BadTokens = inl (record { at = l; short = kept.0; bad = none; single = one }) in
    subst (λ (x : Option WrongLine). MatchOption x (IsClaimOf (lines ++ bytes ∷ []) t.claim) (λ v. IsWrongWhole (lines ++ bytes ∷ []) v.number v.fault)) (sym wrong) w

-- the next line is a second tag line, so the one before it is wrong
next_empty : (s t : Found) (lines : List (List ℕ)) (line bytes : List ℕ) (number : ℕ) → s.wrong ≡ None → ((ls : List (List ℕ)) → IsClaimOf ls s.claim → number ≡ length ls) → IsSecond s.claim line
    → t.wrong ≡ Some (record { number = number; fault = BadTokens }) → (length bytes ≤ 4096) × (line ≡ bytes) → Reflects s lines → Reflects t (lines ++ bytes ∷ [])
next_empty s t lines line bytes number is place second wrong kept h =
    let c = claim_so_far s lines is h in
    let two : IsSecondTag lines bytes = subst (λ (x : List ℕ). IsSecondTag lines x) kept.1 (second lines c) in
    let w : IsWrongWhole (lines ++ bytes ∷ []) number BadTokens = inr (record {
      before = lines;
      line = bytes;
      after = [];
      split = refl;
      place = place lines c;
      good = (s.claim.head, s.claim.tags.items, s.claim.items.items, s.claim.pages.items, c);
      second = two;
    }) in
    subst (λ (x : Option WrongLine). MatchOption x (IsClaimOf (lines ++ bytes ∷ []) t.claim) (λ v. IsWrongWhole (lines ++ bytes ∷ []) v.number v.fault)) (sym wrong) w

-- the next line says more
next_good : (s t : Found) (lines : List (List ℕ)) (line bytes : List ℕ) → s.wrong ≡ None → SaysMore s.claim t.claim line → t.wrong ≡ None
    → (length bytes ≤ 4096) × (line ≡ bytes) → Reflects s lines → Reflects t (lines ++ bytes ∷ [])
next_good s t lines line bytes is more right kept h =
    let c = claim_so_far s lines is h in
    let now : IsClaimOf (lines ++ bytes ∷ []) t.claim =
    subst (λ (x : List ℕ). IsClaimOf (lines ++ x ∷ []) t.claim) kept.1 (more lines c) in
    subst (λ (x : Option WrongLine). MatchOption x (IsClaimOf (lines ++ bytes ∷ []) t.claim) (λ v. IsWrongWhole (lines ++ bytes ∷ []) v.number v.fault))
    (sym right) now

-- the same, of a line that ended in some way

pub cut_taken : (ending : Ending) (line : List ℕ) (s t : Found) (lines : List (List ℕ)) (bytes : List ℕ) (number : ℕ) → ending ≡ Cut → s.wrong ≡ None → Counts s number
    → t.wrong ≡ Some (record { number = number; fault = CutLine }) → EndsSo ending line bytes → Reflects s lines → TakesOne ending t lines bytes
cut_taken ending line s t lines bytes number end is place wrong ends h =
    subst (λ (e : Ending). TakesOne e t lines bytes) (sym end) (next_cut s t lines bytes number is place wrong (subst (λ (e : Ending). EndsSo e line bytes) end ends) h)

pub long_taken : (ending : Ending) (line : List ℕ) (s t : Found) (lines : List (List ℕ)) (bytes : List ℕ) (number : ℕ) → ending ≡ Long → s.wrong ≡ None → Counts s number
    → t.wrong ≡ Some (record { number = number; fault = LineTooLong }) → EndsSo ending line bytes → Reflects s lines → TakesOne ending t lines bytes
long_taken ending line s t lines bytes number end is place wrong ends h =
    subst (λ (e : Ending). TakesOne e t lines bytes) (sym end) (next_long s t lines bytes number is place wrong (subst (λ (e : Ending). EndsSo e line bytes) end ends) h)

pub bad_taken : (ending : Ending) (line : List ℕ) (s t : Found) (lines : List (List ℕ)) (bytes : List ℕ) (number : ℕ) → ending ≡ Whole → s.wrong ≡ None → Counts s number → SaysAll s.claim line → IsSingle s.claim line
    → t.wrong ≡ Some (record { number = number; fault = BadTokens }) → EndsSo ending line bytes → Reflects s lines → TakesOne ending t lines bytes
bad_taken ending line s t lines bytes number end is place all single wrong ends h =
    subst (λ (e : Ending). TakesOne e t lines bytes) (sym end) (next_bad s t lines line bytes number is place all single wrong (subst (λ (e : Ending). EndsSo e line bytes) end ends) h)

pub empty_taken : (ending : Ending) (line : List ℕ) (s t : Found) (lines : List (List ℕ)) (bytes : List ℕ) (number : ℕ) → ending ≡ Whole → s.wrong ≡ None
    → ((ls : List (List ℕ)) → IsClaimOf ls s.claim → number ≡ length ls) → IsSecond s.claim line
    → t.wrong ≡ Some (record { number = number; fault = BadTokens }) → EndsSo ending line bytes → Reflects s lines → TakesOne ending t lines bytes
empty_taken ending line s t lines bytes number end is place second wrong ends h =
    subst (λ (e : Ending). TakesOne e t lines bytes) (sym end) (next_empty s t lines line bytes number is place second wrong (subst (λ (e : Ending). EndsSo e line bytes) end ends) h)

pub good_taken : (ending : Ending) (line : List ℕ) (s t : Found) (lines : List (List ℕ)) (bytes : List ℕ) → ending ≡ Whole → s.wrong ≡ None → SaysMore s.claim t.claim line
    → t.wrong ≡ None → EndsSo ending line bytes → Reflects s lines → TakesOne ending t lines bytes
good_taken ending line s t lines bytes end is more right ends h =
    subst (λ (e : Ending). TakesOne e t lines bytes) (sym end) (next_good s t lines line bytes is more right (subst (λ (e : Ending). EndsSo e line bytes) end ends) h)

-- ---- lines that were read

-- the whole lines that were read and taken
pub record SoFar (old new : Option (List ℕ)) (now : List ℕ × ℕ) (s : Found) : Type 0 where
  pub read : List ℕ
  pub from : Consumes old new read
  pub lines : List (List ℕ)
  pub same : read ≡ flat_map ended lines ++ now.0
  pub whole : All NoNewline lines
  pub state : Reflects s lines

pub so_far_none : (a : Option (List ℕ)) (now : List ℕ × ℕ) (s : Found) → now ≡ ([], 0) → Reflects s [] → SoFar a a now s
so_far_none a now s is h = record { read = []; from = consumes_same a; lines = []; same = sym (ap (λ x. x.0) is); whole = All-nil NoNewline; state = h }

flat_push : (lines : List (List ℕ)) (line : List ℕ) → flat_map ended (lines ++ line ∷ []) ≡ flat_map ended lines ++ ended line
flat_push [] line = append-nil (ended line)
flat_push (l ∷ ls) line = ap (λ (t : List ℕ). ended l ++ t) (flat_push ls line) ∙ sym (append_assoc (ended l) (flat_map ended ls) (ended line))

line_more : (old mid new : Option (List ℕ)) (now after : List ℕ × ℕ) (kept : List ℕ × Bool) (s t : Found) → (a : SoFar old mid now s) → (l : TakesLine mid new now after kept)
    → Reflects t (a.lines ++ l.bytes ∷ []) → SoFar old new after t
line_more old mid new now after kept s t a l state =
    record {
      read = a.read ++ l.takes.read;
      from = consumes_more old mid new a.read l.takes.read a.from l.takes.from;
      lines = a.lines ++ l.bytes ∷ [];
      same =
          ap (λ x. x ++ l.takes.read) a.same ∙ append_assoc (flat_map ended a.lines) now.0 l.takes.read ∙ ap (λ x. flat_map ended a.lines ++ x) l.takes.same
          ∙ sym (append_assoc (flat_map ended a.lines) (l.bytes ++ 10 ∷ []) after.0) ∙ ap (λ x. x ++ after.0) (sym (flat_push a.lines l.bytes));
      whole = All-push NoNewline a.lines l.bytes a.whole l.plain;
      state = state;
    }

rest_same : (old mid new : Option (List ℕ)) (now after : List ℕ × ℕ) (kept : List ℕ × Bool) (s : Found) → (a : SoFar old mid now s) → (l : TakesRest mid new now after kept)
    → a.read ++ l.takes.read ≡ flat_map ended a.lines ++ l.bytes
rest_same old mid new now after kept s a l =
    ap (λ x. x ++ l.takes.read) a.same ∙ append_assoc (flat_map ended a.lines) now.0 l.takes.read
    ∙ ap (λ x. flat_map ended a.lines ++ x) (l.takes.same ∙ ap (λ x. l.bytes ++ x) l.empty ∙ append-nil l.bytes)

-- the lines so far and what is left after them are all that there is
all_read : (old mid new : Option (List ℕ)) (now after : List ℕ × ℕ) (kept : List ℕ × Bool) (s t : Found) → (a : SoFar old mid now s) → (l : TakesRest mid new now after kept) → IsAtEnd new
    → Stops t a.lines l.bytes → HasRead old new t
all_read old mid new now after kept s t a l end state = record {
  bytes = a.read ++ l.takes.read;
  read = consumes_more old mid new a.read l.takes.read a.from l.takes.from;
  end = end;
  ended = record { lines = a.lines; rest = l.bytes; splits = record { text = rest_same old mid new now after kept s a l; whole = a.whole; cut = l.plain }; state = state };
}

stop_state : (P : Type 0) (lines : List (List ℕ)) (rest : List ℕ) (w : Option WrongLine) → MatchOption w P (λ v. IsWrongWhole lines v.number v.fault) → rest ≡ []
    → MatchOption w (P × (rest ≡ [])) (λ v. IsFirstWrong lines rest v.number v.fault)
stop_state P lines rest None h e = (h, e)
stop_state P lines rest (Some v) h e = whole_first lines rest v.number v.fault h

nothing_kept : (bytes : List ℕ) → take 4096 bytes ≡ [] → bytes ≡ []
nothing_kept bytes h = empty_list bytes (omega (arith, ap length h, length-take 4096 bytes))

-- at the end no line is left
pub ends_here : (old mid new : Option (List ℕ)) (now after : List ℕ × ℕ) (kept : List ℕ × Bool) (s : Found) (r : Option Ending) → SoFar old mid now s → GivesLine mid new now after kept (Ok r) → r ≡ None
    → HasRead old new s
ends_here old mid new now after kept s r a gives is =
    let g = subst (λ (o : Option Ending). GivesLine mid new now after kept (Ok o)) is gives in
    let l = g.0 in
    let none : l.bytes ≡ [] = nothing_kept l.bytes (sym (ap (λ k. k.0) l.kept_is) ∙ g.2) in
    all_read old mid new now after kept s s a l g.1 (stop_state (IsClaimOf a.lines s.claim) a.lines l.bytes s.wrong a.state none)

-- after a line: the lines so far, or with a cut line all that there are
abbrev pub AfterLine : Ending → Option (List ℕ) → Option (List ℕ) → List ℕ × ℕ → Found → Type 0
AfterLine Whole old new now s = SoFar old new now s
AfterLine Long old new now s = SoFar old new now s
AfterLine Cut old new now s = HasRead old new s

-- what a line does, whichever lines were before it
abbrev pub Takes : Ending → List ℕ → Found → Found → Type 0
Takes ending kept s t = (lines : List (List ℕ)) (bytes : List ℕ) → EndsSo ending kept bytes → Reflects s lines → TakesOne ending t lines bytes

pub after_line : (ending : Ending) (old mid new : Option (List ℕ)) (now after : List ℕ × ℕ) (kept : List ℕ × Bool) (s t : Found) (r : Option Ending) → SoFar old mid now s
    → GivesLine mid new now after kept (Ok r) → r ≡ Some ending → Takes ending kept.0 s t → AfterLine ending old new after t
after_line Whole old mid new now after kept s t r a gives is takes =
    let g = subst (λ (o : Option Ending). GivesLine mid new now after kept (Ok o)) is gives in
    let l = g.0 in
    let f : nat_lt 4096 (length l.bytes) ≡ false = sym (ap (λ k. k.1) l.kept_is) ∙ g.1 in
    let le : length l.bytes ≤ 4096 = grind (arith, nat_tests) in
    line_more old mid new now after kept s t a l (takes a.lines l.bytes (le, ap (λ k. k.0) l.kept_is ∙ take_all 4096 l.bytes le) a.state)
after_line Long old mid new now after kept s t r a gives is takes =
    let g = subst (λ (o : Option Ending). GivesLine mid new now after kept (Ok o)) is gives in
    let l = g.0 in
    let f : nat_lt 4096 (length l.bytes) ≡ true = sym (ap (λ k. k.1) l.kept_is) ∙ g.1 in
    let lt : 4096 < length l.bytes = grind (arith, nat_tests) in
    line_more old mid new now after kept s t a l (takes a.lines l.bytes lt a.state)
after_line Cut old mid new now after kept s t r a gives is takes =
    let g = subst (λ (o : Option Ending). GivesLine mid new now after kept (Ok o)) is gives in
    let l = g.0 in
    let some : 0 < length (take 4096 l.bytes) = omega (arith, g.2, ap (λ k. length k.0) l.kept_is) in
    all_read old mid new now after kept s t a l g.1 (takes a.lines l.bytes (omega (arith, some, length-take 4096 l.bytes)) a.state)

-- the line was cut
pub after_cut : (ending : Ending) (old new : Option (List ℕ)) (now : List ℕ × ℕ) (s : Found) → AfterLine ending old new now s → true ≡ sameb the_type ending Cut → HasRead old new s
after_cut Whole old new now s a cut = absurd (false≢true (sym cut))
after_cut Long old new now s a cut = absurd (false≢true (sym cut))
after_cut Cut old new now s a cut = a

-- any other line goes on
pub goes_on : (ending : Ending) (old new : Option (List ℕ)) (now : List ℕ × ℕ) (s : Found) → AfterLine ending old new now s → false ≡ sameb the_type ending Cut → SoFar old new now s
goes_on Whole old new now s a cut = a
goes_on Long old new now s a cut = a
goes_on Cut old new now s a cut = absurd (false≢true cut)

-- the bytes of the line are those that were kept
pub same_bytes : (ending : Ending) (bytes kept : List ℕ) (s t : Found) → bytes ≡ kept → Takes ending bytes s t → Takes ending kept s t
same_bytes ending bytes kept s t is h = subst (λ (b : List ℕ). Takes ending b s t) is h

-- the answer to what was read
pub answered : (size : PageSize) → (r : Region) (old new : Option (List ℕ)) (s : Found) (answer : Answer) (text : List ℕ) → HasRead old new s
    → ((input : List ℕ) → HasEnded s input → IsAnswer size r input answer) → text ≡ ended (answer_line answer) → Answered size r old new answer text
answered size r old new s answer text read is spelled = record {
  input = read.bytes;
  read = read.read;
  end = read.end;
  answered = is read.bytes read.ended;
  spelled = spelled;
}
