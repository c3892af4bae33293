-- The lines of a plan that was read: those of threads give no names, and the last ones are queries and rules.
use Rattle.std.proofs.Common.{◌≡◌, ℕ, ◌+◌, Bool, true, false, if◌then◌else◌, List, [], ◌∷◌, ◌++◌, Option, Some, None, Result, Ok, Err, is_ok, refl, sym, ap, subst, ◌∙◌}
use Rattle.std.proofs.lemmas.Bool.{false≢true}
use Rattle.std.specs.Option.{option_map_or}
use Rattle.l4_fpage.specs.declared.sizes.PageSize.{PageSize}
use Rattle.l4_names.specs.Names.{Names, after_giving}
use Rattle.l4_text.specs.Grammar.{TextLine, ending_of}
use Rattle.l4_text.specs.declared.lines.Ending.{Ending}
use Rattle.l4_text.specs.declared.lines.Ending.TheVariants.{Whole, Long as TooLong, Cut as IsCut}
use Rattle.l4_commands.specs.Calls.{root}
use Rattle.l4_commands.specs.LineKinds.{kind_of, names_by}
use Rattle.l4_commands.specs.Requests.{Unread, asked_at}
use Rattle.l4_commands.specs.declared.line_kinds.LineKind.{LineKind}
use Rattle.l4_commands.specs.declared.requests.Request.{Request}
use Rattle.l4_commands.specs.declared.requests.Request.TheVariants.{Enter, CreateThread, EndThread, SendPlan, ListPages, TellParent, AddRegion, ServeThread, GiveName, TellReply, CancelWait, TellSteps, BeginUnordered, BeginFinally, StateRule}
use Rattle.l4_orders.specs.declared.parts.LineFault.{LineFault}
use Rattle.l4_orders.specs.declared.parts.LineFault.TheVariants.{Long, Cut, Unread as NotRead, Repeated, OfNoThread, NoQuery, Steps}
use Rattle.l4_orders.specs.declared.parts.Part.{Part}
use Rattle.l4_orders.specs.declared.parts.Part.TheVariants.{First, Unordered as Free, Finally as Last}
use Rattle.l4_orders.specs.Reading.{Line, Group, Parts, no_parts, is_group, with_line, with_first, add_call, add_naming, add_query, begin_free, begin_last, add_line, early_fault, take_asked, take_line, AreRead}
use Rattle.l4_orders.proofs.Asking.{IsAsked}

-- WHAT HOLDS OF EACH LINE

abbrev pub AllLines : (List ℕ → Type 0) → List Line → Type 0
AllLines P [] = Unit {0}
AllLines P (line ∷ lines) = P line.bytes × AllLines P lines

abbrev pub AllGroups : (List ℕ → Type 0) → List Group → Type 0
AllGroups P [] = Unit {0}
AllGroups P (group ∷ groups) = AllLines P group.lines × AllGroups P groups

pub lines_push : (P : List ℕ → Type 0) (lines : List Line) (line : Line) → AllLines P lines → P line.bytes → AllLines P (lines ++ line ∷ [])
lines_push P [] line all one = (one, tt)
lines_push P (l ∷ lines) line all one = (all.0, lines_push P lines line all.1 one)

groups_push : (P : List ℕ → Type 0) (groups : List Group) (thread : ℕ) (cancels : Bool) (line : Line) → AllGroups P groups → P line.bytes → AllGroups P (with_line groups thread cancels line)
groups_push P [] thread cancels line all one = ((one, tt), tt)
groups_push P (group ∷ groups) thread cancels line all one = at (is_group thread cancels group) (groups_push P groups thread cancels line all.1 one) where
  at : (b : Bool) → AllGroups P (with_line groups thread cancels line)
      → AllGroups P (if b then (record { thread = group.thread; cancels = group.cancels; lines = group.lines ++ line ∷ [] } ∷ groups) else (group ∷ with_line groups thread cancels line))
  at true later = (lines_push P group.lines line all.0 one, all.1)
  at false later = (all.0, later)

-- NAMES

-- the names after these lines
abbrev pub names_through : PageSize → Names → List Line → Names
names_through size names [] = names
names_through size names (line ∷ lines) = names_through size (names_by names (asked_at size names Whole line.bytes)) lines

through_push : (size : PageSize) (names : Names) (lines : List Line) (line : Line) → names_through size names (lines ++ line ∷ [])
    ≡ names_by (names_through size names lines) (asked_at size (names_through size names lines) Whole line.bytes)
through_push size names [] line = refl
through_push size names (l ∷ lines) line = through_push size (names_by names (asked_at size names Whole l.bytes)) lines line

-- the bytes are those of a line that is not too long
abbrev pub IsShort : List ℕ → Type 0
IsShort bytes = ending_of (record { bytes = bytes; whole = true }) ≡ Whole

-- such a line, which gives no name
abbrev pub GivesNone : PageSize → Names → List ℕ → Type 0
GivesNone size names bytes = IsShort bytes × (names_by names (asked_at size names Whole bytes) ≡ names)

-- such a line, which is a query or a rule
abbrev pub Asks : PageSize → Names → List ℕ → Type 0
Asks size names bytes = IsAsked (kind_of (asked_at size names Whole bytes))

-- no line is that of a thread or a query yet
abbrev IsEarly : Part → Parts → Type 0
IsEarly First p = (p.groups ≡ []) × (p.queries ≡ [])
IsEarly Free p = Unit {0}
IsEarly Last p = Unit {0}

-- the lines of threads give no names, and the last lines are queries and rules
pub record IsSorted (size : PageSize) (p : Parts) : Type 0 where
  pub short : AllLines IsShort p.first
  pub names : p.names ≡ names_through size [] p.first
  pub groups : AllGroups (GivesNone size p.names) p.groups
  pub queries : AllLines (Asks size p.names) p.queries
  pub early : IsEarly p.part p

none_sorted : (size : PageSize) → IsSorted size no_parts
none_sorted size = record { short = tt; names = refl; groups = tt; queries = tt; early = (refl, refl) }

-- ONE LINE MORE

same_ok : (p q : Parts) → ◌≡◌ {A = Result Parts LineFault} (Ok p) (Ok q) → p ≡ q
same_ok p q e = ap (value p) e where
  value : Parts → Result Parts LineFault → Parts
  value d (Ok x) = x
  value d (Err fault) = d

is_refused : (fault : LineFault) (q : Parts) → ◌≡◌ {A = Result Parts LineFault} (Err fault) (Ok q) → ⊥
is_refused fault q e = false≢true (ap is_ok e)

through : (size : PageSize) (p q : Parts) → IsSorted size p → ◌≡◌ {A = Result Parts LineFault} (Ok p) (Ok q) → IsSorted size q
through size p q s e = subst (IsSorted size) (same_ok p q e) s

-- a line of a thread, or one that ends its wait
call_sorted : (part : Part) (size : PageSize) (p q : Parts) (thread : ℕ) (cancels : Bool) (line : Line) → p.part ≡ part → IsSorted size p → GivesNone size p.names line.bytes
    → add_call part p thread cancels line ≡ Ok q → IsSorted size q
call_sorted First size p q thread cancels line at s gives e = through size (with_first p line) q (record {
  short = lines_push IsShort p.first line s.short gives.0;
  names = sym (through_push size [] p.first line ∙ ap (λ (n : Names). names_by n (asked_at size n Whole line.bytes)) (sym s.names) ∙ gives.1);
  groups = s.groups;
  queries = s.queries;
  early = kept p.part s.early;
}) e where
  kept : (part : Part) → IsEarly part p → IsEarly part (with_first p line)
  kept First h = h
  kept Free h = tt
  kept Last h = tt
call_sorted Free size p q thread cancels line at s gives e = through size (record p { groups = with_line p.groups thread cancels line }) q (record {
  short = s.short;
  names = s.names;
  groups = groups_push (GivesNone size p.names) p.groups thread cancels line s.groups gives;
  queries = s.queries;
  early = subst (λ (part : Part). IsEarly part (record p { groups = with_line p.groups thread cancels line })) (sym at) tt;
}) e
call_sorted Last size p q thread cancels line at s gives e = absurd (is_refused NoQuery q e)

-- a line that creates a thread
created_sorted : (size : PageSize) (p : Parts) (created : List ℕ) → IsSorted size p → IsSorted size (record p { created = created })
created_sorted size p created s = record { short = s.short; names = s.names; groups = s.groups; queries = s.queries; early = kept p.part s.early } where
  kept : (part : Part) → IsEarly part p → IsEarly part (record p { created = created })
  kept First h = h
  kept Free h = tt
  kept Last h = tt

-- a line that gives a name
naming_sorted : (part : Part) (size : PageSize) (p q : Parts) (names : Names) (line : Line) → p.part ≡ part → IsSorted size p → IsShort line.bytes
    → names_by p.names (asked_at size p.names Whole line.bytes) ≡ names → add_naming part (record p { names = names }) line ≡ Ok q → IsSorted size q
naming_sorted First size p q names line at s short is e =
    let early : IsEarly First p = subst (λ (part : Part). IsEarly part p) at s.early in
    through size (with_first (record p { names = names }) line) q (record {
      short = lines_push IsShort p.first line s.short short;
      names = sym (through_push size [] p.first line ∙ ap (λ (n : Names). names_by n (asked_at size n Whole line.bytes)) (sym s.names) ∙ is);
      groups = subst (AllGroups (GivesNone size names)) (sym early.0) tt;
      queries = subst (AllLines (Asks size names)) (sym early.1) tt;
      early = subst (λ (part : Part). IsEarly part (with_first (record p { names = names }) line)) (sym at) early;
    }) e
naming_sorted Free size p q names line at s short is e = absurd (is_refused OfNoThread q e)
naming_sorted Last size p q names line at s short is e = absurd (is_refused NoQuery q e)

-- a query or a rule
query_sorted : (part : Part) (size : PageSize) (p q : Parts) (line : Line) → p.part ≡ part → IsSorted size p → Asks size p.names line.bytes → add_query part p line ≡ Ok q → IsSorted size q
query_sorted First size p q line at s asks e = absurd (is_refused OfNoThread q e)
query_sorted Free size p q line at s asks e = absurd (is_refused OfNoThread q e)
query_sorted Last size p q line at s asks e = through size (record p { queries = p.queries ++ line ∷ [] }) q (record {
  short = s.short;
  names = s.names;
  groups = s.groups;
  queries = lines_push (Asks size p.names) p.queries line s.queries asks;
  early = subst (λ (part : Part). IsEarly part (record p { queries = p.queries ++ line ∷ [] })) (sym at) tt;
}) e

free_sorted : (part : Part) (size : PageSize) (p q : Parts) → IsSorted size p → begin_free part p ≡ Ok q → IsSorted size q
free_sorted First size p q s e = through size (record p { part = Free }) q (record { short = s.short; names = s.names; groups = s.groups; queries = s.queries; early = tt }) e
free_sorted Free size p q s e = absurd (is_refused Repeated q e)
free_sorted Last size p q s e = absurd (is_refused Repeated q e)

last_sorted : (part : Part) (size : PageSize) (p q : Parts) → IsSorted size p → begin_last part p ≡ Ok q → IsSorted size q
last_sorted First size p q s e = absurd (is_refused Repeated q e)
last_sorted Free size p q s e = through size (record p { part = Last }) q (record { short = s.short; names = s.names; groups = s.groups; queries = s.queries; early = tt }) e
last_sorted Last size p q s e = absurd (is_refused Repeated q e)

-- a line that asks for this
asked_sorted : (asked : Result (Option Request) Unread) (size : PageSize) (p q : Parts) (line : Line) → asked_at size p.names Whole line.bytes ≡ asked → IsSorted size p → IsShort line.bytes
    → add_line (kind_of asked) (record p { names = names_by p.names asked }) line ≡ Ok q → IsSorted size q
asked_sorted (Ok None) size p q line is s short e = through size p q s e
asked_sorted (Err unread) size p q line is s short e = absurd (is_refused NotRead q e)
asked_sorted (Ok (Some (Enter thread call))) size p q line is s short e = call_sorted p.part size p q thread false line refl s (short, ap (names_by p.names) is) e
asked_sorted (Ok (Some (CreateThread number call))) size p q line is s short e =
    call_sorted p.part size (record p { created = p.created ++ number ∷ [] }) q root false line refl (created_sorted size p (p.created ++ number ∷ []) s) (short, ap (names_by p.names) is) e
asked_sorted (Ok (Some (EndThread thread))) size p q line is s short e = call_sorted p.part size p q root false line refl s (short, ap (names_by p.names) is) e
asked_sorted (Ok (Some (SendPlan thread to which region))) size p q line is s short e = call_sorted p.part size p q thread false line refl s (short, ap (names_by p.names) is) e
asked_sorted (Ok (Some (ListPages thread first count))) size p q line is s short e = query_sorted p.part size p q line refl s (subst (λ (a : Result (Option Request) Unread). IsAsked (kind_of a)) (sym is) tt) e
asked_sorted (Ok (Some (TellParent thread page))) size p q line is s short e = query_sorted p.part size p q line refl s (subst (λ (a : Result (Option Request) Unread). IsAsked (kind_of a)) (sym is) tt) e
asked_sorted (Ok (Some (AddRegion thread entry))) size p q line is s short e = call_sorted p.part size p q thread false line refl s (short, ap (names_by p.names) is) e
asked_sorted (Ok (Some (ServeThread thread))) size p q line is s short e = call_sorted p.part size p q thread false line refl s (short, ap (names_by p.names) is) e
asked_sorted (Ok (Some (GiveName name thread))) size p q line is s short e = naming_sorted p.part size p q (after_giving p.names name thread) line refl s short (ap (names_by p.names) is) e
asked_sorted (Ok (Some (TellReply thread))) size p q line is s short e = query_sorted p.part size p q line refl s (subst (λ (a : Result (Option Request) Unread). IsAsked (kind_of a)) (sym is) tt) e
asked_sorted (Ok (Some (CancelWait thread cause))) size p q line is s short e = call_sorted p.part size p q thread true line refl s (short, ap (names_by p.names) is) e
asked_sorted (Ok (Some TellSteps)) size p q line is s short e = absurd (is_refused Steps q e)
asked_sorted (Ok (Some BeginUnordered)) size p q line is s short e = free_sorted p.part size p q s e
asked_sorted (Ok (Some BeginFinally)) size p q line is s short e = last_sorted p.part size p q s e
asked_sorted (Ok (Some StateRule)) size p q line is s short e = query_sorted p.part size p q line refl s (subst (λ (a : Result (Option Request) Unread). IsAsked (kind_of a)) (sym is) tt) e

-- a line with this ending
is_short : (bytes : List ℕ) (whole : Bool) → ending_of (record { bytes = bytes; whole = whole }) ≡ Whole → IsShort bytes
is_short bytes true e = e
is_short bytes false e = absurd (not_whole e) where
  IsNotWhole : Ending → Type 0
  IsNotWhole Whole = ⊥
  IsNotWhole TooLong = Unit {0}
  IsNotWhole IsCut = Unit {0}

  not_whole : IsCut ≡ Whole → ⊥
  not_whole same = subst IsNotWhole same tt

not_early : (early : Option LineFault) (due : Result Parts LineFault) (q : Parts) → option_map_or (λ fault. Err fault) early due ≡ Ok q → due ≡ Ok q
not_early None due q e = e
not_early (Some fault) due q e = absurd (is_refused fault q e)

taken_sorted : (ending : Ending) (size : PageSize) (p q : Parts) (number : ℕ) (bytes : List ℕ) → IsSorted size p → (ending ≡ Whole → IsShort bytes) → take_line size p number ending bytes ≡ Ok q → IsSorted size q
taken_sorted Whole size p q number bytes s short e = asked_sorted (asked_at size p.names Whole bytes) size p q (record { number = number; bytes = bytes }) refl s (short refl)
    (not_early (early_fault size p.names bytes) (take_asked size p (record { number = number; bytes = bytes })) q e)
taken_sorted TooLong size p q number bytes s short e = absurd (is_refused Long q e)
taken_sorted IsCut size p q number bytes s short e = absurd (is_refused Cut q e)

lines_sorted : (size : PageSize) (number : ℕ) (p q : Parts) (lines : List TextLine) → IsSorted size p → AreRead size number p lines q → IsSorted size q
lines_sorted size number p q [] s e = subst (IsSorted size) (sym e) s
lines_sorted size number p q (line ∷ lines) s a =
    lines_sorted size (number + 1) a.0 q lines (taken_sorted (ending_of line) size p a.0 number line.bytes s (is_short line.bytes line.whole) a.1) a.2

-- the parts of a file
pub file_sorted : (size : PageSize) (parts : Parts) (lines : List TextLine) → AreRead size 1 no_parts lines parts → IsSorted size parts
file_sorted size parts lines a = lines_sorted size 1 no_parts parts lines (none_sorted size) a
