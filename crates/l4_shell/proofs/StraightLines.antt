-- Lines that go straight to their call.
use Rattle.std.proofs.Common.{◌≡◌, ℕ, List, [], ◌∷◌, Option, Some, None, Result, Ok, Err, ok_or, refl, subst, sym, ap, ◌∙◌}
use Rattle.std.proofs.lemmas.Option.{none-some, same_Some}
use Rattle.l4_fpage.specs.declared.sizes.PageSize.{PageSize}
use Rattle.l4_ipc.specs.declared.calls.Call.{Call}
use Rattle.l4_names.specs.Names.{Names}
use Rattle.l4_answers.specs.Reports.{Report, UnreadLine, AddsAll}
use Rattle.l4_answers.proofs.Adding.{adds_none}
use Rattle.l4_answers.specs.Refusals.{Refusal}
use Rattle.l4_shell.specs.Refusals.{script_refusal}
use Rattle.l4_commands.specs.declared.commands.ScriptFault.{ScriptFault}
use Rattle.l4_commands.specs.declared.commands.ScriptFault.TheVariants.{BadTokens}
use Rattle.l4_commands.specs.declared.requests.Request.{Request}
use Rattle.l4_commands.specs.declared.requests.Request.TheVariants.{Enter}
use Rattle.l4_commands.specs.Requests.{Unread, some_request, names_after}
use Rattle.l4_shell.specs.Sessions.{Session, State, Enters, CarriesOut, AnswersLine}

-- a line is refused
pub refuses_line : {T : Type 0} (has_told : T → T → List Report → Type 0) (m : State) (line : ℕ) (bytes : List ℕ) (fault : ScriptFault) (q : Result (Option Request) Unread) (code : Refusal) (size : PageSize) (before t : T)
    → Err (record { fault = fault; bytes = bytes }) ≡ q → code ≡ script_refusal fault → size ≡ m.session.machine.size → AddsAll has_told before t (UnreadLine size m.names line code bytes ∷ [])
    → (told : List Report) × AnswersLine m line q told m × AddsAll has_told before t told
refuses_line has_told m line bytes fault q code size before t is code_is size_is tells = (
  UnreadLine size m.names line code bytes ∷ [],
  subst (λ (x : Result (Option Request) Unread). AnswersLine m line x (UnreadLine size m.names line code bytes ∷ []) m) is
      (ap (λ (z : PageSize). UnreadLine z m.names line code bytes ∷ []) size_is ∙ ap (λ (r : Refusal). UnreadLine m.session.machine.size m.names line r bytes ∷ []) code_is, refl),
  tells,
)

-- a line's tokens can't be read, and so there is no call
pub no_call : {T : Type 0} (has_told : T → T → List Report → Type 0) (m : State) (line : ℕ) (bytes : List ℕ) (o : Option Request) (code : Refusal) (size : PageSize) (before t : T)
    → None ≡ o → code ≡ script_refusal BadTokens → size ≡ m.session.machine.size → AddsAll has_told before t (UnreadLine size m.names line code bytes ∷ [])
    → (told : List Report) × AnswersLine m line (some_request bytes (ok_or o BadTokens)) told m × AddsAll has_told before t told
no_call has_told m line bytes o code size before t none code_is size_is tells =
    refuses_line has_told m line bytes BadTokens _ code size before t (ap (λ p. some_request bytes (ok_or p BadTokens)) none) code_is size_is tells

-- the state with this session and these names
abbrev pub with_names : Session → Names → State
with_names session names = record { session = session; names = names }

-- a line's call is entered
pub enters_call : {T : Type 0} (has_told : T → T → List Report → Type 0) (old new : Session) (names : Names) (line n : ℕ) (bytes : List ℕ) (call : Call) (o : Option Request) (before t : T)
    → Some (Enter n call) ≡ o → (told : List Report) × Enters old line n call old.servers told new × AddsAll has_told before t told
    → (told : List Report) × AnswersLine (with_names old names) line (some_request bytes (ok_or o BadTokens)) told (with_names new names) × AddsAll has_told before t told
enters_call has_told old new names line n bytes call None before t is e = absurd (none-some _ (sym is))
enters_call has_told old new names line n bytes call (Some request) before t is e =
    (e.0, subst (λ (r : Request). CarriesOut names old line r e.0 new × (names ≡ names_after names r)) (same_Some _ _ is) (e.1, refl), e.2)

-- a line's request was carried out
pub carries_request : {T : Type 0} (has_told : T → T → List Report → Type 0) (old new : State) (line : ℕ) (bytes : List ℕ) (request : Request) (q : Result Request ScriptFault) (before t : T)
    → Ok request ≡ q → (told : List Report) × CarriesOut old.names old.session line request told new.session × AddsAll has_told before t told → new.names ≡ names_after old.names request
    → (told : List Report) × AnswersLine old line (some_request bytes q) told new × AddsAll has_told before t told
carries_request has_told old new line bytes request q before t is e names =
    (e.0, subst (λ (x : Result Request ScriptFault). AnswersLine old line (some_request bytes x) e.0 new) is (e.1, names), e.2)

-- a line that can't be read
pub faults_as : (bytes : List ℕ) (fault : ScriptFault) (q : Result Request ScriptFault) → Err fault ≡ q → Err (record { fault = fault; bytes = bytes }) ≡ some_request bytes q
faults_as bytes fault q is = ap (some_request bytes) is

-- a line asks for what its tokens ask for
pub answers_as : {T : Type 0} (has_told : T → T → List Report → Type 0) (old new : State) (line : ℕ) (bytes : List ℕ) (r q : Result Request ScriptFault) (before t : T)
    → r ≡ q → (told : List Report) × AnswersLine old line (some_request bytes r) told new × AddsAll has_told before t told
    → (told : List Report) × AnswersLine old line (some_request bytes q) told new × AddsAll has_told before t told
answers_as has_told old new line bytes r q before t is a = (a.0, subst (λ (x : Result Request ScriptFault). AnswersLine old line (some_request bytes x) a.0 new) is a.1, a.2)

-- a line asks for nothing
pub quiet_line : {T : Type 0} (has_told : T → T → List Report → Type 0) (m : State) (line : ℕ) (q : Result (Option Request) Unread) (before : T)
    → Ok None ≡ q → (told : List Report) × AnswersLine m line q told m × AddsAll has_told before before told
quiet_line has_told m line q before is =
    ([], subst (λ (x : Result (Option Request) Unread). AnswersLine m line x [] m) is (refl, refl), adds_none has_told before)
