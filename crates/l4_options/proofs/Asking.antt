-- From a parse to what a command line asks for, and from that to the range of frames.
use Rattle.std.proofs.Common.{◌≡◌, ◌∙◌, ℕ, ◌&&◌, nat_le, Bool, true, false, if◌then◌else◌, inl, inr, refl, sym, ap, subst, List, [], Option, Some, None, option_map, option_and_then, unwrap_or, Result, IfOk, arith}
use Rattle.std.proofs.lemmas.Bool.Decides.{nat_tests}
use Rattle.std.proofs.lemmas.Slice.Eq.{bytes_eq-Decides}
use Rattle.std.specs.Str.{bytes_eq}
use Rattle.std.proofs.lemmas.Option.{none-some}
use Rattle.std.proofs.lemmas.Result.{IfOk-weaker}
use Rattle.clap.proofs.OnLiterals.{clap_on_literals}
use Rattle.clap.specs.Faults.{fault_of, is_simple_and_free}
use Rattle.clap.specs.Kinds.{IsAmong, HasKind, Kinds}
use Rattle.clap.specs.Matches.{found_of, subcommand_name_of}
use Rattle.clap.specs.Simple.{App, HasMatchesOf, app_of, is_simple, matches_of, subcommand_of, subcommand_rows_of}
use Rattle.clap.specs.Values.{kind_of}
use Rattle.clap.specs.Walk.{Row, Text, first_of, rows_of}
use Rattle.clap.specs.declared.builder.command.Command.{Command}
use Rattle.clap.specs.declared.error.Error.{Error}
use Rattle.clap.specs.declared.error.kind.ErrorKind.{ErrorKind}
use Rattle.clap.specs.declared.error.kind.ErrorKind.TheVariants.{DisplayHelp, DisplayVersion, OutOfMemory}
use Rattle.clap.specs.declared.parser.matches.ArgMatches.{ArgMatches}
use Rattle.clap.specs.declared.parser.matches.ArgMatches.TheViews.{out-ArgMatches}
use Rattle.l4_fpage.specs.Pages.{max_frames}
use Rattle.l4_options.proofs.Lines.{met}
use Rattle.l4_options.specs.Commands.{Asks, AreStepsAsked, AreStepsIn, IsAsked, IsStepsText, IsText, WantsText, l4_program, l4_steps_program}
use Rattle.l4_options.specs.Inside.Lines.{IsTextKind}
use Rattle.l4_options.specs.Ranges.{AreStepsInRange, IsFrameCount, IsInRange}
use Rattle.l4_options.specs.Spelled.{AreFramesIn, decimal_of, frame_count_of, spelled_or}
use Rattle.l4_options.specs.declared.requests.OptionFault.{OptionFault}
use Rattle.l4_options.specs.declared.requests.Options.{Options}
use Rattle.l4_options.specs.declared.requests.Options.TheVariants.{Run, History, Segments, Judge, Why, WhySegments, Plan, Check, Decode, Encode, Test, Orders, Show}
use Rattle.l4_options.specs.declared.requests.StepOptions.{StepOptions}
use Rattle.l4_options.specs.declared.requests.StepOptions.TheVariants.{Run as RunSteps, Show as ShowText}

-- ---- the programs are commands of which clap states the matches and the faults

l4_is_simple : is_simple l4_program ≡ true
unfolding clap_on_literals
l4_is_simple = refl

l4_is_free : is_simple_and_free l4_program ≡ true
unfolding clap_on_literals
l4_is_free = refl

steps_are_simple : is_simple l4_steps_program ≡ true
unfolding clap_on_literals
steps_are_simple = refl

steps_are_free : is_simple_and_free l4_steps_program ≡ true
unfolding clap_on_literals
steps_are_free = refl

-- ---- a text in place of matches

wants_text : (faults : Kinds) (e : Error) → HasKind faults e → IsTextKind (kind_of e) → WantsText faults
wants_text faults e (inl memory) (inl help) = let bad : DisplayHelp ≡ OutOfMemory = sym help ∙ memory in cc
wants_text faults e (inl memory) (inr version) = let bad : DisplayVersion ≡ OutOfMemory = sym version ∙ memory in cc
wants_text faults e (inr among) (inl help) = inl (subst (λ (k : ErrorKind). IsAmong k faults) help among)
wants_text faults e (inr among) (inr version) = inr (subst (λ (k : ErrorKind). IsAmong k faults) version among)

-- the faults of the words, by those of a command that is this program
fails_by : (app : App) (c : Command) (words : List Text) (e : Error) → is_simple_and_free app ≡ true → app_of c ≡ app
    → (is_simple_and_free (app_of c) ≡ true → HasKind (fault_of (app_of c) words) e) → HasKind (fault_of app words) e
fails_by app c words e free is fails = subst (λ (a : App). HasKind (fault_of a words) e) is (fails (ap is_simple_and_free is ∙ free))

pub shown : (c : Command) (words : List Text) (e : Error) (r : Result Options OptionFault) → app_of c ≡ l4_program
    → (is_simple_and_free (app_of c) ≡ true → HasKind (fault_of (app_of c) words) e)
    → IfOk r (λ o. IsText o × IsTextKind (kind_of e)) → IfOk r (IsAsked words)
unfolding IsAsked
shown c words e r is fails = IfOk-weaker r _ _ (λ o text. inl (text.0, wants_text (fault_of l4_program words) e (fails_by l4_program c words e l4_is_free is fails) text.1))

pub steps_shown : (c : Command) (words : List Text) (e : Error) (r : Result StepOptions OptionFault) → app_of c ≡ l4_steps_program
    → (is_simple_and_free (app_of c) ≡ true → HasKind (fault_of (app_of c) words) e)
    → IfOk r (λ o. IsStepsText o × IsTextKind (kind_of e)) → IfOk r (AreStepsAsked words)
unfolding AreStepsAsked
steps_shown c words e r is fails = IfOk-weaker r _ _ (λ o text. inl (text.0, wants_text (fault_of l4_steps_program words) e (fails_by l4_steps_program c words e steps_are_free is fails) text.1))

-- ---- matches

faultless : (app : App) (c : Command) (words : List Text) → is_simple_and_free app ≡ true → app_of c ≡ app
    → (is_simple_and_free (app_of c) ≡ true → fault_of (app_of c) words ≡ []) → fault_of app words ≡ []
faultless app c words free is none = subst (λ (a : App). fault_of a words ≡ []) is (none (ap is_simple_and_free is ∙ free))

pub asked : (c : Command) (words : List Text) (m : ArgMatches) (name : Text) (rows : List Row) (r : Result Options OptionFault)
    → app_of c ≡ l4_program → HasMatchesOf (app_of c) words m → (is_simple_and_free (app_of c) ≡ true → fault_of (app_of c) words ≡ [])
    → Some name ≡ subcommand_name_of m → Some rows ≡ option_map (λ p. p.1) (subcommand_rows_of m)
    → IfOk r (Asks name rows) → IfOk r (IsAsked words)
unfolding IsAsked
asked c words m name rows r is matched none named found =
    let holds = matched (ap is_simple is ∙ l4_is_simple) in
    let here : subcommand_of l4_program words ≡ Some (name, rows) =
    subst (λ (a : App). subcommand_of a words ≡ Some (name, rows)) is (sym holds.1 ∙ met (out-ArgMatches m).subcommand name rows named found) in
    IfOk-weaker r _ _ (λ o asks. inr (faultless l4_program c words l4_is_free is none, (name, rows, here, asks)))

pub steps_asked : (c : Command) (words : List Text) (m : ArgMatches) (r : Result StepOptions OptionFault)
    → app_of c ≡ l4_steps_program → HasMatchesOf (app_of c) words m → (is_simple_and_free (app_of c) ≡ true → fault_of (app_of c) words ≡ [])
    → IfOk r (AreStepsIn (rows_of (found_of m))) → IfOk r (AreStepsAsked words)
unfolding AreStepsAsked
steps_asked c words m r is matched none =
    let holds = matched (ap is_simple is ∙ steps_are_simple) in
    let here : rows_of (found_of m) ≡ matches_of l4_steps_program words = holds.0 ∙ ap (λ (a : App). matches_of a words) is in
    IfOk-weaker r _ _ (λ o asks. inr (faultless l4_steps_program c words steps_are_free is none, subst (λ (found : List Row). AreStepsIn found o) here asks))

pub of_name : (name other : Text) (found : List Row) (r : Result Options OptionFault) → true ≡ bytes_eq name other → IfOk r (Asks other found) → IfOk r (Asks name found)
of_name name other found r same asks = subst (λ (n : Text). IfOk r (Asks n found)) (sym ((bytes_eq-Decides name other).0 (sym same))) asks

-- ---- the range of frames

some_is : (k n : ℕ) → ◌≡◌ {A = Option ℕ} (Some k) (Some n) → k ≡ n
some_is k n e = ap (λ (o : Option ℕ). unwrap_or o k) e

within : (k n : ℕ) (a b : Bool) → nat_le 1 k ≡ a → nat_le k max_frames ≡ b → (if a && b then Some k else None) ≡ Some n → IsFrameCount n
within k n true true low high e = subst IsFrameCount (some_is k n e) (grind (arith, nat_tests), grind (arith, nat_tests))
within k n true false low high e = absurd (none-some n e)
within k n false b low high e = absurd (none-some n e)

counted : (o : Option ℕ) (n : ℕ) → option_and_then (λ k. if nat_le 1 k && nat_le k max_frames then Some k else None) o ≡ Some n → IsFrameCount n
counted None n e = absurd (none-some n e)
counted (Some k) n e = within k n (nat_le 1 k) (nat_le k max_frames) refl refl e

framed : (o : Option Text) (n : ℕ) → spelled_or 256 frame_count_of o ≡ Some n → IsFrameCount n
framed None n e = subst IsFrameCount (some_is 256 n e) (omega arith, omega arith)
framed (Some word) n e = counted (decimal_of word) n e

frames_fit : (found : List Row) (n : ℕ) → AreFramesIn found n → IsFrameCount n
frames_fit found n e = framed (first_of _ found) n e

asks_in_range : (name : Text) (found : List Row) (o : Options) → Asks name found o → IsInRange o
asks_in_range name found (Run script strict explain number moves history_to) asks = frames_fit found script.frames asks.1.frames
asks_in_range name found (History script strict answers) asks = frames_fit found script.frames asks.1.frames
asks_in_range name found (Segments files answers) asks = tt
asks_in_range name found (Judge asked) asks = frames_fit found asked.list.frames asks.1.frames
asks_in_range name found (Why script strict thread page) asks = frames_fit found script.frames asks.1.frames
asks_in_range name found (WhySegments files thread page) asks = tt
asks_in_range name found (Plan region size) asks = tt
asks_in_range name found (Check region size file) asks = tt
asks_in_range name found (Decode words reading size) asks = tt
asks_in_range name found (Encode words) asks = tt
asks_in_range name found (Test files tap write lenient) asks = tt
asks_in_range name found (Orders asked) asks = frames_fit found asked.test.frames asks.1.frames
asks_in_range name found (Show text) asks = tt

text_in_range : (o : Options) → IsText o → IsInRange o
text_in_range (Run script strict explain number moves history_to) text = absurd text
text_in_range (History script strict answers) text = absurd text
text_in_range (Segments files answers) text = absurd text
text_in_range (Judge asked) text = absurd text
text_in_range (Why script strict thread page) text = absurd text
text_in_range (WhySegments files thread page) text = tt
text_in_range (Plan region size) text = tt
text_in_range (Check region size file) text = tt
text_in_range (Decode words reading size) text = tt
text_in_range (Encode words) text = tt
text_in_range (Test files tap write lenient) text = tt
text_in_range (Orders asked) text = absurd text
text_in_range (Show text) is = tt

one_in_range : (words : List Text) (o : Options) → IsAsked words o → IsInRange o
unfolding IsAsked
one_in_range words o (inl text) = text_in_range o text.0
one_in_range words o (inr asks) = asks_in_range asks.1.0 asks.1.1 o asks.1.3

pub in_range : (words : List Text) (r : Result Options OptionFault) → IfOk r (IsAsked words) → IfOk r IsInRange
in_range words r = IfOk-weaker r _ _ (one_in_range words)

steps_one_in_range : (words : List Text) (o : StepOptions) → AreStepsAsked words o → AreStepsInRange o
unfolding AreStepsAsked
steps_one_in_range words (RunSteps list) (inl text) = absurd text.0
steps_one_in_range words (RunSteps list) (inr asks) = frames_fit (matches_of l4_steps_program words) list.frames asks.1.frames
steps_one_in_range words (ShowText text) asked = tt

pub steps_in_range : (words : List Text) (r : Result StepOptions OptionFault) → IfOk r (AreStepsAsked words) → IfOk r AreStepsInRange
steps_in_range words r = IfOk-weaker r _ _ (steps_one_in_range words)
