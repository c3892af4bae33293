-- The commands of the programs, as clap reads them, and what the words of a command line ask for (this profile's own).
use Rattle.std.specs.Prelude.{◌≡◌, ◌⊎◌, ◌&&◌, List, [], ◌∷◌, length, map, codes, Some, None, is_some, option_map, true, false}
use Rattle.std.specs.String.{string_bytes}
use Rattle.clap.specs.Faults.{fault_of}
use Rattle.clap.specs.Kinds.{IsAmong, Kinds}
use Rattle.clap.specs.Lexer.{usize_max}
use Rattle.clap.specs.Simple.{App, Shape, new_rule, new_shape, matches_of, subcommand_of}
use Rattle.clap.specs.Walk.{Row, Rule, Text, all_of, first_of}
use Rattle.clap.specs.declared.builder.action.ArgAction.TheVariants.{Set, Append, SetTrue}
use Rattle.clap.specs.declared.error.kind.ErrorKind.TheVariants.{DisplayHelp, DisplayVersion}
use Rattle.l4_options.specs.Spelled.{AreEncodedIn, AreFilesIn, AreNumbersIn, IsChosenAt, IsCountAt, IsDecimalAt, IsReadingIn, IsRegionIn, IsScriptIn, IsSizeIn, is_on}
use Rattle.l4_options.specs.declared.requests.Options.{Options}
use Rattle.l4_options.specs.declared.requests.Options.TheVariants.{Run, History, Segments, Judge, Why, WhySegments, Plan, Check, Decode, Encode, Test, Orders, Show}
use Rattle.l4_options.specs.declared.requests.StepOptions.{StepOptions}
use Rattle.l4_options.specs.declared.requests.StepOptions.TheVariants.{Run as RunSteps, Show as ShowText}

-- ---- arguments

-- a word in its place, which may be left out or not
abbrev pub word : Text → Rule
word id = record (new_rule id) { action = Some Set; value_names = 1 }

abbrev pub needed_word : Text → Rule
needed_word id = record (word id) { required = true }

-- one or more words
abbrev pub needed_words : Text → Rule
needed_words id = record (new_rule id) { action = Some Append; value_names = 1; required = true; range = Some (record { start_inclusive = 1; end_inclusive = usize_max }) }

-- an option with a word, --ID WORD
abbrev pub option : Text → Rule
option id = record (word id) { long = Some id }

-- an option with one or more words, --ID WORD..
abbrev pub option_words : Text → Rule
option_words id = record (new_rule id) { long = Some id; action = Some Set; value_names = 1; range = Some (record { start_inclusive = 1; end_inclusive = usize_max }) }

-- a switch, --ID
abbrev pub switch : Text → Rule
switch id = record (new_rule id) { action = Some SetTrue; long = Some id }

-- ---- commands

-- a command that takes these
abbrev pub command : Text → List Rule → Shape
command name rules = record (new_shape name) { rules = rules }

-- the file, and the frames and pages of the machine
abbrev pub script_rules : List Rule → List Rule
script_rules rules = word (codes "file") ∷ option (codes "frames") ∷ option (codes "page-size") ∷ rules

abbrev pub run_command : Shape
run_command = command (codes "run") (
    script_rules (switch (codes "strict") ∷ switch (codes "explain") ∷ switch (codes "number") ∷ switch (codes "moves")
    ∷ option (codes "history-to") ∷ []))

abbrev pub history_command : Shape
history_command = command (codes "history") (
    script_rules (switch (codes "strict") ∷ switch (codes "answers") ∷ option_words (codes "from") ∷ []))

abbrev pub judge_command : Shape
judge_command = command (codes "judge") (script_rules (option (codes "against") ∷ switch (codes "partial") ∷ switch (codes "all") ∷ switch (codes "follow") ∷ []))

abbrev pub why_command : Shape
why_command = command (codes "why") (needed_word (codes "thread") ∷ needed_word (codes "page") ∷ script_rules (switch (codes "strict") ∷ option_words (codes "from") ∷ []))

-- a region, and the size of its pages
abbrev pub region_rules : List Rule → List Rule
region_rules rules =
    needed_word (codes "source") ∷ needed_word (codes "target") ∷ needed_word (codes "count") ∷ needed_word (codes "rights")
    ∷ option (codes "page-size") ∷ rules

-- plan and check; a check has the file of a plan too
abbrev pub region_command : Text → Shape
region_command name = command name (region_rules [])

abbrev pub check_command : Shape
check_command = command (codes "check") (region_rules (word (codes "file") ∷ []))

abbrev pub decode_command : Shape
decode_command = command (codes "decode") (needed_words (codes "words") ∷ option (codes "as") ∷ option (codes "page-size") ∷ [])

abbrev pub encode_command : Shape
encode_command = command (codes "encode") (needed_words (codes "tokens") ∷ option (codes "as") ∷ option (codes "page-size") ∷ [])

abbrev pub test_command : Shape
test_command = command (codes "test") (needed_words (codes "files") ∷ switch (codes "tap") ∷ switch (codes "write") ∷ switch (codes "lenient") ∷ [])

abbrev pub orders_command : Shape
orders_command = command (codes "orders") (
    script_rules (option (codes "most") ∷ option (codes "witness") ∷ switch (codes "outcomes") ∷ switch (codes "dot") ∷ switch (codes "explain") ∷ switch (codes "lenient") ∷ []))

-- the commands of l4
abbrev pub l4_commands : List Shape
l4_commands =
    run_command ∷ history_command ∷ judge_command ∷ why_command ∷ region_command (codes "plan") ∷ check_command
    ∷ decode_command ∷ encode_command ∷ test_command ∷ orders_command ∷ []

-- the program l4, which takes one of its commands
abbrev pub l4_program : App
l4_program = record { top = record (new_shape (codes "l4")) { is_leaf = false; has_version = true; subcommand_required = true }; subs = l4_commands }

-- the program l4_steps
abbrev pub l4_steps_program : App
l4_steps_program = record {
  top = record (new_shape (codes "l4_steps")) { rules = script_rules []; has_version = true };
  subs = [];
}

-- ---- what a command line asks for

-- nothing that only a script has was found
abbrev pub HasNoScript : List Row → Type 0
HasNoScript found =
    (first_of (codes "file") found ≡ None) × (first_of (codes "frames") found ≡ None) × (first_of (codes "page-size") found ≡ None)
    × (is_on found (codes "strict") ≡ false)

-- the command of this name asks for this, with what was found behind it
abbrev pub Asks : Text → List Row → Options → Type 0
Asks name found (Run script strict explain number moves history_to) =
    (name ≡ codes "run") × IsScriptIn found script × (strict ≡ is_on found (codes "strict")) × (explain ≡ is_on found (codes "explain"))
    × (number ≡ is_on found (codes "number")) × (moves ≡ is_on found (codes "moves"))
    × (option_map string_bytes history_to ≡ first_of (codes "history-to") found)
    × (number && is_some history_to ≡ false) × (moves && is_some history_to ≡ false)
Asks name found (History script strict answers) =
    (name ≡ codes "history") × IsScriptIn found script × (strict ≡ is_on found (codes "strict")) × (answers ≡ is_on found (codes "answers"))
    × (all_of (codes "from") found ≡ None)
Asks name found (Segments files answers) =
    (name ≡ codes "history") × (Some (map string_bytes files.items) ≡ all_of (codes "from") found) × (answers ≡ is_on found (codes "answers")) × HasNoScript found
Asks name found (Judge asked) =
    (name ≡ codes "judge") × IsScriptIn found asked.list × (option_map string_bytes asked.against ≡ first_of (codes "against") found)
    × (asked.partial ≡ is_on found (codes "partial")) × (asked.all ≡ is_on found (codes "all")) × (asked.follow ≡ is_on found (codes "follow"))
Asks name found (Why script strict thread page) =
    (name ≡ codes "why") × IsScriptIn found script × (strict ≡ is_on found (codes "strict"))
    × IsDecimalAt found (codes "thread") thread × IsDecimalAt found (codes "page") page
    × (all_of (codes "from") found ≡ None)
Asks name found (WhySegments files thread page) =
    (name ≡ codes "why") × (Some (map string_bytes files.items) ≡ all_of (codes "from") found)
    × IsDecimalAt found (codes "thread") thread × IsDecimalAt found (codes "page") page × HasNoScript found
Asks name found (Plan region size) = (name ≡ codes "plan") × IsRegionIn found region × IsSizeIn found size
Asks name found (Check region size file) =
    (name ≡ codes "check") × IsRegionIn found region × IsSizeIn found size × (option_map string_bytes file ≡ first_of (codes "file") found)
Asks name found (Decode words reading size) =
    (name ≡ codes "decode") × AreNumbersIn found words.items × IsReadingIn found (length words.items) reading × IsSizeIn found size
Asks name found (Encode words) = (name ≡ codes "encode") × AreEncodedIn found words.items
Asks name found (Test files tap write lenient) =
    (name ≡ codes "test") × AreFilesIn found (map string_bytes files.items) × (tap ≡ is_on found (codes "tap")) × (write ≡ is_on found (codes "write"))
    × (lenient ≡ is_on found (codes "lenient")) × (tap && write ≡ false) × (lenient && write ≡ false)
Asks name found (Orders asked) =
    (name ≡ codes "orders") × IsScriptIn found asked.test × IsCountAt found (codes "most") asked.most
    × IsChosenAt found (codes "witness") asked.witness
    × (asked.brief ≡ is_on found (codes "outcomes")) × (asked.dot ≡ is_on found (codes "dot"))
    × (asked.explain ≡ is_on found (codes "explain")) × (asked.lenient ≡ is_on found (codes "lenient"))
    × (asked.has_frames ≡ is_some (first_of (codes "frames") found)) × (asked.has_size ≡ is_some (first_of (codes "page-size") found))
    × (asked.dot && is_some asked.witness ≡ false) × (asked.dot && asked.brief ≡ false)
Asks name found (Show text) = ⊥

-- the words ask for a text: the usage or the version
abbrev pub WantsText : Kinds → Type 0
WantsText faults = IsAmong DisplayHelp faults ⊎ IsAmong DisplayVersion faults

-- a text is shown
abbrev pub IsText : Options → Type 0
IsText (Show text) = Unit {0}
IsText asked = ⊥

-- the command that the words name asks for this
abbrev pub IsCommandAsked : List Text → Options → Type 0
IsCommandAsked words asked = (name : Text) × (found : List Row) × (subcommand_of l4_program words ≡ Some (name, found)) × Asks name found asked

-- WHAT A COMMAND LINE OF l4 ASKS FOR, with the program's name first: the usage or the version, or, where clap finds no fault in the words,
-- what the command asks for that they name
unfoldable pub IsAsked : List Text → Options → Type 0
IsAsked words asked =
    (IsText asked × WantsText (fault_of l4_program words)) ⊎ ((fault_of l4_program words ≡ []) × IsCommandAsked words asked)

-- l4_steps: the file of the list, and the frames and the pages of the machine
abbrev pub AreStepsIn : List Row → StepOptions → Type 0
AreStepsIn found (RunSteps list) = IsScriptIn found list
AreStepsIn found (ShowText text) = ⊥

abbrev pub IsStepsText : StepOptions → Type 0
IsStepsText (RunSteps list) = ⊥
IsStepsText (ShowText text) = Unit {0}

-- WHAT A COMMAND LINE OF l4_steps ASKS FOR
unfoldable pub AreStepsAsked : List Text → StepOptions → Type 0
AreStepsAsked words asked =
    (IsStepsText asked × WantsText (fault_of l4_steps_program words))
    ⊎ ((fault_of l4_steps_program words ≡ []) × AreStepsIn (matches_of l4_steps_program words) asked)
