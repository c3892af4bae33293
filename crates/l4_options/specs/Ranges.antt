-- The numbers of frames that a command line can ask for (this profile's own).
use Rattle.std.specs.Prelude.{ℕ, ◌≤◌}
use Rattle.l4_fpage.specs.Pages.{max_frames}
use Rattle.l4_options.specs.declared.requests.Options.{Options}
use Rattle.l4_options.specs.declared.requests.Options.TheVariants.{Run, History, Segments, Judge, Why, WhySegments, Plan, Check, Decode, Test, Orders, Encode, Show}
use Rattle.l4_options.specs.declared.requests.StepOptions.{StepOptions}
use Rattle.l4_options.specs.declared.requests.StepOptions.TheVariants.{Run as RunSteps, Show as ShowText}

-- a machine can have this number of frames
abbrev pub IsFrameCount : ℕ → Type 0
IsFrameCount n = (1 ≤ n) × (n ≤ max_frames)

-- the number of frames that the command line of l4 asks for is one that a machine can have
abbrev pub IsInRange : Options → Type 0
IsInRange (Run script strict explain number moves history_to) = IsFrameCount script.frames
IsInRange (History script strict answers) = IsFrameCount script.frames
IsInRange (Segments files answers) = Unit {0}
IsInRange (Judge asked) = IsFrameCount asked.list.frames
IsInRange (Why script strict thread page) = IsFrameCount script.frames
IsInRange (WhySegments files thread page) = Unit {0}
IsInRange (Plan region size) = Unit {0}
IsInRange (Check region size file) = Unit {0}
IsInRange (Decode words reading size) = Unit {0}
IsInRange (Test files tap write lenient) = Unit {0}
IsInRange (Orders asked) = IsFrameCount asked.test.frames
IsInRange (Encode words) = Unit {0}
IsInRange (Show text) = Unit {0}

-- the same of the command line of l4_steps
abbrev pub AreStepsInRange : StepOptions → Type 0
AreStepsInRange (RunSteps list) = IsFrameCount list.frames
AreStepsInRange (ShowText text) = Unit {0}
