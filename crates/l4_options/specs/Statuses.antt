-- The exit status after a command line that is invalid (this profile's own).
use Rattle.std.specs.Prelude.{ℕ}
use Rattle.l4_options.specs.declared.requests.OptionFault.{OptionFault}
use Rattle.l4_options.specs.declared.requests.OptionFault.TheVariants.{Memory as NoMemory, Words, Frames, Pages, Decimal, Rights, Hyphens, Exclude, Word, TooMany, TooManyTokens, Kind, Token, Reading}

-- after a command line that isn't understood: 2, but 4 for want of memory
abbrev pub option_status : OptionFault → ℕ
option_status NoMemory = 4
option_status (Words text) = 2
option_status (Frames text) = 2
option_status (Pages text) = 2
option_status (Decimal name word) = 2
option_status (Rights text) = 2
option_status (Hyphens word instead) = 2
option_status (Exclude one other) = 2
option_status (Word text) = 2
option_status (TooMany text) = 2
option_status (TooManyTokens text) = 2
option_status (Kind text) = 2
option_status (Token token reason) = 2
option_status (Reading text) = 2
