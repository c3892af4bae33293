-- The codes of lines that cannot be part of a plan (this profile's own).
use Rattle.std.specs.Prelude.{ℕ, List, codes}
use Rattle.l4_orders.specs.declared.parts.LineFault.{LineFault}
use Rattle.l4_orders.specs.declared.parts.LineFault.TheVariants.{Long, Cut, Unknown, Unread, NamesFull, Repeated, OfNoThread, NoQuery, Steps, NoThread, NoAnswer, Expectation}

abbrev pub line_code : LineFault → List ℕ
line_code Long = codes "S3"
line_code Cut = codes "S4"
line_code Unknown = codes "S1"
line_code Unread = codes "S2"
line_code NamesFull = codes "S5"
line_code Repeated = codes "O1"
line_code OfNoThread = codes "O2"
line_code NoQuery = codes "O3"
line_code Steps = codes "O4"
line_code (NoThread thread) = codes "O5"
line_code NoAnswer = codes "O7"
line_code Expectation = codes "O8"
