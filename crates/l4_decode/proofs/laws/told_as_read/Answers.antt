use Rattle.l4_decode.proofs.Fields.{fpage_is, no_fpage_is, window_is, no_window_is, item_is}
use Rattle.l4_decode.proofs.laws.told_as_read.Goals as goal

pub returns-clause-fpage : goal.returns-clause-fpage
returns-clause-fpage c = fpage_is

pub returns-clause-no_fpage : goal.returns-clause-no_fpage
returns-clause-no_fpage c = no_fpage_is

pub returns-clause-window : goal.returns-clause-window
returns-clause-window c = window_is

pub returns-clause-no_window : goal.returns-clause-no_window
returns-clause-no_window c = no_window_is

pub returns-clause-item : goal.returns-clause-item
returns-clause-item c = item_is
