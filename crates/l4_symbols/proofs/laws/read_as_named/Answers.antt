use Rattle.l4_symbols.proofs.Named.{read_is_named, names_pages}
use Rattle.l4_symbols.proofs.Reread.{fpage_read, window_read, window_pages, timeouts_kept}
use Rattle.l4_symbols.proofs.Present.{word_named, message_named}
use Rattle.l4_symbols.proofs.Controls.{control_kept, id_kept}
use Rattle.l4_symbols.proofs.laws.read_as_named.Goals as goal

pub returns-clause-item : goal.returns-clause-item
returns-clause-item c = read_is_named

pub returns-clause-fpage : goal.returns-clause-fpage
returns-clause-fpage c = fpage_read

pub returns-clause-window : goal.returns-clause-window
returns-clause-window c = window_read

pub returns-clause-pages : goal.returns-clause-pages
returns-clause-pages c = names_pages

pub returns-clause-inside : goal.returns-clause-inside
returns-clause-inside c = window_pages

pub returns-clause-timeouts : goal.returns-clause-timeouts
returns-clause-timeouts c = timeouts_kept

pub returns-clause-computed : goal.returns-clause-computed
returns-clause-computed c = word_named

pub returns-clause-words : goal.returns-clause-words
returns-clause-words c = message_named

pub returns-clause-control : goal.returns-clause-control
returns-clause-control c = control_kept

pub returns-clause-id : goal.returns-clause-id
returns-clause-id c = id_kept
