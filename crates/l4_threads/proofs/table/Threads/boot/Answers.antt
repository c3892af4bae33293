use Rattle.l4_threads.proofs.BootLemmas.{first_table, seen_first}
use Rattle.l4_threads.proofs.FocusLemmas.{first_focused}
use Rattle.l4_threads.proofs.table.Threads.boot.Goals as goal

pub invariant_of-result : goal.invariant_of-result
invariant_of-result c = rw (c.push-2.ensures, c.push.ensures, c.idle.ensures, c.idle-2.ensures, c.in_ok-threads.ensures, c.new-2.ensures) (record { table = first_table; focused = first_focused })

pub returns : goal.returns
returns c = rw (c.push-2.ensures, c.push.ensures, c.idle.ensures, c.idle-2.ensures, c.in_ok-threads.ensures, c.new-2.ensures) seen_first
