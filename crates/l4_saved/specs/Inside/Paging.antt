-- The faults of a page's text.
use Rattle.l4_saved.specs.declared.following.HistoryFault.{HistoryFault}
use Rattle.l4_saved.specs.declared.following.HistoryFault.TheVariants as is
use Rattle.l4_text.specs.declared.faults.RunFault.{RunFault}
use Rattle.l4_text.specs.declared.faults.RunFault.TheVariants.{Read, Write, Memory}

-- why the text about a page was not written
abbrev pub page_fault : RunFault → HistoryFault
page_fault Memory = is.Memory
page_fault Write = is.Write
page_fault Read = is.Write
