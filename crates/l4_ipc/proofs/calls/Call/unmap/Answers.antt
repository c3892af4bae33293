use Rattle.std.proofs.Common.{sym}
use Rattle.l4_ipc.proofs.Unmaps.{unmap_reads}
use Rattle.l4_ipc.proofs.calls.Call.unmap.Goals as goal

pub returns : goal.returns
returns c = (unmap_reads c.unmap_control.result c.args.fpages.now c.fpage_words.result.items c.fpage_words.ensures (sym c.unmap_control.ensures.count), c.unmap_control.ensures.own)
