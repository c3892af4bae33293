use Rattle.l4_segments.proofs.RoundTrip.{entry_again}
use Rattle.l4_segments.proofs.laws.written_entries_read_back.Goals as goal

pub returns : goal.returns
returns c = entry_again
