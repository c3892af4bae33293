use Rattle.std.proofs.Common.{rules}
use Rattle.arrayvec.proofs.ArrayVecLemmas.{filter-from_retain}
use Rattle.l4_threads.specs.Inside.Entries.{sends_in}
use Rattle.l4_threads.proofs.roster.keep_senders.Goals as goal

pub returns : goal.returns
returns c = filter-from_retain _ (sends_in c.args.roster.now) _ (λ x b f' y called. search rules) _ _ c.retain.ensures.filtered
