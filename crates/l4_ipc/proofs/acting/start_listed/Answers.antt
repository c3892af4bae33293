use Rattle.l4_ipc.proofs.Starts.{sent_by}
use Rattle.l4_ipc.proofs.acting.start_listed.Goals as goal

pub start_message-requires-clause-sent : goal.start_message-requires-clause-sent
start_message-requires-clause-sent c =
    sent_by c.args.call.now.words.items c.as_slice.result.now c.counted_words.result.now c.in-Ok.items.items c.as_slice-2.result.now c.requires.good c.as_slice.ensures.value c.counted_words.ensures.value c.as_slice-2.ensures.value c.in-Ok.ensures.ok
