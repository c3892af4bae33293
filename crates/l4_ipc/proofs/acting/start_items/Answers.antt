use Rattle.std.proofs.Common.{[], ◌∷◌, refl}
use Rattle.l4_ipc.proofs.Starts.{sent_by}
use Rattle.l4_ipc.proofs.acting.start_items.Goals as goal

pub start_message-requires-clause-sent : goal.start_message-requires-clause-sent
start_message-requires-clause-sent c =
    sent_by c.args.call.now.words.items c.as_slice.result.now c.counted_words.result.now (c.in-Ok.item ∷ []) (c.in-Ok.item ∷ []) c.requires.good c.as_slice.ensures.value c.counted_words.ensures.value refl c.in-Ok.ensures.ok
