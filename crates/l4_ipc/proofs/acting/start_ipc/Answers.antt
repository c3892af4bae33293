use Rattle.std.proofs.Common.{◌≡◌, ℕ, List, sym, ap, ◌∙◌, subst}
use Rattle.l4_msg.specs.Messages.{HasGoodTag, tag_of}
use Rattle.l4_msg.specs.Tags.{typed_of}
use Rattle.l4_ipc.proofs.Starts.{sent_bare}
use Rattle.l4_ipc.proofs.acting.start_ipc.Goals as goal

pub start_message-requires-clause-sent : goal.start_message-requires-clause-sent
start_message-requires-clause-sent c =
    let words = c.args.call.now.words.items in
    let same : c.as_slice.result.now ≡ words = c.as_slice.ensures.value in
    sent_bare words c.counted_words.result.now (subst HasGoodTag same c.in-Ok.ensures.good)
    (ap (λ (l : List ℕ). typed_of (tag_of l)) (sym same) ∙ sym c.in-Ok.ensures.ok.typed ∙ c.if-tag-eq0.true) c.counted_words.ensures.value
