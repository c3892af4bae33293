use Rattle.std.proofs.Common.{◌≡◌, ℕ, Bool, List, ◌∷◌, [], ◌++◌, drop, slice_index, ap, ◌∙◌, refl, subst}
use Rattle.l4_msg.specs.declared.items.Item.{Item}
use Rattle.l4_threads.specs.Threads.{message_of, end_call}
use Rattle.l4_threads.specs.declared.Reply.{Reply}
use Rattle.l4_threads.specs.declared.Reply.TheVariants.{Ipc}
use Rattle.l4_ipc.specs.Moving.{Moves}
use Rattle.l4_phases.specs.Phases.{enters, ended_by}
use Rattle.l4_ipc.specs.Steps.{is_done, receiver_reply, sender_next}
use Rattle.l4_phases.specs.Turns.{next_of}
use Rattle.l4_ipc.specs.Inside.Turns.{reply_or}
use Rattle.l4_ipc.proofs.Starts.{can_enter_after, sends_in_transfer}
use Rattle.l4_ipc.proofs.acting.carry_over.Goals as goal

pub enter-ends-requires : goal.enter-ends-requires
enter-ends-requires c =
    let meets = c.in-Some.ensures c.requires.enabled in
    let sends = sends_in_transfer c.args.threads.now c.args.sender c.args.receiver c.in-Some.meeting.from.now c.in-Some.meeting.to.now c.in-Some.meeting.sends.now c.in-Some.meeting.takes.now meets in
    can_enter_after c.args.threads.now c.end_receiver.new.threads c.args.sender c.args.receiver c.in-Some.meeting.from.now c.in-Some.meeting.to.now c.in-Some.meeting.sends.now c.in-Some.meeting.takes.now
    meets c.is_done-done.result _ (next_of c.sender_turn-turn.result) (c.end_receiver.ensures c.in-Some.meeting.sends.now sends) c.sender_turn-turn.ensures

pub returns-clause-step : goal.returns-clause-step
returns-clause-step c =
    let t = c.args.threads.now in
    let giver = c.in-Some.meeting.from.now in
    let sends = c.in-Some.meeting.sends.now in
    let takes = c.in-Some.meeting.takes.now in
    let done = is_done c.deliver-outcome.result in
    let meets = c.in-Some.ensures c.requires.enabled in
    let ended = c.end_receiver.ensures sends (sends_in_transfer t c.args.sender c.args.receiver giver c.in-Some.meeting.to.now sends takes meets) in
    let tag : c.tag_of.result ≡ slice_index sends.words.items 0 = c.tag_of.ensures ∙ ap (λ (l : List ℕ). slice_index l 0) c.as_slice.ensures.value in
    let reply : reply_or c.receiver_ending-ending.result (Ipc (message_of (record { tag = c.tag_of.result; error = 0; «from» = giver.id }) (drop 1 sends.words.items))) ≡ receiver_reply done giver sends takes =
    ap (λ (n : ℕ). reply_or c.receiver_ending-ending.result (Ipc (message_of (record { tag = n; error = 0; «from» = giver.id }) (drop 1 sends.words.items)))) tag
    ∙ c.receiver_ending-ending.ensures giver sends
    ∙ ap (λ (b : Bool). receiver_reply b giver sends takes) c.is_done-done.ensures in
    let next : next_of c.sender_turn-turn.result ≡ sender_next done t sends = c.sender_turn-turn.ensures ∙ ap (λ (b : Bool). sender_next b t sends) c.is_done-done.ensures in (
      giver,
      c.in-Some.meeting.to.now,
      sends,
      takes,
      meets,
      subst (λ (items : List Item). Moves c.args.size c.args.forest.now giver.space c.in-Some.meeting.to.now.space items takes.window c.deliver-outcome.result c.deliver-outcome.new.forest) c.as_slice-items.ensures.value c.deliver-outcome.ensures.moves,
      ap (λ (l : List ℕ). l ++ c.args.receiver ∷ []) (c.enter-ends.ensures.ended ∙ ap (ended_by c.args.sender) next),
      c.enter-ends.ensures.threads ∙ (λ i. enters ((ended ∙ ap (λ (r : Reply). end_call t c.args.receiver r) reply) i) c.args.sender (next i)),
      refl,
    )
