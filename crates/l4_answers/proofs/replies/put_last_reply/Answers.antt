use Rattle.std.proofs.Common.{◌++◌, sym, ap, ◌∙◌, codes, decimal, Some}
use Rattle.std.proofs.lemmas.List.{append-nil}
use mathlib.Core.List.{append_assoc}
use Rattle.l4_text.proofs.Telling.{tells_added, tells_is}
use Rattle.l4_threads.specs.declared.Reply.{Reply}
use Rattle.l4_answers.specs.Replies.{reply_text, newline}
use Rattle.l4_answers.proofs.replies.put_last_reply.Goals as goal

pub returns-in-Ipc : goal.returns-in-Ipc
returns-in-Ipc g c =
    tells_is _ _ _ _ _ _ (sym (ap (λ (r : Reply). reply_text c.args.number (Some r)) c.in-Ipc.is)) (tells_added _ _ _ _ _ _ c.make_room.ensures.told c.add_ipc.ensures)

pub returns-in-Answered : goal.returns-in-Answered
returns-in-Answered g c =
    tells_is _ _ _ _ _ _
    (sym (ap (λ t. t ++ newline) (append-nil (decimal c.args.number ++ codes " fault answered")) ∙ append_assoc (decimal c.args.number) (codes " fault answered") newline)
    ∙ sym (ap (λ (r : Reply). reply_text c.args.number (Some r)) c.in-Answered.is))
    (tells_added _ _ _ _ _ _ c.make_room-in-Answered.ensures.told c.add_numbered.ensures.value)
