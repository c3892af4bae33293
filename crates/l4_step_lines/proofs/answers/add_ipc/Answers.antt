use Rattle.std.proofs.Common.{ℕ, List, ◌++◌, ap, ◌∙◌, codes}
use Rattle.std.specs.Fmt.{decimal}
use Rattle.l4_text.specs.Texts.{word_text}
use Rattle.l4_answers.specs.Replies.{space}
use Rattle.l4_step_lines.proofs.Pieces.{text_more}
use Rattle.l4_step_lines.proofs.answers.add_ipc.Goals as goal

pub returns-clause-value : goal.returns-clause-value
returns-clause-value c =
    let t : List ℕ = c.args.text.now in
    let word : List ℕ = codes "ipc " ++ word_text c.args.reply.now.tag in
    let error : List ℕ = word ++ space ++ decimal c.args.reply.now.error in
    text_more t c.push-2.new.self c.add_word-2.new.self (error ++ space) (word_text c.args.reply.now.from.0)
    (text_more t c.add_number.new.self c.push-2.new.self error space
    (text_more t c.push.new.self c.add_number.new.self (word ++ space) (decimal c.args.reply.now.error)
    (text_more t c.add_word.new.self c.push.new.self word space
    (text_more t c.add.new.self c.add_word.new.self (codes "ipc ") (word_text c.args.reply.now.tag) c.add.ensures.value c.add_word.ensures.value) c.push.ensures.value) (c.add_number.ensures.value ∙ ap (λ (n : ℕ). c.push.new.self ++ decimal n) c.from.ensures)) c.push-2.ensures.value)
    c.add_word-2.ensures.value
