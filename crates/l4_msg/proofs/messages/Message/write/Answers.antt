use Rattle.std.proofs.Common.{◌≡◌, ◌+◌, ◌*◌, ◌<◌, ◌++◌, ◌∷◌, ap, ◌∙◌, arith, length, take, length-append}
use Rattle.std.proofs.lemmas.List.{take_all, length-take-le}
use Rattle.l4_msg.specs.Words.{items_words}
use Rattle.l4_msg.specs.Messages.{message_words}
use Rattle.l4_msg.proofs.Reading.{reading_is_unique}
use Rattle.l4_msg.proofs.Written.{item_follows, item_middle, message_reads, items_words_length}
use Rattle.l4_msg.proofs.messages.Message.write.Goals as goal
use Rattle.l4_msg.proofs.messages.Message.write.Goals.{After-loop-typed_word}

pub push-requires-in-loop-typed_word : goal.push-requires-in-loop-typed_word
push-requires-in-loop-typed_word c =
    let m = c.args.self.now in
    let i = c.loop-typed_word.typed_word-index in
    let ts = c.as_slice-typed_word-items.result.now in
    let is : ts ≡ items_words m.items.items = c.as_slice-typed_word-items.ensures.value ∙ c.write_items-typed.ensures.value ∙ ap items_words c.as_slice.ensures.value in
    let lt : i < length ts = c.loop-typed_word-test.true in
    let all : length ts ≡ 2 * length m.items.items = ap length is ∙ items_words_length m.items.items in
    let taken : length (take i ts) ≡ i = length-take-le i ts (omega arith) in
    let len : length c.loop-typed_word.words.items ≡ 1 + length (m.untyped.items ++ take i ts) = ap length c.loop-typed_word.invariant ∙ omega arith in
    (omega arith, omega (arith, c.requires.fits, length-append m.untyped.items (take i ts)))

value : (c : After-loop-typed_word) → c.loop-typed_word.words.items ≡ message_words c.args.self.now
value c =
    let m = c.args.self.now in
    let us = m.untyped.items in
    let i = c.loop-typed_word.typed_word-index in
    let ts = c.as_slice-typed_word-items.result.now in
    let written : c.write_items-typed.result.items ≡ items_words m.items.items = c.write_items-typed.ensures.value ∙ ap items_words c.as_slice.ensures.value in
    let is : ts ≡ items_words m.items.items = c.as_slice-typed_word-items.ensures.value ∙ written in
    let all : take i ts ≡ items_words m.items.items = take_all i ts c.loop-typed_word-test.false ∙ is in
    let tag : c.word-tag.result ≡ m.label * 65536 + length (items_words m.items.items) * 64 + length us = omega (arith, c.word-tag.ensures.value, c.len.ensures.value, c.len-2.ensures.value, ap length written) in
    c.loop-typed_word.invariant ∙ (λ j. tag j ∷ (us ++ all j))

pub returns-clause-value : goal.returns-clause-value
returns-clause-value c = value c

pub returns-clause-reads : goal.returns-clause-reads
returns-clause-reads c = rw (value c) (message_reads c.args.self.now c.requires.fits c.requires.whole)

pub returns-clause-len : goal.returns-clause-len
returns-clause-len c =
    let m = c.args.self.now in
    omega (arith, ap length (value c), length-append m.untyped.items (items_words m.items.items), items_words_length m.items.items)

pub returns-clause-only : goal.returns-clause-only
returns-clause-only c other h =
    let m = c.args.self.now in
    reading_is_unique (message_words m) other m (rw (value c) at h) (message_reads m c.requires.fits c.requires.whole)

pub returns-clause-follows : goal.returns-clause-follows
returns-clause-follows c = rw (value c) (item_follows c.args.self.now c.requires.whole)

pub returns-clause-middle : goal.returns-clause-middle
returns-clause-middle c = rw (value c) (item_middle c.args.self.now c.requires.whole)
