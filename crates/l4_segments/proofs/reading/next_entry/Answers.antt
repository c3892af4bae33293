use Rattle.std.proofs.Common.{◌+◌, ◌*◌, ◌<◌, length, inl, inr, refl, sym, ap, ◌∙◌, arith}
use Rattle.std.proofs.lemmas.Bool.{false≢true}
use Rattle.l4_segments.specs.Entries.{entry_at}
use Rattle.l4_segments.proofs.Readers.{cut_count, cut_words, too_many, unread, otherwise, reads}
use Rattle.l4_segments.proofs.reading.next_entry.Goals as goal

pub returns-then-bytes-at-lt4-clause-err : goal.returns-then-bytes-at-lt4-clause-err
returns-then-bytes-at-lt4-clause-err c =
    let few = c.if-bytes-at-lt4.true in
    let within = c.requires in
    let short : length c.args.bytes.now < c.args.at + 4 = omega (arith, few, within) in
    (inl short, cut_count c.args.bytes.now c.args.at short)

pub returns-then-count-gt-RECORD_WORDS-clause-err : goal.returns-then-count-gt-RECORD_WORDS-clause-err
returns-then-count-gt-RECORD_WORDS-clause-err c =
    (tt, too_many c.args.bytes.now c.args.at c.word_at-count.result c.word_at-count.type_inv c.word_at-count.ensures c.if-count-gt-RECORD_WORDS.true)

pub returns-then-bytes-start-clause-err : goal.returns-then-bytes-start-clause-err
returns-then-bytes-start-clause-err c =
    let few = c.if-bytes-start.true in
    let four = c.if-bytes-at-lt4.false in
    let short : length c.args.bytes.now < c.args.at + 4 + 4 * c.word_at-count.result = omega (arith, few, four) in
    (inr (c.word_at-count.result, c.word_at-count.ensures, short), cut_words c.args.bytes.now c.args.at c.word_at-count.result c.word_at-count.type_inv c.word_at-count.ensures short)

pub returns-in_default-clause-err : goal.returns-in_default-clause-err
returns-in_default-clause-err c = (
  tt,
  unread c.args.bytes.now c.args.at c.word_at-count.result c.word_at-count.type_inv c.word_at-count.ensures c.read_words.new.out.items c.read_words.ensures.words c.read_words.ensures.count
      c.read_words.ensures.items (ap entry_at (sym c.as_slice.ensures.words ∙ sym c.of.ensures) ∙ sym c.read_entry.ensures ∙ c.in_default.is),
)

pub returns-then-not-are_same-clause-err : goal.returns-then-not-are_same-clause-err
returns-then-not-are_same-clause-err c = (
  tt,
  otherwise c.args.bytes.now c.args.at c.word_at-count.result c.word_at-count.type_inv c.word_at-count.ensures c.read_words.new.out.items c.read_words.ensures.words c.read_words.ensures.count
      c.read_words.ensures.items c.in-Some.entry c.put_entry.new.out.items (ap entry_at (sym c.as_slice.ensures.words ∙ sym c.of.ensures) ∙ sym c.in-Some.ensures)
      c.put_entry.ensures.items
      (λ same. false≢true (c.if-not-are_same.ensures.1 (c.as_slice-2.ensures.words ∙ same ∙ sym c.as_slice-3.ensures.words))),
)

pub returns-clause-ok : goal.returns-clause-ok
returns-clause-ok c =
    let room = c.if-bytes-start.false in
    let four = c.if-bytes-at-lt4.false in
    reads c.args.bytes.now c.args.at c.word_at-count.result c.word_at-count.type_inv c.word_at-count.ensures c.read_words.new.out.items c.read_words.ensures.words c.read_words.ensures.count
    c.read_words.ensures.items c.in-Some.entry c.put_entry.new.out.items c.put_entry.ensures.fits (ap entry_at (sym c.as_slice.ensures.words ∙ sym c.of.ensures) ∙ sym c.in-Some.ensures)
    c.put_entry.ensures.items (sym c.as_slice-2.ensures.words ∙ c.if-not-are_same.ensures.0 refl ∙ c.as_slice-3.ensures.words) (omega (arith, room, four))
