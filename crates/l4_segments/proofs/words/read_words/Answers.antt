use Rattle.std.proofs.Common.{◌≡◌, ℕ, ◌+◌, ◌*◌, ◌<◌, ◌^◌, ◌++◌, List, length, drop, refl, subst, sym, ap, ◌∙◌, arith}
use Rattle.std.proofs.lemmas.List.{length_push}
use Rattle.std.proofs.lemmas.List.Elements.{All-nil, All-push}
use Rattle.l4_segments.specs.Entries.{AreWords}
use Rattle.l4_segments.specs.Files.{bytes_of}
use Rattle.l4_segments.proofs.Readers.{no_words, word_read}
use Rattle.l4_segments.proofs.words.read_words.Goals as goal

pub loop-i-init : goal.loop-i-init
loop-i-init c =
    subst (λ (l : List ℕ). (drop c.args.at c.args.bytes.now ≡ bytes_of l ++ drop (c.args.at + 0) c.args.bytes.now) × (length l ≡ 0) × AreWords l) (sym c.clear.ensures)
    (no_words c.args.bytes.now c.args.at, refl, All-nil (λ (w : ℕ). w < 2 ^ 32))

pub loop-i-preserved : goal.loop-i-preserved
loop-i-preserved c =
    let so_far = c.loop-i.invariant in
    let out : List ℕ = c.loop-i.out.items in
    let word : ℕ = c.word_at-word.result in
    let long = so_far.1 in
    let pushed = c.push.ensures.items in (
      word_read c.args.bytes.now out c.push.new.self.items c.args.at c.loop-i.i word so_far.0 c.word_at-word.ensures pushed,
      ap length pushed ∙ length_push out word ∙ ap (λ (k : ℕ). k + 1) long,
      subst AreWords (sym pushed) (All-push (λ (w : ℕ). w < 2 ^ 32) out word so_far.2 c.word_at-word.type_inv),
    )

pub returns : goal.returns
returns c =
    let so_far = c.loop-i.invariant in
    let below = c.loop-i.auto.i-end in
    let above = c.loop-i-test.false in
    let all : c.loop-i.i ≡ c.args.count = omega (arith, below, above) in record {
      items = so_far.0 ∙ ap (λ (k : ℕ). bytes_of c.loop-i.out.items ++ drop (c.args.at + 4 * k) c.args.bytes.now) all;
      count = so_far.1 ∙ all;
      words = so_far.2;
    }
