-- The items of a message that is sent are those of its words.
use Rattle.std.proofs.Common.{◌≡◌, ℕ, ◌+◌, ◌-◌, ◌<◌, List, [], ◌∷◌, zero, suc, take, drop, slice_index, refl, sym, ap, ◌∙◌, subst, arith}
use Rattle.std.specs.List.{slice_range}
use Rattle.std.proofs.lemmas.List.{take-take, drop-take}
use Rattle.l4_msg.specs.Tags.{untyped_of, typed_of}
use Rattle.l4_msg.specs.Messages.{MessageReads, tag_of, typed_words}
use Rattle.l4_msg.specs.Words.{ItemsRead}
use Rattle.l4_msg.specs.declared.items.Item.{Item}
use Rattle.l4_msg.specs.declared.messages.Message.{Message}
use Rattle.l4_phases.specs.declared.turns.Sent.{Sent}
use Rattle.l4_ipc.specs.Start.{counted_words}

-- the first words begin with the first word
first_kept : (words : List ℕ) (n : ℕ) → 0 < n → slice_index (take n words) 0 ≡ slice_index words 0
first_kept words zero some = absurd (omega arith)
first_kept [] (suc n) some = refl
first_kept (w ∷ words) (suc n) some = refl

-- a range at the end of the first words is that range of all
range_kept : (words : List ℕ) (a m : ℕ) → slice_range (take (a + m) words) a (a + m) ≡ slice_range words a (a + m)
range_kept words a m =
    let e : a + m - a ≡ m = omega arith in
    ap (λ (k : ℕ). take k (drop a (take (a + m) words))) e ∙ ap (take m) (drop-take a m words) ∙ take-take m m (drop a words) (omega arith) ∙ ap (λ (k : ℕ). take k (drop a words)) (sym e)

-- the words that the tag counts hold the same items
typed_kept : (words : List ℕ) → typed_words (counted_words words) ≡ typed_words words
typed_kept words =
    let n : ℕ = 1 + untyped_of (tag_of words) + typed_of (tag_of words) in
    let tag : tag_of (counted_words words) ≡ tag_of words = first_kept words n (omega arith) in
    ap (λ (t : ℕ). slice_range (counted_words words) (1 + untyped_of t) (1 + untyped_of t + typed_of t)) tag ∙ range_kept words (1 + untyped_of (tag_of words)) (typed_of (tag_of words))

pub items_of_words : (words : List ℕ) (sent : Sent) → (message : Message) → MessageReads words message → sent.words.items ≡ counted_words words → sent.items ≡ message.items
    → ItemsRead (typed_words sent.words.items) sent.items.items
items_of_words words sent message reads counted items =
    let same : typed_words sent.words.items ≡ typed_words words = ap typed_words counted ∙ typed_kept words in
    subst (λ (l : List Item). ItemsRead (typed_words sent.words.items) l) (sym (ap (λ x. x.items) items))
    (subst (λ (w : List ℕ). ItemsRead w message.items.items) (sym same) reads.items)
