-- One line more of a text.
use Rattle.std.proofs.Common.{refl, Bool, Option, ◌≡◌, ℕ, ◌+◌, ◌-◌, ◌*◌, ◌^◌, ◌<◌, ◌≤◌, ap, ◌∙◌, sym, arith, List, [], ◌∷◌, ◌++◌, length, get_or, take, drop, append_assoc, add-one, drop-cons, length-drop}
use Rattle.std.proofs.lemmas.List.{take_rest, append-nil, length-take}
use Rattle.l4_msg.specs.Messages.{message_words}
use Rattle.l4_msg.specs.Regions.{part_of_list}
use Rattle.l4_msg.specs.Words.{items_words}
use Rattle.l4_msg.specs.declared.items.Item.{Item}
use Rattle.l4_msg.specs.declared.messages.Message.{Message}
use Rattle.l4_plan.specs.Plan.{Sends}
use Rattle.l4_text.specs.Streams.{Tells}
use Rattle.l4_text.proofs.Telling.{tells_more, tells_is}
use Rattle.std.proofs.lemmas.Fmt.{length-decimal-le}
use Rattle.std.specs.Fmt.{decimal}
use Rattle.std.specs.List.{flat_map}
use Rattle.l4_plan_lines.specs.Lines.{ended, tag_line, item_line, page_line}
use Rattle.l4_plan_lines.specs.Plans.{item_texts, message_text, sending_words}

ten_digits : (n : ℕ) → n < 2 ^ 32 → length (decimal n) ≤ 10
ten_digits n small = length-decimal-le 10 n (omega arith) (omega arith) (omega arith)

pub item_length : (a b p : ℕ) → p < 2 ^ 32 → length (item_line a b p) ≤ 38
item_length a b p small = omega (arith, ten_digits p small)

pub page_length : (p : ℕ) → p < 2 ^ 32 → length (page_line p) ≤ 15
page_length p small = omega (arith, ten_digits p small)

next : (pages : List ℕ) (i : ℕ) → i < length pages → drop i pages ≡ get_or pages i 0 ∷ drop (i + 1) pages
next pages i lt = rw add-one (drop-cons pages i 0 lt)

-- a line more of an item
pub item_step : (text rest pages : List ℕ) (i : ℕ) (whole : List ℕ) → 2 ≤ length rest → i < length pages → text ++ item_texts rest (drop i pages) ≡ whole
    → (text ++ ended (item_line (get_or rest 0 0) (get_or rest 1 0) (get_or pages i 0))) ++ item_texts (take (length rest - 2) (drop 2 rest)) (drop (i + 1) pages) ≡ whole
item_step text [] pages i whole two lt told = absurd (omega (arith, two))
item_step text (x ∷ []) pages i whole two lt told = absurd (omega (arith, two))
item_step text (x ∷ y ∷ ws) pages i whole two lt told =
    let line = item_line x y (get_or pages i 0) in
    let rest_is : take (length (x ∷ y ∷ ws) - 2) (drop 2 (x ∷ y ∷ ws)) ≡ ws = take_rest (x ∷ y ∷ ws) 2 in
    (λ j. (text ++ (line ++ 10 ∷ [])) ++ item_texts (rest_is j) (drop (i + 1) pages)) ∙ append_assoc text (line ++ 10 ∷ []) (item_texts ws (drop (i + 1) pages))
    ∙ ap (λ (t : List ℕ). text ++ item_texts (x ∷ y ∷ ws) t) (sym (next pages i lt)) ∙ told

pub rest_length : (rest : List ℕ) → 2 ≤ length rest → length (take (length rest - 2) (drop 2 rest)) + 2 ≡ length rest
rest_length rest two = rw (take_rest rest 2) (omega (arith, length-drop 2 rest))

-- ---- lines told

-- the text that was told, and what it makes with what is still to come
abbrev pub ToldSoFar : Option (List ℕ) → Option (List ℕ) → List ℕ × Bool → List ℕ × Bool → List ℕ → List ℕ → Type 0
ToldSoFar old new before after more whole = (text : List ℕ) × Tells old new before after text × (text ++ more ≡ whole)

pub told_head : (old new : Option (List ℕ)) (before after : List ℕ × Bool) (words pages line : List ℕ) → 1 ≤ length words → line ≡ tag_line (get_or words 0 0) → Tells old new before after (ended line)
    → ToldSoFar old new before after (item_texts (take (length words - 1) (drop 1 words)) pages) (message_text words pages)
told_head old new before after [] pages line some is h = absurd (omega (arith, some))
told_head old new before after (w ∷ ws) pages line some is h =
    let rest_is : take (length (w ∷ ws) - 1) (drop 1 (w ∷ ws)) ≡ ws = take_rest (w ∷ ws) 1 in
    (ended (tag_line w), tells_is old new before after (ended line) _ (ap ended is) h, ap (λ (t : List ℕ). ended (tag_line w) ++ item_texts t pages) rest_is)

pub head_left : (words pages : List ℕ) → length words ≡ 1 + 2 * length pages → length (take (length words - 1) (drop 1 words)) + 2 * 0 ≡ 2 * length pages
head_left words pages e = rw (take_rest words 1) (omega (arith, e, length-drop 1 words))

pub told_all : (old new : Option (List ℕ)) (before after : List ℕ × Bool) (more whole : List ℕ) → ToldSoFar old new before after more whole → more ≡ [] → Tells old new before after whole
told_all old new before after more whole h none =
    tells_is old new before after h.0 whole (sym (append-nil h.0) ∙ ap (λ t. h.0 ++ t) (sym none) ∙ h.2) h.1

pub told_item : (old mid new : Option (List ℕ)) (before s after : List ℕ × Bool) (line rest pages : List ℕ) (i : ℕ) (whole : List ℕ) → 2 ≤ length rest → i < length pages
    → ToldSoFar old mid before s (item_texts rest (drop i pages)) whole → line ≡ item_line (get_or rest 0 0) (get_or rest 1 0) (get_or pages i 0) → Tells mid new s after (ended line)
    → ToldSoFar old new before after (item_texts (take (length rest - 2) (drop 2 rest)) (drop (i + 1) pages)) whole
told_item old mid new before s after line rest pages i whole two lt h is told = (
  h.0 ++ ended (item_line (get_or rest 0 0) (get_or rest 1 0) (get_or pages i 0)),
  tells_more old mid new before s after h.0 _ h.1 (tells_is mid new s after (ended line) _ (ap ended is) told),
  item_step h.0 rest pages i whole two lt h.2,
)

pub items_end : (rest pages : List ℕ) (i : ℕ) → length rest + 2 * i ≡ 2 * length pages → length pages ≤ i → item_texts rest (drop i pages) ≡ []
items_end [] pages i left le = refl
items_end (x ∷ rest) pages i left le = absurd (omega (arith, left, le))

-- ---- a page from those that are left

pub told_next : (old mid new : Option (List ℕ)) (before s after : List ℕ × Bool) (line left others : List ℕ) (page : ℕ) (whole : List ℕ) → left ≡ page ∷ others
    → ToldSoFar old mid before s (flat_map (λ page. ended (page_line page)) left) whole → line ≡ page_line page → Tells mid new s after (ended line)
    → ToldSoFar old new before after (flat_map (λ page. ended (page_line page)) others) whole
told_next old mid new before s after line left others page whole e h is told = (
  h.0 ++ ended (page_line page),
  tells_more old mid new before s after h.0 _ h.1 (tells_is mid new s after (ended line) _ (ap ended is) told),
  append_assoc h.0 (ended (page_line page)) (flat_map (λ p. ended (page_line p)) others) ∙ ap (λ (t : List ℕ). h.0 ++ flat_map (λ p. ended (page_line p)) t) (sym e) ∙ h.2,
)

-- ---- the message of a part

-- the words of the message that sends these items
pub sending_is : (items : List Item) (m : Message) → Sends items m → message_words m ≡ sending_words items
sending_is items m s =
    let words : items_words m.items.items ≡ items_words items = ap items_words s.items_are in
    let first : m.label * 65536 + length (items_words m.items.items) * 64 + length m.untyped.items ≡ length (items_words items) * 64 = omega (arith, s.label, ap length words, ap length s.untyped) in
    λ i. first i ∷ (s.untyped i ++ words i)

pub part_lengths : {X Y : Type 0} (xs : List X) (ys : List Y) (k : ℕ) → length xs ≡ length ys → length (part_of_list xs k) ≡ length (part_of_list ys k)
part_lengths xs ys k e = omega (arith, e, length-take 31 (drop (31 * k) xs), length-take 31 (drop (31 * k) ys), length-drop (31 * k) xs, length-drop (31 * k) ys)
