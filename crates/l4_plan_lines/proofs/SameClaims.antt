-- Lines claim one thing, and so does each beginning of them.
use Rattle.std.proofs.Common.{◌≡◌, ℕ, zero, suc, ◌≤◌, refl, sym, ap, ◌∙◌, arith, List, [], ◌∷◌, ◌++◌, length, Option, Some, None}
use Rattle.std.specs.List.{AllZip}
use Rattle.l4_msg.specs.declared.items.Item.{Item}
use Rattle.l4_plan_lines.proofs.ClaimLemmas.{tag_not_long}
use Rattle.l4_plan_lines.proofs.SameLines.{tag_same, page_same, item_same}
use Rattle.l4_plan_lines.proofs.TextSteps.{item_length, page_length}
use Rattle.l4_plan_lines.specs.Claims.{IsTagLine, IsPageLine, IsItemLine, AreGroups, IsClaim, IsBeginning}
use Rattle.l4_plan_lines.specs.declared.claims.Head.{Head}
use Rattle.l4_plan_lines.specs.declared.claims.Head.TheVariants.{Plan, TooLong}

record SameRows (ts us : List ℕ) (xs ys : List Item) (ps qs : List ℕ) : Type 0 where
  tags : ts ≡ us
  items : xs ≡ ys
  pages : ps ≡ qs

-- no line, no tag, no item and no page
no_rows : (left : ℕ) (ts : List ℕ) (xs : List Item) (ps : List ℕ) → AreGroups [] left ts xs ps → SameRows ts [] xs [] ps []
no_rows left [] [] [] h = record { tags = refl; items = refl; pages = refl }
no_rows left [] [] (p ∷ ps) h = absurd h
no_rows left [] (x ∷ xs) ps h = absurd h
no_rows left (t ∷ ts) xs ps h = absurd h

-- a line more, and a tag more
record TagRow (line : List ℕ) (lines : List (List ℕ)) (ts : List ℕ) (xs : List Item) (ps : List ℕ) : Type 0 where
  tag : ℕ
  tags : List ℕ
  tags_are : ts ≡ tag ∷ tags
  first : IsTagLine line tag
  others : AreGroups lines 31 tags xs ps

tag_row : (line : List ℕ) (lines : List (List ℕ)) (ts : List ℕ) (xs : List Item) (ps : List ℕ) → AreGroups (line ∷ lines) 0 ts xs ps → TagRow line lines ts xs ps
tag_row line lines [] xs ps h = absurd h
tag_row line lines (t ∷ ts) xs ps h = record { tag = t; tags = ts; tags_are = refl; first = h.0; others = h.1 }

-- a line more, and an item and a page more
record ItemRow (line : List ℕ) (lines : List (List ℕ)) (left : ℕ) (ts : List ℕ) (xs : List Item) (ps : List ℕ) : Type 0 where
  item : Item
  page : ℕ
  items : List Item
  pages : List ℕ
  items_are : xs ≡ item ∷ items
  pages_are : ps ≡ page ∷ pages
  first : IsItemLine line item page
  others : AreGroups lines left ts items pages

item_row : (line : List ℕ) (lines : List (List ℕ)) (left : ℕ) (ts : List ℕ) (xs : List Item) (ps : List ℕ) → AreGroups (line ∷ lines) (suc left) ts xs ps → ItemRow line lines left ts xs ps
item_row line lines left ts [] ps h = absurd h
item_row line lines left ts (x ∷ xs) [] h = absurd h
item_row line lines left ts (x ∷ xs) (p ∷ ps) h = record { item = x; page = p; items = xs; pages = ps; items_are = refl; pages_are = refl; first = h.0; others = h.1 }

same_rows : (lines : List (List ℕ)) (left : ℕ) (ts us : List ℕ) (xs ys : List Item) (ps qs : List ℕ) → AreGroups lines left ts xs ps → AreGroups lines left us ys qs → SameRows ts us xs ys ps qs
same_rows [] left ts us xs ys ps qs a b =
    let m = no_rows left ts xs ps a in
    let n = no_rows left us ys qs b in
    record { tags = m.tags ∙ sym n.tags; items = m.items ∙ sym n.items; pages = m.pages ∙ sym n.pages }
same_rows (line ∷ lines) zero ts us xs ys ps qs a b =
    let m = tag_row line lines ts xs ps a in
    let n = tag_row line lines us ys qs b in
    let one = tag_same line m.tag n.tag m.first n.first in
    let more = same_rows lines 31 m.tags n.tags xs ys ps qs m.others n.others in
    record { tags = m.tags_are ∙ (λ i. one i ∷ more.tags i) ∙ sym n.tags_are; items = more.items; pages = more.pages }
same_rows (line ∷ lines) (suc left) ts us xs ys ps qs a b =
    let m = item_row line lines left ts xs ps a in
    let n = item_row line lines left us ys qs b in
    let one = item_same line m.item n.item m.page n.page m.first n.first in
    let more = same_rows lines left ts us m.items n.items m.pages n.pages m.others n.others in
    record { tags = more.tags; items = m.items_are ∙ (λ i. one.item i ∷ more.items i) ∙ sym n.items_are; pages = m.pages_are ∙ (λ i. one.page i ∷ more.pages i) ∙ sym n.pages_are }

same_numbers : (lines : List (List ℕ)) (ps qs : List ℕ) → AllZip IsPageLine lines ps → AllZip IsPageLine lines qs → ps ≡ qs
same_numbers [] [] [] a b = refl
same_numbers [] [] (q ∷ qs) a b = absurd b
same_numbers [] (p ∷ ps) qs a b = absurd a
same_numbers (l ∷ ls) [] qs a b = absurd a
same_numbers (l ∷ ls) (p ∷ ps) [] a b = absurd b
same_numbers (l ∷ ls) (p ∷ ps) (q ∷ qs) a b =
    let one = page_same l p q a.0 b.0 in
    let more = same_numbers ls ps qs a.1 b.1 in
    λ i. one i ∷ more i

-- the first line of messages is a tag line
starts_with_tag : (line : List ℕ) (lines : List (List ℕ)) (ts : List ℕ) (xs : List Item) (ps : List ℕ) → AreGroups (line ∷ lines) 0 ts xs ps → (tag : ℕ) × IsTagLine line tag
starts_with_tag line lines ts xs ps h = let r = tag_row line lines ts xs ps h in (r.tag, r.first)

pub record SameClaim (h g : Option Head) (ts us : List ℕ) (xs ys : List Item) (ps qs : List ℕ) : Type 0 where
  pub head : h ≡ g
  pub tags : ts ≡ us
  pub items : xs ≡ ys
  pub pages : ps ≡ qs

pub same_claim : (lines : List (List ℕ)) (h g : Option Head) (ts us : List ℕ) (xs ys : List Item) (ps qs : List ℕ) → IsClaim lines h ts xs ps → IsClaim lines g us ys qs → SameClaim h g ts us xs ys ps qs
same_claim [] None None ts us xs ys ps qs a b = record { head = refl; tags = a.0 ∙ sym b.0; items = a.1 ∙ sym b.1; pages = a.2 ∙ sym b.2 }
same_claim [] None (Some g) ts us xs ys ps qs a b = absurd b
same_claim [] (Some h) g ts us xs ys ps qs a b = absurd a
same_claim (l ∷ ls) None g ts us xs ys ps qs a b = absurd a
same_claim (l ∷ ls) (Some Plan) None ts us xs ys ps qs a b = absurd b
same_claim (l ∷ ls) (Some Plan) (Some Plan) ts us xs ys ps qs a b =
    let rows = same_rows (l ∷ ls) 0 ts us xs ys ps qs a.0 b.0 in
    record { head = refl; tags = rows.tags; items = rows.items; pages = rows.pages }
same_claim (l ∷ ls) (Some Plan) (Some TooLong) ts us xs ys ps qs a b = let t = starts_with_tag l ls ts xs ps a.0 in absurd (tag_not_long l t.0 t.1 b.0)
same_claim (l ∷ ls) (Some TooLong) None ts us xs ys ps qs a b = absurd b
same_claim (l ∷ ls) (Some TooLong) (Some Plan) ts us xs ys ps qs a b = let t = starts_with_tag l ls us ys qs b.0 in absurd (tag_not_long l t.0 t.1 a.0)
same_claim (l ∷ ls) (Some TooLong) (Some TooLong) ts us xs ys ps qs a b = record { head = refl; tags = a.1 ∙ sym b.1; items = a.2 ∙ sym b.2; pages = same_numbers ls ps qs a.3 b.3 }

-- ---- beginnings

record RowsBefore (lines : List (List ℕ)) (left : ℕ) (most : ℕ) : Type 0 where
  tags : List ℕ
  items : List Item
  pages : List ℕ
  rows : AreGroups lines left tags items pages
  few : length pages ≤ most

rows_before : (lines after : List (List ℕ)) (left : ℕ) (ts : List ℕ) (xs : List Item) (ps : List ℕ) → AreGroups (lines ++ after) left ts xs ps → RowsBefore lines left (length ps)
rows_before [] after left ts xs ps h = record { tags = []; items = []; pages = []; rows = tt; few = omega arith }
rows_before (l ∷ ls) after zero [] xs ps h = absurd h
rows_before (l ∷ ls) after zero (t ∷ ts) xs ps h =
    let b = rows_before ls after 31 ts xs ps h.1 in
    record { tags = t ∷ b.tags; items = b.items; pages = b.pages; rows = (h.0, b.rows); few = b.few }
rows_before (l ∷ ls) after (suc left) ts [] ps h = absurd h
rows_before (l ∷ ls) after (suc left) ts (x ∷ xs) [] h = absurd h
rows_before (l ∷ ls) after (suc left) ts (x ∷ xs) (p ∷ ps) h =
    let b = rows_before ls after left ts xs ps h.1 in
    record { tags = b.tags; items = x ∷ b.items; pages = p ∷ b.pages; rows = (h.0, b.rows); few = omega (arith, b.few) }

record NumbersBefore (lines : List (List ℕ)) (most : ℕ) : Type 0 where
  pages : List ℕ
  rows : AllZip IsPageLine lines pages
  few : length pages ≤ most

numbers_before : (lines after : List (List ℕ)) (ps : List ℕ) → AllZip IsPageLine (lines ++ after) ps → NumbersBefore lines (length ps)
numbers_before [] after ps h = record { pages = []; rows = tt; few = omega arith }
numbers_before (l ∷ ls) after [] h = absurd h
numbers_before (l ∷ ls) after (p ∷ ps) h =
    let b = numbers_before ls after ps h.1 in
    record { pages = p ∷ b.pages; rows = (h.0, b.rows); few = omega (arith, b.few) }

claim_before : (l : List ℕ) (ls after : List (List ℕ)) (h : Option Head) (ts : List ℕ) (xs : List Item) (ps : List ℕ) → IsClaim (l ∷ (ls ++ after)) h ts xs ps → IsBeginning (l ∷ ls)
claim_before l ls after None ts xs ps c = absurd c
claim_before l ls after (Some Plan) ts xs ps c =
    let b = rows_before (l ∷ ls) after 0 ts xs ps c.0 in
    (Some Plan, b.tags, b.items, b.pages, (b.rows, omega (arith, b.few, c.1)))
claim_before l ls after (Some TooLong) ts xs ps c =
    let b = numbers_before ls after ps c.3 in
    (Some TooLong, [], [], b.pages, (c.0, refl, refl, b.rows, omega (arith, b.few, c.4)))

pub begins_before : (lines after : List (List ℕ)) → IsBeginning (lines ++ after) → IsBeginning lines
begins_before [] after b = (None, [], [], [], (refl, refl, refl))
begins_before (l ∷ ls) after b = claim_before l ls after b.0 b.1 b.2 b.3 b.4

-- ---- no line of a claim is long

pub tag_short : (line : List ℕ) (tag : ℕ) → IsTagLine line tag → length line ≤ 38
tag_short line tag t = omega (arith, ap length t.1)

row_short : (lines : List (List ℕ)) (line : List ℕ) (after : List (List ℕ)) (left : ℕ) (ts : List ℕ) (xs : List Item) (ps : List ℕ) → AreGroups (lines ++ line ∷ after) left ts xs ps → length line ≤ 38
row_short [] line after zero [] xs ps h = absurd h
row_short [] line after zero (t ∷ ts) xs ps h = tag_short line t h.0
row_short [] line after (suc left) ts [] ps h = absurd h
row_short [] line after (suc left) ts (x ∷ xs) [] h = absurd h
row_short [] line after (suc left) ts (x ∷ xs) (p ∷ ps) h = let i = h.0 in omega (arith, ap length i.spelled, item_length i.first i.second p i.page_word)
row_short (l ∷ ls) line after zero [] xs ps h = absurd h
row_short (l ∷ ls) line after zero (t ∷ ts) xs ps h = row_short ls line after 31 ts xs ps h.1
row_short (l ∷ ls) line after (suc left) ts [] ps h = absurd h
row_short (l ∷ ls) line after (suc left) ts (x ∷ xs) [] h = absurd h
row_short (l ∷ ls) line after (suc left) ts (x ∷ xs) (p ∷ ps) h = row_short ls line after left ts xs ps h.1

number_short : (lines : List (List ℕ)) (line : List ℕ) (after : List (List ℕ)) (ps : List ℕ) → AllZip IsPageLine (lines ++ line ∷ after) ps → length line ≤ 38
number_short [] line after [] h = absurd h
number_short [] line after (p ∷ ps) h = omega (arith, ap length h.0.1, page_length p h.0.0)
number_short (l ∷ ls) line after [] h = absurd h
number_short (l ∷ ls) line after (p ∷ ps) h = number_short ls line after ps h.1

first_short : (line : List ℕ) (after : List (List ℕ)) (h : Option Head) (ts : List ℕ) (xs : List Item) (ps : List ℕ) → IsClaim (line ∷ after) h ts xs ps → length line ≤ 38
first_short line after None ts xs ps c = absurd c
first_short line after (Some Plan) ts xs ps c = let t = starts_with_tag line after ts xs ps c.0 in tag_short line t.0 t.1
first_short line after (Some TooLong) ts xs ps c = omega (arith, ap length c.0)

later_short : (l : List ℕ) (ls : List (List ℕ)) (line : List ℕ) (after : List (List ℕ)) (h : Option Head) (ts : List ℕ) (xs : List Item) (ps : List ℕ) → IsClaim (l ∷ (ls ++ line ∷ after)) h ts xs ps → length line ≤ 38
later_short l ls line after None ts xs ps c = absurd c
later_short l ls line after (Some Plan) ts xs ps c = row_short (l ∷ ls) line after 0 ts xs ps c.0
later_short l ls line after (Some TooLong) ts xs ps c = number_short ls line after ps c.3

pub lines_short : (lines : List (List ℕ)) (line : List ℕ) (after : List (List ℕ)) → IsBeginning (lines ++ line ∷ after) → length line ≤ 38
lines_short [] line after b = first_short line after b.0 b.1 b.2 b.3 b.4
lines_short (l ∷ ls) line after b = later_short l ls line after b.0 b.1 b.2 b.3 b.4
