-- How a claim grows by a line, and when it cannot.
use Rattle.std.proofs.Common.{◌≡◌, ℕ, zero, suc, ◌+◌, ◌*◌, ◌<◌, ◌≤◌, ◌⊎◌, inl, inr, ap, ◌∙◌, sym, refl, subst, arith, List, [], ◌∷◌, ◌++◌, length, get_or, Option, Some, None, length-append, append_assoc}
use Rattle.std.specs.List.{AllZip}
use Rattle.l4_msg.specs.declared.items.Item.{Item}
use Rattle.l4_plan_lines.specs.Lines.{long_line}
use Rattle.l4_plan_lines.specs.Claims.{IsTagLine, IsPageLine, IsItemLine, AreGroups, IsClaim, IsBeginning, EndsInTag}
use Rattle.l4_plan_lines.specs.declared.claims.Head.{Head}
use Rattle.l4_plan_lines.specs.declared.claims.Head.TheVariants.{Plan, TooLong}

-- ---- no line is of two kinds

pub tag_not_long : (line : List ℕ) (tag : ℕ) → IsTagLine line tag → line ≡ long_line → ⊥
tag_not_long line tag t l =
    let e : ◌≡◌ {A = ℕ} 97 111 = ap (λ (x : List ℕ). get_or x 1 0) (sym t.1 ∙ l) in
    omega (arith, e)

tag_not_item : (line : List ℕ) (tag : ℕ) (item : Item) (page : ℕ) → IsTagLine line tag → IsItemLine line item page → ⊥
tag_not_item line tag item page t i =
    let e : ◌≡◌ {A = ℕ} 116 105 = ap (λ (x : List ℕ). get_or x 0 0) (sym t.1 ∙ i.spelled) in
    omega (arith, e)

tag_not_page : (line : List ℕ) (tag page : ℕ) → IsTagLine line tag → IsPageLine line page → ⊥
tag_not_page line tag page t p =
    let e : ◌≡◌ {A = ℕ} 116 112 = ap (λ (x : List ℕ). get_or x 0 0) (sym t.1 ∙ p.1) in
    omega (arith, e)

-- ---- tag lines and item lines

-- how many items may still come before a tag line is due
abbrev pub due : List (List ℕ) → ℕ → ℕ
due [] left = left
due (line ∷ lines) zero = due lines 31
due (line ∷ lines) (suc left) = due lines left

pub record Counts (lines : List (List ℕ)) (left : ℕ) (tags : List ℕ) (items : List Item) (pages : List ℕ) : Type 0 where
  pub lines_count : length lines ≡ length tags + length items
  pub pages_count : length pages ≡ length items
  pub due_count : length items + due lines left ≡ left + 31 * length tags

pub counts : (lines : List (List ℕ)) (left : ℕ) (tags : List ℕ) (items : List Item) (pages : List ℕ) → AreGroups lines left tags items pages → Counts lines left tags items pages
counts [] left [] [] [] h = record { lines_count = refl; pages_count = refl; due_count = omega arith }
counts [] left [] [] (p ∷ ps) h = absurd h
counts [] left [] (i ∷ is) pages h = absurd h
counts [] left (t ∷ ts) items pages h = absurd h
counts (l ∷ ls) zero [] items pages h = absurd h
counts (l ∷ ls) zero (t ∷ ts) items pages h =
    let n = counts ls 31 ts items pages h.1 in
    record { lines_count = omega (arith, n.lines_count); pages_count = n.pages_count; due_count = omega (arith, n.due_count) }
counts (l ∷ ls) (suc left) tags [] pages h = absurd h
counts (l ∷ ls) (suc left) tags (i ∷ is) [] h = absurd h
counts (l ∷ ls) (suc left) tags (i ∷ is) (p ∷ ps) h =
    let n = counts ls left tags is ps h.1 in
    record { lines_count = omega (arith, n.lines_count); pages_count = omega (arith, n.pages_count); due_count = omega (arith, n.due_count) }

tag_push : (lines : List (List ℕ)) (left : ℕ) (tags : List ℕ) (items : List Item) (pages : List ℕ) (line : List ℕ) (tag : ℕ) → AreGroups lines left tags items pages → due lines left ≡ 0 → IsTagLine line tag
    → AreGroups (lines ++ line ∷ []) left (tags ++ tag ∷ []) items pages
tag_push [] zero [] [] [] line tag h d r = (r, tt)
tag_push [] (suc left) [] [] [] line tag h d r = absurd (omega (arith, d))
tag_push [] left [] [] (p ∷ ps) line tag h d r = absurd h
tag_push [] left [] (i ∷ is) pages line tag h d r = absurd h
tag_push [] left (t ∷ ts) items pages line tag h d r = absurd h
tag_push (l ∷ ls) zero [] items pages line tag h d r = absurd h
tag_push (l ∷ ls) zero (t ∷ ts) items pages line tag h d r = (h.0, tag_push ls 31 ts items pages line tag h.1 d r)
tag_push (l ∷ ls) (suc left) tags [] pages line tag h d r = absurd h
tag_push (l ∷ ls) (suc left) tags (i ∷ is) [] line tag h d r = absurd h
tag_push (l ∷ ls) (suc left) tags (i ∷ is) (p ∷ ps) line tag h d r = (h.0, tag_push ls left tags is ps line tag h.1 d r)

item_push : (lines : List (List ℕ)) (left : ℕ) (tags : List ℕ) (items : List Item) (pages : List ℕ) (line : List ℕ) (item : Item) (page : ℕ) → AreGroups lines left tags items pages → 0 < due lines left
    → IsItemLine line item page → AreGroups (lines ++ line ∷ []) left tags (items ++ item ∷ []) (pages ++ page ∷ [])
item_push [] zero [] [] [] line item page h d r = absurd (omega (arith, d))
item_push [] (suc left) [] [] [] line item page h d r = (r, tt)
item_push [] left [] [] (p ∷ ps) line item page h d r = absurd h
item_push [] left [] (i ∷ is) pages line item page h d r = absurd h
item_push [] left (t ∷ ts) items pages line item page h d r = absurd h
item_push (l ∷ ls) zero [] items pages line item page h d r = absurd h
item_push (l ∷ ls) zero (t ∷ ts) items pages line item page h d r = (h.0, item_push ls 31 ts items pages line item page h.1 d r)
item_push (l ∷ ls) (suc left) tags [] pages line item page h d r = absurd h
item_push (l ∷ ls) (suc left) tags (i ∷ is) [] line item page h d r = absurd h
item_push (l ∷ ls) (suc left) tags (i ∷ is) (p ∷ ps) line item page h d r = (h.0, item_push ls left tags is ps line item page h.1 d r)

last_tag : (lines : List (List ℕ)) (line : List ℕ) (left : ℕ) (tags : List ℕ) (items : List Item) (pages : List ℕ) → AreGroups (lines ++ line ∷ []) left tags items pages → due lines left ≡ 0 → (tag : ℕ) × IsTagLine line tag
last_tag [] line zero [] items pages h d = absurd h
last_tag [] line zero (t ∷ ts) items pages h d = (t, h.0)
last_tag [] line (suc left) tags items pages h d = absurd (omega (arith, d))
last_tag (l ∷ ls) line zero [] items pages h d = absurd h
last_tag (l ∷ ls) line zero (t ∷ ts) items pages h d = last_tag ls line 31 ts items pages h.1 d
last_tag (l ∷ ls) line (suc left) tags [] pages h d = absurd h
last_tag (l ∷ ls) line (suc left) tags (i ∷ is) [] h d = absurd h
last_tag (l ∷ ls) line (suc left) tags (i ∷ is) (p ∷ ps) h d = last_tag ls line left tags is ps h.1 d

last_item : (lines : List (List ℕ)) (line : List ℕ) (left : ℕ) (tags : List ℕ) (items : List Item) (pages : List ℕ) → AreGroups (lines ++ line ∷ []) left tags items pages → 0 < due lines left
    → (item : Item) × (page : ℕ) × IsItemLine line item page
last_item [] line zero tags items pages h d = absurd (omega (arith, d))
last_item [] line (suc left) tags [] pages h d = absurd h
last_item [] line (suc left) tags (i ∷ is) [] h d = absurd h
last_item [] line (suc left) tags (i ∷ is) (p ∷ ps) h d = (i, p, h.0)
last_item (l ∷ ls) line zero [] items pages h d = absurd h
last_item (l ∷ ls) line zero (t ∷ ts) items pages h d = last_item ls line 31 ts items pages h.1 d
last_item (l ∷ ls) line (suc left) tags [] pages h d = absurd h
last_item (l ∷ ls) line (suc left) tags (i ∷ is) [] h d = absurd h
last_item (l ∷ ls) line (suc left) tags (i ∷ is) (p ∷ ps) h d = last_item ls line left tags is ps h.1 d

-- ---- a claim of a plan

groups_of : (lines : List (List ℕ)) (tags : List ℕ) (items : List Item) (pages : List ℕ) → IsClaim lines (Some Plan) tags items pages → AreGroups lines 0 tags items pages × (length pages ≤ 2048)
groups_of [] tags items pages h = absurd h
groups_of (l ∷ ls) tags items pages h = h

is_plan : (lines : List (List ℕ)) (tags : List ℕ) (items : List Item) (pages : List ℕ) → 0 < length lines → AreGroups lines 0 tags items pages → length pages ≤ 2048 → IsClaim lines (Some Plan) tags items pages
is_plan [] tags items pages some h few = absurd (omega (arith, some))
is_plan (l ∷ ls) tags items pages some h few = (h, few)

-- the first line of a plan is a tag line, so what goes on from it is one of a plan
goes_on : (first : List ℕ) (lines : List (List ℕ)) (tag : ℕ) (head : Option Head) (tags : List ℕ) (items : List Item) (pages : List ℕ) → IsTagLine first tag → IsClaim (first ∷ lines) head tags items pages
    → AreGroups (first ∷ lines) 0 tags items pages × (length pages ≤ 2048)
goes_on first lines tag None tags items pages t c = absurd c
goes_on first lines tag (Some Plan) tags items pages t c = c
goes_on first lines tag (Some TooLong) tags items pages t c = absurd (tag_not_long first tag t c.0)

-- a claim of the lines of a plan, with some line behind them, is one of a plan
plan_goes_on : (lines : List (List ℕ)) (tags : List ℕ) (items : List Item) (pages : List ℕ) (line : List ℕ) (head : Option Head) (ts : List ℕ) (is : List Item) (ps : List ℕ) → IsClaim lines (Some Plan) tags items pages
    → IsClaim (lines ++ line ∷ []) head ts is ps → AreGroups (lines ++ line ∷ []) 0 ts is ps × (length ps ≤ 2048)
plan_goes_on [] tags items pages line head ts is ps h c = absurd h
plan_goes_on (l ∷ ls) [] items pages line head ts is ps h c = absurd h.0
plan_goes_on (l ∷ ls) (t ∷ tags) items pages line head ts is ps h c = goes_on l (ls ++ line ∷ []) t head ts is ps h.0.0 c

some_after : (lines : List (List ℕ)) (line : List ℕ) → 0 < length (lines ++ line ∷ [])
some_after lines line = omega (arith, length-append lines (line ∷ []))

pub more_tag : (lines : List (List ℕ)) (tags : List ℕ) (items : List Item) (pages : List ℕ) (line : List ℕ) (tag : ℕ) → IsClaim lines (Some Plan) tags items pages → length items ≡ 31 * length tags → IsTagLine line tag
    → IsClaim (lines ++ line ∷ []) (Some Plan) (tags ++ tag ∷ []) items pages
more_tag lines tags items pages line tag h whole r =
    let g = groups_of lines tags items pages h in
    let n = counts lines 0 tags items pages g.0 in
    let none : due lines 0 ≡ 0 = omega (arith, n.due_count, whole) in
    is_plan (lines ++ line ∷ []) (tags ++ tag ∷ []) items pages (some_after lines line) (tag_push lines 0 tags items pages line tag g.0 none r) g.1

pub no_tag : (lines : List (List ℕ)) (tags : List ℕ) (items : List Item) (pages : List ℕ) (line : List ℕ) → IsClaim lines (Some Plan) tags items pages → length items ≡ 31 * length tags → ((tag : ℕ) → IsTagLine line tag → ⊥)
    → IsBeginning (lines ++ line ∷ []) → ⊥
no_tag lines tags items pages line h whole never b =
    let g = groups_of lines tags items pages h in
    let n = counts lines 0 tags items pages g.0 in
    let none : due lines 0 ≡ 0 = omega (arith, n.due_count, whole) in
    let c = plan_goes_on lines tags items pages line b.0 b.1 b.2 b.3 h b.4 in
    let t = last_tag lines line 0 b.1 b.2 b.3 c.0 none in
    never t.0 t.1

-- more tags than there is room for have too many items
pub full_tags : (lines : List (List ℕ)) (tags : List ℕ) (items : List Item) (pages : List ℕ) → IsClaim lines (Some Plan) tags items pages → length items ≡ 31 * length tags → 67 ≤ length tags → ⊥
full_tags lines tags items pages h whole full =
    let g = groups_of lines tags items pages h in
    let n = counts lines 0 tags items pages g.0 in
    omega (arith, n.pages_count, g.1, whole, full)

above : (n : ℕ) → (n ≡ 0 → ⊥) → 0 < n
above zero h = absurd (h refl)
above (suc n) h = omega arith

item_due : (lines : List (List ℕ)) (tags : List ℕ) (items : List Item) (pages : List ℕ) → Counts lines 0 tags items pages → (length items ≡ 31 * length tags → ⊥) → 0 < due lines 0
item_due lines tags items pages n part = above (due lines 0) (λ none. part (omega (arith, n.due_count, none)))

pub more_items : (lines : List (List ℕ)) (tags : List ℕ) (items : List Item) (pages : List ℕ) (line : List ℕ) (item : Item) (page : ℕ) → IsClaim lines (Some Plan) tags items pages → (length items ≡ 31 * length tags → ⊥)
    → IsItemLine line item page → length pages < 2048 → IsClaim (lines ++ line ∷ []) (Some Plan) tags (items ++ item ∷ []) (pages ++ page ∷ [])
more_items lines tags items pages line item page h part r room =
    let g = groups_of lines tags items pages h in
    let n = counts lines 0 tags items pages g.0 in
    is_plan (lines ++ line ∷ []) tags (items ++ item ∷ []) (pages ++ page ∷ []) (some_after lines line)
    (item_push lines 0 tags items pages line item page g.0 (item_due lines tags items pages n part) r) (omega (arith, length-append pages (page ∷ [])))

pub no_item : (lines : List (List ℕ)) (tags : List ℕ) (items : List Item) (pages : List ℕ) (line : List ℕ) → IsClaim lines (Some Plan) tags items pages → (length items ≡ 31 * length tags → ⊥)
    → ((item : Item) (page : ℕ) → IsItemLine line item page → ⊥) → IsBeginning (lines ++ line ∷ []) → ⊥
no_item lines tags items pages line h part never b =
    let g = groups_of lines tags items pages h in
    let n = counts lines 0 tags items pages g.0 in
    let c = plan_goes_on lines tags items pages line b.0 b.1 b.2 b.3 h b.4 in
    let w = last_item lines line 0 b.1 b.2 b.3 c.0 (item_due lines tags items pages n part) in
    never w.0 w.1 w.2

due_item : (lines : List (List ℕ)) (line : List ℕ) (left : ℕ) → 0 < due lines left → due (lines ++ line ∷ []) left + 1 ≡ due lines left
due_item [] line zero d = absurd (omega (arith, d))
due_item [] line (suc left) d = omega arith
due_item (l ∷ ls) line zero d = due_item ls line 31 d
due_item (l ∷ ls) line (suc left) d = due_item ls line left d

due_here : (lines : List (List ℕ)) (left : ℕ) → left ≤ 31 → due lines left ≤ 31
due_here [] left le = le
due_here (l ∷ ls) zero le = due_here ls 31 (omega arith)
due_here (l ∷ ls) (suc left) le = due_here ls left (omega arith)

pub full_items : (lines : List (List ℕ)) (tags : List ℕ) (items : List Item) (pages : List ℕ) (line : List ℕ) → IsClaim lines (Some Plan) tags items pages → (length items ≡ 31 * length tags → ⊥)
    → (2048 ≤ length items) ⊎ (2048 ≤ length pages) → IsBeginning (lines ++ line ∷ []) → ⊥
full_items lines tags items pages line h part full b =
    let g = groups_of lines tags items pages h in
    let n = counts lines 0 tags items pages g.0 in
    let c = plan_goes_on lines tags items pages line b.0 b.1 b.2 b.3 h b.4 in
    let m = counts (lines ++ line ∷ []) 0 b.1 b.2 b.3 c.0 in
    let some = item_due lines tags items pages n part in
    let one : due (lines ++ line ∷ []) 0 + 1 ≡ due lines 0 = due_item lines line 0 some in
    let few : due lines 0 ≤ 31 = due_here lines 0 (omega arith) in
    let e : length (lines ++ line ∷ []) ≡ length lines + 1 = length-append lines (line ∷ []) in
    elim full [
      | inl many ↦ omega (arith, n.lines_count, n.pages_count, n.due_count, m.lines_count, m.pages_count, m.due_count, one, few, some, e, c.1, many)
      | inr many ↦ omega (arith, n.lines_count, n.pages_count, n.due_count, m.lines_count, m.pages_count, m.due_count, one, few, some, e, c.1, many)
    ]

-- ---- the first line

pub first_tag : (lines : List (List ℕ)) (tags : List ℕ) (items : List Item) (pages : List ℕ) (line : List ℕ) (tag : ℕ) → IsClaim lines None tags items pages → IsTagLine line tag
    → IsClaim (lines ++ line ∷ []) (Some Plan) (tags ++ tag ∷ []) items pages
first_tag [] [] [] [] line tag h r = ((r, tt), omega arith)
first_tag [] [] [] (p ∷ ps) line tag h r = absurd (omega (arith, ap length h.2))
first_tag [] [] (i ∷ is) pages line tag h r = absurd (omega (arith, ap length h.1))
first_tag [] (t ∷ ts) items pages line tag h r = absurd (omega (arith, ap length h.0))
first_tag (l ∷ ls) tags items pages line tag h r = absurd h

pub first_long : (lines : List (List ℕ)) (tags : List ℕ) (items : List Item) (pages : List ℕ) (line : List ℕ) → IsClaim lines None tags items pages → line ≡ long_line
    → IsClaim (lines ++ line ∷ []) (Some TooLong) tags items pages
first_long [] tags items [] line h r = (r, h.0, h.1, tt, omega arith)
first_long [] tags items (p ∷ ps) line h r = absurd (omega (arith, ap length h.2))
first_long (l ∷ ls) tags items pages line h r = absurd h

one_line : (line : List ℕ) (head : Option Head) (tags : List ℕ) (items : List Item) (pages : List ℕ) → (line ≡ long_line → ⊥) → ((tag : ℕ) → IsTagLine line tag → ⊥) → IsClaim (line ∷ []) head tags items pages → ⊥
one_line line None tags items pages short never c = c
one_line line (Some Plan) [] items pages short never c = c.0
one_line line (Some Plan) (t ∷ ts) items pages short never c = never t c.0.0
one_line line (Some TooLong) tags items pages short never c = short c.0

pub no_first : (lines : List (List ℕ)) (tags : List ℕ) (items : List Item) (pages : List ℕ) (line : List ℕ) → IsClaim lines None tags items pages → (line ≡ long_line → ⊥) → ((tag : ℕ) → IsTagLine line tag → ⊥)
    → IsBeginning (lines ++ line ∷ []) → ⊥
no_first [] tags items pages line h short never b = one_line line b.0 b.1 b.2 b.3 short never b.4
no_first (l ∷ ls) tags items pages line h short never b = absurd h

pub no_tags : (lines : List (List ℕ)) (tags : List ℕ) (items : List Item) (pages : List ℕ) → IsClaim lines None tags items pages → 67 ≤ length tags → ⊥
no_tags [] tags items pages h full = omega (arith, full, ap length h.0)
no_tags (l ∷ ls) tags items pages h full = absurd h

-- ---- page lines

page_counts : (lines : List (List ℕ)) (pages : List ℕ) → AllZip IsPageLine lines pages → length pages ≡ length lines
page_counts [] [] h = refl
page_counts [] (p ∷ ps) h = absurd h
page_counts (l ∷ ls) [] h = absurd h
page_counts (l ∷ ls) (p ∷ ps) h = omega (arith, page_counts ls ps h.1)

pages_push : (lines : List (List ℕ)) (pages : List ℕ) (line : List ℕ) (page : ℕ) → AllZip IsPageLine lines pages → IsPageLine line page → AllZip IsPageLine (lines ++ line ∷ []) (pages ++ page ∷ [])
pages_push [] [] line page h r = (r, tt)
pages_push [] (p ∷ ps) line page h r = absurd h
pages_push (l ∷ ls) [] line page h r = absurd h
pages_push (l ∷ ls) (p ∷ ps) line page h r = (h.0, pages_push ls ps line page h.1 r)

last_page : (lines : List (List ℕ)) (line : List ℕ) (pages : List ℕ) → AllZip IsPageLine (lines ++ line ∷ []) pages → (page : ℕ) × IsPageLine line page
last_page [] line [] h = absurd h
last_page [] line (p ∷ ps) h = (p, h.0)
last_page (l ∷ ls) line [] h = absurd h
last_page (l ∷ ls) line (p ∷ ps) h = last_page ls line ps h.1

any_page : (lines : List (List ℕ)) (line : List ℕ) (after : List (List ℕ)) (pages : List ℕ) → AllZip IsPageLine (lines ++ line ∷ after) pages → (page : ℕ) × IsPageLine line page
any_page [] line after [] h = absurd h
any_page [] line after (p ∷ ps) h = (p, h.0)
any_page (l ∷ ls) line after [] h = absurd h
any_page (l ∷ ls) line after (p ∷ ps) h = any_page ls line after ps h.1

pub more_pages : (lines : List (List ℕ)) (tags : List ℕ) (items : List Item) (pages : List ℕ) (line : List ℕ) (page : ℕ) → IsClaim lines (Some TooLong) tags items pages → IsPageLine line page → length pages < 2048
    → IsClaim (lines ++ line ∷ []) (Some TooLong) tags items (pages ++ page ∷ [])
more_pages [] tags items pages line page h r room = absurd h
more_pages (l ∷ ls) tags items pages line page h r room = (h.0, h.1, h.2, pages_push ls pages line page h.3 r, omega (arith, length-append pages (page ∷ [])))

long_goes_on : (first : List ℕ) (lines : List (List ℕ)) (line : List ℕ) (head : Option Head) (tags : List ℕ) (items : List Item) (pages : List ℕ) → first ≡ long_line → IsClaim (first ∷ (lines ++ line ∷ [])) head tags items pages
    → AllZip IsPageLine (lines ++ line ∷ []) pages × (length pages ≤ 2048)
long_goes_on first lines line None tags items pages t c = absurd c
long_goes_on first lines line (Some Plan) [] items pages t c = absurd c.0
long_goes_on first lines line (Some Plan) (g ∷ gs) items pages t c = absurd (tag_not_long first g c.0.0 t)
long_goes_on first lines line (Some TooLong) tags items pages t c = (c.3, c.4)

pub no_page : (lines : List (List ℕ)) (tags : List ℕ) (items : List Item) (pages : List ℕ) (line : List ℕ) → IsClaim lines (Some TooLong) tags items pages → ((page : ℕ) → IsPageLine line page → ⊥) → IsBeginning (lines ++ line ∷ []) → ⊥
no_page [] tags items pages line h never b = absurd h
no_page (l ∷ ls) tags items pages line h never b =
    let c = long_goes_on l ls line b.0 b.1 b.2 b.3 h.0 b.4 in
    let w = last_page ls line b.3 c.0 in
    never w.0 w.1

pub full_pages : (lines : List (List ℕ)) (tags : List ℕ) (items : List Item) (pages : List ℕ) (line : List ℕ) → IsClaim lines (Some TooLong) tags items pages → 2048 ≤ length pages → IsBeginning (lines ++ line ∷ []) → ⊥
full_pages [] tags items pages line h full b = absurd h
full_pages (l ∷ ls) tags items pages line h full b =
    let c = long_goes_on l ls line b.0 b.1 b.2 b.3 h.0 b.4 in
    let n = page_counts ls pages h.3 in
    let m = page_counts (ls ++ line ∷ []) b.3 c.0 in
    let e : length (ls ++ line ∷ []) ≡ length ls + 1 = length-append ls (line ∷ []) in
    omega (arith, n, m, e, c.1)

-- ---- how many lines

pub plan_lines : (lines : List (List ℕ)) (tags : List ℕ) (items : List Item) (pages : List ℕ) → IsClaim lines (Some Plan) tags items pages → length lines ≡ length tags + length items
plan_lines lines tags items pages h =
    let g = groups_of lines tags items pages h in
    (counts lines 0 tags items pages g.0).lines_count

pub long_lines : (lines : List (List ℕ)) (tags : List ℕ) (items : List Item) (pages : List ℕ) → IsClaim lines (Some TooLong) tags items pages → length lines ≡ 1 + length pages
long_lines [] tags items pages h = absurd h
long_lines (l ∷ ls) tags items pages h = omega (arith, page_counts ls pages h.3)

-- ---- messages without items

abbrev later : (line : List ℕ) (lines : List (List ℕ)) → EndsInTag lines → EndsInTag (line ∷ lines)
later line lines e = record { before = line ∷ e.before; line = e.line; tag = e.tag; split = λ i. line ∷ e.split i; is_tag = e.is_tag }

ends : (lines : List (List ℕ)) (left : ℕ) (tags : List ℕ) (items : List Item) (pages : List ℕ) → AreGroups lines left tags items pages → left ≤ 31 → due lines left ≡ 31 → ((lines ≡ []) × (left ≡ 31)) ⊎ EndsInTag lines
ends [] left tags items pages h le d = inl (refl, d)
ends (l ∷ ls) zero [] items pages h le d = absurd h
ends (l ∷ ls) zero (t ∷ ts) items pages h le d = elim (ends ls 31 ts items pages h.1 (omega arith) d) [
  | inl none ↦ inr (record { before = []; line = l; tag = t; split = λ i. l ∷ none.0 i; is_tag = h.0 })
  | inr e ↦ inr (later l ls e)
]
ends (l ∷ ls) (suc left) tags [] pages h le d = absurd h
ends (l ∷ ls) (suc left) tags (i ∷ is) [] h le d = absurd h
ends (l ∷ ls) (suc left) tags (i ∷ is) (p ∷ ps) h le d = elim (ends ls left tags is ps h.1 (omega arith) d) [
  | inl none ↦ absurd (omega (arith, none.1, le))
  | inr e ↦ inr (later l ls e)
]

pub ends_in_tag : (lines : List (List ℕ)) (tags : List ℕ) (items : List Item) (pages : List ℕ) → IsClaim lines (Some Plan) tags items pages → length items + 31 ≡ 31 * length tags → EndsInTag lines
ends_in_tag lines tags items pages h part =
    let g = groups_of lines tags items pages h in
    let n = counts lines 0 tags items pages g.0 in
    elim (ends lines 0 tags items pages g.0 (omega arith) (omega (arith, n.due_count, part))) [
      | inl none ↦ absurd (omega (arith, none.1))
      | inr e ↦ e
    ]

tag_last : (before : List (List ℕ)) (line : List ℕ) (tag left : ℕ) (tags : List ℕ) (items : List Item) (pages : List ℕ) → AreGroups (before ++ line ∷ []) left tags items pages → IsTagLine line tag
    → due (before ++ line ∷ []) left ≡ 31
tag_last [] line tag zero tags items pages h t = refl
tag_last [] line tag (suc left) tags [] pages h t = absurd h
tag_last [] line tag (suc left) tags (i ∷ is) [] h t = absurd h
tag_last [] line tag (suc left) tags (i ∷ is) (p ∷ ps) h t = absurd (tag_not_item line tag i p t h.0)
tag_last (l ∷ ls) line tag zero [] items pages h t = absurd h
tag_last (l ∷ ls) line tag zero (g ∷ gs) items pages h t = tag_last ls line tag 31 gs items pages h.1 t
tag_last (l ∷ ls) line tag (suc left) tags [] pages h t = absurd h
tag_last (l ∷ ls) line tag (suc left) tags (i ∷ is) [] h t = absurd h
tag_last (l ∷ ls) line tag (suc left) tags (i ∷ is) (p ∷ ps) h t = tag_last ls line tag left tags is ps h.1 t

pub ends_in_item : (lines : List (List ℕ)) (tags : List ℕ) (items : List Item) (pages : List ℕ) → IsClaim lines (Some Plan) tags items pages → (length items + 31 ≡ 31 * length tags → ⊥) → EndsInTag lines → ⊥
ends_in_item lines tags items pages h filled e =
    let g = groups_of lines tags items pages h in
    let n = counts lines 0 tags items pages g.0 in
    let last : due lines 0 ≡ 31 = subst (λ (x : List (List ℕ)). due x 0 ≡ 31) (sym e.split) (tag_last e.before e.line e.tag 0 tags items pages (subst (λ (x : List (List ℕ)). AreGroups x 0 tags items pages) e.split g.0) e.is_tag) in
    filled (omega (arith, n.due_count, last))

no_end : (before : List (List ℕ)) (line : List ℕ) (tag : ℕ) (tags : List ℕ) (items : List Item) (pages : List ℕ) → IsClaim (before ++ line ∷ []) None tags items pages → IsTagLine line tag → ⊥
no_end [] line tag tags items pages h t = h
no_end (l ∷ ls) line tag tags items pages h t = h

pub ends_nowhere : (lines : List (List ℕ)) (tags : List ℕ) (items : List Item) (pages : List ℕ) → IsClaim lines None tags items pages → EndsInTag lines → ⊥
ends_nowhere lines tags items pages h e = no_end e.before e.line e.tag tags items pages (subst (λ (x : List (List ℕ)). IsClaim x None tags items pages) e.split h) e.is_tag

long_end : (before : List (List ℕ)) (line : List ℕ) (tag : ℕ) (tags : List ℕ) (items : List Item) (pages : List ℕ) → IsClaim (before ++ line ∷ []) (Some TooLong) tags items pages → IsTagLine line tag → ⊥
long_end [] line tag tags items pages h t = tag_not_long line tag t h.0
long_end (l ∷ ls) line tag tags items pages h t = let w = last_page ls line pages h.3 in tag_not_page line tag w.0 t w.1

pub ends_in_page : (lines : List (List ℕ)) (tags : List ℕ) (items : List Item) (pages : List ℕ) → IsClaim lines (Some TooLong) tags items pages → EndsInTag lines → ⊥
ends_in_page lines tags items pages h e = long_end e.before e.line e.tag tags items pages (subst (λ (x : List (List ℕ)). IsClaim x (Some TooLong) tags items pages) e.split h) e.is_tag

-- a line behind a tag line is no tag line
after_tag : (before : List (List ℕ)) (line next : List ℕ) (tag other left : ℕ) (tags : List ℕ) (items : List Item) (pages : List ℕ) → AreGroups (before ++ line ∷ (next ∷ [])) left tags items pages → IsTagLine line tag
    → IsTagLine next other → ⊥
after_tag [] line next tag other zero [] items pages h t u = absurd h
after_tag [] line next tag other zero (g ∷ gs) [] pages h t u = absurd h.1
after_tag [] line next tag other zero (g ∷ gs) (i ∷ is) [] h t u = absurd h.1
after_tag [] line next tag other zero (g ∷ gs) (i ∷ is) (p ∷ ps) h t u = tag_not_item next other i p u h.1.0
after_tag [] line next tag other (suc left) tags [] pages h t u = absurd h
after_tag [] line next tag other (suc left) tags (i ∷ is) [] h t u = absurd h
after_tag [] line next tag other (suc left) tags (i ∷ is) (p ∷ ps) h t u = tag_not_item line tag i p t h.0
after_tag (l ∷ ls) line next tag other zero [] items pages h t u = absurd h
after_tag (l ∷ ls) line next tag other zero (g ∷ gs) items pages h t u = after_tag ls line next tag other 31 gs items pages h.1 t u
after_tag (l ∷ ls) line next tag other (suc left) tags [] pages h t u = absurd h
after_tag (l ∷ ls) line next tag other (suc left) tags (i ∷ is) [] h t u = absurd h
after_tag (l ∷ ls) line next tag other (suc left) tags (i ∷ is) (p ∷ ps) h t u = after_tag ls line next tag other left tags is ps h.1 t u

two_tags : (before : List (List ℕ)) (line next : List ℕ) (tag other : ℕ) (head : Option Head) (tags : List ℕ) (items : List Item) (pages : List ℕ) → IsClaim (before ++ line ∷ (next ∷ [])) head tags items pages → IsTagLine line tag
    → IsTagLine next other → ⊥
two_tags [] line next tag other None tags items pages h t u = h
two_tags [] line next tag other (Some Plan) tags items pages h t u = after_tag [] line next tag other 0 tags items pages h.0 t u
two_tags [] line next tag other (Some TooLong) tags items pages h t u = tag_not_long line tag t h.0
two_tags (l ∷ ls) line next tag other None tags items pages h t u = h
two_tags (l ∷ ls) line next tag other (Some Plan) tags items pages h t u = after_tag (l ∷ ls) line next tag other 0 tags items pages h.0 t u
two_tags (l ∷ ls) line next tag other (Some TooLong) tags items pages h t u = let w = any_page ls line (next ∷ []) pages h.3 in tag_not_page line tag w.0 t w.1

pub second_tag : (before : List (List ℕ)) (line : List ℕ) (tag : ℕ) → EndsInTag before → IsTagLine line tag → IsBeginning (before ++ line ∷ []) → ⊥
second_tag before line tag e t b =
    let c = subst (λ (x : List (List ℕ)). IsClaim (x ++ line ∷ []) b.0 b.1 b.2 b.3) e.split b.4 in
    two_tags e.before e.line line e.tag tag b.0 b.1 b.2 b.3 (subst (λ (x : List (List ℕ)). IsClaim x b.0 b.1 b.2 b.3) (append_assoc e.before (e.line ∷ []) (line ∷ [])) c) e.is_tag t
