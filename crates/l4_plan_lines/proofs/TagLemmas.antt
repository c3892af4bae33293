-- The tags of messages, one after another.
use Rattle.std.proofs.Common.{◌≡◌, ℕ, ◌+◌, ◌-◌, ◌*◌, ◌<◌, min, sym, ap, ◌∙◌, subst, inl, inr, arith, List, length, get_or, drop, length-drop}
use Rattle.std.proofs.lemmas.Bool.{cases_lt}
use Rattle.std.proofs.lemmas.List.{length-take}
use Rattle.l4_msg.specs.Regions.{part_of_list}
use Rattle.l4_msg.specs.declared.items.Item.{Item}
use Rattle.l4_plan_lines.specs.Answers.{IsRightTag}

-- the items of a message, counted
part_count : (items : List Item) (k behind count : ℕ) → behind ≡ length items - 31 * k → count ≡ min behind 31 → length (part_of_list items k) ≡ count
part_count items k behind count e f = omega (arith, e, f, length-take 31 (drop (31 * k) items), length-drop (31 * k) items)

pub right_tag : (tags lent : List ℕ) (items : List Item) (k behind count : ℕ) → lent ≡ tags → behind ≡ length items - 31 * k → count ≡ min behind 31 → get_or lent k 0 ≡ 128 * count → IsRightTag tags items k
right_tag tags lent items k behind count same e f h =
    ap (λ (l : List ℕ). get_or l k 0) (sym same) ∙ h ∙ ap (λ (n : ℕ). 128 * n) (sym (part_count items k behind count e f))

pub tag_is : (tags lent : List ℕ) (items : List Item) (k behind count : ℕ) → lent ≡ tags → behind ≡ length items - 31 * k → count ≡ min behind 31 → IsRightTag tags items k → get_or lent k 0 ≡ 128 * count
tag_is tags lent items k behind count same e f h =
    ap (λ (l : List ℕ). get_or l k 0) same ∙ h ∙ ap (λ (n : ℕ). 128 * n) (part_count items k behind count e f)

pub right_so_far : (tags : List ℕ) (items : List Item) (k : ℕ) → ((j : ℕ) → j < k → IsRightTag tags items j) → IsRightTag tags items k → (j : ℕ) → j < k + 1 → IsRightTag tags items j
right_so_far tags items k before here j lt =
    elim (cases_lt j k) [
      | inl less ↦ before j less
      | inr more ↦ let e : k ≡ j = omega (arith, lt, more) in subst (λ (n : ℕ). IsRightTag tags items n) e here
    ]
