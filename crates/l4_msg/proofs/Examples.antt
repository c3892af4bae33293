-- Small cases of the definitions over regions: of each main one, one that it holds of, and one that it doesn't.
use Rattle.std.proofs.Common.{◌≡◌, ℕ, zero, suc, ◌+◌, ◌-◌, ◌^◌, ◌%◌, ◌<◌, ◌≤◌, List, [], ◌∷◌, refl, sym, subst, lit≤, lit<, arith, slice_index_or}
use Rattle.std.specs.List.{Any}
use Rattle.std.proofs.lemmas.List.Elements.{All-nil, All-cons}
use Rattle.std.proofs.lemmas.List.Kept.{AllPairs-cons}
use Rattle.l4_fpage.specs.Rights.{all_rights}
use Rattle.l4_fpage.specs.declared.sizes.PageSize.TheVariants.{Kib4}
use Rattle.l4_fpage.specs.declared.fpages.Fpage.{Fpage}
use Rattle.l4_fpage.specs.declared.fpages.Fpage.TheVariants.{Sized}
use Rattle.l4_msg.specs.Moves.{ItemMoves, RegionMoves, IsMap, complete}
use Rattle.l4_msg.specs.Regions.{IsRival, IsCertificate, ShareBlock}
use Rattle.l4_msg.specs.declared.items.Item.{Item}
use Rattle.l4_msg.specs.declared.items.Item.TheVariants.{Map}
use Rattle.l4_msg.specs.declared.regions.Region.{Region}

-- pages 0 and 1 go to pages 1 and 2
abbrev upwards : Region
upwards = record { source = 0; target = 1; count = 2; rights = all_rights }

-- pages 0 and 1 stay where they are
abbrev in_place : Region
in_place = record { source = 0; target = 0; count = 2; rights = all_rights }

-- MOVES OF A REGION

pub last_page : RegionMoves upwards 1 2
last_page = record { index = 1; within = lit< tt; source_is = refl; target_is = refl }

pub page_after : ¬ (RegionMoves upwards 2 3)
page_after m = omega (arith, m.within, m.source_is)

-- RIVALS

abbrev page_0 : Fpage
page_0 = Sized (record { base = 0; log = 12; rights = all_rights; large = lit≤ tt; small = lit≤ tt; aligned = refl })

abbrev page_1 : Fpage
page_1 = Sized (record { base = 0x1000; log = 12; rights = all_rights; large = lit≤ tt; small = lit≤ tt; aligned = refl })

abbrev both_pages : Fpage
both_pages = Sized (record { base = 0; log = 13; rights = all_rights; large = lit≤ tt; small = lit≤ tt; aligned = refl })

abbrev page_by_page : List Item
page_by_page = Map 0x1000 page_0 ∷ Map 0x2000 page_1 ∷ []

moved_by : (k : ℕ) (item : Item) (source target : ℕ) → k < 2 → slice_index_or page_by_page k item ≡ item → ItemMoves Kib4 item complete source target → RegionMoves upwards source target
moved_by zero item source target lt is moves =
    let m = subst (λ (i : Item). ItemMoves Kib4 i complete source target) (sym is) moves in
    record { index = 0; within = lit< tt; source_is = omega (arith, m.1.within, m.1.source_is); target_is = omega (arith, m.1.within, m.1.target_is) }
moved_by (suc zero) item source target lt is moves =
    let m = subst (λ (i : Item). ItemMoves Kib4 i complete source target) (sym is) moves in
    record { index = 1; within = lit< tt; source_is = omega (arith, m.1.within, m.1.source_is); target_is = omega (arith, m.1.within, m.1.target_is) }
moved_by (suc (suc k)) item source target lt is moves = absurd (omega (arith, lt))

mover_of : (index source target : ℕ) → index < 2 → source ≡ index → target ≡ 1 + index → Any (λ item. ItemMoves Kib4 item complete source target) page_by_page
mover_of zero source target lt s t = (0, Map 0x1000 page_0, lit< tt, refl, (lit≤ tt, record { index = 0; within = lit< tt; source_is = s; target_is = t }))
mover_of (suc zero) source target lt s t = (1, Map 0x2000 page_1, lit< tt, refl, (lit≤ tt, record { index = 0; within = lit< tt; source_is = s; target_is = t }))
mover_of (suc (suc k)) source target lt s t = absurd (omega (arith, lt))

-- one item a page moves the region
pub one_item_a_page : IsRival Kib4 upwards page_by_page
one_item_a_page = record {
  maps = All-cons IsMap (Map 0x1000 page_0) (Map 0x2000 page_1 ∷ []) tt (All-cons IsMap (Map 0x2000 page_1) [] tt (All-nil IsMap));
  moves = λ source target. (λ any. moved_by any.0 any.1 source target any.2 any.3 any.4, λ m. mover_of m.index source target m.within (omega (arith, m.source_is)) m.target_is);
}

-- one item for both doesn't: its target is rounded down to page 0
pub both_in_one : ¬ (IsRival Kib4 upwards (Map 0x1000 both_pages ∷ []))
both_in_one h =
    let m : RegionMoves upwards 0 0 = (h.moves 0 0).0 (0, Map 0x1000 both_pages, lit< tt, refl, (lit≤ tt, record { index = 0; within = lit< tt; source_is = refl; target_is = refl })) in
    omega (arith, m.target_is)

-- CERTIFICATES

abbrev IsInside : Region → ℕ → Type 0
IsInside r page = (r.source ≤ page) × (page < r.source + r.count)

-- a block that holds pages 0 and 1 begins at 0, and goes to 1
not_shared : ¬ (ShareBlock upwards 0 1)
not_shared s =
    let begins : s.0 ≡ 0 = omega (arith, s.3.from) in
    let two : 2 ^ s.1 ≡ 2 = omega (arith, begins, s.4.below, s.2.to) in
    let aligned : (1 + (0 - 0)) % 2 ≡ 0 = subst (λ (n : ℕ). (1 + (0 - 0)) % n ≡ 0) two (subst (λ (f : ℕ). (1 + (f - 0)) % 2 ^ s.1 ≡ 0) begins s.2.target.aligned) in
    omega (arith, aligned)

-- each page of the region needs an item of its own
pub apart : IsCertificate upwards (0 ∷ 1 ∷ [])
apart = record {
  inside = All-cons (IsInside upwards) 0 (1 ∷ []) (lit≤ tt, lit< tt) (All-cons (IsInside upwards) 1 [] (lit≤ tt, lit< tt) (All-nil (IsInside upwards)));
  apart = AllPairs-cons (λ p q. ShareBlock upwards p q → ⊥) 0 (1 ∷ []) (All-cons (λ q. ShareBlock upwards 0 q → ⊥) 1 [] not_shared (All-nil (λ q. ShareBlock upwards 0 q → ⊥))) (λ i j d lt less. absurd (omega (arith, lt, less)));
}

-- where the pages stay, one item moves both
pub together : ¬ (IsCertificate in_place (0 ∷ 1 ∷ []))
together h =
    h.apart 0 1 0 (lit< tt) (lit< tt) (
      0,
      1,
      record {
        source = record { small = lit≤ tt; aligned = refl; inside = lit≤ tt };
        target = record { small = lit≤ tt; aligned = refl; inside = lit≤ tt };
        «from» = lit≤ tt;
        to = lit≤ tt;
      },
      record { «from» = lit≤ tt; below = lit< tt },
      record { «from» = lit≤ tt; below = lit< tt },
    )
