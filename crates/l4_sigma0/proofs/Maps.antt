-- The map of a table of owners, and what sigma0 answers by it.
use Rattle.std.proofs.Common.{◌≡◌, ◌≢◌, ℕ, zero, suc, ◌+◌, ◌-◌, ◌*◌, ◌^◌, ◌<◌, ◌≤◌, ◌⊎◌, ◌&&◌, ◌==◌, true, false, length, nat_le, nat_lt, cond, if◌then◌else◌, List, [], ◌∷◌, Option, Some, None, MatchOption, get_or, inl, inr, refl, sym, ap, subst, ◌∙◌, arith, eq-eqb}
use Rattle.std.specs.Ordering.{nat_cmp}
use Rattle.std.specs.Cmp.{unsigned_tied, nat_cmp_total}
use Rattle.std.specs.FinMap as fin
use Rattle.std.proofs.lemmas.Bool.Decides.{eqb_tells, nat_tests}
use Rattle.l4_fpage.specs.Rights.{all_rights}
use Rattle.l4_fpage.specs.Pages.{InBlock, page_log, page_bytes}
use Rattle.l4_fpage.specs.Fpages.{bytes_of, rights_of}
use Rattle.l4_fpage.specs.declared.fpages.Fpage.{Fpage}
use Rattle.l4_msg.specs.declared.items.Item.TheVariants.{Map}
use Rattle.l4_msg.specs.declared.messages.Message.{Message}
use Rattle.l4_msg.specs.Protocols.{nothing, one_item, GivesPages}
use Rattle.l4_sigma0.specs.Owners.{Owners, owner_of, is_in, Wants, MayHave, MayHaveAll, Gives, Answers}
use Rattle.l4_sigma0.specs.Inside.Tables.{entries_from, map_of, owner_in, AreFree, IsFilled, NoneFrom, IsNextIn}
use Rattle.l4_sigma0.specs.Listed.{NoneOwnedFrom, IsNextOwned}
use Rattle.std.proofs.lemmas.List.{get_or_past}
use Rattle.l4_fpage.specs.declared.sizes.PageSize.{PageSize}

differ : (a b : ℕ) → a ≢ b → (a == b) ≡ false
differ a b ne = elim (eqb_tells a b) [ inl h ↦ absurd (ne h.1) | inr h ↦ h.0 ]

absent : (owners : List (Option ℕ)) (n q : ℕ) → q < n → fin.find nat_cmp q (entries_from n owners) ≡ None
absent [] n q lt = refl
absent (None ∷ rest) n q lt = absent rest (n + 1) q (omega arith)
absent (Some o ∷ rest) n q lt =
    ap (λ b. cond b (Some o) (fin.find nat_cmp q (entries_from (n + 1) rest))) (unsigned_tied q n ∙ differ q n (λ e. absurd (omega (arith, e))))
    ∙ absent rest (n + 1) q (omega arith)

stands : (owners : List (Option ℕ)) (n k q : ℕ) → q ≡ n + k → fin.find nat_cmp q (entries_from n owners) ≡ owner_in owners k
stands [] n k q e = refl
stands (None ∷ rest) n zero q e = absent rest (n + 1) q (omega arith)
stands (None ∷ rest) n (suc k) q e = stands rest (n + 1) k q (omega arith)
stands (Some o ∷ rest) n zero q e =
    ap (λ b. cond b (Some o) (fin.find nat_cmp q (entries_from (n + 1) rest))) (unsigned_tied q n ∙ eq-eqb q n (omega arith))
stands (Some o ∷ rest) n (suc k) q e =
    ap (λ b. cond b (Some o) (fin.find nat_cmp q (entries_from (n + 1) rest))) (unsigned_tied q n ∙ differ q n (λ e'. absurd (omega (arith, e'))))
    ∙ stands rest (n + 1) k q (omega arith)

-- the map has the owner of the table
pub owner_is : (owners : List (Option ℕ)) (frame : ℕ) → fin.get (map_of owners) frame ≡ owner_in owners frame
owner_is owners frame = fin.get-from_entries nat_cmp_total (entries_from 0 owners) frame ∙ stands owners 0 frame frame (omega arith)

abbrev pub table : PageSize → ℕ → List (Option ℕ) → Owners
table size frames owners = record { size = size; frames = frames; owner = map_of owners }

pub unwanted : (t : Owners) (space : ℕ) (m answer : Message) → ((first log : ℕ) → Wants t.size m first log → ⊥) → answer ≡ nothing → Answers t space m answer t
unwanted t space m answer none e = inr ((λ first log w all. none first log w), e, refl)

refused : (t : Owners) (space : ℕ) (m answer : Message) (first log : ℕ) → ((f l : ℕ) → Wants t.size m f l → (first ≡ f) × (log ≡ l)) → (MayHaveAll t space first log → ⊥) → answer ≡ nothing → Answers t space m answer t
refused t space m answer first log only not e =
    inr (
      (λ f l w all. let same : (first ≡ f) × (log ≡ l) = only f l w in
          not (subst (λ (p : ℕ × ℕ). MayHaveAll t space p.0 p.1) (λ i. (sym same.0 i, sym same.1 i)) all)),
      e,
      refl,
    )

pub beyond : (t : Owners) (space : ℕ) (m answer : Message) (first log end : ℕ) → end ≡ first + 2 ^ log → 0 < 2 ^ log → t.frames < end → ((f l : ℕ) → Wants t.size m f l → (first ≡ f) × (log ≡ l)) → answer ≡ nothing → Answers t space m answer t
beyond t space m answer first log end is positive past only =
    refused t space m answer first log only
    (λ all. let last : MayHave t space (end - 1) = all (end - 1) (record { «from» = omega arith; below = omega arith }) in absurd (omega (arith, last.0)))

pub taken : (size : PageSize) (frames : ℕ) (owners : List (Option ℕ)) (space : ℕ) (m answer : Message) (first log end : ℕ) → end ≡ first + 2 ^ log → (AreFree owners space first end → ⊥) → ((f l : ℕ) → Wants size m f l → (first ≡ f) × (log ≡ l)) → answer ≡ nothing → Answers (table size frames owners) space m answer (table size frames owners)
taken size frames owners space m answer first log end is not only =
    refused (table size frames owners) space m answer first log only
    (λ all. not (λ frame from below. subst (λ (o : Option ℕ). MatchOption o (Unit {0}) (λ owner. owner ≡ space)) (owner_is owners frame) (all frame (record { «from» = from; below = omega arith })).1))

pub given : (size : PageSize) (frames : ℕ) (old new : List (Option ℕ)) (space : ℕ) (m answer : Message) (first log end base : ℕ) (fpage : Fpage) → end ≡ first + 2 ^ log → base ≡ first * page_bytes size → end ≤ frames → Wants size m first log → AreFree old space first end → IsFilled old space first end new → bytes_of fpage ≡ Some (record { base = first * page_bytes size; log = log + page_log size }) → rights_of fpage ≡ all_rights → answer ≡ one_item (Map base fpage) → Answers (table size frames old) space m answer (table size frames new)
given size frames old new space m answer first log end base fpage is at within wants free filled bytes rights e =
    inl (
      first,
      log,
      wants,
      (λ frame h. (omega (arith, h.below), subst (λ (o : Option ℕ). MatchOption o (Unit {0}) (λ owner. owner ≡ space)) (sym (owner_is old frame)) (free frame h.«from» (omega (arith, h.below))))),
      record { fpage = fpage; bytes = bytes; rights_are = rights; is = e ∙ ap (λ (b : ℕ). one_item (Map b fpage)) at },
      record {
        size = refl;
        frames = refl;
        owner = λ frame. owner_is new frame ∙ filled.owner frame
            ∙ ap (λ (k : ℕ). if nat_le first frame && nat_lt frame k then Some space else owner_in old frame) is
            ∙ ap (λ (o : Option ℕ). if is_in first log frame then Some space else o) (sym (owner_is old frame));
      },
    )

-- THE FRAMES THAT HAVE OWNERS

below_or : (a b : ℕ) → (a < b) ⊎ (b ≤ a)
below_or a b =
    elim (nat_lt a b) as (λ v. nat_lt a b ≡ v → (a < b) ⊎ (b ≤ a)) [
      | true ↦ λ t. inl (let lt : a < b = grind (arith, nat_tests) in lt)
      | false ↦ λ f. inr (let le : b ≤ a = grind (arith, nat_tests) in le)
    ] refl

pub none_more : (owners : List (Option ℕ)) (start frame : ℕ) → ((other : ℕ) → start ≤ other → other < frame → owner_in owners other ≡ None) → owner_in owners frame ≡ None → (other : ℕ) → start ≤ other → other < frame + 1 → owner_in owners other ≡ None
none_more owners start frame before here other from below = elim (below_or other frame) [
  | inl lt ↦ before other from lt
  | inr le ↦ subst (λ (k : ℕ). owner_in owners k ≡ None) (omega (arith, le, below)) here
]

pub none_past : (owners : List (Option ℕ)) (start frame : ℕ) → ((other : ℕ) → start ≤ other → other < frame → owner_in owners other ≡ None) → length owners ≤ frame → NoneFrom owners start
none_past owners start frame before past other from = elim (below_or other frame) [
  | inl lt ↦ before other from lt
  | inr le ↦ get_or_past owners other None (omega (arith, le, past))
]

pub none_owned : (size : PageSize) (frames : ℕ) (owners : List (Option ℕ)) (start : ℕ) → NoneFrom owners start → NoneOwnedFrom (table size frames owners) start
none_owned size frames owners start none other from = owner_is owners other ∙ none other from

pub next_owned : (size : PageSize) (frames : ℕ) (owners : List (Option ℕ)) (start next owner : ℕ) → IsNextIn owners start next owner → IsNextOwned (table size frames owners) start next owner
next_owned size frames owners start next owner is = record {
  owned = owner_is owners next ∙ is.owned;
  «from» = is.«from»;
  least = λ other from below. owner_is owners other ∙ is.least other from below;
}
