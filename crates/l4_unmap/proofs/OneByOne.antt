-- What fpages take one after another they take at once.
use Rattle.std.proofs.Common.{◌≡◌, ℕ, ◌+◌, ◌<◌, ◌++◌, ◌∷◌, [], List, length, get_or, take, Bool, IsTrue, ◌↔◌, sym, subst, inl, inr, arith}
use Rattle.std.specs.List.{Contains}
use Rattle.std.proofs.lemmas.List.{take_more}
use Rattle.std.proofs.lemmas.List.Elements.{Contains-push, Contains-push_cases, Contains-append_left}
use Rattle.l4_fpage.specs.Pages.{InBlock}
use Rattle.l4_fpage.specs.Rights.{RightsSet, has}
use Rattle.l4_fpage.specs.Fpages.{rights_of, HoldsPage, ReadsAs}
use Rattle.l4_fpage.specs.declared.fpages.Fpage.{Fpage}
use Rattle.l4_fpage.specs.declared.fpages.Fpage.TheVariants.{Nil}
use Rattle.l4_mapdb.specs.Mappings.{Mappings, IsForest}
use Rattle.l4_unmap.specs.Unmap.{UnmapReads, LosesTo, Unmaps}
use Rattle.l4_unmap.specs.Inside.Taking.{GoesWith, Takes, BlockNames}
use Rattle.l4_mapdb.proofs.Nothing.{loses_none}
use Rattle.l4_unmap.proofs.Together.{loses_both}
use Rattle.l4_unmap.proofs.Under.{under_kept, under_was}
use Rattle.l4_unmap.proofs.UnmapKeeps.{unmaps_keep}
use Rattle.l4_fpage.specs.declared.sizes.PageSize.{PageSize}
use Rattle.l4_mapdb.proofs.Along.{loses_along}

-- one fpage alone
only_one : (fpage other : Fpage) → Contains (fpage ∷ []) other → fpage ≡ other
only_one fpage other there = elim (Contains-push_cases [] fpage other there) [
  | inl none ↦ absurd (omega (arith, none.1))
  | inr same ↦ same
]

-- an fpage that holds no page takes nothing
pub takes_none : (size : PageSize) → (space : ℕ) (own : Bool) (fpage : Fpage) (s : Mappings) → IsForest s → ((page : ℕ) → ¬ (HoldsPage size fpage page)) → Unmaps size space own (fpage ∷ []) s s
takes_none size space own fpage s forest none =
    loses_none (LosesTo size s space own (fpage ∷ [])) s forest
    (λ q m at k l. none l.3.0 (subst (λ (f : Fpage). HoldsPage size f l.3.0) (sym (only_one fpage l.0 l.1)) l.3.1))

-- an fpage takes what its block takes
pub takes_block : (size : PageSize) → (space : ℕ) (own : Bool) (fpage : Fpage) (first log : ℕ) (rights : RightsSet) (old new : Mappings)
    → ((page : ℕ) → InBlock first log page ↔ HoldsPage size fpage page) → rights ≡ rights_of fpage
    → Takes (BlockNames first log rights) space own old new → Unmaps size space own (fpage ∷ []) old new
takes_block size space own fpage first log rights old new pages same takes =
    loses_along (GoesWith (BlockNames first log rights) space own old) (LosesTo size old space own (fpage ∷ [])) old new
    (λ q k l. (
      fpage,
      Contains-push [] fpage,
      subst (λ (r : RightsSet). IsTrue (has r k)) same l.1.1,
      (l.0, (pages l.0).0 l.1.0, l.2),
    ))
    (λ q k l.
    let one : l.0 ≡ fpage = sym (only_one fpage l.0 l.1) in (
      l.3.0,
      (
        (pages l.3.0).1 (subst (λ (f : Fpage). HoldsPage size f l.3.0) one l.3.1),
        subst (λ (r : RightsSet). IsTrue (has r k)) (sym same) (subst (λ (f : Fpage). IsTrue (has (rights_of f) k)) one l.2),
      ),
      l.3.2,
    ))
    takes

-- one more fpage
takes_more : (size : PageSize) → (space : ℕ) (own : Bool) (fpages : List Fpage) (fpage : Fpage) (old mid new : Mappings) → IsForest old
    → Unmaps size space own fpages old mid → Unmaps size space own (fpage ∷ []) mid new → Unmaps size space own (fpages ++ fpage ∷ []) old new
takes_more size space own fpages fpage old mid new forest first second =
    let kept : IsForest mid = unmaps_keep size space own fpages old mid forest first in
    loses_both (LosesTo size old space own fpages) (LosesTo size mid space own (fpage ∷ [])) (LosesTo size old space own (fpages ++ fpage ∷ [])) old mid new first second
    (λ q k l. (l.0, Contains-append_left fpages (fpage ∷ []) l.0 l.1, l.2, l.3))
    (λ q m at k l. (
      l.0,
      subst (λ (f : Fpage). Contains (fpages ++ fpage ∷ []) f) (only_one fpage l.0 l.1) (Contains-push fpages fpage),
      l.2,
      (l.3.0, l.3.1, under_was (LosesTo size old space own fpages) old mid first kept space own l.3.0 q l.3.2),
    ))
    (λ q m at k l.
    elim (Contains-push_cases fpages fpage l.0 l.1) [
      | inl there ↦ inl (l.0, there, l.2, l.3)
      | inr same ↦
          let w = under_kept (LosesTo size old space own fpages) old mid first kept space own l.3.0 q l.3.2 m at in
          inr (l.0, subst (λ (f : Fpage). Contains (fpage ∷ []) f) same (Contains-push [] fpage), l.2, (l.3.0, l.3.1, w.0))
    ])

-- no fpage takes nothing
pub first_taken : (size : PageSize) → (space : ℕ) (own : Bool) (fpages : List Fpage) (s : Mappings) → IsForest s → Unmaps size space own (take 0 fpages) s s
first_taken size space own fpages s forest = loses_none (LosesTo size s space own (take 0 fpages)) s forest (λ q m at k l. absurd (omega (arith, l.1.1)))

-- the fpage of one more register is taken
pub more_taken : (size : PageSize) → (space : ℕ) (own : Bool) (control : ℕ) (words : List ℕ) (fpages : List Fpage) (i : ℕ) (old mid new : Mappings) → IsForest old
    → UnmapReads control words fpages → i < length fpages → Unmaps size space own (take i fpages) old mid
    → ((fpage : Fpage) → ReadsAs (get_or words i 0) fpage → Unmaps size space own (fpage ∷ []) mid new) → Unmaps size space own (take (i + 1) fpages) old new
more_taken size space own control words fpages i old mid new forest reads lt first second =
    let next : Fpage = get_or fpages i Nil in
    subst (λ (fs : List Fpage). Unmaps size space own fs old new) (sym (take_more fpages i Nil lt))
    (takes_more size space own (take i fpages) next old mid new forest first (second next (reads.each i lt Nil)))
