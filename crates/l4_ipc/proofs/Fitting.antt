-- Each present page is one of a space's, and each step keeps that.
use Rattle.std.proofs.Common.{ℕ, ◌+◌, ◌^◌, ◌<◌, ◌≤◌, List, Result, Ok, Err, ap, subst, inl, inr, arith}
use Rattle.std.specs.List.{AllZip}
use Rattle.l4_fpage.specs.declared.fpages.Fpage.{Fpage}
use Rattle.l4_fpage.specs.Pages.{LiesIn, space_pages, max_frames}
use Rattle.l4_fpage.specs.declared.sizes.PageSize.{PageSize}
use Rattle.l4_fpage.specs.declared.sizes.PageSize.TheVariants.{Kib4, Kib1}
use Rattle.l4_fpage.proofs.PageSizes.{frames_fit}
use Rattle.l4_msg.specs.declared.items.Item.{Item}
use Rattle.l4_msg.specs.declared.items.ItemMove.{ItemMove}
use Rattle.l4_mapdb.specs.declared.Mapping.{Mapping}
use Rattle.l4_mapdb.specs.declared.Place.{Place}
use Rattle.l4_forest.specs.Boot.{IsFirst}
use Rattle.l4_mapdb.specs.Mappings.{Mappings}
use Rattle.l4_mapdb.specs.Transfer.{PageMove, IsUsed, Becomes, Delivers}
use Rattle.l4_ipc.specs.declared.calls.Call.{Call}
use Rattle.l4_ipc.specs.declared.steps.Answer.{Answer}
use Rattle.l4_ipc.specs.declared.steps.Refused.{Refused}
use Rattle.l4_ipc.specs.declared.steps.Step.TheVariants.{Start}
use Rattle.l4_ipc.specs.Inside.Delivering.{IsListed}
use Rattle.l4_ipc.specs.Machine.{Machine}
use Rattle.l4_ipc.specs.SpacePages.{FitIn}
use Rattle.l4_ipc.specs.Steps.{Steps}
use Rattle.l4_ipc.proofs.Lasting.{OnlyLoses, same_loses, starts_lose}
use Rattle.l4_ipc.proofs.Moving.{item_at}

-- the first page is one of a space's
pub first_lies : (size : PageSize) → LiesIn size 0 0
first_lies Kib4 = omega arith
first_lies Kib1 = omega arith

-- what loses rights shows no other page
fits_lost : (size : PageSize) (old new : Mappings) → OnlyLoses old new → FitIn size old → FitIn size new
fits_lost size old new loses fits place m at = let was = loses place m at in fits place was.before was.at

-- a start
pub fits_start : (old : Machine) (n : ℕ) (call : Call) (answer : Result Answer Refused) (new : Machine) → Steps old (Start n call) answer new → FitIn old.size old.mappings → FitIn old.size new.mappings
fits_start old n call (Ok answer) new x = fits_lost old.size old.mappings new.mappings (starts_lose old n x.0 call answer.ended.items new x.4)
fits_start old n call (Err e) new x = fits_lost old.size old.mappings new.mappings (same_loses old.mappings new.mappings (ap (λ (m : Machine). m.mappings) x.1))

-- a delivery
module _ (size : PageSize) (old new : Mappings) (from to : ℕ) (items : List Item) (window : Fpage) (moves : List ItemMove) (zip : AllZip (IsListed size window) items moves) (fits : FitIn size old) where
  target_fits : (move : PageMove) → IsUsed old from to moves move → move.target.page < space_pages size
  target_fits move u =
      let listed = item_at size old from to items window moves zip move.item u.by u.item in
      let inside : u.by.mv.target.first + 2 ^ u.by.mv.source.log ≤ space_pages size = rw u.by.mv.same_size listed.1.1.inside.target in
      let within = u.pages.within in
      let is = u.pages.target_is in
      omega (arith, inside, within, is)

  becomes_fits : (place : Place) (m : Mapping) → Becomes (IsUsed old from to moves) old place m → place.page < space_pages size
  becomes_fits place m (inl v) = subst (λ (p : Place). p.page < space_pages size) v.target (target_fits v.move v.used)
  becomes_fits place m (inr v) = fits place v.before v.at

  pub fits_delivered : Delivers from to moves old new → FitIn size new
  fits_delivered d place m at = let cut = (d.cut.places place m).0 at in becomes_fits place cut.0 ((d.moved.places place cut.0).0 cut.1)

-- the start of all
pub fits_boot : (size : PageSize) (frames : ℕ) (first : Mappings) → frames ≤ max_frames → IsFirst frames first → FitIn size first
fits_boot size frames first few is place m at = let there = (is.places place m).0 at in let less : place.page < frames = there.1 in omega (arith, less, few, frames_fit size)
