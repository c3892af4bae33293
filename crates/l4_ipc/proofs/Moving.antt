-- What a message moves, as the kernel and as the mapping database say it.
use Rattle.std.proofs.Common.{◌≡◌, ℕ, ◌&&◌, Bool, true, false, Option, MatchOption, List, [], ◌∷◌, ◌++◌, Some, None, refl, sym, ap, ◌∙◌, subst, slice_get, slice_index_or, length, take, ◌+◌, ◌<◌, ◌≤◌, inl, inr, arith}
use Rattle.std.specs.Option.{IsSomeAnd}
use Rattle.std.specs.List.{AllZip}
use Rattle.std.proofs.lemmas.Slice.Zip.{AllZip-long, AllZip-left, AllZip-right}
use Rattle.std.proofs.lemmas.List.{take_more, length-take-le}
use Rattle.l4_fpage.specs.Rights.{RightsSet, common, no_rights}
use Rattle.l4_fpage.specs.declared.fpages.Fpage.{Fpage}
use Rattle.l4_msg.specs.declared.items.Item.{Item}
use Rattle.l4_mapdb.specs.declared.Cause.{Cause}
use Rattle.l4_mapdb.specs.declared.Cause.TheVariants.{Entangled as IsTangle, NoMemory as WantOfMemory}
use Rattle.l4_msg.specs.declared.items.ItemMove.{ItemMove}
use Rattle.l4_mapdb.specs.Causes.{HasCause}
use Rattle.l4_mapdb.specs.declared.Mapping.{Mapping}
use Rattle.l4_mapdb.specs.declared.Place.{Place}
use Rattle.l4_mapdb.specs.Mappings.{Mappings, shown, IsForest}
use Rattle.l4_mapdb.specs.Transfer.{PageMove, IsUsed, IsEntangled, Stays, ParentLater, Delivers}
use Rattle.l4_mapdb.proofs.Unique.{same_rights}
use Rattle.l4_mapdb.proofs.Along.{transfers_along, entangled_along}
use Rattle.l4_ipc.specs.declared.steps.Outcome.TheVariants.{Done}
use Rattle.l4_ipc.specs.Inside.Delivering.{IsListed, outcome_of}
use Rattle.l4_ipc.specs.Moving.{IsUsedBy, LacksWindow, Moves}
use Rattle.l4_fpage.specs.declared.sizes.PageSize.{PageSize}

-- one more item, and what it moves
listed_push : (size : PageSize) → (window : Fpage) (items : List Item) (moves : List ItemMove) (item : Item) (move : ItemMove) → AllZip (IsListed size window) items moves → IsListed size window item move
    → AllZip (IsListed size window) (items ++ item ∷ []) (moves ++ move ∷ [])
listed_push size window [] [] item move zip is = (is, tt)
listed_push size window [] (m ∷ moves) item move zip is = absurd zip
listed_push size window (i ∷ items) [] item move zip is = absurd zip
listed_push size window (i ∷ items) (m ∷ moves) item move zip is = (zip.0, listed_push size window items moves item move zip.1 is)

pub listed_more : (size : PageSize) → (window : Fpage) (items : List Item) (i : ℕ) (item : Item) (moves more : List ItemMove) (move : ItemMove) → i < length items → item ≡ slice_index_or items i item
    → more ≡ moves ++ move ∷ [] → AllZip (IsListed size window) (take i items) moves → IsListed size window item move → AllZip (IsListed size window) (take (i + 1) items) more
listed_more size window items i item moves more move less at is zip listed =
    let taken : take (i + 1) items ≡ take i items ++ item ∷ [] = take_more items i item less ∙ ap (λ (x : Item). take i items ++ x ∷ []) (sym at) in
    subst (λ (l : List Item). AllZip (IsListed size window) l more) (sym taken)
    (subst (λ (l : List ItemMove). AllZip (IsListed size window) (take i items ++ item ∷ []) l) (sym is) (listed_push size window (take i items) moves item move zip listed))

-- there is room for what one more item moves
pub listed_room : (size : PageSize) → (window : Fpage) (items : List Item) (i : ℕ) (moves : List ItemMove) → i < length items → length items ≤ 31 → AllZip (IsListed size window) (take i items) moves → length moves < 31
listed_room size window items i moves less few zip =
    let same : length moves ≡ length (take i items) = AllZip-long (IsListed size window) (take i items) moves zip in
    let taken : length (take i items) ≡ i = length-take-le i items (omega arith) in
    omega (arith, same, taken)

-- what was listed, as it is handed over
pub listed_moves : (size : PageSize) → (window : Fpage) (items : List Item) (held moves : List ItemMove) → moves ≡ held → AllZip (IsListed size window) items held → AllZip (IsListed size window) items moves
listed_moves size window items held moves is zip = subst (λ (l : List ItemMove). AllZip (IsListed size window) items l) (sym is) zip

-- one item is listed by its move
pub one_listed : (size : PageSize) → (window : Fpage) (items : List Item) (item : Item) (move : ItemMove) → length items ≡ 1 → item ≡ slice_index_or items 0 item → IsListed size window item move
    → AllZip (IsListed size window) items (move ∷ [])
one_listed size window [] item move one first listed = absurd (omega (arith, one))
one_listed size window (x ∷ []) item move one first listed = (subst (λ i. IsListed size window i move) first listed, tt)
one_listed size window (x ∷ y ∷ items) item move one first listed = absurd (omega (arith, one))

some_and : {X : Type 0} (o : Option X) (P : X → Type 0) → IsSomeAnd o P → (x : X) × ((o ≡ Some x) × P x)
some_and None P h = absurd h
some_and (Some x) P h = (x, (refl, h))

and_false : (a : Bool) → (a && false) ≡ false
and_false true = refl
and_false false = refl

-- nothing is common to some rights and none
common_none : (a : RightsSet) → common a no_rights ≡ no_rights
common_none a = λ i. record { r = and_false a.r i; w = and_false a.w i; x = and_false a.x i }

module _ (size : PageSize) (s : Mappings) (from to : ℕ) (items : List Item) (window : Fpage) (moves : List ItemMove) (zip : AllZip (IsListed size window) items moves) where
  abbrev Named : PageMove → Type 0
  Named = IsUsedBy size s from to items window

  abbrev Listed : PageMove → Type 0
  Listed = IsUsed s from to moves

  -- the item that a used move of the list stands for
  pub item_at : (k : ℕ) (move : ItemMove) → slice_get moves k ≡ Some move → (item : Item) × ((slice_get items k ≡ Some item) × IsListed size window item move)
  item_at k move at =
      some_and (slice_get items k) (λ item. IsListed size window item move)
      (subst (λ (o : Option ItemMove). MatchOption o (Unit {0}) (λ m. IsSomeAnd (slice_get items k) (λ item. IsListed size window item m))) at
      (AllZip-right (IsListed size window) items moves zip k))

  -- what stands for an item
  move_at : (k : ℕ) (item : Item) → slice_get items k ≡ Some item → (move : ItemMove) × ((slice_get moves k ≡ Some move) × IsListed size window item move)
  move_at k item at =
      some_and (slice_get moves k) (IsListed size window item)
      (subst (λ (o : Option Item). MatchOption o (Unit {0}) (λ i. IsSomeAnd (slice_get moves k) (IsListed size window i))) at
      (AllZip-left (IsListed size window) items moves zip k))

  named : (move : PageMove) → Listed move → Named move
  named move u =
      let at = item_at move.item u.by u.item in
      elim at.1.1.moves [
        | inl m ↦ record {
          by = at.0;
          item = at.1.0;
          moves = record {
            from_space = u.from_space;
            to_space = u.to_space;
            pages = (m.0 move.source.page move.target.page).0 u.pages;
            grant_is = u.grant ∙ at.1.1.grant;
            present = u.present;
            rights_are = u.rights ∙ ap (common move.shows.rights) m.1;
            some_right = u.some_right;
          };
        }
        | inr none ↦ absurd (u.some_right (u.rights ∙ ap (common move.shows.rights) none.1 ∙ common_none move.shows.rights))
      ]

  listed : (move : PageMove) → Named move → Listed move
  listed move u =
      let at = move_at move.item u.by u.item in
      elim at.1.1.moves [
        | inl m ↦ record {
          by = at.0;
          item = at.1.0;
          from_space = u.moves.from_space;
          to_space = u.moves.to_space;
          pages = (m.0 move.source.page move.target.page).1 u.moves.pages;
          grant = u.moves.grant_is ∙ sym at.1.1.grant;
          present = u.moves.present;
          rights = u.moves.rights_are ∙ ap (common move.shows.rights) (sym m.1);
          some_right = u.moves.some_right;
        }
        | inr none ↦ absurd (none.0 move.source.page move.target.page u.moves.pages)
      ]

  abbrev CanMove : Type 0
  CanMove = ¬ (LacksWindow size s from to items window)

  -- what the mapping database delivered is what the message moves
  pub moves_done : CanMove → ¬ (IsEntangled Listed s) → (new : Mappings) → Delivers from to moves s new → Moves size s from to items window Done new
  moves_done can free new d = (can, λ h. free (entangled_along Named Listed listed named s h), transfers_along Listed Named named listed s new d)

  -- and what it refused moves nothing
  pub moves_failed : CanMove → (cause : Cause) → HasCause Listed s cause → (new : Mappings) → new ≡ s → Moves size s from to items window (outcome_of cause) new
  moves_failed can IsTangle h new same = (can, entangled_along Listed Named named listed s h, same)
  moves_failed can WantOfMemory h new same =
      (can, λ e. h.0 (entangled_along Named Listed listed named s e), record { move = h.1.move; used = named h.1.move h.1.used; absent = h.1.absent }, same)

-- A MESSAGE WITHOUT ITEMS

pub none_listed : (items : List Item) → length items ≡ 0 → items ≡ []
none_listed [] h = refl
none_listed (item ∷ items) h = absurd (omega (arith, h))

module _ (size : PageSize) (s : Mappings) (from to : ℕ) (window : Fpage) where
  abbrev None_used : PageMove → Type 0
  None_used = IsUsedBy size s from to [] window

  none_used : (move : PageMove) → None_used move → ⊥
  none_used move used = let k : ◌≡◌ {A = Option Item} None (Some used.by) = used.item in cc

  stays : (place : Place) (m : Mapping) → shown s place ≡ Some m → Stays None_used s place m
  stays place m at = record {
    before = m;
    at = at;
    not_gone = λ h. none_used h.move h.used;
    not_granted = λ h. none_used h.move h.used;
    frame = refl;
    rights = refl;
    parent = later m.parent;
  } where
    later : (parent : Option Place) → ParentLater None_used parent parent
    later None = refl
    later (Some parent) = (parent, inr (λ h. none_used h.move h.used, refl), refl)

  stayed : (place : Place) (m : Mapping) → Stays None_used s place m → shown s place ≡ Some m
  stayed place m h =
      let frame = h.frame in
      let rights = h.rights in
      let parent : m.parent ≡ h.before.parent = same_parent h.before.parent m.parent h.parent in
      h.at ∙ (λ i. Some (record { frame = sym frame i; rights = sym rights i; parent = sym parent i })) where
        same_parent : (before later : Option Place) → ParentLater None_used before later → later ≡ before
        same_parent None later h = h
        same_parent (Some place) later h =
            elim h.1 [
              | inl granted ↦ absurd (none_used granted.0 granted.1)
              | inr same ↦ h.2 ∙ ap (λ (p : Place). Some p) (sym same.1)
            ]

  -- nothing moves
  pub nothing_moves : IsForest s → Moves size s from to [] window Done s
  nothing_moves forest = (
    λ lacks. lacks.0 refl,
    λ tangled. none_used tangled.one tangled.one_used,
    record {
      middle = s;
      moved = record {
        spaces = refl;
        places = λ place m. (
          λ at. inr (stays place m at),
          λ becomes. elim becomes [
            | inl h ↦ absurd (none_used h.move h.used)
            | inr h ↦ stayed place m h
          ],
        );
      };
      cut = record {
        spaces = refl;
        places = λ place m. (
          λ at. (m, at, record { frame = refl; parent = refl; rights = λ right. (λ h. (h, λ cut. none_used cut.move cut.used), λ h. h.0); some_right = forest.some_right place m at }),
          λ left. left.1 ∙ (λ i. Some (record { frame = sym left.2.frame i; rights = sym (same_rights m.rights left.0.rights (λ right. (λ h. ((left.2.rights right).0 h).0, λ h. (left.2.rights right).1 (h, λ cut. none_used cut.move cut.used)))) i; parent = sym left.2.parent i })),
        );
      };
    },
  )
