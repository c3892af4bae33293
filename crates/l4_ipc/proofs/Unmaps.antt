-- The registers of an Unmap that was made of fpages.
use Rattle.std.proofs.Common.{◌≡◌, ℕ, zero, suc, List, [], ◌∷◌, ◌++◌, sym, ap, ◌∙◌, subst, slice_index, slice_index_or, length, take, ◌+◌, ◌<◌, ◌≤◌, arith}
use Rattle.std.specs.List.{AllZip, HoldsAt}
use Rattle.std.proofs.lemmas.Slice.Zip.{AllZip-long}
use Rattle.std.proofs.lemmas.List.{take_more, length-take-le}
use Rattle.l4_fpage.specs.Fpages.{ReadsAs}
use Rattle.l4_fpage.specs.declared.fpages.Fpage.{Fpage}
use Rattle.l4_unmap.specs.Unmap.{fpage_count, UnmapReads}
use Rattle.l4_ipc.specs.Constructors.{IsWordOf}

-- one more fpage, and its word
word_push : (fpages : List Fpage) (words : List ℕ) (fpage : Fpage) (word : ℕ) → AllZip IsWordOf fpages words → IsWordOf fpage word → AllZip IsWordOf (fpages ++ fpage ∷ []) (words ++ word ∷ [])
word_push [] [] fpage word zip is = (is, tt)
word_push [] (w ∷ words) fpage word zip is = absurd zip
word_push (f ∷ fpages) [] fpage word zip is = absurd zip
word_push (f ∷ fpages) (w ∷ words) fpage word zip is = (zip.0, word_push fpages words fpage word zip.1 is)

pub word_more : (fpages : List Fpage) (i : ℕ) (fpage : Fpage) (words more : List ℕ) (word : ℕ) → i < length fpages → fpage ≡ slice_index_or fpages i fpage
    → more ≡ words ++ word ∷ [] → AllZip IsWordOf (take i fpages) words → IsWordOf fpage word → AllZip IsWordOf (take (i + 1) fpages) more
word_more fpages i fpage words more word less at is zip written =
    let taken : take (i + 1) fpages ≡ take i fpages ++ fpage ∷ [] = take_more fpages i fpage less ∙ ap (λ (x : Fpage). take i fpages ++ x ∷ []) (sym at) in
    subst (λ (l : List Fpage). AllZip IsWordOf l more) (sym taken)
    (subst (λ (l : List ℕ). AllZip IsWordOf (take i fpages ++ fpage ∷ []) l) (sym is) (word_push (take i fpages) words fpage word zip written))

-- there is room for one more word
pub word_room : (fpages : List Fpage) (i : ℕ) (words : List ℕ) → i < length fpages → length fpages ≤ 64 → AllZip IsWordOf (take i fpages) words → length words < 64
word_room fpages i words less few zip =
    let same : length words ≡ length (take i fpages) = AllZip-long IsWordOf (take i fpages) words zip in
    let taken : length (take i fpages) ≡ i = length-take-le i fpages (omega arith) in
    omega (arith, same, taken)

-- each word is read as its fpage
pub word_each : (fpages : List Fpage) (words : List ℕ) → AllZip IsWordOf fpages words → (k : ℕ) → k < length fpages → HoldsAt (ReadsAs (slice_index words k)) fpages k
word_each [] words zip k less d = absurd (omega (arith, less))
word_each (f ∷ fpages) [] zip k less d = absurd zip
word_each (f ∷ fpages) (w ∷ words) zip zero less d = zip.0
word_each (f ∷ fpages) (w ∷ words) zip (suc k) less d = word_each fpages words zip.1 k (omega (arith, less)) d

-- an Unmap of as many fpages as its control word counts reads as them
pub unmap_reads : (control : ℕ) (fpages : List Fpage) (words : List ℕ) → AllZip IsWordOf fpages words → length fpages ≡ fpage_count control → UnmapReads control words fpages
unmap_reads control fpages words zip count =
    let same : length words ≡ length fpages = AllZip-long IsWordOf fpages words zip in
    record { there = omega (arith, same, count); count = count; each = word_each fpages words zip }
