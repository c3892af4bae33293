-- A chain continues with one entry at its end.
use Rattle.std.proofs.Common.{◌≡◌, ◌≢◌, ℕ, suc, ◌+◌, inl, inr, List, [], ◌∷◌, ◌++◌, length, refl, sym, ap, subst, arith}
use Rattle.l4_mapdb.specs.declared.Place.{Place}
use Rattle.l4_ipc.specs.Machine.{Machine}
use Rattle.l4_ipc.specs.Provenance.{LeavesAlone}
use Rattle.l4_record.specs.declared.entries.Entry.{Entry}
use Rattle.l4_record.specs.declared.links.ChainLink.{ChainLink}
use Rattle.l4_record.specs.Inside.Walking.{entry_event, Does, IsNotDue, BringsTold, Passes, PassesAll}

-- one more link at the end changes nothing about the first link
still_not_due : (number : ℕ) (links : List ChainLink) (link : ChainLink) → link.entry ≢ number → IsNotDue number links → IsNotDue number (links ++ link ∷ [])
still_not_due number [] link not h = not
still_not_due number (x ∷ links) link not h = h

passes_more : (number : ℕ) (before after : Machine) (entry : Entry) (place next : Place) (links rest : List ChainLink) (link : ChainLink) → link.entry ≢ number
    → Passes number before entry after place links next rest → Passes number before entry after place (links ++ link ∷ []) next (rest ++ link ∷ [])
passes_more number before after entry place next links rest link not passes =
    elim passes [
      | inl x ↦ inl (still_not_due number links link not x.0, x.1, x.2, ap (λ (l : List ChainLink). l ++ link ∷ []) x.3)
      | inr x ↦ inr (x.0, ap (λ (l : List ChainLink). l ++ link ∷ []) x.1, x.2, x.3, x.4, x.5)
    ]

-- with an entry that leaves the place unchanged
pub snoc_alone : (es : List Entry) (number : ℕ) (old mid new : Machine) (entry : Entry) (first place : Place) (links : List ChainLink) → PassesAll number old es mid first links place
    → Does mid entry new → LeavesAlone (entry_event mid entry new) place → PassesAll number old (es ++ entry ∷ []) new first links place
snoc_alone [] number old mid new entry first place links h does alone =
    let does_old : Does old entry new = subst (λ (m : Machine). Does m entry new) h.0 does in
    let alone_old : LeavesAlone (entry_event old entry new) first =
    subst (λ (p : Place). LeavesAlone (entry_event old entry new) p) (sym h.2) (subst (λ (m : Machine). LeavesAlone (entry_event m entry new) place) h.0 alone) in
    (new, does_old, first, links, inl (subst (IsNotDue number) (sym h.1) tt, alone_old, refl, refl), (refl, h.1, h.2))
snoc_alone (e ∷ es) number old mid new entry first place links h does alone =
    (h.0, h.1, h.2, h.3, h.4, snoc_alone es (suc number) h.0 mid new entry h.2 place h.3 h.5 does alone)

-- with an entry that is the transfer of a link
pub snoc_brings : (es : List Entry) (number : ℕ) (old mid new : Machine) (entry : Entry) (first : Place) (links : List ChainLink) (link : ChainLink)
    → PassesAll number old es mid first links link.source → Does mid entry new → BringsTold mid entry new link → link.entry ≡ number + length es
    → PassesAll number old (es ++ entry ∷ []) new first (links ++ link ∷ []) link.target
snoc_brings [] number old mid new entry first links link h does brings due =
    let does_old : Does old entry new = subst (λ (m : Machine). Does m entry new) h.0 does in
    let brings_old : BringsTold old entry new link = subst (λ (m : Machine). BringsTold m entry new link) h.0 brings in
    let now_due : link.entry ≡ number = omega (arith, due) in
    (new, does_old, link.target, [], inr (link, ap (λ (l : List ChainLink). l ++ link ∷ []) h.1, now_due, brings_old, sym h.2, refl), (refl, refl, refl))
snoc_brings (e ∷ es) number old mid new entry first links link h does brings due =
    let later : link.entry ≡ suc number + length es = omega (arith, due) in
    let not : link.entry ≢ number = λ (same : link.entry ≡ number). omega (arith, due, same) in (
      h.0,
      h.1,
      h.2,
      h.3 ++ link ∷ [],
      passes_more number old h.0 e first h.2 links h.3 link not h.4,
      snoc_brings es (suc number) h.0 mid new entry h.2 h.3 link h.5 does brings later,
    )
