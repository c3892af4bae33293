-- When an entry leaves a place alone, and when it brings a link.
use Rattle.std.proofs.Common.{◌≡◌, ℕ, inl, inr, Bool, true, false, not, List, ◌∷◌, Ok, IsTrue, ◌↔◌, refl, sym, ap, ◌∙◌, subst}
use Rattle.std.proofs.lemmas.Bool.{false≢true}
use Rattle.l4_mapdb.specs.declared.Place.{Place}
use Rattle.l4_mapdb.specs.Mappings.{IsPresent}
use Rattle.l4_ipc.specs.declared.steps.Outcome.TheVariants.{Done}
use Rattle.l4_ipc.specs.Machine.{Machine}
use Rattle.l4_ipc.specs.Provenance.{Link, Brings, LeavesAlone}
use Rattle.l4_ipc.proofs.OneState.{one_step}
use Rattle.l4_record.specs.declared.entries.Entry.{Entry}
use Rattle.l4_record.specs.declared.links.ChainLink.{ChainLink}
use Rattle.l4_record.specs.Chains.{told}
use Rattle.l4_record.specs.Inside.Carrying.{IsCarried, IsWritten}
use Rattle.l4_record.specs.Inside.Walking.{entry_event, Does, IsNotDue, BringsTold, Passes}
use Rattle.l4_provenance_check.specs.Inside.Following.{NonePasses}
use Rattle.l4_record.proofs.Carried.{carried_brings, brings_carried, brings_done}

module _ (before after : Machine) (entry : Entry) where
  module _ (place : Place) where
    -- it leaves alone what it does not write
    not_written : (w : Bool) → (IsTrue w ↔ IsWritten before entry.step place) → IsTrue (not w) → (l : Link) → Brings (entry_event before entry after) l → ¬ (l.move.target ≡ place)
    not_written true is h l b e = false≢true h
    not_written false is h l b e = false≢true (is.1 (told 0 l, brings_carried before after entry 0 l b, e))

    pub alone_of : IsPresent before.mappings place → IsPresent after.mappings place → (w : Bool) → (IsTrue w ↔ IsWritten before entry.step place) → IsTrue (not w)
        → LeavesAlone (entry_event before entry after) place
    alone_of was there w is h = record { before = was; after = there; not_written = not_written w is h }

    pub alone_undone : IsPresent before.mappings place → IsPresent after.mappings place → ¬ (entry.answer.outcome ≡ Done) → LeavesAlone (entry_event before entry after) place
    alone_undone was there undone = record { before = was; after = there; not_written = λ l b e. undone (brings_done before after entry l b) }

    pub alone_not : Does before entry after → entry.answer.outcome ≡ Done → (w : Bool) → (IsTrue w ↔ IsWritten before entry.step place) → LeavesAlone (entry_event before entry after) place → IsTrue (not w)
    alone_not does done true is a =
        let written : IsWritten before entry.step place = is.0 refl in
        let t : BringsTold before entry after written.0 = carried_brings before after entry written.0 does done written.1 in
        absurd (a.not_written t.brought t.brings (sym (ap (λ (k : ChainLink). k.target) t.is_told) ∙ written.2))
    alone_not does done false is a = refl

  pub told_carried : (link : ChainLink) → BringsTold before entry after link → IsCarried before entry.step link
  told_carried link t = subst (IsCarried before entry.step) (sym t.is_told) (brings_carried before after entry link.entry t.brought t.brings)

-- OVER AN ENTRY

module _ (number : ℕ) (m after : Machine) (entry : Entry) (place : Place) (links : List ChainLink) (does : Does m entry after) where
  one_after : (other : Machine) → Does m entry other → other ≡ after
  one_after other d = one_step m entry.step (Ok entry.answer) other after d does

  pub none_alone : IsNotDue number links → ¬ (LeavesAlone (entry_event m entry after) place) → NonePasses number m entry place links
  none_alone due not other next rest d passes =
      elim passes [
        | inl x ↦ not (subst (λ (k : Machine). LeavesAlone (entry_event m entry k) place) (one_after other d) x.1)
        | inr x ↦ subst (IsNotDue number) x.1 due x.2
      ]

  module _ (link : ChainLink) (later : List ChainLink) (is : links ≡ link ∷ later) (due : link.entry ≡ number) where
    pub none_brings : ¬ (BringsTold m entry after link) → NonePasses number m entry place links
    none_brings not other next rest d passes =
        elim passes [
          | inl x ↦ subst (IsNotDue number) is x.0 due
          | inr x ↦
              let both : ◌≡◌ {A = List ChainLink} (x.0 ∷ rest) (link ∷ later) = sym x.1 ∙ is in
              let one : x.0 ≡ link = cc in
              not (subst (λ (k : Machine). BringsTold m entry k link) (one_after other d) (subst (BringsTold m entry other) one x.3))
        ]

    pub brings_passes : BringsTold m entry after link → link.source ≡ place → Passes number m entry after place links link.target later
    brings_passes brings source = inr (link, is, due, brings, source, refl)

module _ (number : ℕ) (m : Machine) (entry : Entry) (place : Place) (links : List ChainLink) (link : ChainLink) (later : List ChainLink) (is : links ≡ link ∷ later) (due : link.entry ≡ number) where
  pub none_elsewhere : ¬ (link.source ≡ place) → NonePasses number m entry place links
  none_elsewhere not other next rest d passes =
      elim passes [
        | inl x ↦ subst (IsNotDue number) is x.0 due
        | inr x ↦
            let both : ◌≡◌ {A = List ChainLink} (x.0 ∷ rest) (link ∷ later) = sym x.1 ∙ is in
            let one : x.0 ≡ link = cc in
            not (sym (ap (λ (k : ChainLink). k.source) one) ∙ x.4)
      ]
