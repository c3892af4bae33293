-- What is left of keys that were capped, once those without rights have gone.
use Rattle.std.proofs.Common.{◌≡◌, ◌≢◌, ℕ, Option, Some, None, IsTrue, ◌⊎◌, inl, inr, refl, sym, ap, ◌∙◌, option_and_then, option_map}
use Rattle.l4_fpage.specs.Rights.{RightsSet, has, common, without, no_rights, all_rights}
use Rattle.l4_links.specs.declared.Standing.{Standing}
use Rattle.l4_links.specs.declared.Entry.{Entry}
use Rattle.l4_links.specs.Entries.{IsPlain, Entries, Linked, entry_at, standing_at, Buries, capped}
use Rattle.l4_mapdb.proofs.Unique.{same_value, same_rights}
use Rattle.l4_mapdb.proofs.RightsLeft.{has-without}
use Rattle.l4_mapdb.specs.Delivering.{IsClean}
use Rattle.l4_forest.specs.Inside.Cuts.{CapsKeys, CutsKeys}
use Rattle.l4_mapdb.proofs.Lost.{HasLost, KeysLose}
use Rattle.l4_mapdb.proofs.View.{some_standing, no_standing}
use Rattle.l4_mapdb.proofs.Deciding.{none_or}

module _ (Covered : ℕ → Type 0) (rights : RightsSet) (old : Linked) (cur new : Entries) (clean : IsClean old)
    (caps : CapsKeys Covered (without all_rights rights) old.entries cur) (buries : Buries cur new) where
  was_none : (key : ℕ) → entry_at old.entries key ≡ None → entry_at cur key ≡ None
  was_none key none = elim (caps.decided key) [
    | inl c ↦ caps.here key c ∙ ap (option_map (capped (without all_rights rights))) none
    | inr n ↦ caps.kept key n ∙ none
  ]

  capped_stands : (key : ℕ) (e : Entry) (t : Standing) → Covered key → entry_at old.entries key ≡ Some e → e.stands ≡ Some t → standing_at cur key ≡ Some (record t { rights = without t.rights rights })
  capped_stands key e t c at stands =
      ap (option_and_then (λ (e : Entry). e.stands)) (caps.here key c ∙ ap (option_map (capped (without all_rights rights))) at)
      ∙ ap (option_map (λ (t : Standing). record t { rights = common t.rights (without all_rights rights) })) stands

  pub cuts_buried : CutsKeys Covered rights old.entries new
  cuts_buried = record {
    decided = caps.decided;
    none = λ key none. let was = was_none key none in buries.kept key (λ t at. absurd (no_standing cur key t was at)) ∙ was;
    gone = λ key e t c at stands empty. buries.gone key (record t { rights = without t.rights rights }) (capped_stands key e t c at stands) empty;
    cut = λ key e t c at stands some.
        buries.kept key (λ u at_u empty.
        let both : u ≡ record t { rights = without t.rights rights } = same_value (sym at_u ∙ capped_stands key e t c at stands) in
        some (sym (ap (λ (t : Standing). t.rights) both) ∙ empty))
        ∙ caps.here key c ∙ ap (option_map (capped (without all_rights rights))) at;
    kept = λ key n.
        buries.kept key (λ u at_u empty.
        let e = some_standing cur key u at_u in
        let plain = clean key e.0 (sym (caps.kept key n) ∙ e.1) in
        let both : u ≡ plain.standing = same_value (sym e.2 ∙ plain.stands) in
        plain.some_right (sym (ap (λ (t : Standing). t.rights) both) ∙ empty))
        ∙ caps.kept key n;
  }

-- what is under a key that is left
pub record WasThere (Covered : ℕ → Type 0) (rights : RightsSet) (old : Entries) (key : ℕ) (e : Entry) : Type 0 where
  pub before : Entry
  pub had : Standing
  pub at : entry_at old key ≡ Some before
  pub stands : before.stands ≡ Some had
  pub plain : IsPlain before
  pub is : (Covered key × (e ≡ capped (without all_rights rights) before) × (without had.rights rights ≢ no_rights)) ⊎ (¬ (Covered key) × (e ≡ before))

module _ (Covered : ℕ → Type 0) (rights : RightsSet) (old : Linked) (new : Entries) (clean : IsClean old) (cuts : CutsKeys Covered rights old.entries new) where
  pub was_there : (key : ℕ) (e : Entry) → entry_at new key ≡ Some e → WasThere Covered rights old.entries key e
  was_there key e at =
      elim (entry_at old.entries key) as (λ o. entry_at old.entries key ≡ o → WasThere Covered rights old.entries key e) [
        | None ↦ λ is. absurd (let k : ◌≡◌ {A = Option Entry} None (Some e) = sym (cuts.none key is) ∙ at in cc)
        | Some b ↦ λ is. there b is (clean key b is)
      ] refl
    where
      there : (b : Entry) → entry_at old.entries key ≡ Some b → IsPlain b → WasThere Covered rights old.entries key e
      there b is plain = elim (cuts.decided key) [
        | inl c ↦ elim (none_or (without plain.standing.rights rights)) [
          | inl empty ↦ absurd (let k : ◌≡◌ {A = Option Entry} None (Some e) = sym (cuts.gone key b plain.standing c is plain.stands empty) ∙ at in cc)
          | inr some ↦ record {
            before = b;
            had = plain.standing;
            at = is;
            stands = plain.stands;
            plain = plain;
            is = inl (c, same_value (sym at ∙ cuts.cut key b plain.standing c is plain.stands some), some);
          }
        ]
        | inr n ↦ record { before = b; had = plain.standing; at = is; stands = plain.stands; plain = plain; is = inr (n, same_value (sym at ∙ cuts.kept key n ∙ is)) }
      ]

  cut_stands : (b : Entry) (had : Standing) → b.stands ≡ Some had → (capped (without all_rights rights) b).stands ≡ Some (record had { rights = without had.rights rights })
  cut_stands b had stands = ap (option_map (λ (t : Standing). record t { rights = common t.rights (without all_rights rights) })) stands

  -- nothing is marked
  pub cut_clean : (key : ℕ) (e : Entry) → entry_at new key ≡ Some e → IsPlain e
  cut_clean key e at =
      let w = was_there key e at in
      let p = w.plain in
      let one : p.standing ≡ w.had = same_value (sym p.stands ∙ w.stands) in
      elim w.is [
        | inl c ↦ record {
          standing = record w.had { rights = without w.had.rights rights };
          stands = ap (λ (e : Entry). e.stands) c.1 ∙ cut_stands w.before w.had w.stands;
          some_right = c.2;
          unwanted = ap (λ (e : Entry). e.wanted) c.1 ∙ p.unwanted;
          no_source = ap (λ (t : Standing). t.source) (sym one) ∙ p.no_source;
          not_granted = ap (λ (t : Standing). t.granted) (sym one) ∙ p.not_granted;
        }
        | inr n ↦ record {
          standing = p.standing;
          stands = ap (λ (e : Entry). e.stands) n.1 ∙ p.stands;
          some_right = p.some_right;
          unwanted = ap (λ (e : Entry). e.wanted) n.1 ∙ p.unwanted;
          no_source = p.no_source;
          not_granted = p.not_granted;
        }
      ]

  lost_cut : (key : ℕ) (b e : Entry) (had t : Standing) → Covered key → b.stands ≡ Some had → without had.rights rights ≢ no_rights → e ≡ capped (without all_rights rights) b → e.stands ≡ Some t
      → HasLost (λ right. IsTrue (has rights right) × Covered key) b had e t
  lost_cut key b e had t c stood some is stands =
      let now : t ≡ record had { rights = without had.rights rights } = same_value (sym stands ∙ ap (λ (e : Entry). e.stands) is ∙ cut_stands b had stood) in
      record {
        place = ap (λ (e : Entry). e.place) is;
        frame = ap (λ (t : Standing). t.frame) now;
        parent = ap (λ (t : Standing). t.parent) now;
        rights = λ right. (
          λ h. let both = (has-without had.rights rights right).0 (ap (λ (t : Standing). has t.rights right) (sym now) ∙ h) in (both.0, λ lost. both.1 lost.0),
          λ h. ap (λ (t : Standing). has t.rights right) now ∙ (has-without had.rights rights right).1 (h.0, λ named. h.1 (named, c)),
        );
        some_right = λ empty. some (sym (ap (λ (t : Standing). t.rights) now) ∙ empty);
      }

  lost_none : (key : ℕ) (b e : Entry) (had t : Standing) → ¬ (Covered key) → b.stands ≡ Some had → had.rights ≢ no_rights → e ≡ b → e.stands ≡ Some t
      → HasLost (λ right. IsTrue (has rights right) × Covered key) b had e t
  lost_none key b e had t n stood some is stands =
      let now : t ≡ had = same_value (sym stands ∙ ap (λ (e : Entry). e.stands) is ∙ stood) in
      record {
        place = ap (λ (e : Entry). e.place) is;
        frame = ap (λ (t : Standing). t.frame) now;
        parent = ap (λ (t : Standing). t.parent) now;
        rights = λ right. (
          λ h. (ap (λ (t : Standing). has t.rights right) (sym now) ∙ h, λ lost. n lost.1),
          λ h. ap (λ (t : Standing). has t.rights right) now ∙ h.0,
        );
        some_right = λ empty. some (sym (ap (λ (t : Standing). t.rights) now) ∙ empty);
      }

  -- the keys have lost just these rights
  pub cut_loses : KeysLose (λ key right. IsTrue (has rights right) × Covered key) old.entries new
  cut_loses = record {
    from = λ key e t at stands.
        let w = was_there key e at in
        let one : w.plain.standing ≡ w.had = same_value (sym w.plain.stands ∙ w.stands) in (
          w.before,
          w.had,
          w.at,
          w.stands,
          elim w.is [
            | inl c ↦ lost_cut key w.before e w.had t c.0 w.stands c.2 c.1 stands
            | inr n ↦ lost_none key w.before e w.had t n.0 w.stands (λ empty. w.plain.some_right (ap (λ (t : Standing). t.rights) one ∙ empty)) n.1 stands
          ],
        );
    to = λ key b had at stood left each some. elim (cuts.decided key) [
      | inl c ↦
          let is : left ≡ without had.rights rights = same_rights left (without had.rights rights) (λ right. (
            λ h. let both = (each right).0 h in (has-without had.rights rights right).1 (both.0, λ named. both.1 (named, c)),
            λ h. let both = (has-without had.rights rights right).0 h in (each right).1 (both.0, λ lost. both.1 lost.0),
          )) in
          let right : without had.rights rights ≢ no_rights = λ empty. some (is ∙ empty) in
          let stands = cut_stands b had stood in (
            capped (without all_rights rights) b,
            record had { rights = without had.rights rights },
            cuts.cut key b had c at stood right,
            stands,
            lost_cut key b (capped (without all_rights rights) b) had (record had { rights = without had.rights rights }) c stood right refl stands,
          )
      | inr n ↦
          let plain = clean key b at in
          let one : plain.standing ≡ had = same_value (sym plain.stands ∙ stood) in
          (b, had, cuts.kept key n ∙ at, stood, lost_none key b b had had n stood (λ empty. plain.some_right (ap (λ (t : Standing). t.rights) one ∙ empty)) refl stood)
    ];
  }
