-- Writes to notes of a node: its tree, its links, its marks and its rights stay.
use Rattle.std.proofs.Common.{◌≡◌, ◌≢◌, ℕ, Bool, true, false, Option, Some, None, refl, sym, ap, ◌∙◌, subst, inl, inr}
use Rattle.std.proofs.lemmas.Bool.{cases_eq, false≢true}
use Rattle.std.specs.Option.{option_map, option_and_then}
use Rattle.l4_fpage.specs.Rights.{RightsSet, set_of_bits}
use Rattle.l4_nodes.specs.declared.nodes.Node.{Node}
use Rattle.l4_nodes.specs.declared.nodes.Slot.{Slot}
use Rattle.l4_nodes.specs.Slots.{Slots, slot_at, node_at, SetsSource, SetsPlain}
use Rattle.l4_links.specs.Inside.Nodes.{limbs, links, sources, marks, Worth, IsLow, HasLow, TakesOver}
use Rattle.l4_links.specs.Inside.Keeping.{IsWithin, IsFresh, IsSound}
use Rattle.l4_links.proofs.Writes.{no_some, same_some, map_from, map_both, map_twice, map_at, marks_of, stamped_same, limb_of, link_of, worth_of}
use Rattle.l4_links.proofs.Walking.{KeepsMarks, marks_same, seen_same}
use Rattle.l4_links.proofs.Kept.{forest_links, sound_fresh}

-- the node without its notes
abbrev pub quiet_of : Node → Node
quiet_of n = record n { source = false; granted = None }

-- the nodes are the same but for their notes
abbrev pub IsQuiet : Slots → Slots → Type 0
IsQuiet old new = (k : ℕ) → option_map quiet_of (node_at new k) ≡ option_map quiet_of (node_at old k)

module _ (old new : Slots) (quiet : IsQuiet old new) where
  quiet_map : {X : Type 0} (F : Node → X) → ((n : Node) → F (quiet_of n) ≡ F n) → (k : ℕ) → option_map F (node_at new k) ≡ option_map F (node_at old k)
  quiet_map F same k = sym (map_both F quiet_of same (node_at new k)) ∙ ap (option_map F) (quiet k) ∙ map_both F quiet_of same (node_at old k)

  quiet_limbs : (k : ℕ) → limbs new k ≡ limbs old k
  quiet_limbs = quiet_map limb_of (λ n. refl)

  quiet_links : (k : ℕ) → links new k ≡ links old k
  quiet_links = quiet_map link_of (λ n. refl)

  quiet_marks : (k : ℕ) → marks new k ≡ marks old k
  quiet_marks = quiet_map marks_of (λ n. refl)

  quiet_was : (k : ℕ) (n : Node) → node_at new k ≡ Some n → (m : Node) × (node_at old k ≡ Some m) × (quiet_of m ≡ quiet_of n)
  quiet_was k n at = map_from quiet_of (node_at old k) (quiet_of n) (sym (quiet k) ∙ ap (option_map quiet_of) at)

  quiet_within : IsWithin old → IsWithin new
  quiet_within within k p x l h is up v w =
      let lo = map_from worth_of (node_at new k) l v in
      let hi = map_from worth_of (node_at new p) h w in
      let lo_was = quiet_was k lo.0 lo.1 in
      let hi_was = quiet_was p hi.0 hi.1 in
      let base = within k p x (worth_of lo_was.0) (worth_of hi_was.0) (sym (quiet_limbs k) ∙ is) up (ap (option_map worth_of) lo_was.1) (ap (option_map worth_of) hi_was.1) in
      let le : lo_was.0.rights ≡ l.rights = ap (λ (z : Node). z.rights) lo_was.2 ∙ ap (λ (z : Worth). z.rights) lo.2 in
      let he : hi_was.0.rights ≡ h.rights = ap (λ (z : Node). z.rights) hi_was.2 ∙ ap (λ (z : Worth). z.rights) hi.2 in
      let lf : lo_was.0.frame ≡ l.frame = ap (λ (z : Node). z.frame) lo_was.2 ∙ ap (λ (z : Worth). z.frame) lo.2 in
      let hf : hi_was.0.frame ≡ h.frame = ap (λ (z : Node). z.frame) hi_was.2 ∙ ap (λ (z : Worth). z.frame) hi.2 in
      record {
        rights = subst (λ (z : RightsSet). IsLow h.rights z) le (subst (λ (z : RightsSet). IsLow z lo_was.0.rights) he base.rights);
        frame = sym lf ∙ base.frame ∙ hf;
      }

  quiet_keeps : (stamp : ℕ) → KeepsMarks stamp old new
  quiet_keeps stamp k n at m =
      let v = quiet_was k n at in
      (v.0, v.1, record { same = ap (λ (z : Node). z.mark) v.2 ∙ m.same; some = m.some }, sym (ap (λ (z : Node). z.depth) v.2), sym (ap (λ (z : Node). z.end) v.2))

  -- the marks stay right where no source has come
  pub sound_quiet : (first : Option ℕ) (stamp walk : ℕ) → ((k : ℕ) → sources new k ≡ Some true → sources old k ≡ Some true) → IsSound old first stamp walk → IsSound new first stamp walk
  sound_quiet first stamp walk less s = record {
    keys = s.keys;
    forest = forest_links old new s.keys quiet_limbs quiet_links s.forest;
    first_is = s.first_is;
    within = quiet_within s.within;
    stamped = stamped_same stamp old new quiet_marks s.stamped;
    capped = λ ne. marks_same (HasLow (set_of_bits walk) old) (HasLow (set_of_bits walk) new) old new quiet_limbs still_low stamp quiet_links (quiet_keeps stamp) (s.capped ne);
    sought = λ e. seen_same old new stamp quiet_limbs quiet_links less (quiet_keeps stamp)
        (λ k n at m. (let v = quiet_was k n at in (v.0, v.1, record { same = ap (λ (z : Node). z.seen) v.2 ∙ m.same; some = m.some }))) (s.sought e);
  }
    where
      still_low : (j : ℕ) → HasLow (set_of_bits walk) old j → HasLow (set_of_bits walk) new j
      still_low j low n at = (let v = quiet_was j n at in subst (λ (z : RightsSet). IsLow (set_of_bits walk) z) (ap (λ (z : Node). z.rights) v.2) (low v.0 v.1))

  -- with a fresh stamp they are right whatever has come
  pub sound_noted : (first : Option ℕ) (stamp fresh walk : ℕ) → IsSound old first stamp walk → IsFresh stamp fresh → IsSound new first fresh walk
  sound_noted first stamp fresh walk s f =
      sound_fresh new first stamp fresh walk s.keys (forest_links old new s.keys quiet_limbs quiet_links s.forest) s.first_is (quiet_within s.within) (stamped_same stamp old new quiet_marks s.stamped) f

-- the writes to notes
pub quiet_source : (old new : Slots) (key : ℕ) (source : Bool) → SetsSource key source old new → IsQuiet old new
quiet_source old new key source c = map_at quiet_of (λ n. record n { source = source }) (λ n. refl) key old new c.here c.others

pub quiet_plain : (old new : Slots) (key : ℕ) → SetsPlain key old new → IsQuiet old new
quiet_plain old new key c = map_at quiet_of (λ n. record n { source = false; granted = None }) (λ n. refl) key old new c.here c.others

abbrev source_of : Node → Bool
source_of n = n.source

sources_of : (slots : Slots) (k : ℕ) → sources slots k ≡ option_map source_of (node_at slots k)
sources_of slots k = map_twice worth_of (λ (w : Worth). w.source) (node_at slots k)

-- where a mark of a source was taken away no source has come
less_at : (old new : Slots) (key : ℕ) (f : Node → Node) → ((n : Node) → (f n).source ≡ false) → node_at new key ≡ option_map f (node_at old key) → ((o : ℕ) → o ≢ key → node_at new o ≡ node_at old o)
    → (k : ℕ) → sources new k ≡ Some true → sources old k ≡ Some true
less_at old new key f off here others k is = elim (cases_eq k key) [
  | inl e ↦ absurd (none (node_at old key) (sym (ap (option_map source_of) (ap (node_at new) e ∙ here)) ∙ sym (sources_of new k) ∙ is))
  | inr ne ↦ sources_of old k ∙ sym (ap (option_map source_of) (others k ne)) ∙ sym (sources_of new k) ∙ is
]
  where
    none : (o : Option Node) → option_map source_of (option_map f o) ≡ Some true → ⊥
    none None e = no_some true e
    none (Some n) e = false≢true (sym (off n) ∙ same_some e)

pub less_source : (old new : Slots) (key : ℕ) (source : Bool) → source ≡ false → SetsSource key source old new → (k : ℕ) → sources new k ≡ Some true → sources old k ≡ Some true
less_source old new key source off c = less_at old new key (λ n. record n { source = source }) (λ n. off) c.here c.others

pub less_plain : (old new : Slots) (key : ℕ) → SetsPlain key old new → (k : ℕ) → sources new k ≡ Some true → sources old k ≡ Some true
less_plain old new key c = less_at old new key (λ n. record n { source = false; granted = None }) (λ n. refl) c.here c.others

-- the nodes after one has taken a blank's page
module _ (old new : Slots) (key blank : ℕ) (rights : RightsSet) (c : TakesOver key blank rights old new) (empty : node_at old blank ≡ None) where
  taken_map : {X : Type 0} (F : Node → X) → ((n : Node) → F (record n { granted = Some rights }) ≡ F n) → (k : ℕ) → option_map F (node_at new k) ≡ option_map F (node_at old k)
  taken_map F same k = elim (cases_eq k key) [
    | inl e ↦ ap (λ (z : ℕ). option_map F (node_at new z)) e ∙ ap (λ (o : Option Slot). option_map F (option_and_then (λ (s : Slot). s.node) o)) c.here ∙ over F same (slot_at old key) ∙ ap (λ (z : ℕ). option_map F (node_at old z)) (sym e)
    | inr nk ↦ elim (cases_eq k blank) [
      | inl e ↦ ap (λ (z : ℕ). option_map F (node_at new z)) e ∙ ap (λ (o : Option Slot). option_map F (option_and_then (λ (s : Slot). s.node) o)) c.gone ∙ sym (ap (option_map F) empty) ∙ ap (λ (z : ℕ). option_map F (node_at old z)) (sym e)
      | inr nb ↦ ap (λ (o : Option Slot). option_map F (option_and_then (λ (s : Slot). s.node) o)) (c.others k nk nb)
    ]
  ]
    where
      over : {X : Type 0} (F : Node → X) → ((n : Node) → F (record n { granted = Some rights }) ≡ F n) → (o : Option Slot)
          → option_map F (option_and_then (λ (s : Slot). s.node) (option_map (λ (s : Slot). record s { place = c.page.place; node = option_map (λ (n : Node). record n { granted = Some rights }) s.node }) o)) ≡ option_map F (option_and_then (λ (s : Slot). s.node) o)
      over F same None = refl
      over F same (Some s) = map_both F (λ (n : Node). record n { granted = Some rights }) same s.node

  pub quiet_taken : IsQuiet old new
  quiet_taken = taken_map quiet_of (λ n. refl)

  pub less_taken : (k : ℕ) → sources new k ≡ Some true → sources old k ≡ Some true
  less_taken k is = sources_of old k ∙ sym (taken_map source_of (λ n. refl) k) ∙ sym (sources_of new k) ∙ is
