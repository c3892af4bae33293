-- A slot that comes with its node: it is as if a blank had come first, and the node into that blank.
use Rattle.std.proofs.Common.{◌≡◌, ◌≢◌, ℕ, ◌∷◌, ◌++◌, Option, Some, None, false, slice_set, refl, ap, ◌∙◌, sym, inl, inr}
use Rattle.std.proofs.lemmas.Bool.{cases_eq}
use Rattle.std.proofs.lemmas.List.{get_or-set_same, get_or-set_other}
use Rattle.std.specs.Option.{option_map, option_and_then}
use Rattle.l4_fpage.specs.Rights.{RightsSet}
use Rattle.l4_nodes.specs.declared.Place.{Place}
use Rattle.l4_nodes.specs.declared.nodes.Node.{Node}
use Rattle.l4_nodes.specs.declared.nodes.Slot.{Slot}
use Rattle.l4_nodes.specs.Slots.{Slots, slot_at, node_at, spots, Writes, SetsNext, SetsPrev, spot_of}
use Rattle.l4_links.specs.Inside.Nodes.{child, Blanks, AddsUnder}
use Rattle.l4_links.proofs.Cutting.{node_within}
use Rattle.l4_links.proofs.Kept.{nodes_blank}
use Rattle.l4_links.proofs.Neighbours.{put_in, sprouts, forest_in, comes_in}

abbrev pub blank_of : Place → Slot
blank_of place = record { place = place; wanted = false; node = None }

abbrev slot_of : Place → Node → Slot
slot_of place node = record { place = place; wanted = false; node = Some node }

-- the slots with a blank in the place of the node that has come
abbrev blanked : Slots → ℕ → Place → Slots
blanked slots key place = slice_set slots key (Some (blank_of place))

blanks_in : (old new : Slots) (key : ℕ) (place : Place) (node : Node) → slot_at old key ≡ None → slot_at new key ≡ Some (slot_of place node) → ((o : ℕ) → o ≢ key → slot_at new o ≡ slot_at old o) → Blanks place key old (blanked new key place)
blanks_in old new key place node vacant filled others = record {
  vacant = vacant;
  filled = get_or-set_same new key (Some (blank_of place)) None (node_within new key node (ap (option_and_then (λ (s : Slot). s.node)) filled));
  others = λ o ne. get_or-set_other new key o (Some (blank_of place)) None ne ∙ others o ne;
}

-- the node is written over that blank
written_in : (new : Slots) (key : ℕ) (place : Place) (node : Node) → slot_at new key ≡ Some (slot_of place node) → slot_at (blanked new key place) key ≡ Some (blank_of place) → Writes key (Some node) (blanked new key place) new
written_in new key place node filled blank =
    let others : (o : ℕ) → o ≢ key → slot_at new o ≡ slot_at (blanked new key place) o = λ o ne. sym (get_or-set_other new key o (Some (blank_of place)) None ne) in
    record {
      here = λ _. ap (option_and_then (λ (s : Slot). s.node)) filled;
      others = λ o ne. ap (option_and_then (λ (s : Slot). s.node)) (others o ne);
      spots_same = λ o. elim (cases_eq o key) [
        | inl e ↦ ap (spots new) e ∙ ap (option_map spot_of) filled ∙ sym (ap (option_map spot_of) blank) ∙ sym (ap (spots (blanked new key place)) e)
        | inr ne ↦ ap (option_map spot_of) (others o ne)
      ];
    }

has_blank : (slots : Slots) (key : ℕ) (place : Place) → slot_at slots key ≡ Some (blank_of place) → slot_at slots key ≢ None
has_blank slots key place blank none = let w : ◌≡◌ {A = Option Slot} (Some (blank_of place)) None = sym blank ∙ none in absurd (let z : ◌≡◌ {A = Option Slot} (Some (blank_of place)) None = w in cc)

-- a child that has come with its slot, and the links of its neighbours
pub added : (a b c d : Slots) (parent key : ℕ) (place : Place) (above : Node) (rights : RightsSet) → node_at a parent ≡ Some above → slot_at a key ≡ None → slot_at b key ≡ Some (slot_of place (child parent above rights))
    → ((o : ℕ) → o ≢ key → slot_at b o ≡ slot_at a o) → SetsPrev above.next (Some key) b c → SetsNext (Some parent) (Some key) c d → AddsUnder parent place above rights a d key
added a b c d parent key place above rights at vacant filled others f g =
    let middle : Slots = blanked b key place in
    let node : Node = child parent above rights in
    let blanks = blanks_in a b key place node vacant filled others in
    let at_m : node_at middle parent ≡ Some above = nodes_blank a middle key (blank_of place) refl vacant blanks.filled blanks.others parent ∙ at in
    let none_m : node_at middle key ≡ None = ap (option_and_then (λ (s : Slot). s.node)) blanks.filled in
    let room = has_blank middle key place blanks.filled in
    let w = written_in b key place node filled blanks.filled in
    let s = sprouts middle b c d parent key above node at_m none_m refl refl (w.here room) w.others f g in
    record {
      middle = middle;
      blanks = blanks;
      sprouts = s;
      comes = comes_in middle b c d key node (Some parent) (Some key) above.next (Some key) none_m room w f g refl refl;
      forest = λ xs ys h. forest_in middle d xs parent key ys h (put_in middle b c d (xs ++ parent ∷ ys) parent key above node h.order at_m none_m refl refl (w.here room) w.others f g) s;
    }
