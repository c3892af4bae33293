-- The tables of two spaces are aside, and are put back.
use Rattle.std.proofs.Common.{◌≡◌, ◌≢◌, ℕ, Option, IsTrue, sym, ap, ◌∙◌, inl, inr, arith}
use Rattle.std.proofs.lemmas.Bool.{cases_eq}
use Rattle.std.specs.FinSet as set
use Rattle.l4_spaces.specs.Tables.{Tables, key_of}
use Rattle.l4_spaces.specs.Rows.{Rows, AreAside}
use Rattle.l4_nodes.specs.Slots.{Slots}
use Rattle.l4_links.specs.Inside.Stacks.{HasStack}
use Rattle.l4_links.specs.Inside.Keeping.{IsIndexed, IsLive}
use Rattle.l4_links.specs.Inside.Growing.{AreGrowing}

-- each page has the same key
pub indexed_alike : (slots : Slots) (t u : Tables) → ((space page : ℕ) → key_of u space page ≡ key_of t space page) → u.spaces ≡ t.spaces → IsIndexed slots t → IsIndexed slots u
indexed_alike slots t u same spaces i = grind arith

-- both spaces' tables are taken out
pub growing_first : (from to : ℕ) (before one none : Tables) (sources targets : Rows) → from ≢ to → AreAside to targets one before → AreAside from sources none one → (slots : Slots) (first head : Option ℕ) (stamp : ℕ)
    → IsLive slots first stamp → HasStack slots head → IsIndexed slots before → IsTrue (set.contains before.spaces to) → AreGrowing from to none sources targets slots first head stamp before
growing_first from to before one none sources targets apart out second slots first head stamp live stack indexed there = grind arith

-- and others are put back in the end
pub indexed_last : (from to : ℕ) (none back after later : Tables) (sources targets : Rows) → AreAside from sources none back → AreAside to targets back after → (slots : Slots) (first head : Option ℕ) (stamp : ℕ)
    → AreGrowing from to none sources targets slots first head stamp later → IsIndexed slots after
indexed_last from to none back after later sources targets third fourth slots first head stamp g = indexed_alike slots later after same (fourth.spaces ∙ third.spaces ∙ sym g.spaces) g.indexed
  where
    same : (space page : ℕ) → key_of after space page ≡ key_of later space page
    same space page = elim (cases_eq space to) [
      | inl e ↦ ap (λ (z : ℕ). key_of after z page) e ∙ fourth.here.keys page ∙ sym (g.target.keys page) ∙ sym (ap (λ (z : ℕ). key_of later z page) e)
      | inr nt ↦ grind arith
    ]
