-- What keys lose where rights are taken or a space ends. (this profile's own)
use Rattle.std.specs.Prelude.{◌≡◌, ◌≢◌, ◌⊎◌, ℕ, ◌<◌, ◌≤◌, Bool, IsTrue, Some, None, option_map}
use Rattle.l4_fpage.specs.Rights.{RightsSet, without, all_rights, no_rights}
use Rattle.l4_links.specs.declared.Standing.{Standing}
use Rattle.l4_links.specs.declared.Entry.{Entry}
use Rattle.l4_links.specs.Entries.{Entries, entry_at, IsAt, Descends, capped}

-- the key is at a page of the space, from the first on and below the end
pub record IsPageKey (s : Entries) (space first end key : ℕ) : Type 0 where
  pub page : ℕ
  pub from : first ≤ page
  pub below : page < end
  pub at : IsAt s (record { space = space; page = page }) key

-- the key is this one, where that is meant, or descends from it
abbrev pub IsOver : Entries → Bool → ℕ → ℕ → Type 0
IsOver s with_self top key = (IsTrue with_self × (key ≡ top)) ⊎ Descends s key top

-- the key is of one of these pages, where they are meant, or descends from one
abbrev pub IsCovered : Entries → ℕ → ℕ → ℕ → Bool → ℕ → Type 0
IsCovered s space first end with_self key = (own : ℕ) × IsPageKey s space first end own × IsOver s with_self own key

-- what stands under these keys has no other rights than the cap, and all else is as it was
pub record CapsKeys (Covered : ℕ → Type 0) (cap : RightsSet) (old new : Entries) : Type 0 where
  pub decided : (key : ℕ) → Covered key ⊎ ¬ (Covered key)
  pub here : (key : ℕ) → Covered key → entry_at new key ≡ option_map (capped cap) (entry_at old key)
  pub kept : (key : ℕ) → ¬ (Covered key) → entry_at new key ≡ entry_at old key

-- what stands under these keys has lost the rights, and has gone with its page where none is left; all else is as it was
pub record CutsKeys (Covered : ℕ → Type 0) (rights : RightsSet) (old new : Entries) : Type 0 where
  pub decided : (key : ℕ) → Covered key ⊎ ¬ (Covered key)
  pub none : (key : ℕ) → entry_at old key ≡ None → entry_at new key ≡ None
  pub gone : (key : ℕ) (e : Entry) (t : Standing) → Covered key → entry_at old key ≡ Some e → e.stands ≡ Some t → without t.rights rights ≡ no_rights → entry_at new key ≡ None
  pub cut : (key : ℕ) (e : Entry) (t : Standing) → Covered key → entry_at old key ≡ Some e → e.stands ≡ Some t → without t.rights rights ≢ no_rights
      → entry_at new key ≡ Some (capped (without all_rights rights) e)
  pub kept : (key : ℕ) → ¬ (Covered key) → entry_at new key ≡ entry_at old key

-- what is under these keys has gone with its page, and all else is as it was
pub record TakesKeys (Gone : ℕ → Type 0) (old new : Entries) : Type 0 where
  pub decided : (key : ℕ) → Gone key ⊎ ¬ (Gone key)
  pub gone : (key : ℕ) → Gone key → entry_at new key ≡ None
  pub kept : (key : ℕ) → ¬ (Gone key) → entry_at new key ≡ entry_at old key
