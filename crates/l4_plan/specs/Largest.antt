-- The largest allowed blocks of a region, and the pages at which they begin (this profile's own).
use Rattle.std.specs.Prelude.{◌≡◌, ◌⊎◌, ℕ, ◌<◌, ◌≤◌, List}
use Rattle.std.specs.List.{Any, All, AllPairs}
use Rattle.l4_fpage.specs.Pages.{InBlock}
use Rattle.l4_msg.specs.Regions.{IsAllowed}
use Rattle.l4_msg.specs.declared.regions.Region.{Region}

-- 2 ^ log pages from this page on are an allowed block, and no allowed block that begins here is larger
pub record IsLargest (r : Region) (page log : ℕ) : Type 0 where
  pub allowed : IsAllowed r page log
  pub greatest : (k : ℕ) → IsAllowed r page k → k ≤ log

-- an allowed block begins at the page, and no allowed block that contains the page is larger
pub record BeginsLargest (r : Region) (page : ℕ) : Type 0 where
  pub log : ℕ
  pub allowed : IsAllowed r page log
  pub greatest : (first k : ℕ) → IsAllowed r first k → InBlock first k page → k ≤ log

-- the lowest pages at which largest allowed blocks begin, in rising order: every other such page is above them
pub record AreFirstStarts (r : Region) (pages : List ℕ) : Type 0 where
  pub rising : AllPairs ◌<◌ pages
  pub begin : All (BeginsLargest r) pages
  pub rest : (page : ℕ) → BeginsLargest r page → Any (λ p. p ≡ page) pages ⊎ All (λ p. p < page) pages
