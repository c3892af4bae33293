-- What one more line does to a claim. (this profile's own)
use Rattle.std.specs.Prelude.{◌≡◌, ℕ, ◌*◌, ◌⊎◌, List, [], ◌∷◌, ◌++◌, length, Some, None}
use Rattle.l4_msg.specs.Sizes.{max_items}
use Rattle.l4_plan_lines.specs.declared.claims.Claim.{Claim}
use Rattle.l4_plan_lines.specs.declared.claims.Head.TheVariants.{Plan}
use Rattle.l4_plan_lines.specs.Lines.{long_line}
use Rattle.l4_plan_lines.specs.Claims.{IsClaimOf, IsBeginning, EndsInTag, IsSecondTag}

-- a claim of lines becomes one of the line after them, too
abbrev pub SaysMore : Claim → Claim → List ℕ → Type 0
SaysMore old new line = (lines : List (List ℕ)) → IsClaimOf lines old → IsClaimOf (lines ++ line ∷ []) new

-- with this line after them the lines of a claim are none
abbrev pub SaysAll : Claim → List ℕ → Type 0
SaysAll old line = (lines : List (List ℕ)) → IsClaimOf lines old → IsBeginning (lines ++ line ∷ []) → ⊥

-- the lines of a claim end in a tag line, or they do not
abbrev pub HasEmptyGroup : Claim → Type 0
HasEmptyGroup claim = (lines : List (List ℕ)) → IsClaimOf lines claim → EndsInTag lines

abbrev pub HasItems : Claim → Type 0
HasItems claim = (lines : List (List ℕ)) → IsClaimOf lines claim → EndsInTag lines → ⊥

-- behind the lines of a claim this line is a second tag line, or it is not
abbrev pub IsSecond : Claim → List ℕ → Type 0
IsSecond claim line = (lines : List (List ℕ)) → IsClaimOf lines claim → IsSecondTag lines line

abbrev pub IsSingle : Claim → List ℕ → Type 0
IsSingle claim line = (lines : List (List ℕ)) → IsClaimOf lines claim → IsSecondTag lines line → ⊥

-- a tag line is due: the first line, and it isn't the other one that may come first, or a line behind whole messages
abbrev pub AwaitsTag : Claim → List ℕ → Type 0
AwaitsTag claim line = ((claim.head ≡ None) × (line ≡ long_line → ⊥)) ⊎ ((claim.head ≡ Some Plan) × (length claim.items.items ≡ max_items * length claim.tags.items))

-- a line of an item is due
abbrev pub AwaitsItem : Claim → Type 0
AwaitsItem claim = (claim.head ≡ Some Plan) × (length claim.items.items ≡ max_items * length claim.tags.items → ⊥)
