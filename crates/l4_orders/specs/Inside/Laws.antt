-- The laws of turns (this profile's own).
use Rattle.std.proofs.Common.{◌≡◌, ℕ, zero, suc, ◌+◌, ◌-◌, ◌<◌, true, false, List, [], ◌∷◌, length, Option, Some, None, refl, sym, ap, subst, ◌∙◌, ◌↔◌, arith}
use Rattle.std.specs.Prelude.{slice_get, option_and_then}
use Rattle.std.specs.Option.{option_map_or}
use Rattle.l4_orders.specs.declared.plans.PlanLine.{PlanLine}
use Rattle.std.proofs.lemmas.Bool.{false≢true}
use Rattle.std.proofs.lemmas.Option.{slice_get_within, none-some}
use Rattle.l4_orders.specs.declared.plans.Block.{Block}
use Rattle.l4_orders.specs.Plans.{line_in, next_of, cancels_at, gone_with}
use Rattle.l4_orders.specs.declared.plans.Plan.{Plan}
use Rattle.l4_orders.specs.Turns.{sum, PlanPoint, is_ready, may_turn, Turns, turns_left, left_in}

-- a place that has a line is one of a block
in_block : (blocks : List Block) (place count : ℕ) (next : ℕ × List ℕ) → line_in blocks place count ≡ Some next → place < length blocks
in_block blocks place count next is = at (slice_get blocks place) refl is where
  at : (b : Option Block) → slice_get blocks place ≡ b → option_and_then (λ block. option_and_then (λ one. Some (block.thread, one.bytes.items)) (slice_get block.lines.items count)) b ≡ Some next → place < length blocks
  at None e h = absurd (none-some next h)
  at (Some block) e h = slice_get_within blocks place block e

block_within : (blocks : List Block) (gone : List ℕ) (place : ℕ) (next : ℕ × List ℕ) → next_of blocks gone place ≡ Some next → place < length blocks
block_within blocks gone place next is = at (slice_get gone place) is where
  at : (o : Option ℕ) → option_and_then (λ count. line_in blocks place count) o ≡ Some next → place < length blocks
  at None h = absurd (none-some next h)
  at (Some count) h = in_block blocks place count next h

pub turn_within : (s : PlanPoint) (place : ℕ) → may_turn s place ≡ true → place < length s.plan.blocks.items
turn_within s place may = at (next_of s.plan.blocks.items s.gone place) refl may where
  at : (o : Option (ℕ × List ℕ)) → next_of s.plan.blocks.items s.gone place ≡ o → option_map_or (λ next. is_ready s.machine.threads (cancels_at s.plan.blocks.items place) next.0) o false ≡ true → place < length s.plan.blocks.items
  at None e h = absurd (false≢true h)
  at (Some next) e h = block_within s.plan.blocks.items s.gone place next e

-- the first block's line that comes next is one of its lines
first_within : (block : Block) (count : ℕ) (next : ℕ × List ℕ) → option_and_then (λ one. Some (block.thread, one.bytes.items)) (slice_get block.lines.items count) ≡ Some next → count < length block.lines.items
first_within block count next is = at (slice_get block.lines.items count) refl is where
  at : (o : Option PlanLine) → slice_get block.lines.items count ≡ o → option_and_then (λ one. Some (block.thread, one.bytes.items)) o ≡ Some next → count < length block.lines.items
  at None e h = absurd (none-some next h)
  at (Some bytes) e h = slice_get_within block.lines.items count bytes e

falls_in : (blocks : List Block) (gone : List ℕ) (place : ℕ) (next : ℕ × List ℕ) → next_of blocks gone place ≡ Some next → left_in blocks (gone_with gone place) < left_in blocks gone
falls_in blocks [] place next is = absurd (none-some next is)
falls_in [] (count ∷ gone) place next is = let lt = block_within [] (count ∷ gone) place next is in absurd (omega (arith, lt))
falls_in (block ∷ blocks) (count ∷ gone) zero next is = let lt = first_within block count next is in omega (arith, lt)
falls_in (block ∷ blocks) (count ∷ gone) (suc place) next is = let lt = falls_in blocks gone place next is in omega (arith, lt)

pub turn_falls : (s : PlanPoint) (place : ℕ) (t : PlanPoint) → Turns s place t → turns_left t < turns_left s
turn_falls s place t turns = subst (λ (p : PlanPoint). turns_left p < turns_left s) (sym turns.new_is) (falls_in s.plan.blocks.items s.gone place turns.next turns.next_is)

-- STATES

-- states of one plan
abbrev pub AreAkin : PlanPoint → PlanPoint → Type 0
AreAkin p q = p.plan ≡ q.plan

pub own_point : (p : PlanPoint) → AreAkin p p
own_point p = refl

pub turn_stays : (s : PlanPoint) (place : ℕ) (t : PlanPoint) → Turns s place t → (u : PlanPoint) → AreAkin s u ↔ AreAkin t u
turn_stays s place t turns u =
    let plan : t.plan ≡ s.plan = ap (λ (p : PlanPoint). p.plan) turns.new_is in
    ((λ e. plan ∙ e), (λ e. sym plan ∙ e))

-- WHAT A STATE KEEPS

-- each thread has a count of executed lines, and the next line's number is the one that these counts say
pub record IsInStep (plan : Plan) (gone : List ℕ) (line : ℕ) : Type 0 where
  pub each : length gone ≡ length plan.blocks.items
  pub number : line ≡ length plan.first.items + sum gone + 1
