-- Two blocks are nested or disjoint.
use Rattle.std.proofs.Common.{ℕ, ◌+◌, ◌^◌, ◌≤◌, inl, inr, arith}
use Rattle.std.proofs.lemmas.Bool.{cases_lt}
use Rattle.l4_fpage.specs.Pages.{IsBlock, InBlock}
use Rattle.l4_fpage.proofs.Powers.{aligned_step, aligned_down, aligned_add, pow_aligned}

-- a block whose first page lies in one that is no smaller lies in it
pub nested : (first log outer outer_log page : ℕ) → IsBlock first log → IsBlock outer outer_log → log ≤ outer_log → InBlock outer outer_log first → InBlock first log page → InBlock outer outer_log page
nested first log outer outer_log page b o le at h =
    let end_aligned = aligned_add log outer (2 ^ outer_log) (aligned_down log outer_log outer le o.aligned) (pow_aligned log outer_log le) in
    let ends : first + 2 ^ log ≤ outer + 2 ^ outer_log = aligned_step log first (outer + 2 ^ outer_log) b.aligned end_aligned at.below in
    record { from = omega (arith, at.from, h.from); below = omega (arith, h.below) }

-- and else no page of it does
pub disjoint : (first log outer outer_log page : ℕ) → IsBlock first log → IsBlock outer outer_log → log ≤ outer_log → ¬ InBlock outer outer_log first → InBlock first log page → ¬ InBlock outer outer_log page
disjoint first log outer outer_log page b o le out h k =
    elim (cases_lt first outer) [
      | inl lt ↦
          let before : first + 2 ^ log ≤ outer = aligned_step log first outer b.aligned (aligned_down log outer_log outer le o.aligned) lt in
          omega (arith, h.below, k.from)
      | inr ge ↦ out (record { from = ge; below = omega (arith, h.from, k.below) })
    ]
