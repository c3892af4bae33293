use Rattle.std.proofs.Common.{◌≡◌, ◌*◌, ◌/◌, ◌%◌, ap, subst, Ok, arith, ℕ}
use Rattle.std.proofs.Math.Nat.{mod-eq_of_lt}
use Rattle.l4_fpage.specs.Fpages.{ReadsAs}
use Rattle.l4_fpage.proofs.Same.{reads_same}
use Rattle.l4_msg.proofs.acceptors.Acceptor.read.Goals as goal

pub returns-in-Ok-clause-only : goal.returns-in-Ok-clause-only
returns-in-Ok-clause-only c w h =
    let n = c.args.word / 16 * 16 in
    let e : n % 4294967296 ≡ n = mod-eq_of_lt (omega (arith, c.ranges.word.fits)) in
    ap Ok (reads_same n c.in-Ok.window w (subst (λ (k : ℕ). ReadsAs k c.in-Ok.window) e c.in-Ok.ensures.ok) h)
