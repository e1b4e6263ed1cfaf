-- `starts::shared_eights` meets its contract. Assumes nothing.
use native.Mathlib.Omega.{arith}
use borrow.Author.Tests.{not-false}
use Rattle.starts.proofs.Compared as C
use Rattle.starts.proofs.shared_eights.Goals as goal

pub loop-k-preserved : goal.loop-k-preserved
loop-k-preserved c =
    λ j h. C.block_more c.args.a.now c.args.b.now _ 8 c.loop-k.invariant (c.same_eight.ensures (not-false _ c.if-not-same_eight.false-raw)) j (omega arith)
