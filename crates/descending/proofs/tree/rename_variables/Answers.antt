-- `descending::tree/rename_variables` meets its contract. Assumes nothing.
use mathlib.Core.Path.{◌≡◌}
use native.Mathlib.Omega.{arith}
use Rattle.descending.proofs.Marks as L
use Rattle.descending.proofs.tree.rename_variables.Goals as goal

pub loop-k-init : goal.loop-k-init
loop-k-init c = (L.none-walked _ _ _ c.requires.0, omega arith)

pub rename_variable-requires : goal.rename_variable-requires
rename_variable-requires c =
    let l = c.loop-k.invariant.0.all.long in let p = c.requires.1 in let t = c.loop-k-test.true in omega arith

pub loop-k-preserved : goal.loop-k-preserved
loop-k-preserved c =
    let inv = c.loop-k.invariant.0 in let l = inv.all.long in let p = c.requires.1 in let t = c.loop-k-test.true in (L.both-walked inv (L.one-walked (omega arith) c.rename_variable.ensures), omega arith)

pub shape_of-spots : goal.shape_of-spots
shape_of-spots c = c.loop-k.invariant.0.all.long

pub returns : goal.returns
returns c =
    let m = c.max.ensures in let low = c.loop-k.auto.k in let e : c.max.result ≡ c.loop-k.k = omega (arith, m, low, c.loop-k.invariant.1, c.loop-k-test.false) in (rw e c.loop-k.invariant.0, omega (arith, m))
