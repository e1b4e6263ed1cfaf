-- `surveying::scope/put_names` meets its contract. Assumes nothing.
use mathlib.Core.Path.{sym, ap}
use native.Mathlib.Nat.{add-zero}
use native.Mathlib.Omega.{arith}
use Rattle.names.specs.bridge.Names.{listing, starts_of, sizes_of}
use Rattle.emit.proofs.Writing.{left-all, left-as, left-next, left-none}
use Rattle.scoping.specs.bridge.Flagged.{chosen}
use Rattle.walking.specs.bridge.Walk.{tabbed}
use Rattle.surveying.proofs.Lists as L
use Rattle.surveying.proofs.scope.put_names.Goals as goal

pub loop-k-init : goal.loop-k-init
loop-k-init c =
    left-as (sym (ap (λ j. tabbed (chosen j c.args.flags.now (listing c.args.tree.now (starts_of c.args.table.now) (sizes_of c.args.table.now) c.args.n))) (add-zero c.args.base))) (left-all _)

pub put_name-requires : goal.put_name-requires
put_name-requires c = let p = c.requires.0 in let t = c.loop-k-test.true in omega arith

pub loop-k-preserved : goal.loop-k-preserved
loop-k-preserved c = left-next (left-as (L.names-next _ _ _ _ _ _ _ c.loop-k-test.true) c.loop-k.invariant) c.put_name.ensures

pub returns : goal.returns
returns c = left-none (left-as (L.names-done _ _ _ _ _ _ _ c.loop-k-test.false) c.loop-k.invariant)
