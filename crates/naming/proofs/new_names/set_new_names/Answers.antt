-- `naming::new_names/set_new_names` meets its contract. Assumes nothing.
use mathlib.Core.Path.{sym, ◌∙◌}
use native.Mathlib.Omega.{arith}
use lib.ListN.{length-set}
use Rattle.names.proofs.Columns as R
use Rattle.naming.proofs.Settled as W
use Rattle.naming.proofs.new_names.set_new_names.Goals as goal

pub loop-k-init : goal.loop-k-init
loop-k-init c = (c.requires.3, omega arith, W.settled-none _ _ _ _ _ _)

pub find_push-requires : goal.find_push-requires
find_push-requires c = (c.requires.1, c.requires.2)

pub bounds-news-k : goal.bounds-news-k
bounds-news-k c = let p = c.requires.0 in let t = c.loop-k-test.true in let l = c.loop-k.invariant.0 in omega arith

pub loop-k-preserved : goal.loop-k-preserved
loop-k-preserved c =
    let p = c.requires.0 in let t = c.loop-k-test.true in let i = c.loop-k.invariant in let l = i.0 in (simp length-set l, omega arith, W.settled-next _ _ _ _ _ _ _ i.2 (omega arith) _ _ _ _ (R.column-is 0 c.args.table.now _ _ c.wide.ensures.0) (R.column-is 1 c.args.table.now _ _ c.wide-in-loop-k.ensures.0) c.piece-f.ensures c.find_push.ensures)

pub shape_of-news : goal.shape_of-news
shape_of-news c = c.loop-k.invariant.0 ∙ sym c.requires.3

pub returns : goal.returns
returns c = W.settled-all _ _ _ _ _ _ _ _ _ c.loop-k.invariant.2 c.loop-k.invariant.1 c.loop-k-test.false
