-- `projects::merge/put_merged` meets its contract. Assumes nothing.
use mathlib.Core.Path.{sym}
use mathlib.Core.Bool.{true, false}
use native.Mathlib.Omega.{arith}
use Rattle.scoping.specs.Label.{prefix_l, prefix_r}
use Rattle.projects.proofs.Known as KN
use Rattle.projects.proofs.Pass as P
use Rattle.projects.proofs.merge.put_merged.Goals as goal

pub put_head-requires : goal.put_head-requires
put_head-requires c =
    let h = P.heads-need c.args.left.now c.args.right.now c.args.pair c.args.tables.now c.args.spots.now c.args.news.now c.args.left_constants.now c.args.right_constants.now _ _ _ _ _ c.requires.0.5 c.requires.0.6 in (h.0, h.1, c.requires.2, P.header-fits c.args.left.now c.args.right.now c.args.pair c.args.tables.now c.args.spots.now c.args.news.now c.args.left_constants.now c.args.right_constants.now _ _ _ _ _ c.requires.0.5 c.requires.0.6 _ c.requires.1)

pub slice_bounds-put_side-end : goal.slice_bounds-put_side-end
slice_bounds-put_side-end c = sym (KN.taken-long _ _ c.requires.2)

pub put_side-requires : goal.put_side-requires
put_side-requires c = let t = c.requires.0 in (prefix_l, false, t.0, t.2, t.3, t.5)

pub offset_bounds-spots-k : goal.offset_bounds-spots-k
offset_bounds-spots-k c = let g = c.well_formed in let p = c.requires.2 in omega (arith, g, p)

pub slice_bounds-put_side-count : goal.slice_bounds-put_side-count
slice_bounds-put_side-count c = c.requires.2

pub slice_bounds-put_side-start : goal.slice_bounds-put_side-start
slice_bounds-put_side-start c = c.requires.2

pub put_side-requires-2 : goal.put_side-requires-2
put_side-requires-2 c = let t = c.requires.0 in (prefix_r, true, t.1, t.2, t.4, t.6)

pub returns : goal.returns
returns c =
    record { is = λ x y js ks ls ld rd. P.merge-pass c.args.left.now c.args.right.now c.args.pair c.args.tables.now c.args.spots.now c.args.news.now c.args.left_constants.now c.args.right_constants.now x y js ks ls ld rd _ c.requires.1 c.args.head.now c.put_head.ensures c.put_side.ensures c.put_side-2.ensures }
