-- `projects::merge/merge_ready` meets its contract. Assumes nothing.
use Rattle.std.proofs.Common.{rules}
use mathlib.Core.List.{◌++◌}
use Rattle.algebra.specs.Layout.{layout}
use Rattle.projects.specs.bridge.Joining.{combined_tree}
use Rattle.projects.specs.bridge.Pair.{MergeWritten}
use Rattle.projects.proofs.Pass as P
use Rattle.projects.proofs.merge.merge_ready.Goals as goal

pub gone_of-gone-requires : goal.gone_of-gone-requires
gone_of-gone-requires c =
    let h = P.heads-need c.args.left.now c.args.right.now c.args.pair c.args.tables.now c.args.spots.now c.args.news.now c.args.left_constants.now c.args.right_constants.now _ _ _ _ _ c.requires.0.5 c.requires.0.6 in (h.0, h.1, P.right-narrow c.args.left.now c.args.right.now c.args.pair c.args.tables.now c.args.spots.now c.args.news.now c.args.left_constants.now c.args.right_constants.now _ _ _ _ _ c.requires.0.5 c.requires.0.6, c.requires.1)

pub write_answer-requires : goal.write_answer-requires
write_answer-requires c = let p = c.requires.0 in let q = c.gone_of-gone.ensures in let r = c.requires.1 in search rules

pub returns : goal.returns
returns c =
    λ x y js ks ls ld rd. P.merge-answered c.args.left.now c.args.right.now c.args.pair c.args.tables.now c.args.spots.now c.args.news.now c.args.left_constants.now c.args.right_constants.now x y js ks ls ld rd c.args.head.now _ _ _
    (c.write_answer.ensures (c.args.head.now ++ layout (combined_tree c.args.pair.minus x y js ks ls)) (λ w w' p.
    let q : MergeWritten c.args.head.now c.args.left.now c.args.right.now c.args.left_constants.now c.args.right_constants.now c.args.pair c.args.tables.now c.args.spots.now c.args.news.now w.now w'.now = search rules in
    q.is x y js ks ls ld rd))
