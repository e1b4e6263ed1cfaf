-- A query that was read: its tree, and its text as a head line and the tree's text. Assumes nothing.
use Prim.Native.Nat.{◌≤◌}
use mathlib.Core.Path.{◌≡◌, sym, ◌∙◌}
use mathlib.Core.List.{[], ◌++◌}
use lib.ListN.{length}
use Rattle.text.specs.Text.{Bytes, ended, text_of}
use Rattle.text.proofs.Texts.{Ended, neat-ended}
use Rattle.algebra.specs.Tree.{Pattern}
use Rattle.algebra.specs.Query.{Query}
use Rattle.algebra.specs.Depth.{depth}
use Rattle.algebra.specs.Valid.{Valid}
use Rattle.algebra.specs.Layout.{put, put_query, layout}
use Rattle.algebra.specs.Bounded.{layout_query}
use Rattle.algebra.specs.Reader.{reads}
use Rattle.algebra.specs.Texts.{read_query}
use Rattle.algebra.proofs.Neat.{neat}
use Rattle.algebra.proofs.Theorem.{query-exactly}
use Rattle.algebra.specs.Tally.{bounds}
use Rattle.scoping.specs.Numbering.{by_place}
use Rattle.merging.specs.Merge.{over}
use Rattle.merging.proofs.Others.{tree-valid, tree-names}
use Rattle.heads.specs.bridge.TreeAt.{head_line}
use Rattle.heads.proofs.Cut.{ended-append}

-- what is written of a query over a tree: the head's bytes, then the tree's
pub over-layout : (q : Query) (t : Pattern) → layout_query (over q t) ≡ ended (head_line q) [] ++ layout t
unfolding layout_query put_query text_of layout
over-layout q t = ended-append (head_line q) [] (text_of (put t []))

module _ (s : Bytes) (q : Query) (e : read_query s ≡ reads q) where
  pub query-valid : Valid q.tree
  query-valid = tree-valid s q e

  pub query-depth : depth q.tree ≤ bounds.depth
  query-depth = ((query-exactly s q).0 e).2.depth

  pub query-names : length (by_place q.tree) ≤ 1024
  query-names = tree-names s q e

  pub query-layout : layout_query q ≡ s
  query-layout = ((query-exactly s q).0 e).0

  pub query-text : s ≡ ended (head_line q) [] ++ layout q.tree
  query-text = sym query-layout ∙ over-layout q q.tree

  pub tree-ended : Ended (put q.tree [])
  tree-ended = neat-ended (put q.tree []) (neat q.tree [] query-valid tt)
