-- `reading::note_tree` meets its contract. Assumes nothing.
use native.Mathlib.Omega.{arith}
use Rattle.algebra.specs.Tally.{tally}
use Rattle.algebra.proofs.CheckReads.{check-tree}
use Rattle.names.proofs.Laws.{holds-none}
use Rattle.reading.specs.bridge.Charted.{tree_start}
use Rattle.reading.proofs.ChartLaw as C
use Rattle.reading.proofs.note_tree.Goals as goal

pub note_one-requires : goal.note_one-requires
note_one-requires c =
    (omega arith, holds-none _ _ _ _ c.no_names.ensures.0 c.no_names.ensures.1 c.no_names.ensures.2, c.requires)

pub returns : goal.returns
returns c =
    C.charted tally tree_start _ _ _ _ _ _ _ _ 2 _ _ _ _ (check-tree c.args.text.now) c.note_one.ensures.tells (c.note_one.ensures.charts (omega arith)) (C.tree-inside c.args.text.now _)
