-- What falls, and what the loops keep. Assumes nothing.
use mathlib.Core.Path.{◌≡◌}
use Prim.Native.Nat.{◌+◌, ◌-◌}
use Rattle.text.specs.Text.{lines_from, split, part}
use Rattle.emit.specs.bridge.Writer.{state}
use Rattle.names.specs.bridge.Names.{names_in}
use Rattle.filtering.specs.bridge.FilterLines.{parts_below, several_parts, tree_to_expression}
use Rattle.expressing.proofs.Expressed as X
use Rattle.expressing.proofs.express.+tree_to_expression.Given as goal

abbrev pub decreases-tree_to_expression : goal.decreases-tree_to_expression
decreases-tree_to_expression l = l.left

abbrev pub invariant-loop-c : goal.invariant-loop-c
invariant-loop-c l = (l.w.out.ghost_name ≡ l.initial.w.out.ghost_name) × X.Going (tree_to_expression (names_in l.tree l.columns l.n) (l.left - 1)) l.c.awaited (lines_from l.filters l.c.at) l.expressed (state l.w) (several_parts (tree_to_expression (names_in l.tree l.columns l.n) (l.left - 1)) (parts_below (split 9 (part l.from l.end l.filters))) (lines_from l.filters (l.end + 1))) l.initial.expressed (state l.initial.w)

abbrev pub decreases-loop-c : goal.decreases-loop-c
decreases-loop-c l = l.c.awaited
