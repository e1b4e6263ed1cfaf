-- What falls, and what the loops keep. Assumes nothing.
use Prim.Native.Nat.{◌+◌, ◌-◌, ◌*◌}
use Rattle.text.specs.Text.{lines_from, split, part}
use Rattle.filtering.specs.bridge.Copying.{to_come}
use Rattle.spelling.specs.bridge.Seeking.{sought_children, sought_child, sought_tree}
use Rattle.spelling.proofs.Going as G
use Rattle.spelling.proofs.seek.+seek_child_seek_expression_seek_flat_seek_line_seek_pattern.Given as goal

abbrev pub decreases-seek_child : goal.decreases-seek_child
decreases-seek_child l = 4 * l.depth + 2

abbrev pub decreases-seek_expression : goal.decreases-seek_expression
decreases-seek_expression l = 4 * l.depth

abbrev pub decreases-seek_flat : goal.decreases-seek_flat
decreases-seek_flat l = 4 * l.depth + 1

abbrev pub decreases-seek_line : goal.decreases-seek_line
decreases-seek_line l = 4 * l.depth + 3

abbrev pub decreases-seek_pattern : goal.decreases-seek_pattern
decreases-seek_pattern l = 4 * l.depth

abbrev pub invariant-seek_flat-loop-i : goal.invariant-seek_flat-loop-i
invariant-seek_flat-loop-i l = G.Searching (sought_tree l.depth l.v) l.shown (split 9 (part l.from l.end l.query)) l.i (l.children - l.i) (lines_from l.query l.next) l.found (sought_children (sought_tree l.depth l.v) l.shown (split 9 (part l.from l.end l.query)) 0 (to_come (split 9 (part l.from l.end l.query))) (lines_from l.query (l.end + 1))) l.initial.found

abbrev pub invariant-seek_line-loop-i : goal.invariant-seek_line-loop-i
invariant-seek_line-loop-i l = G.Searching (sought_child (sought_tree l.depth l.v) l.v) l.shown (split 9 (part l.from l.end l.query)) l.i (l.children - l.i) (lines_from l.query l.next) l.found (sought_children (sought_child (sought_tree l.depth l.v) l.v) l.shown (split 9 (part l.from l.end l.query)) 0 (to_come (split 9 (part l.from l.end l.query))) (lines_from l.query (l.end + 1))) l.initial.found
