-- What falls, and what the loops keep. Assumes nothing.
use Prim.Native.Nat.{◌+◌, ◌-◌, ◌*◌}
use mathlib.Core.Path.{◌≡◌}
use lib.ListN.{length}
use Rattle.text.specs.Text.{lines_from, split, part}
use Rattle.emit.specs.bridge.Emit.{em}
use Rattle.filtering.specs.bridge.Copying.{to_come}
use Rattle.spelling.specs.bridge.Saying.{said_children, said_child, said_tree}
use Rattle.spelling.proofs.Going as G
use Rattle.spelling.proofs.say.+say_child_say_expression_say_flat_say_line_say_pattern.Given as goal

abbrev pub decreases-say_child : goal.decreases-say_child
decreases-say_child l = 4 * l.depth + 2

abbrev pub decreases-say_expression : goal.decreases-say_expression
decreases-say_expression l = 4 * l.depth

abbrev pub decreases-say_flat : goal.decreases-say_flat
decreases-say_flat l = 4 * l.depth + 1

abbrev pub decreases-say_line : goal.decreases-say_line
decreases-say_line l = 4 * l.depth + 3

abbrev pub decreases-say_tree : goal.decreases-say_tree
decreases-say_tree l = 4 * l.depth

abbrev pub invariant-say_flat-loop-i : goal.invariant-say_flat-loop-i
invariant-say_flat-loop-i l = (length l.out ≡ length l.initial.out) × G.Going (said_tree l.depth) (split 9 (part l.from l.end l.query)) (lines_from l.query (l.end + 1)) l.i (l.children - l.i) (lines_from l.query l.next) (em l.to l.out) (said_children (said_tree l.depth) (split 9 (part l.from l.end l.query)) (lines_from l.query (l.end + 1)) 0 (to_come (split 9 (part l.from l.end l.query))) (lines_from l.query (l.end + 1))) (em l.initial.to l.initial.out)

abbrev pub invariant-say_line-loop-i : goal.invariant-say_line-loop-i
invariant-say_line-loop-i l = (length l.out ≡ length l.initial.out) × G.Going (said_child (said_tree l.depth)) (split 9 (part l.from l.end l.query)) (lines_from l.query (l.end + 1)) l.i (l.children - l.i) (lines_from l.query l.next) (em l.to l.out) (said_children (said_child (said_tree l.depth)) (split 9 (part l.from l.end l.query)) (lines_from l.query (l.end + 1)) 0 (to_come (split 9 (part l.from l.end l.query))) (lines_from l.query (l.end + 1))) (em l.initial.to l.initial.out)
