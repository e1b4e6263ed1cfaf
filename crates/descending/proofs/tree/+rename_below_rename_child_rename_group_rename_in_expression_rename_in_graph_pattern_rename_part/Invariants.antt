-- What falls, and what the loops keep. Assumes nothing.
use Prim.Native.Nat.{◌+◌, ◌-◌, ◌*◌}
use mathlib.Core.List.{[], ◌∷◌}
use Rattle.names.specs.bridge.Names.{sizes_of}
use Rattle.words.specs.bridge.Code.{sort_at, groups_in}
use Rattle.algebra.specs.bridge.Table.{expressions}
use Rattle.scoping.specs.bridge.Spots.{groups_below}
use Rattle.scoping.specs.bridge.Skip.{skip, skip_times, skip_child, skip_groups}
use Rattle.descending.specs.bridge.Renamed.{nodes_from}
use Rattle.descending.proofs.Descent as L
use Rattle.descending.proofs.tree.+rename_below_rename_child_rename_group_rename_in_expression_rename_in_graph_pattern_rename_part.Given as goal

abbrev pub decreases-rename_below : goal.decreases-rename_below
decreases-rename_below l = 5 * l.depth + 4

abbrev pub decreases-rename_child : goal.decreases-rename_child
decreases-rename_child l = 5 * l.depth + 2

abbrev pub decreases-rename_group : goal.decreases-rename_group
decreases-rename_group l = 5 * l.depth + 3

abbrev pub decreases-rename_in_expression : goal.decreases-rename_in_expression
decreases-rename_in_expression l = 5 * l.depth

abbrev pub decreases-rename_in_graph_pattern : goal.decreases-rename_in_graph_pattern
decreases-rename_in_graph_pattern l = 5 * l.depth

abbrev pub decreases-rename_part : goal.decreases-rename_part
decreases-rename_part l = 5 * l.depth + 1

abbrev pub invariant-rename_below-loop-groups : goal.invariant-rename_below-loop-groups
invariant-rename_below-loop-groups l = L.Groups l.words l.nodes (sizes_of l.news) (skip l.depth) (l.h.first ∷ l.h.second ∷ []) (skip_groups (skip l.depth) (groups_below (groups_in 3 l.h.groups) (l.h.first ∷ l.h.second ∷ [])) (nodes_from l.words l.nodes l.i)) l.initial.spots l.i l.h.spot l.spots l.r.node l.r.spot l.groups

abbrev pub decreases-rename_below-loop-groups : goal.decreases-rename_below-loop-groups
decreases-rename_below-loop-groups l = l.groups

abbrev pub invariant-rename_group-loop-done : goal.invariant-rename_group-loop-done
invariant-rename_group-loop-done l = L.Going l.words l.nodes (sizes_of l.news) (skip_times (skip_child (skip l.depth) (sort_at l.sort)) (l.times - l.done)) (skip_times (skip_child (skip l.depth) (sort_at l.sort)) l.times (nodes_from l.words l.nodes l.i)) l.initial.spots l.i l.j l.spots l.r.node l.r.spot

abbrev pub invariant-rename_in_expression-loop-done : goal.invariant-rename_in_expression-loop-done
invariant-rename_in_expression-loop-done l = L.Going l.words l.nodes (sizes_of l.news) (skip_times (skip (l.depth - 1) expressions) (l.below - l.done)) (skip_times (skip (l.depth - 1) expressions) l.below (nodes_from l.words l.nodes l.initial.r.node)) l.initial.spots l.initial.r.node l.initial.r.spot l.spots l.r.node l.r.spot
