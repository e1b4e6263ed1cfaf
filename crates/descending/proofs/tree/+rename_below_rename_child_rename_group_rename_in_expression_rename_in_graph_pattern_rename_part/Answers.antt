-- The descent over noted lines: a pattern, what stands below it group by group, an expression, an order or an aggregate. The remaining depth falls from a line to what stands below it. Assumes nothing.
use Prim.Native.Nat.{◌+◌, ◌-◌}
use mathlib.Core.Path.{◌≡◌, refl, ◌∙◌}
use native.Mathlib.Omega.{arith}
use Rattle.descending.proofs.ByNumber as N
use Rattle.descending.proofs.Descent as L
use Rattle.descending.proofs.tree.+rename_below_rename_child_rename_group_rename_in_expression_rename_in_graph_pattern_rename_part.Goals as goal

-- The descent over noted lines: a pattern, what stands below it group by group, an expression, an order or an aggregate. The remaining depth falls from a line to what stands below it. Assumes nothing.

pub rename_below-loop-groups-init : goal.rename_below-loop-groups-init
rename_below-loop-groups-init t c = L.groups-begin _ _ _ c.requires.2 c.requires.0

pub rename_below-amount-times-requires : goal.rename_below-amount-times-requires
rename_below-amount-times-requires t c = (c.requires.3, c.requires.4)

pub rename_below-rename_group-r-requires : goal.rename_below-rename_group-r-requires
rename_below-rename_group-r-requires t c = (let p = c.decreases in omega (arith, p), (L.went-in c.loop-groups.invariant.went, c.requires.1))

pub rename_below-loop-groups-smaller : goal.rename_below-loop-groups-smaller
rename_below-loop-groups-smaller t c = let z = c.loop-groups-test.true in omega (arith, z)

pub rename_below-loop-groups-preserved : goal.rename_below-loop-groups-preserved
rename_below-loop-groups-preserved t c =
    L.groups-next _ _ c.loop-groups.invariant _ _ c.loop-groups-test.true refl c.amount-times.ensures c.rename_group-r.ensures

pub rename_below-shape_of-spots : goal.rename_below-shape_of-spots
rename_below-shape_of-spots t c = c.loop-groups.invariant.went.all.all.long

pub rename_below-returns : goal.rename_below-returns
rename_below-returns t c = L.groups-done _ _ c.loop-groups.invariant c.loop-groups-test.false

pub rename_child-rename_in_graph_pattern-requires : goal.rename_child-rename_in_graph_pattern-requires
rename_child-rename_in_graph_pattern-requires t c = (let p = c.decreases in omega (arith, p), (c.requires.0, c.requires.1))

pub rename_child-shape_of-spots-then-sort-eq2 : goal.rename_child-shape_of-spots-then-sort-eq2
rename_child-shape_of-spots-then-sort-eq2 t c = c.rename_in_graph_pattern.ensures.went.all.all.long

pub rename_child-returns-then-sort-eq2 : goal.rename_child-returns-then-sort-eq2
rename_child-returns-then-sort-eq2 t c = L.turned (N.child-pattern _ _ c.args.sort c.if-sort-eq2.true) c.rename_in_graph_pattern.ensures

pub rename_child-rename_in_expression-requires : goal.rename_child-rename_in_expression-requires
rename_child-rename_in_expression-requires t c = (let p = c.decreases in omega (arith, p), (c.requires.0, c.requires.1))

pub rename_child-shape_of-spots-then-sort-eq3 : goal.rename_child-shape_of-spots-then-sort-eq3
rename_child-shape_of-spots-then-sort-eq3 t c = c.rename_in_expression.ensures.went.all.all.long

pub rename_child-returns-then-sort-eq3 : goal.rename_child-returns-then-sort-eq3
rename_child-returns-then-sort-eq3 t c = L.turned (N.child-expression _ _ c.args.sort c.if-sort-eq3.true) c.rename_in_expression.ensures

pub rename_child-rename_part-requires : goal.rename_child-rename_part-requires
rename_child-rename_part-requires t c = (let p = c.decreases in omega (arith, p), (c.requires.0, c.requires.1))

pub rename_child-shape_of-spots : goal.rename_child-shape_of-spots
rename_child-shape_of-spots t c = c.rename_part.ensures.went.all.all.long

pub rename_child-returns : goal.rename_child-returns
rename_child-returns t c =
    L.turned (N.child-part _ _ c.args.sort c.requires.2 c.if-sort-eq2.false c.if-sort-eq3.false) c.rename_part.ensures

pub rename_group-returns-then-not-is_noted : goal.rename_group-returns-then-not-is_noted
rename_group-returns-then-not-is_noted t c =
    L.nothing _ (N.group-none _ c.args.sort c.args.times _ _ c.is_noted.ensures c.if-not-is_noted.true-raw) c.requires.0

pub rename_group-loop-done-init : goal.rename_group-loop-done-init
rename_group-loop-done-init t c =
    let none : c.args.times - 0 ≡ c.args.times = omega arith in rw none (L.times-begin _ _ c.requires.0)

pub rename_group-rename_child-r-requires : goal.rename_group-rename_child-r-requires
rename_group-rename_child-r-requires t c =
    (let p = c.decreases in omega (arith, p), (L.went-in c.loop-done.invariant.went, c.requires.1, N.group-noted c.args.sort _ c.is_noted.ensures c.if-not-is_noted.false-raw))

pub rename_group-loop-done-preserved : goal.rename_group-loop-done-preserved
rename_group-loop-done-preserved t c =
    let less : c.args.times - (c.loop-done.done + 1) ≡ c.args.times - c.loop-done.done - 1 = omega arith in rw less (L.times-next _ _ c.loop-done.invariant (let z = c.loop-done-test.true in omega (arith, z)) c.rename_child-r.ensures)

pub rename_group-shape_of-spots : goal.rename_group-shape_of-spots
rename_group-shape_of-spots t c = c.loop-done.invariant.went.all.all.long

pub rename_group-returns : goal.rename_group-returns
rename_group-returns t c = L.times-done _ _ c.loop-done.invariant (let z = c.loop-done-test.false in omega (arith, z))

pub rename_in_expression-returns-then-depth-eq0 : goal.rename_in_expression-returns-then-depth-eq0
rename_in_expression-returns-then-depth-eq0 t c = L.stopped _ _ c.if-depth-eq0.true c.requires.0

pub rename_in_expression-returns-then-nodes-i : goal.rename_in_expression-returns-then-nodes-i
rename_in_expression-returns-then-nodes-i t c = L.over _ _ c.if-nodes-i.true c.requires.0

pub rename_in_expression-rename_line-h-requires : goal.rename_in_expression-rename_line-h-requires
rename_in_expression-rename_line-h-requires t c = (c.if-nodes-i.false, c.requires.0, c.requires.1)

pub rename_in_expression-overflow_sub-depth : goal.rename_in_expression-overflow_sub-depth
rename_in_expression-overflow_sub-depth t c = let z = c.if-depth-eq0.false in omega (arith, z)

pub rename_in_expression-rename_in_graph_pattern-requires : goal.rename_in_expression-rename_in_graph_pattern-requires
rename_in_expression-rename_in_graph_pattern-requires t c =
    (let z = c.if-depth-eq0.false in let p = c.decreases in omega (arith, p), (L.went-in c.rename_line-h.ensures.went, c.requires.1))

pub rename_in_expression-shape_of-spots-then-h-eq2 : goal.rename_in_expression-shape_of-spots-then-h-eq2
rename_in_expression-shape_of-spots-then-h-eq2 t c = c.rename_in_graph_pattern.ensures.went.all.all.long ∙ c.rename_line-h.ensures.went.all.all.long

pub rename_in_expression-returns-then-h-eq2 : goal.rename_in_expression-returns-then-h-eq2
rename_in_expression-returns-then-h-eq2 t c =
    L.exists-line c.if-nodes-i.false c.rename_line-h.ensures.went c.rename_line-h.ensures.head _ c.if-depth-eq0.false c.if-h-eq2.true c.rename_in_graph_pattern.ensures

pub rename_in_expression-amount-below-requires : goal.rename_in_expression-amount-below-requires
rename_in_expression-amount-below-requires t c = let head = c.rename_line-h.ensures.head in (head.first_small, head.second_small)

pub rename_in_expression-loop-done-init : goal.rename_in_expression-loop-done-init
rename_in_expression-loop-done-init t c =
    let none : c.amount-below.result - 0 ≡ c.amount-below.result = omega arith in rw none (L.times-begin _ _ (L.went-in c.rename_line-h.ensures.went))

pub rename_in_expression-overflow_sub-depth-in-loop-done : goal.rename_in_expression-overflow_sub-depth-in-loop-done
rename_in_expression-overflow_sub-depth-in-loop-done t c = let z = c.if-depth-eq0.false in omega (arith, z)

pub rename_in_expression-rename_in_expression-r-requires : goal.rename_in_expression-rename_in_expression-r-requires
rename_in_expression-rename_in_expression-r-requires t c =
    (let z = c.if-depth-eq0.false in let p = c.decreases in omega (arith, p), (L.went-in c.loop-done.invariant.went, c.requires.1))

pub rename_in_expression-loop-done-preserved : goal.rename_in_expression-loop-done-preserved
rename_in_expression-loop-done-preserved t c =
    let less : c.amount-below.result - (c.loop-done.done + 1) ≡ c.amount-below.result - c.loop-done.done - 1 = omega arith in rw less (L.times-next _ _ c.loop-done.invariant (let z = c.loop-done-test.true in omega (arith, z)) c.rename_in_expression-r.ensures)

pub rename_in_expression-shape_of-spots : goal.rename_in_expression-shape_of-spots
rename_in_expression-shape_of-spots t c = c.loop-done.invariant.went.all.all.long ∙ c.rename_line-h.ensures.went.all.all.long

pub rename_in_expression-returns : goal.rename_in_expression-returns
rename_in_expression-returns t c =
    L.expression-line c.if-nodes-i.false c.rename_line-h.ensures.went c.rename_line-h.ensures.head _ _ c.if-depth-eq0.false c.if-h-eq2.false c.amount-below.ensures (L.times-done _ _ c.loop-done.invariant (let z = c.loop-done-test.false in omega (arith, z)))

pub rename_in_graph_pattern-returns-then-depth-eq0 : goal.rename_in_graph_pattern-returns-then-depth-eq0
rename_in_graph_pattern-returns-then-depth-eq0 t c = L.stopped _ _ c.if-depth-eq0.true c.requires.0

pub rename_in_graph_pattern-returns-then-nodes-i : goal.rename_in_graph_pattern-returns-then-nodes-i
rename_in_graph_pattern-returns-then-nodes-i t c = L.over _ _ c.if-nodes-i.true c.requires.0

pub rename_in_graph_pattern-rename_line-h-requires : goal.rename_in_graph_pattern-rename_line-h-requires
rename_in_graph_pattern-rename_line-h-requires t c = (c.if-nodes-i.false, c.requires.0, c.requires.1)

pub rename_in_graph_pattern-overflow_sub-depth : goal.rename_in_graph_pattern-overflow_sub-depth
rename_in_graph_pattern-overflow_sub-depth t c = let z = c.if-depth-eq0.false in omega (arith, z)

pub rename_in_graph_pattern-rename_below-requires : goal.rename_in_graph_pattern-rename_below-requires
rename_in_graph_pattern-rename_below-requires t c =
    let line = c.rename_line-h.ensures in (let z = c.if-depth-eq0.false in let p = c.decreases in omega (arith, p), (L.went-in line.went, c.requires.1, line.head.small, line.head.first_small, line.head.second_small))

pub rename_in_graph_pattern-shape_of-spots : goal.rename_in_graph_pattern-shape_of-spots
rename_in_graph_pattern-shape_of-spots t c = c.rename_below.ensures.went.all.all.long ∙ c.rename_line-h.ensures.went.all.all.long

pub rename_in_graph_pattern-returns : goal.rename_in_graph_pattern-returns
rename_in_graph_pattern-returns t c =
    L.pattern-line c.if-nodes-i.false c.rename_line-h.ensures.went c.rename_line-h.ensures.head _ c.if-depth-eq0.false c.rename_below.ensures

pub rename_part-returns-then-nodes-i : goal.rename_part-returns-then-nodes-i
rename_part-returns-then-nodes-i t c = L.part-over _ c.if-nodes-i.true c.requires.0

pub rename_part-rename_line-h-requires : goal.rename_part-rename_line-h-requires
rename_part-rename_line-h-requires t c = (c.if-nodes-i.false, c.requires.0, c.requires.1)

pub rename_part-amount-requires : goal.rename_part-amount-requires
rename_part-amount-requires t c = let head = c.rename_line-h.ensures.head in (head.first_small, head.second_small)

pub rename_part-shape_of-spots-then-amount-eq0 : goal.rename_part-shape_of-spots-then-amount-eq0
rename_part-shape_of-spots-then-amount-eq0 t c = c.rename_line-h.ensures.went.all.all.long

pub rename_part-returns-then-amount-eq0 : goal.rename_part-returns-then-amount-eq0
rename_part-returns-then-amount-eq0 t c =
    L.part-alone c.if-nodes-i.false c.rename_line-h.ensures.went c.rename_line-h.ensures.head _ _ c.amount.ensures c.if-amount-eq0.true

pub rename_part-rename_in_expression-requires : goal.rename_part-rename_in_expression-requires
rename_part-rename_in_expression-requires t c = (let p = c.decreases in omega (arith, p), (L.went-in c.rename_line-h.ensures.went, c.requires.1))

pub rename_part-shape_of-spots : goal.rename_part-shape_of-spots
rename_part-shape_of-spots t c = c.rename_in_expression.ensures.went.all.all.long ∙ c.rename_line-h.ensures.went.all.all.long

pub rename_part-returns : goal.rename_part-returns
rename_part-returns t c =
    L.part-line c.if-nodes-i.false c.rename_line-h.ensures.went c.rename_line-h.ensures.head _ _ c.amount.ensures c.if-amount-eq0.false c.rename_in_expression.ensures
