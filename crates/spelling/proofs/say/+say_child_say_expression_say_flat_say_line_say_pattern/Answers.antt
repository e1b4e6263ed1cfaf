-- Patterns and expressions call one another, remaining depth falling. Assumes nothing.
use borrow.Author.Rules.{rules}
use mathlib.Core.Path.{refl}
use native.Mathlib.Omega.{arith}
use Rattle.spelling.proofs.Going as G
use Rattle.spelling.proofs.say.+say_child_say_expression_say_flat_say_line_say_pattern.Goals as goal

-- Patterns and expressions call one another, remaining depth falling. Assumes nothing.

pub say_child-say_flat-requires : goal.say_child-say_flat-requires
say_child-say_flat-requires t c =
    let p = c.requires in let m = c.decreases in (omega arith, (p, c.sort_at.ensures.flat c.in-Flat.is))

pub say_child-returns-in-Flat : goal.say_child-returns-in-Flat
say_child-returns-in-Flat t c = G.child-flat _ _ _ _ _ c.sort_at.ensures _ _ _ c.in-Flat.is c.say_flat.ensures

pub say_child-say_expression-requires : goal.say_child-say_expression-requires
say_child-say_expression-requires t c = let m = c.decreases in (omega arith, c.requires)

pub say_child-returns-in-Expression : goal.say_child-returns-in-Expression
say_child-returns-in-Expression t c = G.child-plain _ _ _ _ _ c.sort_at.ensures _ _ _ c.in-Expression.is c.say_expression.ensures

pub say_child-say_tree-requires : goal.say_child-say_tree-requires
say_child-say_tree-requires t c = let m = c.decreases in (omega arith, c.requires)

pub say_child-returns-in-Pattern : goal.say_child-returns-in-Pattern
say_child-returns-in-Pattern t c = G.child-deep _ _ _ _ _ c.sort_at.ensures _ _ _ (λ z. let e = c.in-Pattern.is in cc) c.say_tree.ensures

pub say_expression-returns-then-depth-eq0 : goal.say_expression-returns-then-depth-eq0
say_expression-returns-then-depth-eq0 t c = G.none_left _ _ _ _ _ c.if-depth-eq0.true

pub say_expression-overflow_sub-depth : goal.say_expression-overflow_sub-depth
say_expression-overflow_sub-depth t c = let n = c.if-depth-eq0.false in omega arith

pub say_expression-say_line-requires : goal.say_expression-say_line-requires
say_expression-say_line-requires t c = let n = c.if-depth-eq0.false in let m = c.decreases in (omega arith, c.requires)

pub say_expression-returns : goal.say_expression-returns
say_expression-returns t c = G.opens _ _ _ _ _ _ _ c.if-depth-eq0.false c.say_line.ensures

pub say_flat-returns-then-end-query : goal.say_flat-returns-then-end-query
say_flat-returns-then-end-query t c = G.no_line _ _ _ _ _ _ c.line_end-end.ensures c.if-end-query.true

pub say_flat-word_at-w-requires : goal.say_flat-word_at-w-requires
say_flat-word_at-w-requires t c = (G.line_low _ _ _ c.line_end-end.ensures c.if-end-query.false, c.line_end-end.ensures.high)

pub say_flat-overflow_add-first : goal.say_flat-overflow_add-first
say_flat-overflow_add-first t c =
    let h = c.line_end-end.ensures.high in let n = c.if-end-query.false in let w = c.word_at-w.ensures.0.high in omega arith

pub say_flat-lines_under-children-requires : goal.say_flat-lines_under-children-requires
say_flat-lines_under-children-requires t c = let h = c.line_end-end.ensures.high in let n = c.if-end-query.false in (omega arith, c.requires.0)

pub say_flat-put_before-to-requires : goal.say_flat-put_before-to-requires
say_flat-put_before-to-requires t c =
    let h = c.line_end-end.ensures.high in let n = c.if-end-query.false in let w = c.word_at-w.ensures.0.high in (omega arith, omega arith)

pub say_flat-overflow_add-next : goal.say_flat-overflow_add-next
say_flat-overflow_add-next t c = let h = c.line_end-end.ensures.high in let n = c.if-end-query.false in omega arith

pub say_flat-loop-i-init : goal.say_flat-loop-i-init
say_flat-loop-i-init t c =
    let w = c.word_at-w.ensures in let q = G.come-here _ _ _ c.line_end-end.ensures c.if-end-query.false _ w.0 _ (c.lines_under-children.ensures.0 _ w.1) in (refl, G.going_start _ _ _ _ _ _ _ (omega (arith, q)))

pub say_flat-say_expression-child-requires : goal.say_flat-say_expression-child-requires
say_flat-say_expression-child-requires t c = let p = c.requires in let m = c.decreases in (omega arith, p.0)

pub say_flat-put_after-to-requires : goal.say_flat-put_after-to-requires
say_flat-put_after-to-requires t c =
    let h = c.line_end-end.ensures.high in let n = c.if-end-query.false in let w = c.word_at-w.ensures.0.high in (omega arith, omega arith)

pub say_flat-loop-i-preserved : goal.say_flat-loop-i-preserved
say_flat-loop-i-preserved t c =
    let v = c.loop-i.invariant in let n = c.loop-i-test.true in let l = c.line_end-end.ensures in let e = c.if-end-query.false in let w = c.word_at-w.ensures in (search rules, G.going-child _ _ _ _ _ _ _ _ _ _ v.1 _ (G.flat-under _ _ _ l e c.requires.1) (omega arith) _ _ (omega arith) (omega arith) _ _ _ c.say_expression-child.ensures (G.after-here _ _ _ l e _ w.0 _ _ _ _ _ (c.put_after-to.ensures _ w.1)))

pub say_flat-returns : goal.say_flat-returns
say_flat-returns t c =
    let v = c.loop-i.invariant.1 in let n = c.loop-i-test.false in let l = c.line_end-end.ensures in let e = c.if-end-query.false in let w = c.word_at-w.ensures in G.writes _ _ _ _ _ l e _ _ _ _ (G.before_here _ _ _ l e _ w.0 _ _ _ (c.put_before-to.ensures _ w.1)) (G.all-tokens _ _ _ _ _ _ _ _ _ _ v (omega arith)) (G.all_left _ _ _ _ _ _ _ _ _ _ v (omega arith))

pub say_line-returns-then-end-query : goal.say_line-returns-then-end-query
say_line-returns-then-end-query t c = G.no_line _ _ _ _ _ _ c.line_end-end.ensures c.if-end-query.true

pub say_line-word_at-w-requires : goal.say_line-word_at-w-requires
say_line-word_at-w-requires t c = (G.line_low _ _ _ c.line_end-end.ensures c.if-end-query.false, c.line_end-end.ensures.high)

pub say_line-overflow_add-first : goal.say_line-overflow_add-first
say_line-overflow_add-first t c =
    let h = c.line_end-end.ensures.high in let n = c.if-end-query.false in let w = c.word_at-w.ensures.0.high in omega arith

pub say_line-lines_under-children-requires : goal.say_line-lines_under-children-requires
say_line-lines_under-children-requires t c = let h = c.line_end-end.ensures.high in let n = c.if-end-query.false in (omega arith, c.requires)

pub say_line-put_before-to-requires : goal.say_line-put_before-to-requires
say_line-put_before-to-requires t c =
    let h = c.line_end-end.ensures.high in let n = c.if-end-query.false in let w = c.word_at-w.ensures.0.high in (omega arith, omega arith)

pub say_line-overflow_add-next : goal.say_line-overflow_add-next
say_line-overflow_add-next t c = let h = c.line_end-end.ensures.high in let n = c.if-end-query.false in omega arith

pub say_line-loop-i-init : goal.say_line-loop-i-init
say_line-loop-i-init t c =
    let w = c.word_at-w.ensures in let q = G.come-here _ _ _ c.line_end-end.ensures c.if-end-query.false _ w.0 _ (c.lines_under-children.ensures.0 _ w.1) in (refl, G.going_start _ _ _ _ _ _ _ (omega (arith, q)))

pub say_line-say_child-child-requires : goal.say_line-say_child-child-requires
say_line-say_child-child-requires t c = let m = c.decreases in (omega arith, c.requires)

pub say_line-put_after-to-requires : goal.say_line-put_after-to-requires
say_line-put_after-to-requires t c =
    let h = c.line_end-end.ensures.high in let n = c.if-end-query.false in let w = c.word_at-w.ensures.0.high in (omega arith, omega arith)

pub say_line-loop-i-preserved : goal.say_line-loop-i-preserved
say_line-loop-i-preserved t c =
    let v = c.loop-i.invariant in let n = c.loop-i-test.true in let l = c.line_end-end.ensures in let e = c.if-end-query.false in let w = c.word_at-w.ensures in (search rules, G.going-child _ _ _ _ _ _ _ _ _ _ v.1 _ (G.under-here _ _ _ l e _ w.0 _ (c.manner_of-under.ensures _ w.1)) (omega arith) _ _ (omega arith) (omega arith) _ _ _ c.say_child-child.ensures (G.after-here _ _ _ l e _ w.0 _ _ _ _ _ (c.put_after-to.ensures _ w.1)))

pub say_line-returns : goal.say_line-returns
say_line-returns t c =
    let v = c.loop-i.invariant.1 in let n = c.loop-i-test.false in let l = c.line_end-end.ensures in let e = c.if-end-query.false in let w = c.word_at-w.ensures in G.writes _ _ _ _ _ l e _ _ _ _ (G.before_here _ _ _ l e _ w.0 _ _ _ (c.put_before-to.ensures _ w.1)) (G.all-tokens _ _ _ _ _ _ _ _ _ _ v (omega arith)) (G.all_left _ _ _ _ _ _ _ _ _ _ v (omega arith))

pub say_tree-returns-then-depth-eq0 : goal.say_tree-returns-then-depth-eq0
say_tree-returns-then-depth-eq0 t c = G.none_left _ _ _ _ _ c.if-depth-eq0.true

pub say_tree-overflow_sub-depth : goal.say_tree-overflow_sub-depth
say_tree-overflow_sub-depth t c = let n = c.if-depth-eq0.false in omega arith

pub say_tree-say_line-requires : goal.say_tree-say_line-requires
say_tree-say_line-requires t c = let n = c.if-depth-eq0.false in let m = c.decreases in (omega arith, c.requires)

pub say_tree-returns : goal.say_tree-returns
say_tree-returns t c = G.opens _ _ _ _ _ _ _ c.if-depth-eq0.false c.say_line.ensures
