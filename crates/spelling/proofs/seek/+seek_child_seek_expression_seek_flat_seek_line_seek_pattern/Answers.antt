-- Patterns and expressions call one another, remaining depth falling. Assumes nothing.
use mathlib.Core.Bool.{◌&&◌}
use mathlib.Core.Path.{refl, ap}
use native.Mathlib.Omega.{arith}
use Rattle.spelling.proofs.Going as G
use Rattle.spelling.proofs.seek.+seek_child_seek_expression_seek_flat_seek_line_seek_pattern.Goals as goal

-- Patterns and expressions call one another, remaining depth falling. Assumes nothing.

pub seek_child-seek_flat-requires : goal.seek_child-seek_flat-requires
seek_child-seek_flat-requires t c = let m = c.decreases in (omega arith, c.requires)

pub seek_child-returns-in-Flat : goal.seek_child-returns-in-Flat
seek_child-returns-in-Flat t c = G.seek-flat _ _ _ _ _ _ c.sort_at.ensures _ _ c.in-Flat.is c.seek_flat.ensures

pub seek_child-seek_expression-requires : goal.seek_child-seek_expression-requires
seek_child-seek_expression-requires t c = let m = c.decreases in (omega arith, c.requires)

pub seek_child-returns-in-Expression : goal.seek_child-returns-in-Expression
seek_child-returns-in-Expression t c = G.seek-deep _ _ _ _ _ _ c.sort_at.ensures _ _ (λ z. let e = c.in-Expression.is in cc) c.seek_expression.ensures

pub seek_child-seek_pattern-requires : goal.seek_child-seek_pattern-requires
seek_child-seek_pattern-requires t c = let m = c.decreases in (omega arith, c.requires)

pub seek_child-returns-in-Pattern : goal.seek_child-returns-in-Pattern
seek_child-returns-in-Pattern t c = G.seek-deep _ _ _ _ _ _ c.sort_at.ensures _ _ (λ z. let e = c.in-Pattern.is in cc) c.seek_pattern.ensures

pub seek_expression-returns-then-depth-eq0 : goal.seek_expression-returns-then-depth-eq0
seek_expression-returns-then-depth-eq0 t c = G.sought-none _ _ _ _ _ c.if-depth-eq0.true

pub seek_expression-overflow_sub-depth : goal.seek_expression-overflow_sub-depth
seek_expression-overflow_sub-depth t c = let n = c.if-depth-eq0.false in omega arith

pub seek_expression-seek_line-requires : goal.seek_expression-seek_line-requires
seek_expression-seek_line-requires t c = let n = c.if-depth-eq0.false in let m = c.decreases in (omega arith, c.requires)

pub seek_expression-returns : goal.seek_expression-returns
seek_expression-returns t c = G.seek-opens _ _ _ _ _ _ _ c.if-depth-eq0.false c.seek_line.ensures

pub seek_flat-returns-then-end-query : goal.seek_flat-returns-then-end-query
seek_flat-returns-then-end-query t c = G.sought-nothing _ _ _ _ _ _ c.line_end-end.ensures c.if-end-query.true

pub seek_flat-word_at-w-requires : goal.seek_flat-word_at-w-requires
seek_flat-word_at-w-requires t c = (G.line_low _ _ _ c.line_end-end.ensures c.if-end-query.false, c.line_end-end.ensures.high)

pub seek_flat-overflow_add-first : goal.seek_flat-overflow_add-first
seek_flat-overflow_add-first t c =
    let h = c.line_end-end.ensures.high in let n = c.if-end-query.false in let w = c.word_at-w.ensures.0.high in omega arith

pub seek_flat-lines_under-children-requires : goal.seek_flat-lines_under-children-requires
seek_flat-lines_under-children-requires t c = let h = c.line_end-end.ensures.high in let n = c.if-end-query.false in (omega arith, c.requires)

pub seek_flat-is_named-requires : goal.seek_flat-is_named-requires
seek_flat-is_named-requires t c =
    let h = c.line_end-end.ensures.high in let n = c.if-end-query.false in let w = c.word_at-w.ensures.0.high in (omega arith, omega arith)

pub seek_flat-overflow_add-next : goal.seek_flat-overflow_add-next
seek_flat-overflow_add-next t c = let h = c.line_end-end.ensures.high in let n = c.if-end-query.false in omega arith

pub seek_flat-loop-i-init : goal.seek_flat-loop-i-init
seek_flat-loop-i-init t c =
    let w = c.word_at-w.ensures in let q = G.come-here _ _ _ c.line_end-end.ensures c.if-end-query.false _ w.0 _ (c.lines_under-children.ensures.0 _ w.1) in G.searching-start _ _ _ _ _ _ _ (omega (arith, q))

pub seek_flat-seek_expression-child-requires : goal.seek_flat-seek_expression-child-requires
seek_flat-seek_expression-child-requires t c = let m = c.decreases in (omega arith, c.requires)

pub seek_flat-loop-i-preserved : goal.seek_flat-loop-i-preserved
seek_flat-loop-i-preserved t c =
    let v = c.loop-i.invariant in let n = c.loop-i-test.true in let l = c.line_end-end.ensures in let e = c.if-end-query.false in let w = c.word_at-w.ensures in G.searching-child _ _ _ _ _ _ _ _ _ _ v _ (ap (◌&&◌ c.args.shown) (G.shows-here _ _ _ l e _ w.0 _ _ (c.shows_child.ensures _ w.1 _))) (omega arith) _ (omega arith) _ _ c.seek_expression-child.ensures _ refl

pub seek_flat-returns : goal.seek_flat-returns
seek_flat-returns t c =
    let v = c.loop-i.invariant in let n = c.loop-i-test.false in let l = c.line_end-end.ensures in let e = c.if-end-query.false in let w = c.word_at-w.ensures in G.seeks _ _ _ _ _ _ l e _ _ _ (ap (◌&&◌ c.args.shown) (G.names-here _ _ _ l e _ w.0 _ _ (c.is_named.ensures _ w.1))) (G.sought-found _ _ _ _ _ _ _ _ _ _ v (omega arith)) (G.sought-left _ _ _ _ _ _ _ _ _ _ v (omega arith))

pub seek_line-returns-then-end-query : goal.seek_line-returns-then-end-query
seek_line-returns-then-end-query t c = G.sought-nothing _ _ _ _ _ _ c.line_end-end.ensures c.if-end-query.true

pub seek_line-word_at-w-requires : goal.seek_line-word_at-w-requires
seek_line-word_at-w-requires t c = (G.line_low _ _ _ c.line_end-end.ensures c.if-end-query.false, c.line_end-end.ensures.high)

pub seek_line-overflow_add-first : goal.seek_line-overflow_add-first
seek_line-overflow_add-first t c =
    let h = c.line_end-end.ensures.high in let n = c.if-end-query.false in let w = c.word_at-w.ensures.0.high in omega arith

pub seek_line-lines_under-children-requires : goal.seek_line-lines_under-children-requires
seek_line-lines_under-children-requires t c = let h = c.line_end-end.ensures.high in let n = c.if-end-query.false in (omega arith, c.requires)

pub seek_line-is_named-requires : goal.seek_line-is_named-requires
seek_line-is_named-requires t c =
    let h = c.line_end-end.ensures.high in let n = c.if-end-query.false in let w = c.word_at-w.ensures.0.high in (omega arith, omega arith)

pub seek_line-overflow_add-next : goal.seek_line-overflow_add-next
seek_line-overflow_add-next t c = let h = c.line_end-end.ensures.high in let n = c.if-end-query.false in omega arith

pub seek_line-loop-i-init : goal.seek_line-loop-i-init
seek_line-loop-i-init t c =
    let w = c.word_at-w.ensures in let q = G.come-here _ _ _ c.line_end-end.ensures c.if-end-query.false _ w.0 _ (c.lines_under-children.ensures.0 _ w.1) in G.searching-start _ _ _ _ _ _ _ (omega (arith, q))

pub seek_line-seek_child-child-requires : goal.seek_line-seek_child-child-requires
seek_line-seek_child-child-requires t c = let m = c.decreases in (omega arith, c.requires)

pub seek_line-loop-i-preserved : goal.seek_line-loop-i-preserved
seek_line-loop-i-preserved t c =
    let v = c.loop-i.invariant in let n = c.loop-i-test.true in let l = c.line_end-end.ensures in let e = c.if-end-query.false in let w = c.word_at-w.ensures in G.searching-child _ _ _ _ _ _ _ _ _ _ v _ (ap (◌&&◌ c.args.shown) (G.shows-here _ _ _ l e _ w.0 _ _ (c.shows_child.ensures _ w.1 _))) (omega arith) _ (omega arith) _ _ c.seek_child-child.ensures _ refl

pub seek_line-returns : goal.seek_line-returns
seek_line-returns t c =
    let v = c.loop-i.invariant in let n = c.loop-i-test.false in let l = c.line_end-end.ensures in let e = c.if-end-query.false in let w = c.word_at-w.ensures in G.seeks _ _ _ _ _ _ l e _ _ _ (ap (◌&&◌ c.args.shown) (G.names-here _ _ _ l e _ w.0 _ _ (c.is_named.ensures _ w.1))) (G.sought-found _ _ _ _ _ _ _ _ _ _ v (omega arith)) (G.sought-left _ _ _ _ _ _ _ _ _ _ v (omega arith))

pub seek_pattern-returns-then-depth-eq0 : goal.seek_pattern-returns-then-depth-eq0
seek_pattern-returns-then-depth-eq0 t c = G.sought-none _ _ _ _ _ c.if-depth-eq0.true

pub seek_pattern-overflow_sub-depth : goal.seek_pattern-overflow_sub-depth
seek_pattern-overflow_sub-depth t c = let n = c.if-depth-eq0.false in omega arith

pub seek_pattern-seek_line-requires : goal.seek_pattern-seek_line-requires
seek_pattern-seek_line-requires t c = let n = c.if-depth-eq0.false in let m = c.decreases in (omega arith, c.requires)

pub seek_pattern-returns : goal.seek_pattern-returns
seek_pattern-returns t c = G.seek-opens _ _ _ _ _ _ _ c.if-depth-eq0.false c.seek_line.ensures
