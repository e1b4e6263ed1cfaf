-- A filter calls itself on its parts, the lines left falling. Assumes nothing.
use mathlib.Core.Path.{refl, ap, ◌∙◌}
use native.Mathlib.Omega.{arith}
use Rattle.names.specs.bridge.Names.{names_in}
use Rattle.cursor.specs.declared.Cursor.{Cursor}
use Rattle.expressing.proofs.Expressed as X
use Prim.Native.Nat.{ℕ}
use Rattle.expressing.proofs.express.+tree_to_expression.Goals as goal

-- where a cursor is, and what it awaits
abbrev at : Cursor → ℕ
at d = d.at

abbrev awaited : Cursor → ℕ
awaited d = d.awaited

pub returns-then-left-eq0 : goal.returns-then-left-eq0
returns-then-left-eq0 t c =
    let a = c.args in let cs = names_in a.tree.now a.columns.now a.n in record { same = refl; walks = X.none_left cs _ _ _ _ _ refl c.if-left-eq0.true refl }

pub returns-then-end-filters : goal.returns-then-end-filters
returns-then-end-filters t c =
    let a = c.args in let cs = names_in a.tree.now a.columns.now a.n in record { same = refl; walks = X.no_line cs _ _ _ _ _ refl c.if-left-eq0.false _ c.line_from-line.ensures c.if-end-filters.true refl }

pub word_at-word-requires : goal.word_at-word-requires
word_at-word-requires t c =
    let a = c.args in let cs = names_in a.tree.now a.columns.now a.n in (X.line_low cs _ _ a.left _ c.if-left-eq0.false c.line_from-line.ensures c.if-end-filters.false, c.line_from-line.ensures.high)

pub overflow_add-first : goal.overflow_add-first
overflow_add-first t c = let h = c.line_from-line.ensures.high in let w = c.word_at-word.ensures.0.high in omega arith

pub put_line-expressed-requires : goal.put_line-expressed-requires
put_line-expressed-requires t c =
    let h = c.line_from-line.ensures.high in let n = c.if-end-filters.false in let w = c.word_at-word.ensures.0.high in (c.requires.0, omega arith, omega arith)

pub parts_below-parts-requires : goal.parts_below-parts-requires
parts_below-parts-requires t c =
    let h = c.line_from-line.ensures.high in let n = c.if-end-filters.false in (omega arith, c.requires.1)

pub line_done-requires : goal.line_done-requires
line_done-requires t c =
    let h = c.line_from-line.ensures.high in let n = c.if-end-filters.false in let g = c.well_formed in omega (arith, h, n, g)

pub loop-c-init : goal.loop-c-init
loop-c-init t c =
    let a = c.args in let cs = names_in a.tree.now a.columns.now a.n in let w = c.word_at-word.ensures in let k = X.parts-here cs _ _ a.left _ c.if-left-eq0.false c.line_from-line.ensures c.if-end-filters.false _ w.0 _ (c.parts_below-parts.ensures _ w.1) in let e = ap at c.awaiting-c.ensures ∙ ap at c.line_done.ensures in let i = ap awaited c.awaiting-c.ensures ∙ k in (refl, rw (e, i) (X.going_start _ _ _ _ _))

pub overflow_sub-left : goal.overflow_sub-left
overflow_sub-left t c = let n = c.if-left-eq0.false in omega arith

pub tree_to_expression-part-requires : goal.tree_to_expression-part-requires
tree_to_expression-part-requires t c = let n = c.if-left-eq0.false in let m = c.decreases in (omega arith, c.requires)

pub child_done-c-requires : goal.child_done-c-requires
child_done-c-requires t c = let t = c.loop-c-test.true in omega (arith, t)

pub loop-c-smaller : goal.loop-c-smaller
loop-c-smaller t c = let e = ap awaited c.child_done-c.ensures in let t = c.loop-c-test.true in omega (arith, e, t)

pub loop-c-preserved : goal.loop-c-preserved
loop-c-preserved t c =
    let e = ap at c.child_done-c.ensures ∙ ap at c.moved_to.ensures in let i = ap awaited c.child_done-c.ensures in (c.tree_to_expression-part.ensures.same ∙ c.loop-c.invariant.0, rw (e, i) (X.going_next _ _ _ _ _ _ _ _ _ c.loop-c.invariant.1 c.loop-c-test.true _ _ c.tree_to_expression-part.ensures.walks _ c.both-expressed.ensures))

pub returns : goal.returns
returns t c =
    let a = c.args in let cs = names_in a.tree.now a.columns.now a.n in let w = c.word_at-word.ensures in let l = c.loop-c.invariant.1 in let n = c.loop-c-test.false in let h = c.put_line-expressed.ensures _ w.1 in record {
      same = c.loop-c.invariant.0 ∙ h.lines.same;
      walks = X.walked cs _ _ a.left _ c.if-left-eq0.false c.line_from-line.ensures c.if-end-filters.false _ _ _ _ (X.headed cs _ _ a.left _ c.if-left-eq0.false c.line_from-line.ensures c.if-end-filters.false _ w.0 _ _ _ h) _ (X.all-expressed _ _ _ _ _ _ _ _ _ l n) (X.all_left _ _ _ _ _ _ _ _ _ l n) (X.all_lines _ _ _ _ _ _ _ _ _ l n);
    }
