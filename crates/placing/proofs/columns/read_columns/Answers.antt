-- `placing::columns/read_columns` meets its contract. Assumes nothing.
use Prim.Native.Nat.{ℕ}
use mathlib.Core.Path.{ap, ap₂, subst, ◌∙◌}
use native.Mathlib.Nat.{zero-add}
use native.Mathlib.Omega.{arith}
use lib.ListN.{length, length-set}
use Rattle.cursor.specs.bridge.Cursor.{left}
use Rattle.cursor.proofs.Laws.{line-there, reads_at, reads_none}
use Rattle.reader.specs.bridge.Lines.{LineEnd}
use Rattle.placing.proofs.Listed as L
use Rattle.placing.proofs.columns.read_columns.Invariants.{at}
use Rattle.placing.proofs.columns.read_columns.Goals as goal

pub returns-then-tree-line : goal.returns-then-tree-line
returns-then-tree-line c = (omega arith, L.none-there _ _ _ _ c.if-tree-line.true)

pub next_line-l-requires : goal.next_line-l-requires
next_line-l-requires c = let e = ap at c.moved_to.ensures in let n = c.if-tree-line.false in omega (arith, e, n)

pub returns-then-l-tree : goal.returns-then-l-tree
returns-then-l-tree c =
    let l = subst (λ (k : ℕ). LineEnd c.args.tree.now k c.next_line-l.result.end) (ap at c.moved_to.ensures) (line-there _ _ _ c.next_line-l.ensures.1) in (omega arith, L.no-columns _ _ _ l _ _ c.if-l-tree.true)

pub field_end-requires : goal.field_end-requires
field_end-requires c =
    let l = subst (λ (k : ℕ). LineEnd c.args.tree.now k c.next_line-l.result.end) (ap at c.moved_to.ensures) (line-there _ _ _ c.next_line-l.ensures.1) in (L.line_low _ _ _ l c.if-l-tree.false, l.high)

pub behind-c-requires : goal.behind-c-requires
behind-c-requires c =
    let h = c.next_line-l.ensures.1.high in let p = c.requires.0 in (c.field_end.ensures.high, omega (arith, h, p))

pub loop-field-init : goal.loop-field-init
loop-field-init c =
    let l = subst (λ (k : ℕ). LineEnd c.args.tree.now k c.next_line-l.result.end) (ap at c.moved_to.ensures) (line-there _ _ _ c.next_line-l.ensures.1) in let b = c.behind-c.ensures in let i = b.1 in let h = l.high in let m = c.if-l-tree.false in let e = ap₂ (left c.args.tree.now) b.0 b.1 ∙ L.columns-on _ _ _ l m _ c.field_end.ensures in (c.requires.2, omega (arith, i, h, m), zero-add _ ∙ ap length e, L.columns-start _ _ _ _ ∙ e)

pub next_field-requires : goal.next_field-requires
next_field-requires c = c.loop-field.invariant.1

pub returns : goal.returns
returns c =
    let v = c.loop-field.invariant in let z = reads_none _ _ _ c.next_field.ensures c.in_default.is in let e = L.columns-few _ _ _ _ _ z v.2 in let p = c.requires.1 in (omega arith, L.columns-done _ _ _ _ _ _ z v.3)

pub overflow_sub-columns : goal.overflow_sub-columns
overflow_sub-columns c =
    let v = c.loop-field.invariant in let g = reads_at _ _ _ _ _ c.next_field.ensures c.in-Some.is in let p = c.requires in let t = L.columns-fit _ _ _ _ g v.1 _ _ v.2 p.1 p.0 in let x = t.0 in let y = t.1 in let z = t.2 in omega (arith, y)

pub overflow_cast-columns : goal.overflow_cast-columns
overflow_cast-columns c =
    let v = c.loop-field.invariant in let g = reads_at _ _ _ _ _ c.next_field.ensures c.in-Some.is in let p = c.requires in let t = L.columns-fit _ _ _ _ g v.1 _ _ v.2 p.1 p.0 in let x = t.0 in let y = t.1 in let z = t.2 in omega (arith, y, z)

pub overflow_cast-columns-in-Some : goal.overflow_cast-columns-in-Some
overflow_cast-columns-in-Some c =
    let v = c.loop-field.invariant in let g = reads_at _ _ _ _ _ c.next_field.ensures c.in-Some.is in let p = c.requires in let t = L.columns-fit _ _ _ _ g v.1 _ _ v.2 p.1 p.0 in let x = t.0 in let y = t.1 in let z = t.2 in omega (arith, z)

pub bounds-columns-n : goal.bounds-columns-n
bounds-columns-n c =
    let v = c.loop-field.invariant in let g = reads_at _ _ _ _ _ c.next_field.ensures c.in-Some.is in let p = c.requires in let t = L.columns-fit _ _ _ _ g v.1 _ _ v.2 p.1 p.0 in let x = t.0 in let y = t.1 in let z = t.2 in let a = v.0 in omega (arith, x, a)

pub overflow_add-n : goal.overflow_add-n
overflow_add-n c =
    let v = c.loop-field.invariant in let g = reads_at _ _ _ _ _ c.next_field.ensures c.in-Some.is in let p = c.requires in let t = L.columns-fit _ _ _ _ g v.1 _ _ v.2 p.1 p.0 in let x = t.0 in let y = t.1 in let z = t.2 in omega (arith, x)

pub loop-field-smaller : goal.loop-field-smaller
loop-field-smaller c =
    let v = c.loop-field.invariant in let g = reads_at _ _ _ _ _ c.next_field.ensures c.in-Some.is in let a = g.at in let b = g.end in let low = g.first.low in let high = g.first.high in omega (arith, a, b, low, high)

pub loop-field-preserved : goal.loop-field-preserved
loop-field-preserved c =
    let v = c.loop-field.invariant in let g = reads_at _ _ _ _ _ c.next_field.ensures c.in-Some.is in let p = c.requires in let t = L.columns-fit _ _ _ _ g v.1 _ _ v.2 p.1 p.0 in let x = t.0 in let y = t.1 in let z = t.2 in let a = v.0 in let b = g.end in let i = v.1 in (simp length-set a, omega (arith, b, i), L.columns-less _ _ _ _ g i _ _ v.2, L.columns-next _ _ _ _ g i _ c.loop-field.columns _ (omega (arith, a, x)) v.3)
