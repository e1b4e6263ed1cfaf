-- `expressing::express/line_from` meets its contract. Assumes nothing.
use Prim.Native.Nat.{ℕ}
use mathlib.Core.Path.{ap, subst}
use native.Mathlib.Omega.{arith}
use Rattle.cursor.specs.declared.Cursor.{Cursor}
use Rattle.cursor.proofs.Laws.{line-there}
use Rattle.reader.specs.bridge.Lines.{LineEnd}
use Rattle.expressing.proofs.Expressed as X
use Rattle.expressing.proofs.express.line_from.Goals as goal

-- where a cursor is
abbrev at : Cursor → ℕ
at d = d.at

pub next_line-requires : goal.next_line-requires
next_line-requires c = let e = ap at c.moved_to.ensures in omega (arith, e)

pub returns-then-filters-from : goal.returns-then-filters-from
returns-then-filters-from c =
    let e = ap at c.moved_to.ensures in let n = c.next_line.ensures.1 in let low = n.low in let high = n.high in X.no_start _ _ _ c.if-filters-from.true (omega (arith, e, low, high))

pub next_line-requires-2 : goal.next_line-requires-2
next_line-requires-2 c = let e = ap at c.moved_to-2.ensures in let n = c.if-filters-from.false in omega (arith, e, n)

pub returns : goal.returns
returns c =
    subst (λ (k : ℕ). LineEnd c.args.filters.now k c.next_line-2.result.end) (ap at c.moved_to-2.ensures) (line-there _ _ _ c.next_line-2.ensures.1)
