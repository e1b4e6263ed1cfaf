-- `lines::below/amount` meets its contract. Assumes nothing.
use Prim.Native.Nat.{◌/◌, ◌%◌}
use Rattle.lines.proofs.BelowLaw as P
use Rattle.lines.proofs.below.amount.Goals as goal

pub returns-then-by-eq0 : goal.returns-then-by-eq0
returns-then-by-eq0 c = let a = c.args in P.amount-by (a.code % 4) (a.code / 4 % 8) 0 a.first a.second c.if-by-eq0.true

pub returns-then-by-eq1 : goal.returns-then-by-eq1
returns-then-by-eq1 c = let a = c.args in P.amount-by (a.code % 4) (a.code / 4 % 8) 1 a.first a.second c.if-by-eq1.true

pub returns-then-by-eq2 : goal.returns-then-by-eq2
returns-then-by-eq2 c = let a = c.args in P.amount-by (a.code % 4) (a.code / 4 % 8) 2 a.first a.second c.if-by-eq2.true

pub returns-then-by-eq3 : goal.returns-then-by-eq3
returns-then-by-eq3 c = let a = c.args in P.amount-by (a.code % 4) (a.code / 4 % 8) 3 a.first a.second c.if-by-eq3.true

pub returns-then-by-eq4 : goal.returns-then-by-eq4
returns-then-by-eq4 c = let a = c.args in P.amount-by (a.code % 4) (a.code / 4 % 8) 4 a.first a.second c.if-by-eq4.true

pub returns : goal.returns
returns c =
    let a = c.args in P.amount-none (a.code % 4) (a.code / 4 % 8) a.first a.second c.if-by-eq0.false c.if-by-eq1.false c.if-by-eq2.false c.if-by-eq3.false c.if-by-eq4.false
