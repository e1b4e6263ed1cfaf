-- `spelling::marks/put_optional` meets its contract. Assumes nothing.
use Rattle.spelling.proofs.Arms as A
use Rattle.spelling.proofs.marks.put_optional.Goals as goal

pub returns-then-i-eq0 : goal.returns-then-i-eq0
returns-then-i-eq0 c = A.arm _ _ _ _ c.put_all.ensures (A.optional-first _ _ c.if-i-eq0.true)

pub returns-then-i-eq1 : goal.returns-then-i-eq1
returns-then-i-eq1 c = A.arm _ _ _ _ c.put_first.ensures (A.optional-second _ _ c.if-i-eq1.true)

pub returns : goal.returns
returns c = A.arm _ _ _ _ c.put_all-2.ensures (A.optional-third _ _ c.if-i-eq0.false c.if-i-eq1.false)
