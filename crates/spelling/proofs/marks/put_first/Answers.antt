-- `spelling::marks/put_first` meets its contract. Assumes nothing.
use Rattle.spelling.proofs.Arms as A
use Rattle.spelling.proofs.marks.put_first.Goals as goal

pub returns-then-i-eq0 : goal.returns-then-i-eq0
returns-then-i-eq0 c = A.arm _ _ _ _ c.put_all.ensures (A.first-is _ _ _ c.if-i-eq0.true)

pub returns : goal.returns
returns c = A.arm _ _ _ _ c.put_all-2.ensures (A.later-is _ _ _ c.if-i-eq0.false)
