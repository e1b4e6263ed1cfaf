-- `spelling::after/put_bind` meets its contract. Assumes nothing.
use Rattle.spelling.proofs.Arms as A
use Rattle.spelling.proofs.after.put_bind.Goals as goal

pub returns-then-i-eq0 : goal.returns-then-i-eq0
returns-then-i-eq0 c = A.arm _ _ _ _ c.put_all.ensures (A.first-is _ _ _ c.if-i-eq0.true)

pub put_between-requires : goal.put_between-requires
put_between-requires c = c.requires

pub returns : goal.returns
returns c = A.arm _ _ _ _ c.put_between.ensures (A.later-is _ _ _ c.if-i-eq0.false)
