-- `starts::is_less` meets its contract. Assumes nothing.
use Rattle.starts.proofs.Compared as C
use Rattle.starts.proofs.is_less.Goals as goal

pub returns-then-r-a : goal.returns-then-r-a
returns-then-r-a c = C.less-first _ _ _ c.requires.0 c.if-r-a.true c.requires.1

pub bounds-a-r : goal.bounds-a-r
bounds-a-r c = (C.inside _ _ _ c.requires.0 c.if-r-a.false c.requires.1).0

pub bounds-b-r : goal.bounds-b-r
bounds-b-r c = (C.inside _ _ _ c.requires.0 c.if-r-a.false c.requires.1).1

pub returns : goal.returns
returns c = C.less-by-byte _ _ _ c.requires.0 c.if-r-a.false c.requires.1
