-- `starts::is_before` meets its contract. Assumes nothing.
use Rattle.starts.proofs.Compared as C
use Rattle.starts.proofs.is_before.Goals as goal

pub returns-then-r-a : goal.returns-then-r-a
returns-then-r-a c = C.not-before-first _ _ _ c.shared-r.ensures c.if-r-a.true

pub returns-then-r-b : goal.returns-then-r-b
returns-then-r-b c = C.not-before-second _ _ _ c.shared-r.ensures c.if-r-b.true

pub bounds-a-r : goal.bounds-a-r
bounds-a-r c = (C.inside _ _ _ c.shared-r.ensures c.if-r-a.false c.if-r-b.false).0

pub bounds-b-r : goal.bounds-b-r
bounds-b-r c = (C.inside _ _ _ c.shared-r.ensures c.if-r-a.false c.if-r-b.false).1

pub returns : goal.returns
returns c = C.before-by-byte _ _ _ c.shared-r.ensures c.if-r-a.false c.if-r-b.false
