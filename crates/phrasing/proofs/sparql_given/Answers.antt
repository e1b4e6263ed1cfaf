-- `phrasing::sparql_given` meets its contract. Assumes nothing.
use native.Mathlib.Omega.{arith}
use Rattle.phrasing.proofs.Call as K
use Rattle.phrasing.proofs.sparql_given.Goals as goal

pub sparql_of-requires : goal.sparql_of-requires
sparql_of-requires c =
    let t = c.tree_start.ensures in let p = c.requires in ((p.0.0, ((t.given p.0.0 p.0.1).stands c.if-tree_start-query.true).0), p.1)

pub returns-then-tree_start-query : goal.returns-then-tree_start-query
returns-then-tree_start-query c =
    K.as-it-is _ _ _ _ c.sparql_of.result (c.tree_start.ensures.same c.if-tree_start-query.true) c.sparql_of.ensures

pub returns : goal.returns
returns c =
    let t = c.tree_start.ensures in let h = t.high in let n = c.if-tree_start-query.false in let p = c.requires in K.empty-file _ _ p.0.0 _ p.0.1 ((t.given p.0.0 p.0.1).alone (omega arith))
