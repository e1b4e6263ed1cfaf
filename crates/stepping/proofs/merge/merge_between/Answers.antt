-- `stepping::merge/merge_between` meets its contract. Assumes nothing.
use Rattle.stepping.proofs.Turns.{between}
use Rattle.stepping.proofs.merge.merge_between.Goals as goal

pub returns : goal.returns
returns c =
    let m = c.merge_step in let r = c.map_err in between _ _ _ _ m.result m.ensures c.requires.2 m.auto.out r.result r.ensures.cases
