-- `naming::new_names/standardize_variables` meets its contract. Assumes nothing.
use Rattle.names.proofs.Columns as R
use borrow.Author.Rules.{rules}
use native.Mathlib.Omega.{arith}
use Rattle.naming.proofs.Book as L
use Rattle.naming.proofs.Lookup.{apart-all}
use Rattle.naming.proofs.Numbered as N
use Rattle.naming.proofs.Settled as W
use Rattle.naming.proofs.new_names.standardize_variables.Goals as goal

pub push_joins-j-requires : goal.push_joins-j-requires
push_joins-j-requires c =
    let pre = c.requires in (L.stored-none _ _ _ _ _ _ (R.column-long 0 _ _ (search rules)) (R.column-long 1 _ _ (search rules)) (search rules) (R.column-long 0 _ _ (search rules)) (R.column-long 1 _ _ (search rules)), pre.1, λ i h. let b = pre.2 i h in let n = pre.0 in omega arith)

pub push_all-k-requires : goal.push_all-k-requires
push_all-k-requires c =
    let pre = c.requires in let j = c.push_joins-j.ensures in (pre.0, j.1, N.room-joins _ _ _ _ _ _ _ pre.2 j.0)

pub set_new_names-requires : goal.set_new_names-requires
set_new_names-requires c =
    let pre = c.requires in let k = c.push_all-k.ensures in (pre.0, k.1, apart-all _ _ _ _ (N.all-pushes _ _ _ _ _ c.push_joins-j.ensures.0 k.0), pre.3)

pub returns : goal.returns
returns c =
    W.standard-by _ _ _ _ _ _ _ (N.all-pushes _ _ _ _ _ c.push_joins-j.ensures.0 c.push_all-k.ensures.0) c.set_new_names.ensures
