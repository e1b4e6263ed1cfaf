-- `binding::bindings/has_room` meets its contract. Assumes nothing.
use native.Mathlib.Omega.{arith}
use Rattle.emit.proofs.Writing.{wrote-from}
use Rattle.binding.proofs.Whole as Wh
use Rattle.binding.proofs.bindings.has_room.Goals as goal

pub overflow_mul-sets : goal.overflow_mul-sets
overflow_mul-sets c = let k = c.requires.5 in omega arith

pub overflow_add-tree : goal.overflow_add-tree
overflow_add-tree c = let h = c.requires.4 in let k = c.requires.5 in omega arith

pub returns-then-tree-sets : goal.returns-then-tree-sets
returns-then-tree-sets c = Wh.most-holds _ _ _ c.if-tree-sets.true

pub put_bindings-requires : goal.put_bindings-requires
put_bindings-requires c = (c.requires.0, c.requires.1, c.requires.2, c.requires.3)

pub returns : goal.returns
returns c = Wh.size_holds _ _ _ _ _ (wrote-from c.put_bindings.ensures c.new-w.ensures.starts)
