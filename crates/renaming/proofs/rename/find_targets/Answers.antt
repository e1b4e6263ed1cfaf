-- `renaming::rename/find_targets` meets its contract. Assumes nothing.
use mathlib.Core.Path.{sym, ◌∙◌}
use native.Mathlib.Omega.{arith}
use Rattle.names.proofs.Columns.{column-length, column-long}
use Rattle.renaming.proofs.Targets as T
use Rattle.renaming.proofs.rename.find_targets.Goals as goal

pub loop-i-init : goal.loop-i-init
loop-i-init c = let p = c.requires in T.begun _ _ _ _ _ p.0 _ _ (column-long 0 _ _ p.1, column-long 1 _ _ p.1) p.2

pub offset_bounds-keys-i : goal.offset_bounds-keys-i
offset_bounds-keys-i c = let few = c.requires.0.few in omega arith

pub bounds-keys-i : goal.bounds-keys-i
bounds-keys-i c = let room = c.requires.0.room in omega arith

pub set_target-requires : goal.set_target-requires
set_target-requires c =
    let p = c.requires in let u = c.loop-i.invariant in (sym (column-length 0 _) ∙ u.entries.0, p.3, T.next-some _ _ _ _ _ p.0 _ _ _ u c.loop-i-test.true)

pub loop-i-preserved : goal.loop-i-preserved
loop-i-preserved c =
    T.next-pair _ _ _ _ _ c.requires.0 _ _ _ c.loop-i.invariant c.loop-i-test.true _ _ c.set_target.ensures

pub returns : goal.returns
returns c = T.ended _ _ _ _ _ c.requires.0 _ _ _ c.loop-i.invariant c.loop-i-test.false
