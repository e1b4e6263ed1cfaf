-- `renaming::rename/is_room` meets its contract. Assumes nothing.
use Rattle.emit.proofs.Writing.{wrote-by-from}
use Rattle.renaming.proofs.Tables as T
use Rattle.renaming.proofs.Renamed as R
use Rattle.renaming.proofs.rename.is_room.Goals as goal

pub returns-then-tree-room : goal.returns-then-tree-room
returns-then-tree-room c = let k = c.requires in R.rename-roomy _ _ _ _ _ _ _ _ _ k.0 k.1 _ c.if-tree-room.true

pub put_renamed-requires : goal.put_renamed-requires
put_renamed-requires c = T.renaming-ready _ _ _ _ _ _ _ c.requires.0

pub returns : goal.returns
returns c = let k = c.requires in R.rename-measured _ _ _ _ _ _ _ _ _ k.0 k.1 _ _ _ _ (wrote-by-from c.put_renamed.ensures c.new-w.ensures.starts)
