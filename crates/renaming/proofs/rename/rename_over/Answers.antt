-- `renaming::rename/rename_over` meets its contract. Assumes nothing.
use Rattle.std.proofs.Common.{rules}
use borrow.Author.Tests.{not-true, not-false}
use native.Mathlib.Omega.{arith}
use Rattle.emit.proofs.Writing.{wrote-by-from}
use Rattle.renaming.proofs.Tables as T
use Rattle.renaming.proofs.Renamed as R
use Rattle.renaming.proofs.rename.rename_over.Goals as goal

pub returns-then-not-is_room : goal.returns-then-not-is_room
returns-then-not-is_room c =
    let k = c.requires in R.rename-short _ _ _ _ _ _ _ _ _ k.0 k.1 _ (c.is_room.ensures.1 (not-true c.is_room.result c.if-not-is_room.true-raw))

pub put_renamed-requires : goal.put_renamed-requires
put_renamed-requires c = T.renaming-ready _ _ _ _ _ _ _ c.requires.0

pub returns : goal.returns
returns c =
    let k = c.requires in let g = c.well_formed in
    let w = wrote-by-from c.put_renamed.ensures c.new-w.ensures.starts in
    R.rename-written _ _ _ _ _ _ _ _ _ k.0 k.1 _ _ _ (c.is_room.ensures.0 (not-false c.is_room.result c.if-not-is_room.false-raw)) (omega (arith, g)) (search rules)
