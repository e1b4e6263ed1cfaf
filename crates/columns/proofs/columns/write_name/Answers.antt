-- `columns::columns/write_name` meets its contract. Assumes nothing.
use Rattle.std.proofs.Common.{rules}
use native.Mathlib.Omega.{arith}
use Rattle.emit.proofs.Writing.{wrote-from}
use Rattle.columns.proofs.New as N
use Rattle.columns.proofs.columns.write_name.Goals as goal

pub returns : goal.returns
returns c =
    let f = c.well_formed in
    let n = c.put_name.ensures in
    let e = wrote-from n.wrote c.new-w.ensures.starts in
    record {
      fits = N.room-fits _ _ _ _ _ (omega (arith, f)) n.short e;
      stands = N.room-is _ _ c.args.room.now _ _ (omega (arith, f)) n.short (search rules);
    }
