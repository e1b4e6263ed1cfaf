-- `names::put_entry` meets its contract. Assumes nothing.
use mathlib.Core.Path.{sym, ap}
use lib.ListN.{set}
use Rattle.names.proofs.Narrow.{kept_whole}
use Rattle.names.proofs.put_entry.Goals as goal

pub returns : goal.returns
returns c = ap (set c.args.table.now c.args.n) (sym (kept_whole _ _ c.requires.1 c.requires.2))
