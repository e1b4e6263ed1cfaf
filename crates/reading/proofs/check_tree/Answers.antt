-- `reading::check_tree` meets its contract. Assumes nothing.
use native.Mathlib.Omega.{arith}
use Rattle.algebra.specs.Tally.{tally}
use Rattle.algebra.proofs.CheckReads.{check-tree}
use Rattle.names.proofs.Laws.{holds-none}
use Rattle.reading.proofs.ToldLaw.{told}
use Rattle.reading.proofs.check_tree.Goals as goal

pub check_one-requires : goal.check_one-requires
check_one-requires c =
    (omega arith, holds-none _ _ _ _ c.no_names.ensures.0 c.no_names.ensures.1 c.no_names.ensures.2, c.requires)

pub returns : goal.returns
returns c = told tally _ _ _ _ _ _ _ (check-tree c.args.text.now) c.check_one.ensures
