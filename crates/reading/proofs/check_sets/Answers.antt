-- `reading::check_sets` meets its contract. Assumes nothing.
use native.Mathlib.Omega.{arith}
use Rattle.algebra.specs.Tally.{tally_sets}
use Rattle.algebra.proofs.CheckReads.{check-sets}
use Rattle.names.proofs.Laws.{holds-none}
use Rattle.reading.proofs.ToldLaw.{told}
use Rattle.reading.proofs.check_sets.Goals as goal

pub check_list-requires : goal.check_list-requires
check_list-requires c =
    (omega arith, holds-none _ _ _ _ c.no_names.ensures.0 c.no_names.ensures.1 c.no_names.ensures.2, c.requires.0)

pub returns : goal.returns
returns c = told tally_sets _ _ _ _ _ _ _ (check-sets c.args.text.now) c.check_list.ensures
