-- `names::no_names` meets its contract. Assumes nothing.
use mathlib.Core.Path.{◌∙◌}
use Rattle.names.proofs.Columns.{column-length}
use Rattle.names.proofs.no_names.Goals as goal

pub returns : goal.returns
returns c =
    let e = c.all_entries.ensures in (column-length 0 _ ∙ e, column-length 1 _ ∙ e, c.all_places.ensures)
