-- `reading::note_query` meets its contract. Assumes nothing.
use native.Mathlib.Omega.{arith}
use Rattle.algebra.specs.Tally.{tally_query}
use Rattle.algebra.proofs.CheckReads.{check-query}
use Rattle.names.proofs.Laws.{holds-none}
use Rattle.reading.specs.bridge.Charted.{query_start}
use Rattle.reading.proofs.ChartLaw as C
use Rattle.reading.proofs.note_query.Goals as goal

pub note_one-requires : goal.note_one-requires
note_one-requires c =
    (omega arith, holds-none _ _ _ _ c.no_names.ensures.0 c.no_names.ensures.1 c.no_names.ensures.2, c.requires)

pub returns : goal.returns
returns c =
    C.charted tally_query query_start _ _ _ _ _ _ _ _ 7 _ _ _ _ (check-query c.args.text.now) c.note_one.ensures.tells (c.note_one.ensures.charts (omega arith)) (C.query-inside c.args.text.now)
