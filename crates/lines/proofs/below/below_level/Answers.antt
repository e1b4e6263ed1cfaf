-- `lines::below/below_level` meets its contract. Assumes nothing.
use Rattle.lines.proofs.BelowLaw as W
use Rattle.lines.proofs.below.below_level.Goals as goal

pub returns-then-level-eq0 : goal.returns-then-level-eq0
returns-then-level-eq0 c = W.below-zero c.args.sort _ _ c.opens_level.ensures c.if-opens_level.true c.if-level-eq0.true

pub returns-then-opens_level : goal.returns-then-opens_level
returns-then-opens_level c = W.below_one c.args.sort _ _ c.opens_level.ensures c.if-opens_level.true

pub returns : goal.returns
returns c = W.below-same c.args.sort _ _ c.opens_level.ensures c.if-opens_level.false
