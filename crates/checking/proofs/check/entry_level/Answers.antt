-- `checking::check/entry_level` meets its contract. Assumes nothing.
use Rattle.checking.proofs.CheckLaw as K
use Rattle.checking.proofs.check.entry_level.Goals as goal

pub returns-then-left-eq0 : goal.returns-then-left-eq0
returns-then-left-eq0 c = K.level-none c.args.level _ c.if-left-eq0.true

pub returns : goal.returns
returns c = K.level-some _ _ c.if-left-eq0.false
