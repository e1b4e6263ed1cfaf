-- `phrasing::verdict/told` meets its contract. Assumes nothing.
use Rattle.phrasing.proofs.Judged as J
use Rattle.phrasing.proofs.verdict.told.Goals as goal

pub returns-then-not-said : goal.returns-then-not-said
returns-then-not-said c = J.told-unsayable c.args.said c.args.fine c.if-not-said.true-raw

pub returns-then-not-fine : goal.returns-then-not-fine
returns-then-not-fine c = J.told-forbidden c.args.said c.args.fine c.if-not-said.false-raw c.if-not-fine.true-raw

pub returns : goal.returns
returns c = J.told-nothing c.args.said c.args.fine c.if-not-said.false-raw c.if-not-fine.false-raw
