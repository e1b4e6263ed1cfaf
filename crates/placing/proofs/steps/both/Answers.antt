-- `placing::steps/both` meets its contract. Assumes nothing.
use Rattle.placing.proofs.Repeated as R
use Rattle.placing.proofs.steps.both.Goals as goal

pub returns-then-not-a : goal.returns-then-not-a
returns-then-not-a c = R.both_false c.args.a c.args.b c.if-not-a.true-raw

pub returns : goal.returns
returns c = R.both_true c.args.a c.args.b c.if-not-a.false-raw
