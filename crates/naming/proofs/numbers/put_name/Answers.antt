-- `naming::numbers/put_name` meets its contract. Assumes nothing.
use native.Mathlib.Omega.{arith}
use Rattle.naming.proofs.Settled as W
use Rattle.naming.proofs.numbers.put_name.Goals as goal

pub returns-then-e-lt-LABELLED : goal.returns-then-e-lt-LABELLED
returns-then-e-lt-LABELLED c = record {
  wrote = W.put-plain _ _ _ c.wide.ensures.0 c.if-e-lt-LABELLED.true c.put_generated.ensures;
  short = W.named-short _ _ (omega (arith, c.wide.ensures.0, c.wide.ensures.1));
}

pub returns : goal.returns
returns c = record {
  wrote = W.put-labelled _ _ _ c.wide.ensures.0 c.if-e-lt-LABELLED.false c.put_generated.ensures c.put_all.ensures;
  short = W.named-short _ _ (omega (arith, c.wide.ensures.0, c.wide.ensures.1));
}
