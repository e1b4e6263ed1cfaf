-- `spelling::before/put_manner` meets its contract. Assumes nothing.
use Rattle.editions.specs.Token.{text}
use Rattle.spelling.proofs.Arms as A
use Rattle.spelling.proofs.before.put_manner.Goals as goal

pub returns-in-Plain : goal.returns-in-Plain
returns-in-Plain c = A.manner_token _ _ _ (A.manner-plain _) _ c.in-Plain.is

pub returns-in-Distinct : goal.returns-in-Distinct
unfolding text
returns-in-Distinct c = A.manner_token _ _ _ c.put_all.ensures _ c.in-Distinct.is

pub returns-in-Reduced : goal.returns-in-Reduced
unfolding text
returns-in-Reduced c = A.manner_token _ _ _ c.put_all-in-Reduced.ensures _ c.in-Reduced.is
