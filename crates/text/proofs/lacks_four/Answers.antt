-- `text::lacks_four` meets its contract. Assumes nothing.
use Rattle.text.proofs.Blocks.{lacks-four}
use Rattle.text.proofs.lacks_four.Goals as goal

pub returns : goal.returns
returns c = let a = c.args in lacks-four a.b a.s.now a.i
