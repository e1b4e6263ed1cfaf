-- `text::lacks_eight` meets its contract. Assumes nothing.
use Rattle.text.proofs.Blocks.{lacks-eight}
use Rattle.text.proofs.lacks_eight.Goals as goal

pub returns : goal.returns
returns c = let a = c.args in lacks-eight a.b a.s.now a.i
