-- `text::equal_four` meets its contract. Assumes nothing.
use Rattle.text.proofs.Blocks.{same-four}
use Rattle.text.proofs.equal_four.Goals as goal

pub returns : goal.returns
returns c = let a = c.args in same-four a.f.now a.g.now a.i c.requires.0 c.requires.1
