-- `starts::same_eight` meets its contract. Assumes nothing.
use Rattle.starts.proofs.Compared as C
use Rattle.starts.proofs.same_eight.Goals as goal

pub returns : goal.returns
returns c = let a = c.args in C.same-eight a.a.now a.b.now a.i
