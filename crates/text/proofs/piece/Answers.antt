-- `text::piece` meets its contract. Assumes nothing.
use Prim.Native.Nat.{◌+◌, ◌-◌}
use mathlib.Core.Path.{◌≡◌}
use native.Mathlib.Omega.{arith}
use Rattle.text.proofs.FieldLaws as F
use Rattle.text.proofs.piece.Goals as goal

pub returns-then-s-from : goal.returns-then-s-from
returns-then-s-from c = search F.piece-past

pub returns-then-left-size : goal.returns-then-left-size
returns-then-left-size c = search F.piece-end

pub returns : goal.returns
returns c = let e : c.args.from + c.args.size - c.args.from ≡ c.args.size = omega arith in rw e
