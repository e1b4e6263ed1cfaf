-- `checking::check/lacks_head` meets its contract. Assumes nothing.
use Prim.Native.Nat.{ℕ}
use mathlib.Core.Path.{◌≡◌, sym, ap}
use mathlib.Core.Bool.{Bool, not, ◌&&◌}
use lib.Dec.{eqb}
use Rattle.checking.proofs.check.lacks_head.Goals as goal

with : (sort : ℕ) (head x : Bool) → head ≡ x → (x && not (eqb sort 7)) ≡ (head && not (eqb sort 7))
with sort head x e = ap (λ (b : Bool). b && not (eqb sort 7)) (sym e)

pub returns-then-head : goal.returns-then-head
returns-then-head c = with c.args.sort _ _ c.if-head.true

pub returns : goal.returns
returns c = with c.args.sort _ _ c.if-head.false
