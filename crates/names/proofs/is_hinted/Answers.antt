-- `names::is_hinted` meets its contract. Assumes nothing.
use Prim.Native.Nat.{◌-◌}
use mathlib.Core.Path.{◌≡◌}
use mathlib.Core.Bool.{false≢true}
use native.Mathlib.Omega.{arith}
use Rattle.names.proofs.is_hinted.Goals as goal

pub returns-then-n-hint : goal.returns-then-n-hint
returns-then-n-hint c = ((λ e. absurd (false≢true e)), λ i k e. absurd (omega arith))

pub returns : goal.returns
returns c = ((λ e. omega arith), λ i k e. let j : _ - 1 ≡ i = omega arith in rw (← j) c.is_name.ensures)
