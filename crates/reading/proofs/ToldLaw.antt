-- From the line machine's answer to the reader's. Assumes nothing.
use Prim.Native.Nat.{ℕ}
use mathlib.Core.Path.{◌≡◌, subst}
use mathlib.Core.List.{List}
use Rattle.algebra.specs.Tally.{Tally, start}
use Rattle.algebra.specs.Reader.{malformed, over_bound, Outcome, reads, refuses}
use Rattle.algebra.specs.bridge.Machine.{Check}
use Rattle.algebra.specs.bridge.Verdict.{checked}
use Rattle.algebra.specs.bridge.Answers.{Answer}
use Rattle.names.specs.bridge.Checked.{Checked}
use Rattle.checking.specs.bridge.Run.{Tells}

-- what is told of the machine's check is what is promised of the reader's outcome
pub told : {A : Type 0} (f : A → Tally → Tally) (s a b h : List ℕ) (r : Answer) (k : Check) (o : Outcome A) → k ≡ checked f o → Tells s a b h k r → Checked (λ x. (f x start).names) s a b h o r
unfolding Tells Checked
told f s a b h r k (reads x) e t = subst (λ k. Tells s a b h k r) e t
told f s a b h r k (refuses malformed) e t = subst (λ k. Tells s a b h k r) e t
told f s a b h r k (refuses over_bound) e t = subst (λ k. Tells s a b h k r) e t
