-- `lines::variables/is_var_of` meets its contract. Assumes nothing.
use Prim.Native.Nat.{ℕ, zero, suc, ◌≤◌}
use mathlib.Core.Path.{◌≡◌, refl, sym, ◌∙◌}
use mathlib.Core.Bool.{Bool, true, false, ◌||◌, false≢true}
use native.Mathlib.Omega.{arith}
use Rattle.text.specs.Text.{Bytes}
use Rattle.text.specs.Field.{is_var, is_iri, is_kind}
use Rattle.text.specs.bridge.Code.{kind_at}
use Rattle.lines.proofs.variables.is_var_of.Goals as goal

or-true : (a : Bool) → (a || true) ≡ true
or-true true = refl
or-true false = refl

-- the first four kinds admit variables
var-kind : (k : ℕ) (f : Bytes) → k ≤ 3 → is_var f ≡ true → is_kind (kind_at k) f ≡ true
unfolding is_kind
var-kind zero f h e = e
var-kind (suc zero) f h e = rw e
var-kind (suc (suc zero)) f h e = rw e
var-kind (suc (suc (suc zero))) f h e = rw e (or-true (is_iri f))
var-kind (suc (suc (suc (suc k)))) f h e = absurd (omega arith)

pub returns-then-kind-gt3 : goal.returns-then-kind-gt3
returns-then-kind-gt3 c = λ e. absurd (false≢true e)

pub returns : goal.returns
returns c = let a = c.args in λ e. var-kind a.kind a.f.now c.if-kind-gt3.false (sym c.is_var.ensures ∙ e)
