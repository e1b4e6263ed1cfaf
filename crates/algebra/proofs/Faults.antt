-- Which fault it is, and what the exit of a `?` returns. Assumes nothing.
use mathlib.Core.Path.{◌≡◌, refl}
use mathlib.Core.Logic.{◌⊎◌, inl, inr}
use Rattle.std.specs.Prelude.{Result, Err}
use Rattle.algebra.specs.declared.Fault.{Fault}
use Rattle.algebra.specs.declared.Fault.TheVariants.{Malformed, OverBound}

pub which : {A : Type 0} (r : Result A Fault) (f : Fault) → r ≡ Err f → ((r ≡ Err Malformed) × (f ≡ Malformed)) ⊎ ((r ≡ Err OverBound) × (f ≡ OverBound))
which r Malformed e = inl (e, refl)
which r OverBound e = inr (e, refl)
