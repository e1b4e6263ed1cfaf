-- How many bytes a field of a kind has. Assumes nothing.
use Prim.Native.Nat.{ℕ, zero, suc, ◌≤◌}
use mathlib.Core.Path.{◌≡◌}
use mathlib.Core.Bool.{true, ◌&&◌, false≢true}
use mathlib.Core.List.{List, [], ◌∷◌}
use native.Mathlib.Omega.{arith}
use lib.ListN.{length, get_or}
use lib.Dec.{leb, eqb}
use borrow.Author.Tests.{leb-true}
use Rattle.text.specs.Text.{Bytes}
use Rattle.text.specs.Field.{clean, is_var, is_kind, fits, all_fit, number_of, variable, integer}
use Rattle.text.proofs.Basics.{and_left, and_right}
use Rattle.algebra.specs.Valid.{Fits, AllFit}

pub variable-long : (v : Bytes) → is_var v ≡ true → 2 ≤ length v
unfolding is_var
variable-long v h = leb-true 2 (length v) (and_left (leb 2 (length v)) (leb (length v) 129 && eqb (get_or v 0 0) 63) h)

pub variable-short : (v : Bytes) → is_var v ≡ true → length v ≤ 129
unfolding is_var
variable-short v h = leb-true (length v) 129 (and_left (leb (length v) 129) (eqb (get_or v 0 0) 63) (and_right (leb 2 (length v)) (leb (length v) 129 && eqb (get_or v 0 0) 63) h))

pub fits-variable : (v : Bytes) → Fits variable v → is_var v ≡ true
unfolding fits is_kind
fits-variable v h = and_right (clean v) (is_var v) h

-- a column takes no more, nor does none
pub column-short : (cs : List Bytes) (i : ℕ) → AllFit variable cs → length (get_or cs i []) ≤ 129
unfolding all_fit
column-short [] i h = omega arith
column-short (c ∷ cs) zero h = variable-short c (fits-variable c (and_left (fits variable c) (all_fit variable cs) h))
column-short (c ∷ cs) (suc i) h = column-short cs i (and_right (fits variable c) (all_fit variable cs) h)

-- an integer has a digit
pub integer-some : (f : Bytes) → Fits integer f → 1 ≤ length f
unfolding fits is_kind clean number_of
integer-some [] h = absurd (false≢true h)
integer-some (x ∷ xs) h = omega arith
