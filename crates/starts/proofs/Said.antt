-- What a check's answer says of the table, and the table's number. Assumes nothing.
use Prim.Native.Nat.{ℕ}
use mathlib.Core.Path.{◌≡◌, sym, subst}
use mathlib.Core.Bool.{Bool, true, false}
use mathlib.Core.List.{List}
use Rattle.text.specs.Text.{Bytes}
use Rattle.algebra.specs.Reader.{refuses, malformed, over_bound}
use Rattle.algebra.specs.bridge.Answers.{Answer}
use Rattle.converting.specs.Starts.{read_starts, old_starts, in_order}
use Rattle.starts.specs.bridge.Starts.{starts_in, StartsTold, StartsChecked, table_number}
use Rattle.std.specs.Prelude.{Ok, Err}
use Rattle.algebra.specs.declared.Fault.TheVariants.{Malformed, OverBound}

module _ (s : Bytes) (keys : List (List ℕ)) (r : Answer) (c : StartsChecked s keys r) where
  pub said-good : (n : ℕ) → r ≡ Ok n → StartsTold s keys n
  unfolding StartsChecked
  said-good n q = subst (StartsChecked s keys) q c

  pub said-malformed : r ≡ Err Malformed → read_starts s ≡ refuses malformed
  unfolding StartsChecked
  said-malformed q = subst (StartsChecked s keys) q c

  pub said-over : r ≡ Err OverBound → read_starts s ≡ refuses over_bound
  unfolding StartsChecked
  said-over q = subst (StartsChecked s keys) q c

-- ---- the table's number

module _ (s : Bytes) (keys : List (List ℕ)) (n : ℕ) (t : StartsTold s keys n) (b : Bool) (tested : b ≡ in_order (old_starts (starts_in s keys n))) where
  pub number-ordered : b ≡ true → 0 ≡ table_number s
  unfolding table_number
  number-ordered h = rw (t.read, sym tested, h)

  pub number-unordered : b ≡ false → 14 ≡ table_number s
  unfolding table_number
  number-unordered h = rw (t.read, sym tested, h)

pub number-malformed : (s : Bytes) → read_starts s ≡ refuses malformed → 1 ≡ table_number s
unfolding table_number
number-malformed s e = rw e

pub number-over : (s : Bytes) → read_starts s ≡ refuses over_bound → 2 ≡ table_number s
unfolding table_number
number-over s e = rw e
