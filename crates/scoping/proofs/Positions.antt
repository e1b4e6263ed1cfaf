-- Positions of columns: each inside, none twice. Assumes nothing.
use mathlib.Core.Path.{◌≡◌}
use mathlib.Core.Bool.{true, false, not, ◌&&◌}
use mathlib.Core.List.{List, ◌∷◌}
use Prim.Native.Nat.{ℕ, ◌<◌}
use lib.ListN.{length}
use lib.Dec.{eqb, ltb}
use borrow.Author.Tests.{ltb-true}
use Rattle.text.specs.Text.{Bytes}
use Rattle.text.proofs.Basics.{and_left, and_right}
use Rattle.algebra.proofs.Lines.{not-no}
use Rattle.scoping.specs.Sets.{all, any}
use Rattle.scoping.specs.Premises.{inside, different_positions}

module _ (cs : List Bytes) (i : ℕ) (is : List ℕ) (h : inside cs (i ∷ is) ≡ true) where
  pub inside-first : i < length cs
  unfolding inside all
  inside-first = ltb-true i (length cs) (and_left (ltb i (length cs)) (inside cs is) h)

  pub inside-rest : inside cs is ≡ true
  unfolding inside all
  inside-rest = and_right (ltb i (length cs)) (inside cs is) h

module _ (i : ℕ) (is : List ℕ) (h : different_positions (i ∷ is) ≡ true) where
  pub different-first : any (eqb i) is ≡ false
  unfolding different_positions
  different-first = not-no (any (eqb i) is) (and_left (not (any (eqb i) is)) (different_positions is) h)

  pub different-rest : different_positions is ≡ true
  unfolding different_positions
  different-rest = and_right (not (any (eqb i) is)) (different_positions is) h
