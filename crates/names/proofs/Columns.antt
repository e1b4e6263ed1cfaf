-- The columns of the table. Assumes nothing.
use Prim.Native.Nat.{ℕ, zero, suc}
use mathlib.Core.Path.{◌≡◌, refl, sym, ◌∙◌, ap}
use mathlib.Core.List.{List, [], ◌∷◌}
use lib.ListN.{length, get_or, set}
use Rattle.names.specs.bridge.Names.{column}

module _ (j : ℕ) where
  pub column-length : (t : List (List ℕ)) → length (column j t) ≡ length t
  unfolding column
  column-length [] = refl
  column-length (e ∷ t) = ap suc (column-length t)

  pub column-at : (t : List (List ℕ)) (i : ℕ) → get_or (column j t) i 0 ≡ get_or (get_or t i []) j 0
  unfolding column
  column-at [] i = refl
  column-at (e ∷ t) zero = refl
  column-at (e ∷ t) (suc i) = column-at t i

  pub column-set : (t : List (List ℕ)) (i : ℕ) (e : List ℕ) → column j (set t i e) ≡ set (column j t) i (get_or e j 0)
  unfolding column
  column-set [] i e = refl
  column-set (d ∷ t) zero e = refl
  column-set (d ∷ t) (suc i) e = ap (λ (l : List ℕ). get_or d j 0 ∷ l) (column-set t i e)

  -- a number of an entry, as it is read, and how many there are
  pub column-is : (t : List (List ℕ)) (i x : ℕ) → x ≡ get_or (get_or t i []) j 0 → x ≡ get_or (column j t) i 0
  column-is t i x e = e ∙ sym (column-at t i)

  pub column-long : (t : List (List ℕ)) (n : ℕ) → length t ≡ n → length (column j t) ≡ n
  column-long t n e = column-length t ∙ e
