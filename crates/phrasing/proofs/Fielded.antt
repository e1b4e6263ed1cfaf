-- What a grammar allows in the fields of a line, one after the other. Assumes nothing.
use Prim.Native.Nat.{ℕ, zero, suc, ◌≤◌, ◌<◌}
use mathlib.Core.Path.{◌≡◌, refl, sym, ap, ◌∙◌}
use mathlib.Core.Bool.{Bool, true, false, cond, not, ◌&&◌}
use mathlib.Core.List.{List, [], ◌∷◌}
use native.Mathlib.Omega.{arith}
use lib.ListN.{get_or}
use lib.Dec.{eqb, leb}
use borrow.Author.Tests.{lt-leb, ne_eqb, not-true, not-false}
use Rattle.text.specs.Text.{Bytes, onto, split, part}
use Rattle.algebra.specs.Valid.{mem, different}
use Rattle.cursor.specs.bridge.Cursor.{left}
use Rattle.placing.specs.declared.field.Field.{Field}
use Rattle.placing.specs.bridge.Fields.{FieldIs}
use Rattle.editions.specs.Lexical.{is_var1}
use Rattle.editions.specs.Spelling.{cell_of}
use Rattle.editions.specs.Readers.{nonempty}
use Rattle.editions.specs.Refusals.{allowed_token, all_allowed, all_cells}
use Rattle.spelling.specs.bridge.Judging.{is_some}

cells-front : (x : Bytes) (xs : List Bytes) → all_cells (x ∷ xs) ≡ (allowed_token (cell_of x) && all_cells xs)
unfolding all_cells
cells-front x xs = refl

module _ (s : Bytes) (from end : ℕ) (d : Field) (i : FieldIs s from end d) (b : Bool) where
  -- a test of the field that starts here
  pub tested : (g : Bytes → Bool) → b ≡ g (part from d.to s) → b ≡ g (get_or (left s from end) 0 [])
  tested g q = q ∙ ap g i.is

  module _ (h : from ≤ end) where
    module _ (q : b ≡ is_var1 (part from d.to s)) where
      pub named-stop : not b ≡ true → false ≡ all_allowed (left s from end)
      unfolding all_allowed
      named-stop e = rw (i.here h, sym q ∙ not-true b e)

      pub named-next : not b ≡ false → all_allowed (left s from end) ≡ all_allowed (left s d.next end)
      unfolding all_allowed
      named-next e = rw (i.here h, sym q ∙ not-false b e)

    module _ (q : b ≡ allowed_token (cell_of (part from d.to s))) where
      pub cells-stop : not b ≡ true → false ≡ all_cells (left s from end)
      cells-stop e = sym (ap all_cells (i.here h) ∙ cells-front (part from d.to s) (left s d.next end) ∙ ap (λ (x : Bool). x && all_cells (left s d.next end)) (sym q ∙ not-true b e))

      pub cells-next : not b ≡ false → all_cells (left s from end) ≡ all_cells (left s d.next end)
      cells-next e = ap all_cells (i.here h) ∙ cells-front (part from d.to s) (left s d.next end) ∙ ap (λ (x : Bool). x && all_cells (left s d.next end)) (sym q ∙ not-false b e)

    module _ (q : b ≡ mem (part from d.to s) (left s d.next end)) where
      pub different-stop : b ≡ true → false ≡ different (left s from end)
      unfolding different
      different-stop e = rw (i.here h, sym q ∙ e)

      pub different-next : b ≡ false → different (left s from end) ≡ different (left s d.next end)
      unfolding different
      different-next e = rw (i.here h, sym q ∙ e)

module _ (s : Bytes) (from end : ℕ) (h : end < from) where
  none_left : left s from end ≡ []
  unfolding left
  none_left = rw (lt-leb from end h)

  pub named-done : true ≡ all_allowed (left s from end)
  unfolding all_allowed
  named-done = sym (ap all_allowed none_left)

  pub cells-done : true ≡ all_cells (left s from end)
  unfolding all_cells
  cells-done = sym (ap all_cells none_left)

  pub different-done : true ≡ different (left s from end)
  unfolding different
  different-done = sym (ap different none_left)

-- there are fields
split-some : (x : Bytes) → true ≡ nonempty (split 9 x)
unfolding split onto
split-some [] = refl
split-some (x ∷ xs) = by (eqb x 9) (split 9 xs)
  where
    by : (c : Bool) (r : List Bytes) → true ≡ nonempty (cond c ([] ∷ r) (onto x r))
    by true r = refl
    by false [] = refl
    by false (p ∷ ps) = refl

pub some-fields : (s : Bytes) (from end : ℕ) → leb from end ≡ nonempty (left s from end)
unfolding left
some-fields s from end = go (leb from end)
  where
    go : (c : Bool) → c ≡ nonempty (cond c (split 9 (part from end s)) [])
    go true = split-some (part from end s)
    go false = refl

-- a number that isn't 0
pub some_number : (n m : ℕ) → n ≡ m → not (eqb n 0) ≡ is_some m
some_number n m h = ap (λ (k : ℕ). not (eqb k 0)) h ∙ go m
  where
    go : (m : ℕ) → not (eqb m 0) ≡ is_some m
    go zero = refl
    go (suc m) = ap not (ne_eqb (suc m) 0 (λ h. absurd (omega arith)))
