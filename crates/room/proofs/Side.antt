-- One side of a merge or push: its free columns and its renamed pattern take at most three times the tree's bytes and the constants'. Assumes nothing.
use Prim.Native.Nat.{ℕ, ◌+◌, ◌*◌, ◌≤◌, ◌<◌}
use mathlib.Core.Path.{◌≡◌, ap, ◌∙◌}
use mathlib.Core.Bool.{true}
use mathlib.Core.List.{List, [], ◌∷◌, map}
use native.Mathlib.Decide.{dec_lt}
use native.Mathlib.Omega.{arith}
use lib.ListN.{length}
use lib.Dec.{ltb}
use Rattle.text.specs.Text.{Bytes}
use Rattle.text.specs.Field.{decimal, digits}
use Rattle.algebra.specs.Tree.{Pattern, values}
use Rattle.algebra.specs.Layout.{put, put_rows}
use Rattle.algebra.specs.Reader.{reads}
use Rattle.algebra.specs.Valid.{Valid}
use Rattle.algebra.specs.Tally.{bounds}
use Rattle.scoping.specs.Sets.{all}
use Rattle.scoping.specs.Numbering.{by_place}
use Rattle.scoping.specs.Premises.{side_name, inside}
use Rattle.scoping.specs.Rename.{rename_in_graph_pattern}
use Rattle.merging.specs.Sides.{Constant, Side, constant_columns, constant_terms, column_at, bind_constants, renamed_pattern, free_columns, standardized}
use Rattle.merging.specs.Request.{Projection, tree, positions, read_constants}
use Rattle.merging.proofs.Lists.{constants-good, map-length}
use Rattle.walking.proofs.Sizes.{width, size}
use Rattle.room.proofs.Digits.{two_digits, three-digits}
use Rattle.room.proofs.Added.{put_same}
use Rattle.walking.proofs.Grown.{grown-names, grown}
use Rattle.room.proofs.Generated.{side-name-short}
use Rattle.room.proofs.Constants.{parted-width, terms-short}

-- a number of columns has at most twice as many digits as it counts
few-digits : (n : ℕ) → 1 ≤ n → n ≤ bounds.entries → length (decimal n) ≤ 2 * n
few-digits n l h = go (dec_lt n 100)
  where
    go : Dec (n < 100) → length (decimal n) ≤ 2 * n
    go (yes b) = omega (arith, two_digits n b)
    go (no b) = omega (arith, three-digits n (omega arith))

-- the `join` and the Values of constants
bound-size : (p : Pattern) (cs : List Bytes) (ks : List Constant) (n : ℕ) → length ks ≤ bounds.entries → width (constant_terms ks) + 2 * length ks ≤ n → size (put (bind_constants p cs ks) []) ≤ size (put p []) + width (constant_columns cs ks) + n + 24
unfolding bind_constants put put_rows decimal digits size width
bound-size p cs [] n few h = omega arith
bound-size p cs (k ∷ ks) n few h =
    let vs = values (constant_columns cs (k ∷ ks)) (constant_terms (k ∷ ks) ∷ []) in
    let wide = map-length (λ (x : Constant). column_at cs x.position) (k ∷ ks) in
    omega (arith, put_same p (put vs []) [], h, few-digits (length (constant_columns cs (k ∷ ks))) (omega arith) (omega arith))

inside-map : (f : Bytes → Bytes) (cs : List Bytes) (is : List ℕ) → inside cs is ≡ true → inside (map f cs) is ≡ true
unfolding inside
inside-map f cs is h = ap (λ (n : ℕ). all (λ i. ltb i n) is) (map-length f cs) ∙ h

module _ (prefix : ℕ) (x : Projection) (is : List ℕ) (ks : List Constant) (s : Bytes) (valid : Valid (tree x)) (names : length (by_place (tree x)) ≤ 1024) (pairs : length is ≤ bounds.entries)
    (read : read_constants s ≡ reads ks) (constants-inside : inside x.columns (positions ks) ≡ true) where
  abbrev side : Side
  side = standardized prefix x.columns x.inner is ks

  new : Bytes → Bytes
  new = side_name prefix x.columns x.inner is

  pub side-size : size (put (renamed_pattern side) []) + width (free_columns side) + 8 ≤ 3 * size (put (tree x) []) + length s
  unfolding renamed_pattern free_columns new Valid put size width
  side-size =
      let good = constants-good s ks read in
      let short = side-name-short prefix x.columns x.inner is names pairs in
      let bound = bound-size (rename_in_graph_pattern new x.inner) (map new x.columns) ks (length s) good.few (terms-short s ks read) in
      let parted = parted-width (map new x.columns) ks (inside-map new x.columns (positions ks) constants-inside) good.different in
      let below = grown 3 (λ a. omega arith) new short x.inner [] [] valid.1 (omega arith) in
      let columns = grown-names 3 (λ a. omega arith) new short x.columns valid.0 in
      omega arith
