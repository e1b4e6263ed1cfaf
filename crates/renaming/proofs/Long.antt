-- How long a renamed tree is: at most 44 times as long as it was, as a variable with the byte behind it takes 3 bytes at least and 130 at most. Assumes nothing.
use Prim.Native.Nat.{◌*◌, ◌≤◌}
use mathlib.Core.Path.{◌≡◌, ap}
use mathlib.Core.Bool.{Bool, true, false, cond}
use mathlib.Core.Option.{some}
use mathlib.Core.List.{List, [], ◌∷◌, map}
use native.Mathlib.Omega.{arith}
use lib.ListN.{length}
use Rattle.text.specs.Text.{Bytes, same}
use Rattle.algebra.specs.Tree.{Pattern}
use Rattle.algebra.specs.Query.{Pair, mapping}
use Rattle.algebra.specs.Layout.{put, layout}
use Rattle.algebra.specs.Reader.{reads}
use Rattle.algebra.specs.Texts.{read_tree, read_pairs}
use Rattle.algebra.specs.Valid.{Valid, ValidPairs}
use Rattle.algebra.proofs.Theorem.{tree-exactly, pairs-exactly}
use Rattle.scoping.specs.Standardize.{entry, get, or_self, renamed}
use Rattle.scoping.specs.Rename.{rename_in_graph_pattern}
use Rattle.walking.proofs.Sizes.{size, tree-size}
use Rattle.walking.proofs.Fields.{variable-long, variable-short, fits-variable}
use Rattle.walking.proofs.Grown.{grown}
use Rattle.renaming.specs.Rename.{becomes}

-- a mapping makes no name too long
becomes-short : (seen : List Bytes) (xs : List Pair) → ValidPairs mapping seen xs → (v : Bytes) → length v ≤ 129 → length (becomes xs v) ≤ 129
unfolding ValidPairs becomes renamed get
becomes-short seen [] w v h = h
becomes-short seen (x ∷ xs) w v h = go (same v x.first) (becomes-short _ xs w.3 v h)
  where
    go : (t : Bool) → length (becomes xs v) ≤ 129 → length (or_self (cond t (some x.second) (get v (map (λ x. entry x.first x.second) xs))) v) ≤ 129
    go true r = variable-short x.second (fits-variable x.second w.1)
    go false r = r

-- the renamed tree, in front of no lines
renamed-size : (p : Pattern) (xs : List Pair) → Valid p → ValidPairs mapping [] xs → size (put (rename_in_graph_pattern (becomes xs) p) []) ≤ 44 * size (put p [])
unfolding size
renamed-size p xs v w =
    let r = grown 44 (λ a. omega arith) (becomes xs) (λ x h. omega (arith, becomes-short [] xs w x (variable-short x h), variable-long x h)) p [] [] v (omega arith) in
    omega arith

-- the text of a tree, and that of the renamed tree
pub renamed-long : (s pairs : Bytes) (p : Pattern) (xs : List Pair) → read_tree s ≡ reads p → read_pairs mapping pairs ≡ reads xs → length (layout (rename_in_graph_pattern (becomes xs) p)) ≤ 44 * length s
renamed-long s pairs p xs e i =
    let y = (tree-exactly s p).0 e in
    omega (arith, renamed-size p xs y.1 ((pairs-exactly mapping pairs xs).0 i).1, tree-size p, tree-size (rename_in_graph_pattern (becomes xs) p), ap length y.0)
