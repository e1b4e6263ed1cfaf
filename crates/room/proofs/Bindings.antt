-- What bindings needs: its tree and 65 times its sets, as a position with the byte behind it takes 2 bytes at least and a column 130 at most. Assumes nothing.
use Prim.Native.Nat.{ℕ, ◌+◌, ◌*◌, ◌≤◌}
use mathlib.Core.Path.{◌≡◌, sym, ap, subst}
use mathlib.Core.List.{List, [], ◌∷◌, map}
use native.Mathlib.Omega.{arith}
use lib.ListN.{length}
use Rattle.text.specs.Text.{Bytes, Line}
use Rattle.text.specs.Field.{decimal, fits, all_fit, variable, integer}
use Rattle.text.proofs.Basics.{and_left, and_right}
use Rattle.algebra.specs.Tree.{Pattern, join}
use Rattle.algebra.specs.Query.{Value, BindingSet}
use Rattle.algebra.specs.Layout.{put, put_rows, put_values, put_value_rows, put_sets}
use Rattle.algebra.specs.Bounded.{layout_sets}
use Rattle.algebra.specs.Texts.{read_tree, read_sets}
use Rattle.algebra.specs.Valid.{AllFit, Valid, ValidSets}
use Rattle.algebra.proofs.Theorem.{tree-exactly, sets-exactly}
use Rattle.algebra.proofs.Given.{tree_text, text-longer}
use Rattle.scoping.specs.Premises.{columns_at}
use Rattle.merging.specs.Request.{position}
use Rattle.merging.proofs.Lists.{map-length}
use Rattle.negating.specs.Projections.{outermost_projection}
use Rattle.filtering.specs.IfFound.{if_found}
use Rattle.filtering.specs.Bindings.{cell_of, bound_variables, values_of, joined_with_values, pattern_with_bindings, positions_inside, values_usable, bindings_outcome}
use Rattle.filtering.specs.bridge.AsIs.{bindings_as_is}
use Rattle.filtering.proofs.Given.{bindings-given}
use Rattle.filtering.proofs.Valid.{bound-length}
use Rattle.room.specs.Room.{bindings_room}
use Rattle.room.proofs.Enough.{Enough, then-enough, test-enough, enough-more}
use Rattle.walking.proofs.Sizes.{width, size, text-size, tree-size}
use Rattle.walking.proofs.Fields.{column-short, integer-some}
use Rattle.room.proofs.Added.{put_same}
use Rattle.room.proofs.Values.{cell-short}
use Rattle.room.proofs.Modified.{modified-size}

-- ---- the lines of one set

columns-width : (cs ks : List Bytes) → AllFit variable cs → AllFit integer ks → width (columns_at cs (map position ks)) ≤ 65 * width ks
unfolding columns_at all_fit width
columns-width cs [] h i = omega arith
columns-width cs (k ∷ ks) h i =
    omega (arith, column-short cs (position k) h, integer-some k (and_left (fits integer k) (all_fit integer ks) i), columns-width cs ks h (and_right (fits integer k) (all_fit integer ks) i))

cells-width : (vs : List Value) → width (map cell_of vs) ≤ width (put_values vs)
unfolding put_values width
cells-width [] = omega arith
cells-width (v ∷ vs) = omega (arith, cell-short v.domain v.lexical v.extra, cells-width vs)

rows-size : (rs : List (List Value)) (t u : List Line) → size (put_rows (map (map cell_of) rs) t) + size u ≤ size (put_value_rows rs u) + size t
unfolding put_rows put_value_rows size width
rows-size [] t u = omega arith
rows-size (r ∷ rs) t u = omega (arith, cells-width r, rows-size rs t u)

-- the Values of a set, and its `join`
set-size : (cs : List Bytes) (x : BindingSet) (xs : List BindingSet) (t : List Line) → AllFit variable cs → AllFit integer x.positions
    → size (put (values_of cs x) t) + 5 + 65 * size (put_sets xs []) ≤ 65 * size (put_sets (x ∷ xs) []) + size t
unfolding values_of put put_sets bound_variables size width
set-size cs x xs t h i =
    omega (arith, ap (λ (n : ℕ). length (decimal n)) (bound-length cs x), ap (λ (n : ℕ). length (decimal n)) (map-length (map cell_of) x.rows), columns-width cs x.positions h i, rows-size x.rows t (put_sets xs []), rows-size x.rows [] (put_sets xs []))

-- ---- all sets

joined-size : (cs : List Bytes) (xs : List BindingSet) → AllFit variable cs → ValidSets xs → (p : Pattern) (t : List Line) → size (put (joined_with_values cs p xs) t) ≤ size (put p t) + 65 * size (put_sets xs [])
unfolding joined_with_values ValidSets put size width
joined-size cs [] h v p t = omega arith
joined-size cs (x ∷ xs) h v p t =
    omega (arith, joined-size cs xs h v.4 (join p (values_of cs x)) t, put_same p (put (values_of cs x) t) t, set-size cs x xs t h v.2)

with-bindings-size : (p : Pattern) (xs : List BindingSet) → Valid p → ValidSets xs → size (put (pattern_with_bindings p xs) []) ≤ size (put p []) + 65 * size (put_sets xs [])
unfolding pattern_with_bindings
with-bindings-size p [] v w = omega arith
with-bindings-size p (x ∷ xs) v w = modified-size (λ cs inner. joined_with_values cs inner (x ∷ xs)) (65 * size (put_sets (x ∷ xs) [])) (λ cs q t h. joined-size cs (x ∷ xs) h w q t) p [] v

sets-size : (xs : List BindingSet) → length (layout_sets xs) ≡ size (put_sets xs [])
unfolding layout_sets
sets-size xs = text-size (put_sets xs [])

-- of a tree's text as it stands
pub bindings-enough : (tree sets : Bytes) → Enough (length tree + 65 * length sets) (bindings_as_is tree sets)
unfolding bindings_as_is Enough
bindings-enough tree sets =
    let room = length tree + 65 * length sets in
    then-enough room (read_tree tree) _ λ p e. then-enough room (read_sets sets) _ λ xs i.
    test-enough room 3 (if_found (outermost_projection p) λ cs. positions_inside cs xs) _ (λ z. omega arith) λ a.
    test-enough room 7 (if_found (outermost_projection p) λ cs. values_usable xs) _ (λ z. omega arith) λ b.
    let y = (tree-exactly tree p).0 e in
    let z = (sets-exactly sets xs).0 i in
    omega (arith, with-bindings-size p xs y.1 z.1, tree-size p, tree-size (pattern_with_bindings p xs), ap length y.0, sets-size xs, ap length z.0)

-- of a file that may be empty
pub bindings-given-enough : (tree sets : Bytes) → Enough (bindings_room (length tree) (length sets)) (bindings_outcome tree sets)
unfolding bindings_room
bindings-given-enough tree sets = subst (Enough (length tree + 65 * length sets + 14)) (sym (bindings-given tree sets))
    (enough-more (length (tree_text tree) + 65 * length sets) (length tree + 65 * length sets + 14) (bindings_as_is (tree_text tree) sets) (omega (arith, text-longer tree)) (bindings-enough (tree_text tree) sets))
