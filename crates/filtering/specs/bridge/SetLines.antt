-- How code goes over the lines of binding sets, and which lines it writes; proofs/BindingLines says what that makes of the sets. Assumes nothing.
use Rattle.std.specs.Prelude.{ℕ, zero, suc, Bool, true, cond, not, ◌&&◌, List, [], ◌∷◌, map, drop, eqb}
use Rattle.text.specs.Text.{Bytes, Line, same}
use Rattle.text.specs.Word.{bytes}
use Rattle.scoping.specs.Premises.{inside}
use Rattle.merging.specs.Sides.{column_at}
use Rattle.merging.specs.Request.{position}
use Rattle.negating.specs.bridge.Lines.{word}
use Rattle.filtering.specs.bridge.Terms.{form_of, term_of}

-- n lines of one word in front of others
unfoldable pub repeated : ℕ → Bytes → List Line → List Line
repeated zero w t = t
repeated (suc n) w t = (w ∷ []) ∷ repeated n w t

-- how many sets
unfoldable pub sets_in : List Line → ℕ
unfolding same
sets_in [] = 0
sets_in (l ∷ ls) = cond (same (word l) (bytes "set")) (suc (sets_in ls)) (sets_in ls)

-- the cell that a value's three fields become
abbrev pub cell_from : Bytes → Bytes → Bytes → Bytes
cell_from d l x = term_of (form_of d) l x

-- the values of a row, three fields each
unfoldable pub cells_from : List Bytes → List Bytes
unfolding form_of term_of
cells_from [] = []
cells_from (d ∷ []) = cell_from d [] [] ∷ []
cells_from (d ∷ l ∷ []) = cell_from d l [] ∷ []
cells_from (d ∷ l ∷ x ∷ fs) = cell_from d l x ∷ cells_from fs

-- `set m k` becomes `values m k`, `at` the columns at its positions, `row` the cells of its values
unfoldable pub values_line : List Bytes → Line → Line
unfolding same position cells_from
values_line cs l =
    cond (same (word l) (bytes "set")) (bytes "values" ∷ drop 1 l)
    (cond (same (word l) (bytes "at")) (bytes "cols" ∷ map (λ k. column_at cs (position k)) (drop 1 l)) (bytes "row" ∷ cells_from (drop 1 l)))

-- an `at` line names only positions inside; 3 if one doesn't
unfoldable pub at_inside : List Bytes → Line → Bool
unfolding same inside position
at_inside cs l = cond (same (word l) (bytes "at")) (inside cs (map position (drop 1 l))) true

-- a value of this domain becomes a cell: it is no Tuple and no Map
abbrev pub is_usable : Bytes → Bool
is_usable d = not (eqb (form_of d) 4)

unfoldable pub all_usable : List Bytes → Bool
unfolding form_of
all_usable [] = true
all_usable (d ∷ []) = is_usable d
all_usable (d ∷ l ∷ []) = is_usable d
all_usable (d ∷ l ∷ x ∷ fs) = is_usable d && all_usable fs

-- 7 if a `row` line has one
unfoldable pub row_usable : Line → Bool
unfolding same all_usable
row_usable l = cond (same (word l) (bytes "row")) (all_usable (drop 1 l)) true
