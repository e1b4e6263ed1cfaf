-- The IRIs of a tree's text, line by line: a line's word and a field's number tell whether the field is a term, and its first byte whether it is an IRI. No tree, no depth. Assumes nothing.
use Rattle.std.specs.Prelude.{ℕ, suc, Bool, cond, not, ◌&&◌, ◌||◌, List, [], ◌∷◌, ◌++◌, get_or, eqb}
use Rattle.text.specs.Text.{Bytes, Line, same}
use Rattle.text.specs.Word.{bytes}

-- the fields that are texts: a path's text, the name of a call, the name of an aggregate
unfoldable pub is_text : Bytes → ℕ → Bool
unfolding same
is_text w i = (same w (bytes "path") && eqb i 1) || ((same w (bytes "agg") && eqb i 1) || (same w (bytes "call") && eqb i 0))

-- an IRI where it stands: no text, and its first byte is <
unfoldable pub is_iri_at : Bytes → ℕ → Bytes → Bool
unfolding is_text
is_iri_at w i x = not (is_text w i) && eqb (get_or x 0 0) 60

-- the fields of a line from number i on, with other IRIs
unfoldable pub in_fields : (Bytes → Bytes) → Bytes → ℕ → List Bytes → List Bytes
unfolding is_iri_at
in_fields f w i [] = []
in_fields f w i (x ∷ xs) = cond (is_iri_at w i x) (f x) x ∷ in_fields f w (suc i) xs

unfoldable pub in_line : (Bytes → Bytes) → Line → Line
unfolding in_fields
in_line f [] = []
in_line f (w ∷ fs) = w ∷ in_fields f w 0 fs

-- the IRIs of a line's fields from number i on, and of lines
unfoldable pub iris_of_fields : Bytes → ℕ → List Bytes → List Bytes
unfolding is_iri_at
iris_of_fields w i [] = []
iris_of_fields w i (x ∷ xs) = cond (is_iri_at w i x) (x ∷ iris_of_fields w (suc i) xs) (iris_of_fields w (suc i) xs)

abbrev pub iris_of_line : Line → List Bytes
iris_of_line [] = []
iris_of_line (w ∷ fs) = iris_of_fields w 0 fs

unfoldable pub iris_in : List Line → List Bytes
unfolding iris_of_fields
iris_in [] = []
iris_in (l ∷ ls) = iris_of_line l ++ iris_in ls
