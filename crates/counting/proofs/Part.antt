-- Which trees belong to the counting part, and which meet the premises of its last paragraph: one tree on each side of each line, computed. Assumes nothing.
use mathlib.Core.Path.{◌≡◌, refl}
use mathlib.Core.Bool.{true, false}
use mathlib.Core.List.{[], ◌∷◌, map}
use Rattle.text.specs.Word.{bytes}
use Rattle.algebra.specs.Tree.{Pattern, join, union, minus, leftjoin, filter, extend, values, project, distinct, graph, slice, reduced}
use Rattle.algebra.specs.Tree.{term, bound, exists, apply, EQ, NOT, SAME, always, provided, eend, econs}
use Rattle.counting.specs.Countable.{is_countable, extends_fresh, values_once, expressions_known}
use Rattle.counting.proofs.Standard.{fields, one, same_terms, no, both}

abbrev plain : Pattern
plain = one "?a" "<p>" "?b"

-- every kind and every word of the part
belongs : map is_countable
    (plain ∷ join plain plain ∷ leftjoin plain plain always ∷ leftjoin plain plain (provided (same_terms "?a" "\"u\"")) ∷ filter plain (no (both (bound (bytes "?a")) (same_terms "?a" "?b"))) ∷ union plain plain ∷ minus plain plain ∷ extend (bytes "?c") plain (term (bytes "?a")) ∷ values (fields ("?a" ∷ [])) [] ∷ project (fields ("?a" ∷ [])) plain ∷ distinct plain ∷ [])
    ≡ true ∷ true ∷ true ∷ true ∷ true ∷ true ∷ true ∷ true ∷ true ∷ true ∷ true ∷ []
unfolding is_countable
belongs = refl

-- a blank node, kinds and words outside, `same` of what is no term, an extend with more than a term, `not` of two
outside : map is_countable
    (one "_:x" "<p>" "?b" ∷ graph (bytes "<g>") plain ∷ reduced plain ∷ distinct (slice (bytes "0") (bytes "1") plain) ∷ filter plain (exists plain) ∷ filter plain (term (bytes "?a")) ∷ filter plain (apply EQ (econs (term (bytes "?a")) (econs (term (bytes "?b")) eend))) ∷ filter plain (apply SAME (econs (bound (bytes "?a")) (econs (term (bytes "?b")) eend))) ∷ extend (bytes "?c") plain (bound (bytes "?a")) ∷ filter plain (apply NOT (econs (bound (bytes "?a")) (econs (bound (bytes "?b")) eend))) ∷ [])
    ≡ false ∷ false ∷ false ∷ false ∷ false ∷ false ∷ false ∷ false ∷ false ∷ false ∷ []
unfolding is_countable
outside = refl

-- an extend may set a variable that is hidden beneath it, not one in scope there
fresh : map extends_fresh (extend (bytes "?c") plain (term (bytes "?a")) ∷ extend (bytes "?b") (project (fields ("?a" ∷ [])) plain) (term (bytes "?a")) ∷ join plain (extend (bytes "?b") plain (term (bytes "?a"))) ∷ []) ≡ true ∷ true ∷ false ∷ []
unfolding extends_fresh
fresh = refl

once : map values_once (values (fields ("?a" ∷ "?b" ∷ [])) [] ∷ minus plain (values (fields ("?a" ∷ "?a" ∷ [])) []) ∷ []) ≡ true ∷ false ∷ []
unfolding values_once
once = refl

-- a name that is hidden in the tree is known, one that only an expression has is not
known : map expressions_known (filter (project (fields ("?a" ∷ [])) plain) (bound (bytes "?b")) ∷ leftjoin plain plain (provided (bound (bytes "?c"))) ∷ []) ≡ true ∷ false ∷ []
unfolding expressions_known
known = refl
