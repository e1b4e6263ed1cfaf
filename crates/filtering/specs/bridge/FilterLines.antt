-- How code goes over the lines of filters, and which lines it writes; proofs/FilterLines says what that makes of the filters. Assumes nothing.
use Rattle.std.specs.Prelude.{ℕ, zero, suc, Bool, true, false, cond, not, ◌&&◌, List, [], ◌∷◌, ◌++◌, length, get_or, ltb}
use Rattle.std.proofs.Math.Option.{Option, none, some}
use Rattle.text.specs.Text.{Bytes, Line, same}
use Rattle.text.specs.Word.{bytes}
use Rattle.text.specs.Field.{number_of}
use Rattle.scoping.specs.bridge.Walk.{number_in}
use Rattle.merging.specs.Sides.{column_at}
use Rattle.merging.specs.Request.{position}
use Rattle.negating.specs.bridge.Lines.{word}
use Rattle.filtering.specs.bridge.Terms.{form_of, is_expressed, term_of}

-- a `ref` line names a position inside; 3 if one doesn't
unfoldable pub ref_inside : List Bytes → Line → Bool
unfolding same position
ref_inside cs l = cond (same (word l) (bytes "ref")) (ltb (position (get_or l 1 [])) (length cs)) true

-- the first line of a filter that is always true
unfoldable pub is_true_line : Line → Bool
unfolding same
is_true_line l = same (word l) (bytes "leaf") && (same (get_or l 1 []) (bytes "Boolean") && same (get_or l 2 []) (bytes "true"))

-- how many parts stand below a line
unfoldable pub parts_below : Line → ℕ
unfolding same number_of
parts_below l =
    cond (same (word l) (bytes "un")) 1
    (cond (same (word l) (bytes "bin")) 2
    (cond (same (word l) (bytes "tern")) 3
    (cond (same (word l) (bytes "nary")) (number_in (get_or l 2 [])) 0)))

-- the lines that a line of a filter becomes, or that it can't be expressed
unfoldable pub leaf_lines : Bytes → Bytes → Bytes → Option (List Line)
unfolding form_of term_of
leaf_lines d l x = cond (is_expressed (form_of d)) (some ((bytes "term" ∷ term_of (form_of d) l x ∷ []) ∷ [])) none

unfoldable pub unary_lines : Bytes → Option (List Line)
unfolding same
unary_lines n =
    cond (same n (bytes "Datatype")) (some ((bytes "call" ∷ bytes "DATATYPE" ∷ bytes "1" ∷ []) ∷ []))
    (cond (same n (bytes "LanguageTag")) (some ((bytes "call" ∷ bytes "LANG" ∷ bytes "1" ∷ []) ∷ [])) none)

unfoldable pub binary_lines : Bytes → Option (List Line)
unfolding same
binary_lines n =
    cond (same n (bytes "Equals")) (some ((bytes "eq" ∷ []) ∷ []))
    (cond (same n (bytes "Unequals")) (some ((bytes "not" ∷ []) ∷ (bytes "eq" ∷ []) ∷ [])) none)

unfoldable pub expression_lines : List Bytes → Line → Option (List Line)
unfolding same leaf_lines unary_lines binary_lines position
expression_lines cs l =
    cond (same (word l) (bytes "leaf")) (leaf_lines (get_or l 1 []) (get_or l 2 []) (get_or l 3 []))
    (cond (same (word l) (bytes "ref")) (some ((bytes "term" ∷ column_at cs (position (get_or l 1 [])) ∷ []) ∷ []))
    (cond (same (word l) (bytes "un")) (unary_lines (get_or l 1 [])) (cond (same (word l) (bytes "bin")) (binary_lines (get_or l 1 [])) none)))

-- what was made of lines: whether all of it can be expressed, the lines written, the lines left
pub record Walked : Type 0 where
  pub expressed : Bool
  pub lines : List Line
  pub left : List Line

abbrev pub walked : Bool → List Line → List Line → Walked
walked b w t = record { expressed = b; lines = w; left = t }

-- lines in front of what is made of the lines behind
abbrev pub in_front : Option (List Line) → Walked → Walked
in_front none y = walked false y.lines y.left
in_front (some w) y = walked y.expressed (w ++ y.lines) y.left

-- what is made of a part, and then of the parts behind it
abbrev pub and_then : Walked → Walked → Walked
and_then x y = walked (x.expressed && y.expressed) (x.lines ++ y.lines) y.left

-- so many parts, one after the other
unfoldable pub several_parts : (List Line → Walked) → ℕ → List Line → Walked
several_parts f zero ls = walked true [] ls
several_parts f (suc k) ls = and_then (f ls) (several_parts f k (f ls).left)

-- tree to expression: a filter's line, then its parts; n lines are left
unfoldable pub tree_to_expression : List Bytes → ℕ → List Line → Walked
unfolding expression_lines parts_below several_parts
tree_to_expression cs zero ls = walked false [] ls
tree_to_expression cs (suc n) [] = walked false [] []
tree_to_expression cs (suc n) (l ∷ ls) = in_front (expression_lines cs l) (several_parts (tree_to_expression cs n) (parts_below l) ls)

-- filter by filter: how many are placed, their expressions' lines one after the other, and the numbers of the others
pub record Placed : Type 0 where
  pub many : ℕ
  pub lines : List Line
  pub others : List ℕ

abbrev pub no_filters : Placed
no_filters = record { many = 0; lines = []; others = [] }

-- filter number i, placed or not, in front of those behind it
abbrev pub one_more : Bool → ℕ → List Line → Placed → Placed
one_more true i w x = record { many = suc x.many; lines = w ++ x.lines; others = x.others }
one_more false i w x = record { many = x.many; lines = x.lines; others = i ∷ x.others }

-- k filters, counted from i, of at most n lines each; none is placed where no projection was found
unfoldable pub placed_filters : Bool → List Bytes → ℕ → ℕ → ℕ → List Line → Placed
unfolding tree_to_expression is_true_line
placed_filters found cs n i zero ls = no_filters
placed_filters found cs n i (suc k) [] = no_filters
placed_filters found cs n i (suc k) (l ∷ ls) =
    one_more (found && (not (is_true_line l) && (tree_to_expression cs n (l ∷ ls)).expressed)) i (tree_to_expression cs n (l ∷ ls)).lines (placed_filters found cs n (suc i) k (tree_to_expression cs n (l ∷ ls)).left)
