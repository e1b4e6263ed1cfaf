-- How code looks for a variable in scope in a pattern, line by line; proofs/Sought says that this is section 18.2.1's scope. It knows lines and no tree. Assumes nothing.
use Rattle.std.specs.Prelude.{ℕ, zero, suc, Bool, true, false, cond, ◌||◌, ◌&&◌, List, [], ◌∷◌, drop}
use Rattle.text.specs.Text.{Bytes, Line, same}
use Rattle.text.specs.Word.{bytes}
use Rattle.algebra.specs.Valid.{mem}
use Rattle.filtering.specs.bridge.Copying.{to_come}
use Rattle.spelling.specs.bridge.Saying.{begins, field_of, word_next, shallow}

-- the fields of a line that are in scope where they are variables
unfoldable pub names_on : Line → List Bytes
unfolding same
names_on l =
    cond (begins l (bytes "t") || (begins l (bytes "project") || begins l (bytes "cols"))) (drop 1 l)
    (cond (begins l (bytes "path")) (field_of l 1 ∷ field_of l 3 ∷ [])
    (cond (begins l (bytes "graph") || (begins l (bytes "service") || (begins l (bytes "extend") || (begins l (bytes "agg") || begins l (bytes "aggall"))))) (field_of l 1 ∷ [])
    []))

abbrev is_first : ℕ → Bool
is_first zero = true
is_first (suc i) = false

abbrev is_second : ℕ → Bool
is_second zero = false
is_second (suc i) = is_first i

abbrev other : Bool → Bool
other true = false
other false = true

-- what is in scope in the line's child number i is in scope in the line
unfoldable pub shows : Line → ℕ → Bool
unfolding same
shows l i =
    cond (begins l (bytes "leftjoin")) (is_first i || is_second i)
    (cond (begins l (bytes "minus") || (begins l (bytes "filter") || (begins l (bytes "extend") || begins l (bytes "orderby")))) (is_first i)
    (cond (begins l (bytes "group")) (other (is_second i))
    (other (begins l (bytes "project") || begins l (bytes "agg")))))

-- whether it was found, and the lines left
pub record Sought : Type 0 where
  pub found : Bool
  pub left : List Line

abbrev pub sought : Bool → List Line → Sought
sought b ls = record { found = b; left = ls }

abbrev pub or_in : Bool → Sought → Sought
or_in b y = sought (b || y.found) y.left

-- the children from number i on, of which k are to come; `shown` where the line itself counts
unfoldable pub sought_children : (Bool → List Line → Sought) → Bool → Line → ℕ → ℕ → List Line → Sought
unfolding shows
sought_children f shown l i zero ls = sought false ls
sought_children f shown l i (suc k) ls = or_in (f (shown && shows l i) ls).found (sought_children f shown l (suc i) k (f (shown && shows l i) ls).left)

-- a line and its children, in one of which f looks
unfoldable pub sought_line : (Bool → List Line → Sought) → Bytes → Bool → List Line → Sought
unfolding names_on sought_children to_come mem
sought_line f v shown [] = sought false []
sought_line f v shown (l ∷ ls) = or_in (shown && mem v (names_on l)) (sought_children f shown l 0 (to_come l) ls)

-- a child, where f looks in a pattern or an expression
unfoldable pub sought_child : (Bool → List Line → Sought) → Bytes → Bool → List Line → Sought
unfolding shallow sought_line
sought_child f v shown ls = cond (shallow (word_next ls)) (sought_line f v shown ls) (f shown ls)

-- a pattern or an expression, where d levels may still be opened
unfoldable pub sought_tree : ℕ → Bytes → Bool → List Line → Sought
unfolding sought_line sought_child
sought_tree zero v shown ls = sought false ls
sought_tree (suc d) v shown ls = sought_line (sought_child (sought_tree d v) v) v shown ls
