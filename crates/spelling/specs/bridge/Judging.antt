-- How code judges a query line by line: where a pattern stands is told by the line before it. It knows lines and no tree; proofs/Judged says that the first line that is refused here is the one that decides. Assumes nothing.
use Rattle.std.specs.Prelude.{ℕ, zero, suc, Bool, true, false, cond, not, ◌||◌, ◌&&◌, List, [], ◌∷◌, drop}
use Rattle.std.proofs.Math.Option.{none, some}
use Rattle.text.specs.Text.{Bytes, Line, same}
use Rattle.text.specs.Word.{bytes}
use Rattle.text.specs.Field.{is_blank, number_of}
use Rattle.algebra.specs.Valid.{different}
use Rattle.scoping.specs.bridge.Walk.{number_in}
use Rattle.negating.specs.bridge.Lines.{word}
use Rattle.editions.specs.Token.{Edition, is11}
use Rattle.editions.specs.Lexical.{is_var1}
use Rattle.editions.specs.Readers.{nonempty}
use Rattle.editions.specs.Refusals.{unsayable, Verdict, line, first, allowed, all_allowed, all_cells, Place, root, inner, under_slice, under_distinct, under_project, free, takes_distinct, takes_project, takes_order}
use Rattle.editions.specs.Refusals as R
use Rattle.spelling.specs.bridge.Saying.{begins, field_of}
use Rattle.spelling.specs.bridge.Seeking.{sought_tree}

-- where a pattern stands that comes directly behind a line with that word; under any other line, or behind a child, it is an inner one
unfoldable pub place_under : Bytes → Place
unfolding same
place_under w =
    cond (same w (bytes "query")) root
    (cond (same w (bytes "slice")) under_slice
    (cond (same w (bytes "distinct") || same w (bytes "reduced")) under_distinct
    (cond (same w (bytes "project")) under_project
    inner)))

-- patterns of both editions without names of their own
unfoldable pub is_plain_pattern : Line → Bool
unfolding same
is_plain_pattern l = begins l (bytes "bgp") || (begins l (bytes "join") || (begins l (bytes "leftjoin") || (begins l (bytes "filter") || begins l (bytes "union"))))

-- expressions and orders of both editions without names of their own
unfoldable pub is_plain_expression : Line → Bool
unfolding same
is_plain_expression l = begins l (bytes "or") || (begins l (bytes "and") || (begins l (bytes "eq") || (begins l (bytes "same") || (begins l (bytes "not") || (begins l (bytes "asc") || begins l (bytes "desc"))))))

-- more than none
abbrev pub is_some : ℕ → Bool
is_some zero = false
is_some (suc n) = true

-- one line, where it stands, and the lines behind it, of which n are left
unfoldable pub verdict_of : Edition → ℕ → Place → Line → List Line → Verdict
unfolding same is_plain_pattern is_plain_expression sought_tree allowed all_allowed all_cells is_var1 different number_of is_blank
verdict_of ed n w l next =
    cond (is_plain_pattern l) (line (free w) true)
    (cond (is_plain_expression l) none
    (cond (begins l (bytes "t")) (line (not (is_blank (field_of l 1)) && not (is_blank (field_of l 3))) (allowed (field_of l 1) && (allowed (field_of l 2) && allowed (field_of l 3))))
    (cond (begins l (bytes "term")) (line true (allowed (field_of l 1)))
    (cond (begins l (bytes "bound")) (line true (is_var1 (field_of l 1)))
    (cond (begins l (bytes "graph")) (line (free w) (allowed (field_of l 1)))
    (cond (begins l (bytes "project")) (line (takes_project ed w && nonempty (drop 1 l)) (all_allowed (drop 1 l)))
    (cond (begins l (bytes "orderby")) (line (takes_order w && is_some (number_in (field_of l 1))) true)
    (cond (begins l (bytes "distinct") || begins l (bytes "reduced")) (line (takes_distinct ed w) true)
    (cond (begins l (bytes "slice")) (line (R.begins ed w) true)
    (cond (begins l (bytes "exists")) (line (is11 ed) true)
    (cond (begins l (bytes "minus")) (line (free w && is11 ed) true)
    (cond (begins l (bytes "extend")) (line (free w && (is11 ed && not (sought_tree n (field_of l 1) true next).found)) (is_var1 (field_of l 1)))
    (cond (begins l (bytes "values")) (line (free w && is11 ed) true)
    (cond (begins l (bytes "cols")) (line (different (drop 1 l)) (all_allowed (drop 1 l)))
    (cond (begins l (bytes "row")) (line true (all_cells (drop 1 l)))
    (cond (begins l (bytes "query")) (line (same (field_of l 1) (bytes "select") && (same (field_of l 2) (bytes "-") && same (field_of l 3) (bytes "-"))) true)
    (some unsayable)))))))))))))))))

-- the first line that is refused
unfoldable pub judged_lines : Edition → ℕ → Place → List Line → Verdict
unfolding verdict_of place_under
judged_lines ed n w [] = none
judged_lines ed n w (l ∷ ls) = first (verdict_of ed n w l ls) (judged_lines ed n (place_under (word l)) ls)
