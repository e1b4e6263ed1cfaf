-- An empty file: a tree's text of no bytes, and a query's with nothing behind its head line, are read as `project` over `bgp 0`. docs/SPECIFICATION.md, "An empty file". Assumes nothing.
use Rattle.std.specs.Prelude.{cond, List, [], ◌∷◌, ltb, length}
use Rattle.text.specs.Text.{Bytes, Line, lines_of}
use Rattle.text.specs.Word.{bytes}
use Rattle.algebra.specs.Tree.{Pattern, bgp, project}
use Rattle.algebra.specs.Query.{Query}
use Rattle.algebra.specs.Tally.{bounds, start}
use Rattle.algebra.specs.Reader.{over_bound, Reader, Outcome, refuses, outcome}
use Rattle.algebra.specs.Reading.{tree}
use Rattle.algebra.specs.ListReading.{query}

-- no columns and no triples
abbrev pub empty_tree : Pattern
empty_tree = project [] (bgp [])

-- its two lines
abbrev pub empty_lines : List Line
empty_lines = (bytes "project" ∷ []) ∷ (bytes "bgp" ∷ bytes "0" ∷ []) ∷ []

-- and their text
abbrev pub empty_text : Bytes
empty_text = bytes "project\nbgp\t0\n"

-- the lines of a tree as they are read
abbrev pub tree_lines : List Line → List Line
tree_lines [] = empty_lines
tree_lines (l ∷ ls) = l ∷ ls

-- and of a query, whose tree is what follows the head line
abbrev pub query_lines : List Line → List Line
query_lines [] = []
query_lines (l ∷ ls) = l ∷ tree_lines ls

-- the whole length is that of the text as it stands, without the two lines; then line by line, those that are put there too
abbrev pub read_as : {A : Type 0} → (List Line → List Line) → Reader A → Bytes → Outcome A
read_as given r s = cond (ltb bounds.bytes (length s)) (refuses over_bound) (outcome (r (given (lines_of s)) start))

-- the tree that a text of a tree gives
unfoldable pub read_given_tree : Bytes → Outcome Pattern
unfolding lines_of
read_given_tree s = read_as tree_lines (tree bounds) s

-- the query that a text of a query gives
unfoldable pub read_given_query : Bytes → Outcome Query
unfolding lines_of
read_given_query s = read_as query_lines (query bounds) s
