-- A descent over the notes of a tree's lines: behind which note a pattern or an expression ends, by the groups that each note has. It knows no text and no tree. Assumes nothing.
use Rattle.std.specs.Prelude.{ℕ, zero, suc, List, [], ◌∷◌, Bool, true, false, cond, eqb}
use Rattle.algebra.specs.bridge.Table.{Sort, triples, columns, patterns, expressions, rows, orders, aggregates, heads, sets, positions, value_rows, parts}
use Rattle.scoping.specs.bridge.Spots.{Group, Node}

-- lines of this sort are patterns, or expressions
abbrev pub is_patterns : Sort → Bool
is_patterns triples = false
is_patterns columns = false
is_patterns patterns = true
is_patterns expressions = false
is_patterns rows = false
is_patterns orders = false
is_patterns aggregates = false
is_patterns heads = false
is_patterns sets = false
is_patterns positions = false
is_patterns value_rows = false
is_patterns parts = false

abbrev pub is_expressions : Sort → Bool
is_expressions triples = false
is_expressions columns = false
is_expressions patterns = false
is_expressions expressions = true
is_expressions rows = false
is_expressions orders = false
is_expressions aggregates = false
is_expressions heads = false
is_expressions sets = false
is_expressions positions = false
is_expressions value_rows = false
is_expressions parts = false

-- so many, one after the other
unfoldable pub skip_times : (List Node → List Node) → ℕ → List Node → List Node
skip_times f zero ns = ns
skip_times f (suc k) ns = skip_times f k (f ns)

-- how many lines the first group has
abbrev pub head_many : List Group → ℕ
head_many [] = 0
head_many (g ∷ gs) = g.many

-- an order or an aggregate, and the expression below it, if any
unfoldable pub skip_part : (Sort → List Node → List Node) → List Node → List Node
skip_part trees [] = []
skip_part trees (n ∷ ns) = cond (eqb (head_many n.groups) 0) ns (trees expressions ns)

-- a line below another; triples, columns and rows have no notes
unfoldable pub skip_child : (Sort → List Node → List Node) → Sort → List Node → List Node
unfolding skip_part
skip_child trees triples ns = ns
skip_child trees columns ns = ns
skip_child trees patterns ns = trees patterns ns
skip_child trees expressions ns = trees expressions ns
skip_child trees rows ns = ns
skip_child trees orders ns = skip_part trees ns
skip_child trees aggregates ns = skip_part trees ns
skip_child trees heads ns = ns
skip_child trees sets ns = ns
skip_child trees positions ns = ns
skip_child trees value_rows ns = ns
skip_child trees parts ns = ns

-- what stands below a pattern, group by group
unfoldable pub skip_groups : (Sort → List Node → List Node) → List Group → List Node → List Node
unfolding skip_times skip_child
skip_groups trees [] ns = ns
skip_groups trees (g ∷ gs) ns = skip_groups trees gs (skip_times (skip_child trees g.sort) g.many ns)

-- what stands below an expression: a pattern, or other expressions
unfoldable pub skip_under : (Sort → List Node → List Node) → List Group → List Node → List Node
unfolding skip_times
skip_under trees [] ns = ns
skip_under trees (g ∷ gs) ns = cond (is_patterns g.sort) (trees patterns ns) (skip_times (trees expressions) g.many ns)

-- a pattern or an expression, where d levels may still be opened
unfoldable pub skip : ℕ → Sort → List Node → List Node
unfolding skip_groups skip_under
skip zero s ns = ns
skip (suc d) s [] = []
skip (suc d) s (n ∷ ns) = cond (is_expressions s) (skip_under (skip d) n.groups ns) (skip_groups (skip d) n.groups ns)
