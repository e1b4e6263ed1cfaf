-- A spelling has tokens enough for the productions that its reading opens. Assumes nothing.
use mathlib.Core.Bool.{Bool, true, false, cond}
use mathlib.Core.List.{List, [], ◌∷◌}
use Prim.Native.Nat.{suc, ◌+◌, ◌*◌, ◌≤◌}
use native.Mathlib.Omega.{arith}
use lib.ListN.{length}
use Rattle.text.specs.Text.{Bytes}
use Rattle.text.specs.Field.{is_dash}
use Rattle.algebra.specs.Tree.{Triple, Op, OR, AND, EQ, SAME, GT, GE, LT, LE, ADD, SUB, MUL, DIV, IN, PLUS, NEG, NOT, IF, COALESCE, Pattern, bgp, path, join, union, minus, leftjoin, filter, graph, extend, values, orderby, project, distinct, reduced, slice, group, service, Expression, term, bound, exists, apply, call, Condition, always, provided, Expressions, eend, econs, Orders, oend, ocons}
use Rattle.editions.specs.Token.{Token, key, var, integer, DISTINCT, REDUCED, WHERE, ORDER, BY, LIMIT, OPTIONAL, FILTER, UNION, MINUS, BIND, AS, OPEN, CLOSE, LEFT, RIGHT}
use Rattle.editions.specs.Spelling.{spell_triples, spell_vars, spell_cells, spell_rows, opening, spell_slice, behind, spell_p, spell_e, spell_c, spell_es, spell_more, spell_os}
use Rattle.editions.proofs.Raw.{cost, cost_e, cost_c, cost_es, cost_os}

triples-long : (ts : List Triple) (t : List Token) → length ts + length t ≤ length (spell_triples ts t)
unfolding spell_triples
triples-long [] t = omega arith
triples-long (x ∷ xs) t = omega (arith, triples-long xs t)

vars-long : (vs : List Bytes) (t : List Token) → length t ≤ length (spell_vars vs t)
unfolding spell_vars
vars-long [] t = omega arith
vars-long (v ∷ vs) t = omega (arith, vars-long vs t)

cells-long : (vs : List Bytes) (t : List Token) → length t ≤ length (spell_cells vs t)
unfolding spell_cells
cells-long [] t = omega arith
cells-long (v ∷ vs) t = omega (arith, cells-long vs t)

rows_long : (rs : List (List Bytes)) (t : List Token) → length rs + length t ≤ length (spell_rows rs t)
unfolding spell_rows
rows_long [] t = omega arith
rows_long (r ∷ rs) t = omega (arith, rows_long rs t, cells-long r (key RIGHT ∷ spell_rows rs t))

slice-long : (a n : Bytes) (t : List Token) → length t ≤ length (spell_slice a n t)
unfolding spell_slice
slice-long a n t = go (is_dash n)
  where
    go : (b : Bool) → length t ≤ suc (suc (length (cond b t (key LIMIT ∷ integer n ∷ t))))
    go true = omega arith
    go false = omega arith

behind-long : (k : Token) (s : List Token) → length s ≤ length (behind k s)
behind-long k [] = omega arith
behind-long k (t ∷ ts) = omega arith

opening-long : (o : Op) (t : List Token) → length t ≤ length (opening o t)
opening-long SAME t = omega arith
opening-long NOT t = omega arith
opening-long OR t = omega arith
opening-long AND t = omega arith
opening-long EQ t = omega arith
opening-long GT t = omega arith
opening-long GE t = omega arith
opening-long LT t = omega arith
opening-long LE t = omega arith
opening-long ADD t = omega arith
opening-long SUB t = omega arith
opening-long MUL t = omega arith
opening-long DIV t = omega arith
opening-long IN t = omega arith
opening-long PLUS t = omega arith
opening-long NEG t = omega arith
opening-long IF t = omega arith
opening-long COALESCE t = omega arith

mutual
  unfolding spell_p cost

  pub enough : (p : Pattern) (t : List Token) → cost p + 8 * length t ≤ 8 * length (spell_p p t) + 8
  enough (bgp ts) t = omega (arith, triples-long ts t)
  enough (join p q) t = omega (arith, enough q (key CLOSE ∷ t), enough p (key CLOSE ∷ key OPEN ∷ spell_p q (key CLOSE ∷ t)))
  enough (leftjoin p q c) t = omega (arith, enough_c c (key CLOSE ∷ t), enough q (key CLOSE ∷ spell_c c (key CLOSE ∷ t)), enough p (key CLOSE ∷ key OPTIONAL ∷ key OPEN ∷ key OPEN ∷ spell_p q (key CLOSE ∷ spell_c c (key CLOSE ∷ t))))
  enough (filter p e) t = omega (arith, enough_e e (key RIGHT ∷ t), enough p (key CLOSE ∷ key FILTER ∷ key LEFT ∷ spell_e e (key RIGHT ∷ t)))
  enough (union p q) t = omega (arith, enough q (key CLOSE ∷ t), enough p (key CLOSE ∷ key UNION ∷ key OPEN ∷ spell_p q (key CLOSE ∷ t)))
  enough (graph n p) t = omega (arith, enough p (key CLOSE ∷ t))
  enough (minus p q) t = omega (arith, enough q (key CLOSE ∷ t), enough p (key CLOSE ∷ key MINUS ∷ key OPEN ∷ spell_p q (key CLOSE ∷ t)))
  enough (extend v p e) t = omega (arith, enough_e e (key AS ∷ var v ∷ key RIGHT ∷ t), enough p (key CLOSE ∷ key BIND ∷ key LEFT ∷ spell_e e (key AS ∷ var v ∷ key RIGHT ∷ t)))
  enough (values cs rs) t = omega (arith, rows_long rs (key CLOSE ∷ t), vars-long cs (key RIGHT ∷ key OPEN ∷ spell_rows rs (key CLOSE ∷ t)))
  enough (orderby p os) [] = omega (arith, enough_os os [], enough p (key ORDER ∷ key BY ∷ spell_os os []))
  enough (orderby p os) (c ∷ t) = omega (arith, enough_os os t, enough p (c ∷ key ORDER ∷ key BY ∷ spell_os os t))
  enough (project cs p) t = omega (arith, enough p (key CLOSE ∷ t), vars-long cs (key WHERE ∷ key OPEN ∷ spell_p p (key CLOSE ∷ t)))
  enough (distinct p) t = omega (arith, enough p t, behind-long (key DISTINCT) (spell_p p t))
  enough (reduced p) t = omega (arith, enough p t, behind-long (key REDUCED) (spell_p p t))
  enough (slice a n p) t = omega (arith, enough p (spell_slice a n t), slice-long a n t)
  enough (path s x o) t = omega arith
  enough (group ks p rs) t = omega arith
  enough (service n f p) t = omega arith

  enough_e : (x : Expression) (t : List Token) → cost_e x + 8 * length t ≤ 8 * length (spell_e x t) + 8
  enough_e (term x) t = omega arith
  enough_e (bound v) t = omega arith
  enough_e (exists p) t = omega (arith, enough p (key CLOSE ∷ t))
  enough_e (apply o es) t = omega (arith, enough_es es o (key RIGHT ∷ t), opening-long o (spell_es es o (key RIGHT ∷ t)))
  enough_e (call n es) t = omega arith

  enough_c : (c : Condition) (t : List Token) → cost_c c + 8 * length t ≤ 8 * length (spell_c c t)
  enough_c always t = omega arith
  enough_c (provided e) t = omega (arith, enough_e e (key RIGHT ∷ t))

  enough_es : (es : Expressions) (o : Op) (t : List Token) → cost_es es + 8 * length t ≤ 8 * length (spell_es es o t) + 8
  enough_es eend o t = omega arith
  enough_es (econs e es) o t = omega (arith, enough_more es o t, enough_e e (spell_more es o t))

  enough_more : (es : Expressions) (o : Op) (t : List Token) → cost_es es + 8 * length t ≤ 8 * length (spell_more es o t)
  enough_more eend o t = omega arith
  enough_more (econs e es) o t = omega (arith, enough_more es o t, enough_e e (spell_more es o t))

  enough_os : (os : Orders) (t : List Token) → cost_os os + 8 * length t ≤ 8 * length (spell_os os t) + 8
  enough_os oend t = omega arith
  enough_os (ocons d e os) t = omega (arith, enough_os os t, enough_e e (key RIGHT ∷ spell_os os t))
