-- The spelling of each kind: what stands between the braces of its group. Assumes nothing.
use Rattle.std.specs.Prelude.{List, [], ◌∷◌, cond}
use Rattle.text.specs.Text.{Bytes}
use Rattle.text.specs.Field.{is_var, is_iri, is_dash}
use Rattle.algebra.specs.Tree.{Triple, Op, OR, AND, EQ, SAME, GT, GE, LT, LE, ADD, SUB, MUL, DIV, IN, PLUS, NEG, NOT, IF, COALESCE, Pattern, bgp, path, join, union, minus, leftjoin, filter, graph, extend, values, orderby, project, distinct, reduced, slice, group, service, Expression, term, bound, exists, apply, call, Condition, always, provided, Expressions, eend, econs, Orders, oend, ocons}
use Rattle.algebra.specs.Query.{Query}
use Rattle.editions.specs.Token.{Keyword, SELECT, DISTINCT, REDUCED, WHERE, ORDER, BY, LIMIT, OFFSET, OPTIONAL, FILTER, UNION, GRAPH, MINUS, BIND, AS, VALUES, UNDEF, BOUND, SAMETERM, EXISTS, OPEN, CLOSE, LEFT, RIGHT, DOT, COMMA, BANG, EQUALS, BOTH, EITHER, SORT, Token, key, var, iri, literal, integer, text}

-- Each function below writes its tokens in front of the tokens that follow.

-- a term as it is
unfoldable pub term_of : Bytes → Token
term_of x = cond (is_var x) (var x) (cond (is_iri x) (iri x) (literal x))

unfoldable pub cell_of : Bytes → Token
cell_of x = cond (is_dash x) (key UNDEF) (cond (is_iri x) (iri x) (literal x))

-- s p o .
unfoldable pub spell_triples : List Triple → List Token → List Token
spell_triples [] t = t
spell_triples (x ∷ xs) t = term_of x.subj ∷ term_of x.pred ∷ term_of x.obj ∷ key DOT ∷ spell_triples xs t

unfoldable pub spell_vars : List Bytes → List Token → List Token
spell_vars [] t = t
spell_vars (v ∷ vs) t = var v ∷ spell_vars vs t

unfoldable pub spell_cells : List Bytes → List Token → List Token
spell_cells [] t = t
spell_cells (x ∷ xs) t = cell_of x ∷ spell_cells xs t

-- ( cells )
unfoldable pub spell_rows : List (List Bytes) → List Token → List Token
spell_rows [] t = t
spell_rows (r ∷ rs) t = key LEFT ∷ spell_cells r (key RIGHT ∷ spell_rows rs t)

-- in front of an operator's arguments
abbrev pub opening : Op → List Token → List Token
opening SAME t = key SAMETERM ∷ key LEFT ∷ t
opening NOT t = key LEFT ∷ key BANG ∷ t
opening OR t = key LEFT ∷ t
opening AND t = key LEFT ∷ t
opening EQ t = key LEFT ∷ t
opening GT t = t
opening GE t = t
opening LT t = t
opening LE t = t
opening ADD t = t
opening SUB t = t
opening MUL t = t
opening DIV t = t
opening IN t = t
opening PLUS t = t
opening NEG t = t
opening IF t = t
opening COALESCE t = t

-- between them
abbrev pub between : Op → Keyword
between OR = EITHER
between AND = BOTH
between EQ = EQUALS
between SAME = COMMA
between GT = COMMA
between GE = COMMA
between LT = COMMA
between LE = COMMA
between ADD = COMMA
between SUB = COMMA
between MUL = COMMA
between DIV = COMMA
between IN = COMMA
between PLUS = COMMA
between NEG = COMMA
between NOT = COMMA
between IF = COMMA
between COALESCE = COMMA

-- OFFSET a, LIMIT n
unfoldable pub spell_slice : Bytes → Bytes → List Token → List Token
spell_slice a n t = key OFFSET ∷ integer a ∷ cond (is_dash n) t (key LIMIT ∷ integer n ∷ t)

-- a token behind the first
abbrev pub behind : Token → List Token → List Token
behind k [] = []
behind k (t ∷ ts) = t ∷ k ∷ ts

unfoldable mutual
  -- what stands in the group's braces
  pub spell_p : Pattern → List Token → List Token
  spell_p (bgp ts) t = spell_triples ts t
  spell_p (join p q) t = key OPEN ∷ spell_p p (key CLOSE ∷ key OPEN ∷ spell_p q (key CLOSE ∷ t))
  spell_p (leftjoin p q c) t = key OPEN ∷ spell_p p (key CLOSE ∷ key OPTIONAL ∷ key OPEN ∷ key OPEN ∷ spell_p q (key CLOSE ∷ spell_c c (key CLOSE ∷ t)))
  spell_p (filter p e) t = key OPEN ∷ spell_p p (key CLOSE ∷ key FILTER ∷ key LEFT ∷ spell_e e (key RIGHT ∷ t))
  spell_p (union p q) t = key OPEN ∷ spell_p p (key CLOSE ∷ key UNION ∷ key OPEN ∷ spell_p q (key CLOSE ∷ t))
  spell_p (graph n p) t = key GRAPH ∷ term_of n ∷ key OPEN ∷ spell_p p (key CLOSE ∷ t)
  spell_p (minus p q) t = key OPEN ∷ spell_p p (key CLOSE ∷ key MINUS ∷ key OPEN ∷ spell_p q (key CLOSE ∷ t))
  spell_p (extend v p e) t = key OPEN ∷ spell_p p (key CLOSE ∷ key BIND ∷ key LEFT ∷ spell_e e (key AS ∷ var v ∷ key RIGHT ∷ t))
  spell_p (values cs rs) t = key VALUES ∷ key LEFT ∷ spell_vars cs (key RIGHT ∷ key OPEN ∷ spell_rows rs (key CLOSE ∷ t))
  -- stacks: a query as it stands alone; ORDER BY goes behind the brace that closes the group
  spell_p (slice a n p) t = spell_p p (spell_slice a n t)
  spell_p (distinct p) t = behind (key DISTINCT) (spell_p p t)
  spell_p (reduced p) t = behind (key REDUCED) (spell_p p t)
  spell_p (project cs p) t = key SELECT ∷ spell_vars cs (key WHERE ∷ key OPEN ∷ spell_p p (key CLOSE ∷ t))
  spell_p (orderby p os) [] = spell_p p (key ORDER ∷ key BY ∷ spell_os os [])
  spell_p (orderby p os) (close ∷ t) = spell_p p (close ∷ key ORDER ∷ key BY ∷ spell_os os t)
  -- not covered
  spell_p (path s x o) t = t
  spell_p (group ks p rs) t = t
  spell_p (service n f p) t = t

  -- a PrimaryExpression
  pub spell_e : Expression → List Token → List Token
  spell_e (term x) t = term_of x ∷ t
  spell_e (bound v) t = key BOUND ∷ key LEFT ∷ var v ∷ key RIGHT ∷ t
  spell_e (exists p) t = key EXISTS ∷ key OPEN ∷ spell_p p (key CLOSE ∷ t)
  spell_e (apply o es) t = opening o (spell_es es o (key RIGHT ∷ t))
  spell_e (call n es) t = t

  pub spell_c : Condition → List Token → List Token
  spell_c always t = t
  spell_c (provided e) t = key FILTER ∷ key LEFT ∷ spell_e e (key RIGHT ∷ t)

  pub spell_es : Expressions → Op → List Token → List Token
  spell_es eend o t = t
  spell_es (econs e es) o t = spell_e e (spell_more es o t)

  pub spell_more : Expressions → Op → List Token → List Token
  spell_more eend o t = t
  spell_more (econs e es) o t = key (between o) ∷ spell_e e (spell_more es o t)

  pub spell_os : Orders → List Token → List Token
  spell_os oend t = t
  spell_os (ocons d e os) t = key (SORT d) ∷ key LEFT ∷ spell_e e (key RIGHT ∷ spell_os os t)

-- a select query's text: the same for both editions
unfoldable pub spell : Query → Bytes
spell q = text (spell_p q.tree [])
