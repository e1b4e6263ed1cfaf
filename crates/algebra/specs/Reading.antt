-- Reading a tree back: what follows each word. docs/SPECIFICATION.md, "Lines of a tree". Assumes nothing.
use Rattle.std.specs.Prelude.{ℕ, zero, suc, ◌+◌, List, [], ◌∷◌, Bool, true, false}
use Rattle.text.specs.Text.{Bytes}
use Rattle.text.specs.Word.{bytes, spelled}
use Rattle.text.specs.Field.{Kind, variable, node, plain, name, cell, integer, limit, flag, opaque}
use Rattle.algebra.specs.Tree.{Triple, Pattern, bgp, path, join, union, minus, leftjoin, filter, graph, extend, values, orderby, project, distinct, reduced, slice, group, service, Expression, term, bound, exists, apply, call, Condition, always, provided, Expressions, eend, econs, Orders, oend, ocons, Aggregates, aend, agg, aggall}
use Rattle.algebra.specs.Word.{PatternWord, BGP, PATH, JOIN, UNION, MINUS, LEFTJOIN, FILTER, GRAPH, EXTEND, VALUES, ORDERBY, PROJECT, DISTINCT, REDUCED, SLICE, GROUP, SERVICE, ExpressionWord, TERM, BOUND, EXISTS, CALL, OP, AggregateWord, AGG, AGGALL, spell_p, spell_e, spell_d, spell_a, pattern_words, expression_words, directions, aggregate_words, Arity, exactly, counted, arity}
use Rattle.algebra.specs.Tally.{Limits, Tally, noted, headed}
use Rattle.algebra.specs.Reader.{over_bound, Reader, ◌>>=◌, ◌>>◌, return, refuse, one, field, number, keyword, zero_one, rest, times, end, close_at}

-- how many children follow
abbrev pub taken : Arity → Reader ℕ
taken (exactly n) = return n
taken (counted n) = do
  k ← number
  return (k + n)

-- what is read inside a pattern or an expression: the end of its own line, and the patterns and expressions under it
pub record Inside : Type 0 where
  pub close : (Tally → Tally) → Reader (Unit {0})
  pub pattern : Reader Pattern
  pub expression : Reader Expression

-- n expressions, one after the other
unfoldable pub expressions : ℕ → Reader Expression → Reader Expressions
expressions zero r = return eend
expressions (suc n) r = do
  e ← r
  es ← expressions n r
  return (econs e es)

abbrev pub condition : Bool → Reader Expression → Reader Condition
condition false r = return always
condition true r = do
  e ← r
  return (provided e)

module _ (β : Limits) where
  -- ---- lines that add no depth

  abbrev pub triple : Reader Triple
  triple = do
    keyword (bytes "t")
    s ← field node
    p ← field name
    o ← field node
    end β (noted (s ∷ p ∷ o ∷ []))
    return (record { subj = s; pred = p; obj = o })

  -- a line `cols` of n variables
  abbrev pub columns : ℕ → Reader (List Bytes)
  columns n = do
    keyword (bytes "cols")
    fs ← times n (field variable)
    end β (noted fs)
    return fs

  -- a line `row` of n cells, a line `at` of n positions
  abbrev pub listed : Bytes → Kind → ℕ → Reader (List Bytes)
  listed w k n = do
    keyword w
    fs ← times n (field k)
    end β (noted [])
    return fs

  unfoldable pub orders : ℕ → Reader Expression → Reader Orders
  orders zero r = return oend
  orders (suc n) r = do
    d ← one (spelled spell_d directions)
    end β (noted [])
    e ← r
    os ← orders n r
    return (ocons d e os)

  abbrev pub aggregate : AggregateWord → Reader Expression → Reader Aggregates → Reader Aggregates
  aggregate AGG r more = do
    v ← field variable
    n ← field opaque
    f ← field flag
    end β (noted (v ∷ []))
    e ← r
    rs ← more
    return (agg v n f e rs)
  aggregate AGGALL r more = do
    v ← field variable
    f ← field flag
    end β (noted (v ∷ []))
    rs ← more
    return (aggall v f rs)

  unfoldable pub aggregates : ℕ → Reader Expression → Reader Aggregates
  aggregates zero r = return aend
  aggregates (suc n) r = do
    w ← one (spelled spell_a aggregate_words)
    aggregate w r (aggregates n r)

  -- ---- what follows a pattern's word

  unfoldable pub pattern_after : Inside → PatternWord → Reader Pattern
  pattern_after r BGP = do
    n ← number
    r.close (noted [])
    ts ← times n triple
    return (bgp ts)
  pattern_after r PATH = do
    s ← field node
    x ← field opaque
    o ← field node
    r.close (noted (s ∷ o ∷ []))
    return (path s x o)
  pattern_after r JOIN = do
    r.close (noted [])
    p ← r.pattern
    q ← r.pattern
    return (join p q)
  pattern_after r UNION = do
    r.close (noted [])
    p ← r.pattern
    q ← r.pattern
    return (union p q)
  pattern_after r MINUS = do
    r.close (noted [])
    p ← r.pattern
    q ← r.pattern
    return (minus p q)
  pattern_after r LEFTJOIN = do
    b ← one zero_one
    r.close (noted [])
    p ← r.pattern
    q ← r.pattern
    c ← condition b r.expression
    return (leftjoin p q c)
  pattern_after r FILTER = do
    r.close (noted [])
    p ← r.pattern
    e ← r.expression
    return (filter p e)
  pattern_after r GRAPH = do
    n ← field name
    r.close (noted (n ∷ []))
    p ← r.pattern
    return (graph n p)
  pattern_after r EXTEND = do
    v ← field variable
    r.close (noted (v ∷ []))
    p ← r.pattern
    e ← r.expression
    return (extend v p e)
  pattern_after r VALUES = do
    m ← number
    k ← number
    r.close (noted [])
    cs ← columns m
    rs ← times k (listed (bytes "row") cell m)
    return (values cs rs)
  pattern_after r ORDERBY = do
    n ← number
    r.close (noted [])
    p ← r.pattern
    os ← orders n r.expression
    return (orderby p os)
  pattern_after r PROJECT = do
    cs ← rest variable
    r.close (headed cs)
    p ← r.pattern
    return (project cs p)
  pattern_after r DISTINCT = do
    r.close (noted [])
    p ← r.pattern
    return (distinct p)
  pattern_after r REDUCED = do
    r.close (noted [])
    p ← r.pattern
    return (reduced p)
  pattern_after r SLICE = do
    a ← field integer
    n ← field limit
    r.close (noted [])
    p ← r.pattern
    return (slice a n p)
  pattern_after r GROUP = do
    g ← number
    a ← number
    r.close (noted [])
    ks ← columns g
    p ← r.pattern
    rs ← aggregates a r.expression
    return (group ks p rs)
  pattern_after r SERVICE = do
    n ← field name
    f ← field flag
    r.close (noted (n ∷ []))
    p ← r.pattern
    return (service n f p)

  -- ---- what follows an expression's word

  unfoldable pub expression_after : Inside → ExpressionWord → Reader Expression
  unfolding expressions
  expression_after r TERM = do
    x ← field plain
    r.close (noted (x ∷ []))
    return (term x)
  expression_after r BOUND = do
    v ← field variable
    r.close (noted (v ∷ []))
    return (bound v)
  expression_after r EXISTS = do
    r.close (noted [])
    p ← r.pattern
    return (exists p)
  expression_after r CALL = do
    n ← field opaque
    k ← number
    r.close (noted [])
    es ← expressions k r.expression
    return (call n es)
  expression_after r (OP o) = do
    k ← taken (arity o)
    r.close (noted [])
    es ← expressions k r.expression
    return (apply o es)

  abbrev pub pattern_in : Inside → Reader Pattern
  pattern_in r = do
    w ← one (spelled spell_p pattern_words)
    pattern_after r w

  abbrev pub expression_in : Inside → Reader Expression
  expression_in r = do
    w ← one (spelled spell_e expression_words)
    expression_after r w

  -- d levels may still be opened
  unfoldable pub inside : ℕ → Inside
  inside zero = record { close = close_at β zero; pattern = refuse over_bound; expression = refuse over_bound }
  inside (suc d) = record { close = close_at β (suc d); pattern = pattern_in (inside d); expression = expression_in (inside d) }

  -- a tree
  abbrev pub tree : Reader Pattern
  tree = pattern_in (inside β.depth)
