-- The grammar of SELECT queries, as far as it is read here: SPARQL 1.1, section 19.8, and SPARQL 1.0, appendix A.8; the numbers are of the productions, 1.1's first, written from knowledge of the standards, whose pages were not at hand. Assumes nothing.
--
-- The grammars are LL(1): the next token chooses the alternative, so a reader by descent finds the one derivation there is. Alternatives
-- that are not named here are refused. Each production hands its algebra on at once.
use Rattle.std.specs.Prelude.{ℕ, zero, suc, ◌*◌, List, [], ◌∷◌, ◌&&◌, length}
use Rattle.std.proofs.Math.Option.{Option, none, some}
use Rattle.text.specs.Text.{Bytes}
use Rattle.text.specs.Word.{bytes}
use Rattle.algebra.specs.Tree.{Op, OR, AND, EQ, SAME, NOT, ASC, DESC, Pattern, union, graph, values, orderby, project, distinct, reduced, slice, Expression, term, bound, exists, apply, eend, econs, Orders, oend, ocons}
use Rattle.algebra.specs.Valid.{different}
use Rattle.editions.specs.Token.{Edition, SELECT, DISTINCT, REDUCED, WHERE, ORDER, BY, LIMIT, OFFSET, OPTIONAL, FILTER, UNION, GRAPH, MINUS, BIND, AS, VALUES, BOUND, SAMETERM, EXISTS, OPEN, CLOSE, LEFT, RIGHT, DOT, COMMA, BANG, EQUALS, BOTH, EITHER, SORT, Token}
use Rattle.editions.specs.Lexical.{lex}
use Rattle.editions.specs.Translation.{Element, triple, filters, optional, takeaway, bind, other, translated}
use Rattle.editions.specs.Readers.{Got, got, refused, Reader, ◌>>=◌, ◌>>◌, return, refuse, or_refuse, check, since11, at, expect, var_of, name_of, node_of, cell_of, integer_of, sort, one, all, nonempty, wide}

-- ---- productions

abbrev pub binary : Op → Expression → Expression → Expression
binary o a b = apply o (econs a (econs b eend))

-- what is read inside a production
pub record Inside : Type 0 where
  pub group : Reader Pattern  -- GroupGraphPattern [53, 20] behind its {
  pub elements : Reader (List Element)  -- the elements that are left in a group
  pub unions : Pattern → Reader Pattern  -- ( 'UNION' GroupGraphPattern )*
  pub rows : Reader (List (List Bytes))  -- ( '(' DataBlockValue* ')' )*
  pub expression : Reader Expression  -- Expression [110, 46]
  pub ands : Expression → Reader Expression  -- ( '&&' ValueLogical )*
  pub ors : Expression → Reader Expression  -- ( '||' ConditionalAndExpression )*
  pub orders : Reader Orders  -- OrderCondition*

module _ (ed : Edition) (r : Inside) where
  -- ---- expressions

  -- BrackettedExpression [120, 56]
  abbrev pub bracketed : Reader Expression
  bracketed = do
    expect LEFT
    x ← r.expression
    expect RIGHT
    return x

  -- PrimaryExpression [119, 55], BuiltInCall [121, 57], ExistsFunc [125]; an IRI with arguments, iriOrFunction [128, 58], is refused at its (
  unfoldable pub primary : Reader Expression
  primary =
      sort node_of (λ f. return (term f))
      (at LEFT (do
        x ← r.expression
        expect RIGHT
        return x)
      (at BOUND (do
        expect LEFT
        v ← one var_of
        expect RIGHT
        return (bound v))
      (at SAMETERM (do
        expect LEFT
        x ← r.expression
        expect COMMA
        y ← r.expression
        expect RIGHT
        return (binary SAME x y))
      (at EXISTS (since11 ed (do
        expect OPEN
        p ← r.group
        return (exists p)))
      refuse))))

  -- UnaryExpression [118, 54]
  unfoldable pub unary : Reader Expression
  unary =
      at BANG (do
        x ← primary
        return (apply NOT (econs x eend)))
      primary

  -- RelationalExpression [114, 50], of which only =
  unfoldable pub relational : Reader Expression
  relational = do
    x ← unary
    at EQUALS (do
      y ← unary
      return (binary EQ x y))
        (return x)

  -- ConditionalAndExpression [112, 48], groups to the left
  abbrev pub ands_in : Expression → Reader Expression
  ands_in x =
      at BOTH (do
        y ← relational
        r.ands (binary AND x y))
      (return x)

  -- ConditionalOrExpression [111, 47], groups to the left
  abbrev pub ors_in : Expression → Reader Expression
  ors_in x =
      at EITHER (do
        a ← relational
        y ← r.ands a
        r.ors (binary OR x y))
      (return x)

  abbrev pub expression_in : Reader Expression
  expression_in = do
    a ← relational
    x ← r.ands a
    r.ors x

  -- ---- groups

  -- GroupOrUnionGraphPattern [67, 25], section 18.2.2.6
  abbrev pub unions_in : Pattern → Reader Pattern
  unions_in p =
      at UNION (do
        expect OPEN
        q ← r.group
        r.unions (union p q))
      (return p)

  abbrev pub rows_in : Reader (List (List Bytes))
  rows_in =
      at LEFT (do
        fs ← all cell_of
        expect RIGHT
        more ← r.rows
        return (fs ∷ more))
      (return [])

  -- and the elements behind it
  abbrev pub more : Element → Reader (List Element)
  more x = do
    xs ← r.elements
    return (x ∷ xs)

  -- GroupGraphPatternSub [54, 20], TriplesBlock [55, 21] with all its dots, GraphPatternNotTriples [56, 22] without a dot behind it
  unfoldable pub elements_in : Reader (List Element)
  elements_in =
      sort node_of (λ s. do
        p ← one name_of
        o ← one node_of
        expect DOT
        more (triple (record { subj = s; pred = p; obj = o })))
      (at OPEN (do
        p ← r.group
        u ← r.unions p
        more (other u))
      -- OptionalGraphPattern [57, 23]
      (at OPTIONAL (do
        expect OPEN
        p ← r.group
        more (optional p))
      -- Filter [68, 26] with a BrackettedExpression
      (at FILTER (do
        x ← bracketed
        more (filters x))
      -- GraphGraphPattern [58, 24]
      (at GRAPH (do
        n ← one name_of
        expect OPEN
        p ← r.group
        more (other (graph n p)))
      -- MinusGraphPattern [66]
      (at MINUS (since11 ed (do
        expect OPEN
        p ← r.group
        more (takeaway p)))
      -- Bind [60]
      (at BIND (since11 ed (do
        expect LEFT
        x ← r.expression
        expect AS
        v ← one var_of
        expect RIGHT
        more (bind v x)))
      -- InlineData [61], InlineDataFull [64]; each row as wide as the variables
      (at VALUES (since11 ed (do
        expect LEFT
        cs ← all var_of
        expect RIGHT
        expect OPEN
        rs ← r.rows
        expect CLOSE
        check (different cs && wide (length cs) rs)
        more (other (values cs rs))))
      (return []))))))))

  -- ---- queries

  -- OrderCondition [24, 17] with ASC or DESC
  abbrev pub orders_in : Reader Orders
  orders_in =
      at (SORT ASC) (do
        x ← bracketed
        os ← r.orders
        return (ocons ASC x os))
      (at (SORT DESC) (do
        x ← bracketed
        os ← r.orders
        return (ocons DESC x os))
      (return oend))

  abbrev pub sorted : Orders → Reader (Pattern → Pattern)
  sorted oend = refuse
  sorted (ocons d x os) = return (λ p. orderby p (ocons d x os))

  -- OrderClause [23, 16]
  unfoldable pub order_clause : Reader (Pattern → Pattern)
  order_clause =
      at ORDER (do
        expect BY
        os ← r.orders
        sorted os)
      (return (λ p. p))

  -- LimitOffsetClauses [25, 15]: a slice starts at 0 if nothing else is said, and is open at its end
  unfoldable pub limits : Reader (Pattern → Pattern)
  limits =
      at LIMIT (do
        n ← one integer_of
        at OFFSET (do
          a ← one integer_of
          return (slice a n))
            (return (slice (bytes "0") n)))
      (at OFFSET (do
        a ← one integer_of
        at LIMIT (do
          n ← one integer_of
          return (slice a n))
            (return (slice a (bytes "-"))))
      (return (λ p. p)))

  -- SelectClause [9, 5]; the standard's set of variables is kept as the list that names it
  unfoldable pub manner : Reader (Pattern → Pattern)
  manner = at DISTINCT (return distinct) (at REDUCED (return reduced) (return (λ p. p)))

  -- WhereClause [17, 13] with its word, and OrderClause
  unfoldable pub ordered : Reader Pattern
  ordered = do
    p ← r.group
    o ← order_clause
    return (o p)

  -- SelectQuery [7, 5] or SubSelect [8], behind its SELECT; section 18.2.5: order, projection, distinct or reduced, slice
  unfoldable pub select_after : Reader Pattern
  select_after = do
    m ← manner
    cs ← all var_of
    check (nonempty cs)
    expect WHERE
    expect OPEN
    p ← ordered
    s ← limits
    return (s (m (project cs p)))

  -- GroupGraphPattern [53, 20] behind its {
  unfoldable pub group_in : Reader Pattern
  group_in =
      at SELECT (since11 ed (do
        p ← select_after
        expect CLOSE
        return p))
      (do
        es ← r.elements
        expect CLOSE
        or_refuse (translated es))

-- d productions may still be opened
unfoldable pub inside : Edition → ℕ → Inside
inside ed zero = record { group = refuse; elements = refuse; unions = λ p. refuse; rows = refuse; expression = refuse; ands = λ x. refuse; ors = λ x. refuse; orders = refuse }
inside ed (suc d) = record { group = group_in ed (inside ed d); elements = elements_in ed (inside ed d); unions = unions_in ed (inside ed d); rows = rows_in ed (inside ed d); expression = expression_in ed (inside ed d); ands = ands_in ed (inside ed d); ors = ors_in ed (inside ed d); orders = orders_in ed (inside ed d) }

abbrev pub whole : Got Pattern → Option Pattern
whole (got p []) = some p
whole (got p (t ∷ ts)) = none
whole refused = none

-- QueryUnit [1, 1]: a SelectQuery without prologue, dataset and values, and nothing behind it. Each production that is opened here passes a token, or is opened by one that does; so eight for each token are more than enough
unfoldable pub parse : Edition → List Token → Option Pattern
parse ed ts = whole ((expect SELECT >> select_after ed (inside ed (8 * suc (length ts)))) ts)

abbrev after : Edition → Option (List Token) → Option Pattern
after ed none = none
after ed (some ts) = parse ed ts

-- what the edition's grammar and translation make of a text, before joins with the empty pattern are dropped
unfoldable pub translate : Edition → Bytes → Option Pattern
translate ed s = after ed (lex s)
