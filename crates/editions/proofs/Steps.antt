-- One law for each alternative of each production: what it reads, if its parts read theirs. Assumes nothing.
use mathlib.Core.Path.{◌≡◌, refl, ◌∙◌, ap}
use mathlib.Core.Bool.{Bool, true, false, cond, ◌&&◌, false≢true}
use mathlib.Core.List.{List, [], ◌∷◌}
use mathlib.Core.Option.{none, some}
use lib.ListN.{length}
use Rattle.text.specs.Text.{Bytes, same}
use Rattle.text.specs.Field.{name, is_dash}
use Rattle.algebra.specs.Tree.{Triple, OR, AND, EQ, SAME, GT, GE, LT, LE, ADD, SUB, MUL, DIV, IN, PLUS, NEG, NOT, IF, COALESCE, Direction, ASC, DESC, Pattern, union, graph, values, orderby, project, slice, Expression, term, bound, exists, apply, call, eend, econs, Orders, oend, ocons}
use Rattle.algebra.specs.Valid.{Fits, different}
use Rattle.editions.specs.Token.{Edition, sparql10, sparql11, is11, Keyword, SELECT, WHERE, ORDER, BY, LIMIT, OFFSET, OPTIONAL, FILTER, UNION, GRAPH, MINUS, BIND, AS, VALUES, BOUND, SAMETERM, EXISTS, OPEN, CLOSE, LEFT, RIGHT, DOT, COMMA, BANG, EQUALS, BOTH, EITHER, SORT, Token, key, var, integer}
use Rattle.editions.specs.Translation.{Element, triple, filters, optional, takeaway, bind, other, translated}
use Rattle.editions.specs.Readers.{got, Reader, since11, is_key, at, sort, nonempty, wide}
use Rattle.editions.specs.Grammar.{binary, Inside, primary, unary, relational, ands_in, ors_in, expression_in, unions_in, rows_in, elements_in, orders_in, order_clause, limits, manner, ordered, select_after, group_in}
use Rattle.editions.specs.Spelling.{term_of, spell_vars, spell_cells, spell_slice, spell_e}
use Rattle.editions.specs.Refusals.{unsayable, first}
use Rattle.editions.proofs.Refused.{refusal_e}
use Rattle.editions.proofs.Basics.{impossible}
use Rattle.editions.proofs.Pieces.{node-back, name_back, no_key, dash, vars-back, cells-back}

pub since : {A : Type 0} (ed : Edition) (r : Reader A) (ts : List Token) → is11 ed ≡ true → since11 ed r ts ≡ r ts
since sparql10 r ts h = absurd (false≢true h)
since sparql11 r ts h = refl

-- what stands behind a query's group and its ORDER BY
pub data Rest : List Token → Type 0 where
  ended : Rest []
  closed : (t : List Token) → Rest (key CLOSE ∷ t)
  cut : (t : List Token) → Rest (key OFFSET ∷ t)

module _ (ed : Edition) (r : Inside) where
  -- ---- expressions

  pub read-term : (x : Bytes) (t : List Token) → primary ed r (term_of x ∷ t) ≡ got (term x) t
  unfolding primary sort
  read-term x t = rw (node-back x)

  pub read-bound : (v : Bytes) (t : List Token) → primary ed r (key BOUND ∷ key LEFT ∷ var v ∷ key RIGHT ∷ t) ≡ got (bound v) t
  unfolding primary sort at same
  read-bound v t = refl

  pub read-brackets : {x : Expression} {s t : List Token} → r.expression s ≡ got x (key RIGHT ∷ t) → primary ed r (key LEFT ∷ s) ≡ got x t
  unfolding primary sort at same
  read-brackets a = rw a

  pub read_same : {x y : Expression} {s u t : List Token} → r.expression s ≡ got x (key COMMA ∷ u) → r.expression u ≡ got y (key RIGHT ∷ t) → primary ed r (key SAMETERM ∷ key LEFT ∷ s) ≡ got (binary SAME x y) t
  unfolding primary sort at same
  read_same a b = rw (a, b)

  pub read-exists : {p : Pattern} {s t : List Token} → is11 ed ≡ true → r.group s ≡ got p t → primary ed r (key EXISTS ∷ key OPEN ∷ s) ≡ got (exists p) t
  unfolding primary sort at same
  read-exists e a = since ed _ _ e ∙ rw a

  pub read-not : {x : Expression} {t : List Token} (s : List Token) → primary ed r s ≡ got x t → unary ed r (key BANG ∷ s) ≡ got (apply NOT (econs x eend)) t
  unfolding unary at same
  read-not s a = rw a

  -- no expression's spelling begins with !
  pub read-unary : (x : Expression) (t : List Token) → refusal_e ed x ≡ none → unary ed r (spell_e x t) ≡ primary ed r (spell_e x t)
  unfolding unary at same spell_e refusal_e first
  read-unary (term x) t h = rw (no_key BANG x)
  read-unary (bound v) t h = refl
  read-unary (exists p) t h = refl
  read-unary (call n es) t h = impossible unsayable h
  read-unary (apply OR es) t h = refl
  read-unary (apply AND es) t h = refl
  read-unary (apply EQ es) t h = refl
  read-unary (apply SAME es) t h = refl
  read-unary (apply NOT es) t h = refl
  read-unary (apply GT es) t h = impossible unsayable h
  read-unary (apply GE es) t h = impossible unsayable h
  read-unary (apply LT es) t h = impossible unsayable h
  read-unary (apply LE es) t h = impossible unsayable h
  read-unary (apply ADD es) t h = impossible unsayable h
  read-unary (apply SUB es) t h = impossible unsayable h
  read-unary (apply MUL es) t h = impossible unsayable h
  read-unary (apply DIV es) t h = impossible unsayable h
  read-unary (apply IN es) t h = impossible unsayable h
  read-unary (apply PLUS es) t h = impossible unsayable h
  read-unary (apply NEG es) t h = impossible unsayable h
  read-unary (apply IF es) t h = impossible unsayable h
  read-unary (apply COALESCE es) t h = impossible unsayable h

  pub read-lone : {x : Expression} {t : List Token} (s : List Token) (k : Keyword) → is_key EQUALS (key k) ≡ false → unary ed r s ≡ got x (key k ∷ t) → relational ed r s ≡ got x (key k ∷ t)
  unfolding relational at
  read-lone s k e a = rw (a, e)

  pub read-eq : {x y : Expression} {u t : List Token} (s : List Token) → unary ed r s ≡ got x (key EQUALS ∷ u) → unary ed r u ≡ got y t → relational ed r s ≡ got (binary EQ x y) t
  unfolding relational at same
  read-eq s a b = rw (a, b)

  pub ands-end : (x : Expression) (t : List Token) (k : Keyword) → is_key BOTH (key k) ≡ false → ands_in ed r x (key k ∷ t) ≡ got x (key k ∷ t)
  unfolding at
  ands-end x t k e = rw e

  pub ands-one : {x y z : Expression} {u t : List Token} (s : List Token) → relational ed r s ≡ got y u → r.ands (binary AND x y) u ≡ got z t → ands_in ed r x (key BOTH ∷ s) ≡ got z t
  unfolding at same
  ands-one s a b = rw (a, b)

  pub ors-end : (x : Expression) (t : List Token) (k : Keyword) → is_key EITHER (key k) ≡ false → ors_in ed r x (key k ∷ t) ≡ got x (key k ∷ t)
  unfolding at
  ors-end x t k e = rw e

  pub ors-one : {x y z w : Expression} {u v t : List Token} (s : List Token) → relational ed r s ≡ got y u → r.ands y u ≡ got z v → r.ors (binary OR x z) v ≡ got w t → ors_in ed r x (key EITHER ∷ s) ≡ got w t
  unfolding at same
  ors-one s a b c = rw (a, b, c)

  pub read-expression : {x y z : Expression} {u v t : List Token} (s : List Token) → relational ed r s ≡ got x u → r.ands x u ≡ got y v → r.ors y v ≡ got z t → expression_in ed r s ≡ got z t
  read-expression s a b c = rw (a, b, c)

  -- ---- groups

  pub unions-end : (p : Pattern) (t : List Token) (k : Keyword) → is_key UNION (key k) ≡ false → unions_in ed r p (key k ∷ t) ≡ got p (key k ∷ t)
  unfolding at
  unions-end p t k e = rw e

  pub unions-one : {p q u : Pattern} {s v t : List Token} → r.group s ≡ got q v → r.unions (union p q) v ≡ got u t → unions_in ed r p (key UNION ∷ key OPEN ∷ s) ≡ got u t
  unfolding at same
  unions-one a b = rw (a, b)

  pub elements-end : (t : List Token) → elements_in ed r (key CLOSE ∷ t) ≡ got [] (key CLOSE ∷ t)
  unfolding elements_in sort at same
  elements-end t = refl

  pub read-triple : {es : List Element} {s t : List Token} (x : Triple) → Fits name x.pred → r.elements s ≡ got es t → elements_in ed r (term_of x.subj ∷ term_of x.pred ∷ term_of x.obj ∷ key DOT ∷ s) ≡ got (triple x ∷ es) t
  unfolding elements_in sort at same
  read-triple x v a = rw (node-back x.subj, name_back x.pred v, node-back x.obj, a)

  pub read-group : {p u : Pattern} {es : List Element} {s v w t : List Token} → r.group s ≡ got p v → r.unions p v ≡ got u w → r.elements w ≡ got es t → elements_in ed r (key OPEN ∷ s) ≡ got (other u ∷ es) t
  unfolding elements_in sort at same
  read-group a b c = rw (a, b, c)

  pub read-optional : {p : Pattern} {es : List Element} {s v t : List Token} → r.group s ≡ got p v → r.elements v ≡ got es t → elements_in ed r (key OPTIONAL ∷ key OPEN ∷ s) ≡ got (optional p ∷ es) t
  unfolding elements_in sort at same
  read-optional a b = rw (a, b)

  pub read-filter : {x : Expression} {es : List Element} {s v t : List Token} → r.expression s ≡ got x (key RIGHT ∷ v) → r.elements v ≡ got es t → elements_in ed r (key FILTER ∷ key LEFT ∷ s) ≡ got (filters x ∷ es) t
  unfolding elements_in sort at same
  read-filter a b = rw (a, b)

  pub read-graph : {p : Pattern} {es : List Element} {s v t : List Token} (n : Bytes) → Fits name n → r.group s ≡ got p v → r.elements v ≡ got es t → elements_in ed r (key GRAPH ∷ term_of n ∷ key OPEN ∷ s) ≡ got (other (graph n p) ∷ es) t
  unfolding elements_in sort at same
  read-graph n f a b = rw (name_back n f, a, b)

  pub read-minus : {p : Pattern} {es : List Element} {s v t : List Token} → is11 ed ≡ true → r.group s ≡ got p v → r.elements v ≡ got es t → elements_in ed r (key MINUS ∷ key OPEN ∷ s) ≡ got (takeaway p ∷ es) t
  unfolding elements_in sort at same
  read-minus e a b = since ed _ _ e ∙ rw (a, b)

  pub read-bind : {x : Expression} {es : List Element} {s w t : List Token} (v : Bytes) → is11 ed ≡ true → r.expression s ≡ got x (key AS ∷ var v ∷ key RIGHT ∷ w) → r.elements w ≡ got es t → elements_in ed r (key BIND ∷ key LEFT ∷ s) ≡ got (bind v x ∷ es) t
  unfolding elements_in sort at same
  read-bind v e a b = since ed _ _ e ∙ rw (a, b)

  pub read-values : {rs : List (List Bytes)} {es : List Element} {s w t : List Token} (cs : List Bytes) → is11 ed ≡ true → (different cs && wide (length cs) rs) ≡ true → r.rows s ≡ got rs (key CLOSE ∷ w) → r.elements w ≡ got es t → elements_in ed r (key VALUES ∷ key LEFT ∷ spell_vars cs (key RIGHT ∷ key OPEN ∷ s)) ≡ got (other (values cs rs) ∷ es) t
  unfolding elements_in sort at same
  read-values {s = s} cs e f a b = since ed _ _ e ∙ rw (vars-back cs RIGHT (key OPEN ∷ s), a, f, b)

  pub rows_end : (t : List Token) → rows_in ed r (key CLOSE ∷ t) ≡ got [] (key CLOSE ∷ t)
  unfolding at same
  rows_end t = refl

  pub rows-one : {rs : List (List Bytes)} {s t : List Token} (fs : List Bytes) → r.rows s ≡ got rs t → rows_in ed r (key LEFT ∷ spell_cells fs (key RIGHT ∷ s)) ≡ got (fs ∷ rs) t
  unfolding at same
  rows-one {s = s} fs a = rw (cells-back fs s, a)

  pub read-elements : {p : Pattern} {es : List Element} {s t : List Token} (x : Token) → is_key SELECT x ≡ false → r.elements (x ∷ s) ≡ got es (key CLOSE ∷ t) → translated es ≡ some p → group_in ed r (x ∷ s) ≡ got p t
  unfolding group_in at same
  read-elements x e a b = rw (e, a, b)

  pub read-subselect : {p : Pattern} {t : List Token} (s : List Token) → is11 ed ≡ true → select_after ed r s ≡ got p (key CLOSE ∷ t) → group_in ed r (key SELECT ∷ s) ≡ got p t
  unfolding group_in at same
  read-subselect s e a = since ed _ _ e ∙ rw a

  -- ---- queries

  pub orders-end : {t : List Token} → Rest t → orders_in ed r t ≡ got oend t
  unfolding at same
  orders-end ended = refl
  orders-end (closed t) = refl
  orders-end (cut t) = refl

  pub orders-one : {x : Expression} {os : Orders} {s v t : List Token} (d : Direction) → r.expression s ≡ got x (key RIGHT ∷ v) → r.orders v ≡ got os t → orders_in ed r (key (SORT d) ∷ key LEFT ∷ s) ≡ got (ocons d x os) t
  unfolding at same
  orders-one ASC a b = rw (a, b)
  orders-one DESC a b = rw (a, b)

  unordered : {t : List Token} → Rest t → order_clause ed r t ≡ got (λ p. p) t
  unfolding order_clause at same
  unordered ended = refl
  unordered (closed t) = refl
  unordered (cut t) = refl

  pub read-unordered : {p : Pattern} {s t : List Token} → Rest t → r.group s ≡ got p t → ordered ed r s ≡ got p t
  unfolding ordered
  read-unordered q a = rw (a, unordered q)

  pub read-ordered : {p : Pattern} {d : Direction} {x : Expression} {os : Orders} {s v t : List Token} → r.group s ≡ got p (key ORDER ∷ key BY ∷ v) → r.orders v ≡ got (ocons d x os) t → ordered ed r s ≡ got (orderby p (ocons d x os)) t
  unfolding ordered order_clause at same
  read-ordered a b = rw (a, b)

  pub read-select : {m f : Pattern → Pattern} {p : Pattern} {v t : List Token} (s u : List Token) (cs : List Bytes) → manner ed r s ≡ got m (spell_vars cs (key WHERE ∷ key OPEN ∷ u)) → nonempty cs ≡ true → ordered ed r u ≡ got p v → limits ed r v ≡ got f t → select_after ed r s ≡ got (f (m (project cs p))) t
  unfolding select_after at same
  read-select s u cs a e b c = rw (a, vars-back cs WHERE (key OPEN ∷ u), e, b, c)

-- what stands behind a query
pub data Tail : List Token → Type 0 where
  ended : Tail []
  closed : (t : List Token) → Tail (key CLOSE ∷ t)

module _ (ed : Edition) (r : Inside) where
  pub unlimited : {t : List Token} → Tail t → limits ed r t ≡ got (λ p. p) t
  unfolding limits at same
  unlimited ended = refl
  unlimited (closed t) = refl

  pub limited : (a n : Bytes) {t : List Token} → Tail t → limits ed r (spell_slice a n t) ≡ got (slice a n) t
  unfolding limits at sort same spell_slice
  limited a n {t} q = go (is_dash n) refl q
    where
      go : (b : Bool) → is_dash n ≡ b → {t : List Token} → Tail t → limits ed r (key OFFSET ∷ integer a ∷ cond b t (key LIMIT ∷ integer n ∷ t)) ≡ got (slice a n) t
      go true e ended = ap (λ m. got (slice a m) []) (dash n e)
      go true e (closed t) = ap (λ m. got (slice a m) (key CLOSE ∷ t)) (dash n e)
      go false e q = refl
