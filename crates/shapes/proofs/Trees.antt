-- The levels of a tree's lines: the deepest is the tree's depth below the level at which it stands. Assumes nothing.
use mathlib.Core.Path.{◌≡◌, refl, ap, ◌∙◌}
use mathlib.Core.List.{List, [], ◌∷◌}
use Prim.Native.Nat.{ℕ, suc, ◌+◌, ◌≤◌, max}
use native.Mathlib.Omega.{arith}
use lib.ListN.{length}
use Rattle.text.specs.Text.{Bytes, Line, same}
use Rattle.text.specs.Word.{bytes}
use Rattle.algebra.specs.Tree.{Triple, Op, OR, AND, EQ, SAME, GT, GE, LT, LE, ADD, SUB, MUL, DIV, IN, PLUS, NEG, NOT, IF, COALESCE, ASC, DESC, Pattern, bgp, path, join, union, minus, leftjoin, filter, graph, extend, values, orderby, project, distinct, reduced, slice, group, service, Expression, term, bound, exists, apply, call, Condition, always, provided, Expressions, eend, econs, Orders, oend, ocons, Aggregates, aend, agg, aggall, ecount, ocount, acount}
use Rattle.algebra.specs.Word.{spell_o}
use Rattle.algebra.specs.bridge.Table.{table, row_in}
use Rattle.algebra.specs.Layout.{put_triples, put_rows, put, put_e, put_c, put_es, put_os, put_as}
use Rattle.algebra.specs.Depth.{depth, depth_e, depth_c, depth_es, depth_os, depth_as}
use Rattle.algebra.specs.Valid.{mem, Valid, ValidE, ValidC, ValidEs, ValidOs, ValidAs}
use Rattle.filtering.specs.bridge.Copying.{plus, amounts, to_come}
use Rattle.filtering.proofs.Copying.{number, op-come, ccount, flag-come}
use Rattle.shapes.specs.bridge.Shape.{level_of, again, shaped}

-- a line that opens a level, and so many to come below it
opened : (f : Bytes) (fs : List Bytes) (ls : List Line) (d : ℕ) (ws : List ℕ) (a n : ℕ) → to_come (f ∷ fs) ≡ n → level_of d f ≡ suc d → shaped ((f ∷ fs) ∷ ls) (d ∷ ws) a ≡ shaped ls (again n (suc d) ws) (max a (suc d))
unfolding shaped
opened f fs ls d ws a n e l = λ i. shaped ls (again (e i) (l i) ws) (max a (l i))

-- the deepest level stays
same-depth : (t : List Line) (ws : List ℕ) (a b : ℕ) → a ≡ b → shaped t ws a ≡ shaped t ws b
same-depth t ws a b e = ap (shaped t ws) e

triples-shape : (ts : List Triple) (t : List Line) (d : ℕ) (ws : List ℕ) (a : ℕ) → d ≤ a → shaped (put_triples ts t) (again (length ts) d ws) a ≡ shaped t ws a
unfolding put_triples shaped again level_of mem to_come amounts table row_in same
triples-shape [] t d ws a h = refl
triples-shape (x ∷ xs) t d ws a h = same-depth (put_triples xs t) (again (length xs) d ws) (max a d) a (omega arith) ∙ triples-shape xs t d ws a h

rows-shape : (rs : List (List Bytes)) (t : List Line) (d : ℕ) (ws : List ℕ) (a : ℕ) → d ≤ a → shaped (put_rows rs t) (again (length rs) d ws) a ≡ shaped t ws a
unfolding put_rows shaped again level_of mem to_come amounts table row_in same
rows-shape [] t d ws a h = refl
rows-shape (r ∷ rs) t d ws a h = same-depth (put_rows rs t) (again (length rs) d ws) (max a d) a (omega arith) ∙ rows-shape rs t d ws a h

columns-shape : (cs : List Bytes) (t : List Line) (d : ℕ) (ws : List ℕ) (a : ℕ) → d ≤ a → shaped ((bytes "cols" ∷ cs) ∷ t) (d ∷ ws) a ≡ shaped t ws a
unfolding shaped again level_of mem to_come amounts table row_in same
columns-shape cs t d ws a h = same-depth t ws (max a d) a (omega arith)

op-level : (o : Op) (d : ℕ) → level_of d (spell_o o) ≡ suc d
unfolding level_of mem same
op-level OR d = refl
op-level AND d = refl
op-level EQ d = refl
op-level SAME d = refl
op-level GT d = refl
op-level GE d = refl
op-level LT d = refl
op-level LE d = refl
op-level ADD d = refl
op-level SUB d = refl
op-level MUL d = refl
op-level DIV d = refl
op-level IN d = refl
op-level PLUS d = refl
op-level NEG d = refl
op-level NOT d = refl
op-level IF d = refl
op-level COALESCE d = refl

-- two parts beside one another
both-deep : (b d y z : ℕ) → max (max b (d + y)) (d + z) ≡ max b (d + max y z)
both-deep b d y z = omega arith

three-deep : (a d x y z : ℕ) → max (max (max (max a (suc d)) (suc d + x)) (suc d + y)) (suc d + z) ≡ max a (d + suc (max x (max y z)))
three-deep a d x y z = both-deep (max (max a (suc d)) (suc d + x)) (suc d) y z ∙ go (max y z)
  where
    go : (m : ℕ) → max (max (max a (suc d)) (suc d + x)) (suc d + m) ≡ max a (d + suc (max x m))
    go m = omega arith

-- an order's line, and an aggregate's, open no level
asc-line : (ls : List Line) (d : ℕ) (ws : List ℕ) (a : ℕ) → shaped ((bytes "asc" ∷ []) ∷ ls) (d ∷ ws) a ≡ shaped ls (d ∷ ws) (max a d)
unfolding shaped again level_of mem to_come amounts table row_in same
asc-line ls d ws a = refl

desc-line : (ls : List Line) (d : ℕ) (ws : List ℕ) (a : ℕ) → shaped ((bytes "desc" ∷ []) ∷ ls) (d ∷ ws) a ≡ shaped ls (d ∷ ws) (max a d)
unfolding shaped again level_of mem to_come amounts table row_in same
desc-line ls d ws a = refl

agg-line : (fs : List Bytes) (ls : List Line) (d : ℕ) (ws : List ℕ) (a : ℕ) → shaped ((bytes "agg" ∷ fs) ∷ ls) (d ∷ ws) a ≡ shaped ls (d ∷ ws) (max a d)
unfolding shaped again level_of mem to_come amounts table row_in same
agg-line fs ls d ws a = refl

all-line : (fs : List Bytes) (ls : List Line) (d : ℕ) (ws : List ℕ) (a : ℕ) → shaped ((bytes "aggall" ∷ fs) ∷ ls) (d ∷ ws) a ≡ shaped ls ws (max a d)
unfolding shaped again level_of mem to_come amounts table row_in same
all-line fs ls d ws a = refl

mutual
  unfolding put again plus to_come amounts table row_in level_of mem same depth Valid

  pub pattern-shape : (p : Pattern) (t : List Line) (d : ℕ) (ws : List ℕ) (a : ℕ) → Valid p → shaped (put p t) (d ∷ ws) a ≡ shaped t ws (max a (d + depth p))
  pattern-shape (bgp ts) t d ws a v = opened _ _ (put_triples ts t) d ws a (length ts) (number (length ts) v.0) refl ∙ triples-shape ts t (suc d) ws (max a (suc d)) (omega arith) ∙ same-depth t ws _ _ (omega arith)
  pattern-shape (path s x o) t d ws a v = opened _ _ t d ws a 0 refl refl ∙ same-depth t ws _ _ (omega arith)
  pattern-shape (join p q) t d ws a v = opened _ _ (put p (put q t)) d ws a 2 refl refl ∙ pattern-shape p (put q t) (suc d) (suc d ∷ ws) (max a (suc d)) v.0 ∙ pattern-shape q t (suc d) ws _ v.1 ∙ same-depth t ws _ _ (omega arith)
  pattern-shape (union p q) t d ws a v = opened _ _ (put p (put q t)) d ws a 2 refl refl ∙ pattern-shape p (put q t) (suc d) (suc d ∷ ws) (max a (suc d)) v.0 ∙ pattern-shape q t (suc d) ws _ v.1 ∙ same-depth t ws _ _ (omega arith)
  pattern-shape (minus p q) t d ws a v = opened _ _ (put p (put q t)) d ws a 2 refl refl ∙ pattern-shape p (put q t) (suc d) (suc d ∷ ws) (max a (suc d)) v.0 ∙ pattern-shape q t (suc d) ws _ v.1 ∙ same-depth t ws _ _ (omega arith)
  pattern-shape (leftjoin p q c) t d ws a v =
      opened _ _ (put p (put q (put_c c t))) d ws a (suc (suc (ccount c))) (flag-come c) refl
      ∙ pattern-shape p (put q (put_c c t)) (suc d) _ _ v.0
      ∙ pattern-shape q (put_c c t) (suc d) _ _ v.1
      ∙ condition-shape c t (suc d) ws _ v.2 (omega arith)
      ∙ same-depth t ws _ _ (three-deep a d (depth p) (depth q) (depth_c c))
  pattern-shape (filter p e) t d ws a v =
      opened _ _ (put p (put_e e t)) d ws a 2 refl refl ∙ pattern-shape p (put_e e t) (suc d) _ _ v.0 ∙ expression-shape e t (suc d) ws _ v.1 ∙ same-depth t ws _ _ (omega arith)
  pattern-shape (graph n p) t d ws a v = opened _ _ (put p t) d ws a 1 refl refl ∙ pattern-shape p t (suc d) ws (max a (suc d)) v.1 ∙ same-depth t ws _ _ (omega arith)
  pattern-shape (extend x p e) t d ws a v =
      opened _ _ (put p (put_e e t)) d ws a 2 refl refl ∙ pattern-shape p (put_e e t) (suc d) _ _ v.1 ∙ expression-shape e t (suc d) ws _ v.2 ∙ same-depth t ws _ _ (omega arith)
  pattern-shape (values cs rs) t d ws a v =
      opened _ _ ((bytes "cols" ∷ cs) ∷ put_rows rs t) d ws a (suc (length rs)) (ap suc (number (length rs) v.1)) refl
      ∙ columns-shape cs (put_rows rs t) (suc d) (again (length rs) (suc d) ws) (max a (suc d)) (omega arith)
      ∙ rows-shape rs t (suc d) ws (max a (suc d)) (omega arith)
      ∙ same-depth t ws _ _ (omega arith)
  pattern-shape (orderby p os) t d ws a v =
      opened _ _ (put p (put_os os t)) d ws a (suc (ocount os)) (ap suc (number (ocount os) v.0)) refl
      ∙ pattern-shape p (put_os os t) (suc d) _ _ v.1
      ∙ orders-shape os t (suc d) ws _ v.2 (omega arith)
      ∙ same-depth t ws _ _ (omega arith)
  pattern-shape (project cs p) t d ws a v = opened _ _ (put p t) d ws a 1 refl refl ∙ pattern-shape p t (suc d) ws (max a (suc d)) v.1 ∙ same-depth t ws _ _ (omega arith)
  pattern-shape (distinct p) t d ws a v = opened _ _ (put p t) d ws a 1 refl refl ∙ pattern-shape p t (suc d) ws (max a (suc d)) v ∙ same-depth t ws _ _ (omega arith)
  pattern-shape (reduced p) t d ws a v = opened _ _ (put p t) d ws a 1 refl refl ∙ pattern-shape p t (suc d) ws (max a (suc d)) v ∙ same-depth t ws _ _ (omega arith)
  pattern-shape (slice x n p) t d ws a v = opened _ _ (put p t) d ws a 1 refl refl ∙ pattern-shape p t (suc d) ws (max a (suc d)) v.2 ∙ same-depth t ws _ _ (omega arith)
  pattern-shape (group ks p rs) t d ws a v =
      opened _ _ ((bytes "cols" ∷ ks) ∷ put p (put_as rs t)) d ws a (suc (suc (acount rs))) (ap (λ (n : ℕ). suc (suc n)) (number (acount rs) v.1)) refl
      ∙ columns-shape ks (put p (put_as rs t)) (suc d) (suc d ∷ again (acount rs) (suc d) ws) (max a (suc d)) (omega arith)
      ∙ pattern-shape p (put_as rs t) (suc d) _ _ v.3
      ∙ aggregates-shape rs t (suc d) ws _ v.4 (omega arith)
      ∙ same-depth t ws _ _ (omega arith)
  pattern-shape (service n f p) t d ws a v = opened _ _ (put p t) d ws a 1 refl refl ∙ pattern-shape p t (suc d) ws (max a (suc d)) v.2 ∙ same-depth t ws _ _ (omega arith)

  expression-shape : (e : Expression) (t : List Line) (d : ℕ) (ws : List ℕ) (a : ℕ) → ValidE e → shaped (put_e e t) (d ∷ ws) a ≡ shaped t ws (max a (d + depth_e e))
  expression-shape (term x) t d ws a v = opened _ _ t d ws a 0 refl refl ∙ same-depth t ws _ _ (omega arith)
  expression-shape (bound x) t d ws a v = opened _ _ t d ws a 0 refl refl ∙ same-depth t ws _ _ (omega arith)
  expression-shape (exists p) t d ws a v = opened _ _ (put p t) d ws a 1 refl refl ∙ pattern-shape p t (suc d) ws (max a (suc d)) v ∙ same-depth t ws _ _ (omega arith)
  expression-shape (apply o es) t d ws a v = opened _ _ (put_es es t) d ws a (ecount es) (op-come o (ecount es) v.0) (op-level o d) ∙ expressions-shape es t (suc d) ws _ v.1 (omega arith) ∙ same-depth t ws _ _ (omega arith)
  expression-shape (call n es) t d ws a v = opened _ _ (put_es es t) d ws a (ecount es) (number (ecount es) v.1) refl ∙ expressions-shape es t (suc d) ws _ v.2 (omega arith) ∙ same-depth t ws _ _ (omega arith)

  condition-shape : (c : Condition) (t : List Line) (d : ℕ) (ws : List ℕ) (a : ℕ) → ValidC c → d ≤ a → shaped (put_c c t) (again (ccount c) d ws) a ≡ shaped t ws (max a (d + depth_c c))
  condition-shape always t d ws a v h = same-depth t ws _ _ (omega arith)
  condition-shape (provided e) t d ws a v h = expression-shape e t d ws a v

  expressions-shape : (es : Expressions) (t : List Line) (d : ℕ) (ws : List ℕ) (a : ℕ) → ValidEs es → d ≤ a → shaped (put_es es t) (again (ecount es) d ws) a ≡ shaped t ws (max a (d + depth_es es))
  expressions-shape eend t d ws a v h = same-depth t ws _ _ (omega arith)
  expressions-shape (econs e es) t d ws a v h = expression-shape e (put_es es t) d (again (ecount es) d ws) a v.0 ∙ expressions-shape es t d ws _ v.1 (omega arith) ∙ same-depth t ws _ _ (omega arith)

  orders-shape : (os : Orders) (t : List Line) (d : ℕ) (ws : List ℕ) (a : ℕ) → ValidOs os → d ≤ a → shaped (put_os os t) (again (ocount os) d ws) a ≡ shaped t ws (max a (d + depth_os os))
  orders-shape oend t d ws a v h = same-depth t ws _ _ (omega arith)
  orders-shape (ocons ASC e os) t d ws a v h = asc-line _ d _ a ∙ expression-shape e (put_os os t) d (again (ocount os) d ws) (max a d) v.0 ∙ orders-shape os t d ws _ v.1 (omega arith) ∙ same-depth t ws _ _ (omega arith)
  orders-shape (ocons DESC e os) t d ws a v h = desc-line _ d _ a ∙ expression-shape e (put_os os t) d (again (ocount os) d ws) (max a d) v.0 ∙ orders-shape os t d ws _ v.1 (omega arith) ∙ same-depth t ws _ _ (omega arith)

  aggregates-shape : (rs : Aggregates) (t : List Line) (d : ℕ) (ws : List ℕ) (a : ℕ) → ValidAs rs → d ≤ a → shaped (put_as rs t) (again (acount rs) d ws) a ≡ shaped t ws (max a (d + depth_as rs))
  aggregates-shape aend t d ws a v h = same-depth t ws _ _ (omega arith)
  aggregates-shape (agg x n f e rs) t d ws a v h = agg-line _ _ d _ a ∙ expression-shape e (put_as rs t) d (again (acount rs) d ws) (max a d) v.3 ∙ aggregates-shape rs t d ws _ v.4 (omega arith) ∙ same-depth t ws _ _ (omega arith)
  aggregates-shape (aggall x f rs) t d ws a v h = all-line _ _ d _ a ∙ same-depth (put_as rs t) (again (acount rs) d ws) (max a d) a (omega arith) ∙ aggregates-shape rs t d ws a v.2 h
