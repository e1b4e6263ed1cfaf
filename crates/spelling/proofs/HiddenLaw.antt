-- What is hidden from the search for a variable: nothing is found there, and its lines are passed. Assumes nothing.
use mathlib.Core.Path.{◌≡◌, refl, sym, ◌∙◌, ap, ap₂, subst}
use mathlib.Core.Bool.{Bool, false, ◌&&◌, ◌||◌, true, cond}
use mathlib.Core.List.{List, [], ◌∷◌}
use Prim.Native.Nat.{ℕ, suc, ◌≤◌, max}
use native.Mathlib.Omega.{arith}
use lib.ListN.{length}
use Rattle.text.specs.Text.{Bytes, Line, same}
use Rattle.text.specs.Word.{bytes}
use Rattle.text.specs.Field.{decimal}
use Rattle.text.proofs.Basics.{deeper}
use Rattle.algebra.specs.Tree.{Triple, ASC, DESC, Pattern, bgp, path, join, union, minus, leftjoin, filter, graph, extend, values, orderby, project, distinct, reduced, slice, group, service, Expression, term, bound, exists, apply, call, Condition, always, provided, Expressions, eend, econs, Orders, oend, ocons, Aggregates, aend, agg, aggall, ecount, ocount, acount}
use Rattle.algebra.specs.Word.{spell_o, arity}
use Rattle.algebra.specs.bridge.Table.{table, row_in}
use Rattle.algebra.specs.Layout.{put_triples, put_rows, put_arity, put_flag, put, put_e, put_c, put_es, put_os, put_as}
use Rattle.algebra.specs.Valid.{Valid, ValidE, ValidC, ValidEs, ValidOs, ValidAs, mem}
use Rattle.filtering.specs.bridge.Copying.{plus, amounts, to_come}
use Rattle.filtering.proofs.Copying.{number, op-come, ccount, flag-come}
use Rattle.spelling.specs.bridge.Seeking.{names_on, shows, Sought, or_in, sought_children, sought_line, sought_child, sought_tree}
use Rattle.algebra.specs.Depth.{depth, depth_e, depth_c, depth_es, depth_os, depth_as}
use Rattle.negating.specs.bridge.Lines.{word}
use Rattle.spelling.specs.bridge.Saying.{word_next, shallow}
use Rattle.spelling.proofs.Said.{deep-pattern, deep-expression}

-- it was found or not, and these lines are left
pub record Finds (x : Sought) (b : Bool) (t : List Line) : Type 0 where
  pub found : x.found ≡ b
  pub left : x.left ≡ t

-- ---- put together

pub end : (f : Bool → List Line → Sought) (s : Bool) (l : Line) (i : ℕ) (t : List Line) → Finds (sought_children f s l i 0 t) false t
unfolding sought_children
end f s l i t = record { found = refl; left = refl }

pub child : (f : Bool → List Line → Sought) (s : Bool) (l : Line) (i k : ℕ) {ls m t : List Line} {a b : Bool}
    → Finds (f (s && shows l i) ls) a m → Finds (sought_children f s l (suc i) k m) b t → Finds (sought_children f s l i (suc k) ls) (a || b) t
unfolding sought_children
child f s l i k {ls} {m} {t} {a} {b} x y =
    subst (λ (o : List Line). Finds (or_in (f (s && shows l i) ls).found (sought_children f s l (suc i) k o)) (a || b) t) (sym x.left)
    (record { found = ap₂ ◌||◌ x.found y.found; left = y.left })

pub line-found : (f : Bool → List Line → Sought) (v : Bytes) (s : Bool) (l : Line) (ls : List Line) (n : ℕ) {t : List Line} {b : Bool} → to_come l ≡ n → Finds (sought_children f s l 0 n ls) b t → Finds (sought_line f v s (l ∷ ls)) ((s && mem v (names_on l)) || b) t
unfolding sought_line
line-found f v s l ls n {t} {b} e y =
    subst (λ (k : ℕ). Finds (or_in (s && mem v (names_on l)) (sought_children f s l 0 k ls)) ((s && mem v (names_on l)) || b) t) (sym e)
    (record { found = ap (λ (c : Bool). (s && mem v (names_on l)) || c) y.found; left = y.left })

pub tree : (d : ℕ) (v : Bytes) (s : Bool) (l : Line) (ls : List Line) (n : ℕ) {t : List Line} {b : Bool} → to_come l ≡ n → Finds (sought_children (sought_child (sought_tree d v) v) s l 0 n ls) b t → Finds (sought_tree (suc d) v s (l ∷ ls)) ((s && mem v (names_on l)) || b) t
unfolding sought_tree
tree d v s l ls n e y = line-found (sought_child (sought_tree d v) v) v s l ls n e y

-- a child that is a pattern or an expression, and one that is neither
pub deep : (f : Bool → List Line → Sought) (v : Bytes) (s : Bool) (ls : List Line) {b : Bool} {t : List Line} → shallow (word_next ls) ≡ false → Finds (f s ls) b t → Finds (sought_child f v s ls) b t
unfolding sought_child
deep f v s ls {b} {t} h a = subst (λ (c : Bool). Finds (cond c (sought_line f v s ls) (f s ls)) b t) (sym h) a

pub flat : (f : Bool → List Line → Sought) (v : Bytes) (s : Bool) (ls : List Line) {b : Bool} {t : List Line} → shallow (word_next ls) ≡ true → Finds (sought_line f v s ls) b t → Finds (sought_child f v s ls) b t
unfolding sought_child
flat f v s ls {b} {t} h a = subst (λ (c : Bool). Finds (cond c (sought_line f v s ls) (f s ls)) b t) (sym h) a

pub below-p : (d : ℕ) (v : Bytes) (s : Bool) (p : Pattern) (t : List Line) {b : Bool} {m : List Line} → Finds (sought_tree d v s (put p t)) b m → Finds (sought_child (sought_tree d v) v s (put p t)) b m
below-p d v s p t = deep (sought_tree d v) v s (put p t) (deep-pattern p t)

pub below-e : (d : ℕ) (v : Bytes) (s : Bool) (e : Expression) (t : List Line) {b : Bool} {m : List Line} → Finds (sought_tree d v s (put_e e t)) b m → Finds (sought_child (sought_tree d v) v s (put_e e t)) b m
below-e d v s e t = deep (sought_tree d v) v s (put_e e t) (deep-expression e t)

pub finds-is : {x : Sought} {a b : Bool} {t : List Line} → Finds x a t → a ≡ b → Finds x b t
finds-is y e = record { found = y.found ∙ e; left = y.left }

pub leaf : (d : ℕ) (v : Bytes) (s : Bool) (l : Line) (t : List Line) → to_come l ≡ 0 → Finds (sought_tree (suc d) v s (l ∷ t)) ((s && mem v (names_on l)) || false) t
leaf d v s l t e = tree d v s l t 0 e (end (sought_child (sought_tree d v) v) s l 0 t)

pub flat-leaf : (f : Bool → List Line → Sought) (v : Bytes) (s : Bool) (l : Line) (t : List Line) → shallow (word l) ≡ true → to_come l ≡ 0 → Finds (sought_child f v s (l ∷ t)) ((s && mem v (names_on l)) || false) t
flat-leaf f v s l t h e = flat f v s (l ∷ t) h (line-found f v s l t 0 e (end f s l 0 t))

-- ---- hidden: nothing is found, and the lines are passed

abbrev pub Hidden : ℕ → Bytes → List Line → List Line → Type 0
Hidden n v ls t = Finds (sought_tree n v false ls) false t

abbrev pub HiddenChild : ℕ → Bytes → List Line → List Line → Type 0
HiddenChild n v ls t = Finds (sought_child (sought_tree n v) v false ls) false t

-- so many children
abbrev pub HiddenAll : ℕ → Bytes → Line → ℕ → ℕ → List Line → List Line → Type 0
HiddenAll d v l i k ls t = Finds (sought_children (sought_child (sought_tree d v) v) false l i k ls) false t

module _ (v : Bytes) where
  triples-hidden : (ts : List Triple) (l : Line) (d i : ℕ) (t : List Line) → HiddenAll d v l i (length ts) (put_triples ts t) t
  unfolding put_triples to_come amounts table row_in same shallow
  triples-hidden [] l d i t = end (sought_child (sought_tree d v) v) false l i t
  triples-hidden (x ∷ xs) l d i t = child (sought_child (sought_tree d v) v) false l i (length xs) (flat-leaf (sought_tree d v) v false (bytes "t" ∷ x.subj ∷ x.pred ∷ x.obj ∷ []) (put_triples xs t) refl refl) (triples-hidden xs l d (suc i) t)

  rows-hidden : (rs : List (List Bytes)) (l : Line) (d i : ℕ) (t : List Line) → HiddenAll d v l i (length rs) (put_rows rs t) t
  unfolding put_rows to_come amounts table row_in same shallow
  rows-hidden [] l d i t = end (sought_child (sought_tree d v) v) false l i t
  rows-hidden (x ∷ xs) l d i t = child (sought_child (sought_tree d v) v) false l i (length xs) (flat-leaf (sought_tree d v) v false (bytes "row" ∷ x) (put_rows xs t) refl refl) (rows-hidden xs l d (suc i) t)

  -- a line with one or two patterns, and no other child
  abbrev pub one : (d : ℕ) (l : Line) (ls : List Line) {t : List Line} → to_come l ≡ 1 → HiddenChild d v ls t → Hidden (suc d) v (l ∷ ls) t
  one d l ls {t} e a = tree d v false l ls 1 e (child (sought_child (sought_tree d v) v) false l 0 0 a (end (sought_child (sought_tree d v) v) false l 1 t))

  abbrev pub two : (d : ℕ) (l : Line) (ls : List Line) {m t : List Line} → to_come l ≡ 2 → HiddenChild d v ls m → HiddenChild d v m t → Hidden (suc d) v (l ∷ ls) t
  two d l ls {m} {t} e a b = tree d v false l ls 2 e (child (sought_child (sought_tree d v) v) false l 0 1 a (child (sought_child (sought_tree d v) v) false l 1 0 b (end (sought_child (sought_tree d v) v) false l 2 t)))

  mutual
    unfolding depth shallow put put_e Valid ValidE to_come amounts plus table row_in same

    pub pattern-hidden : (p : Pattern) (t : List Line) (n : ℕ) → Valid p → depth p ≤ n → Hidden n v (put p t) t
    pattern-hidden (bgp ts) t n w h = deeper 0 n h (λ (d : ℕ). Hidden d v (put (bgp ts) t) t) λ k i. tree k v false (bytes "bgp" ∷ decimal (length ts) ∷ []) _ (length ts) (number (length ts) w.0) (triples-hidden ts _ k 0 t)
    pattern-hidden (path s x o) t n w h = deeper 0 n h (λ (d : ℕ). Hidden d v (put (path s x o) t) t) λ k i. leaf k v false (bytes "path" ∷ s ∷ x ∷ o ∷ []) t refl
    pattern-hidden (join p q) t n w h = deeper (max (depth p) (depth q)) n h (λ (d : ℕ). Hidden d v (put (join p q) t) t) λ k i. two k (bytes "join" ∷ []) (put p (put q t)) refl (below-p _ _ _ p (put q t) (pattern-hidden p (put q t) k w.0 (omega arith))) (below-p _ _ _ q t (pattern-hidden q t k w.1 (omega arith)))
    pattern-hidden (union p q) t n w h = deeper (max (depth p) (depth q)) n h (λ (d : ℕ). Hidden d v (put (union p q) t) t) λ k i. two k (bytes "union" ∷ []) (put p (put q t)) refl (below-p _ _ _ p (put q t) (pattern-hidden p (put q t) k w.0 (omega arith))) (below-p _ _ _ q t (pattern-hidden q t k w.1 (omega arith)))
    pattern-hidden (minus p q) t n w h = deeper (max (depth p) (depth q)) n h (λ (d : ℕ). Hidden d v (put (minus p q) t) t) λ k i. two k (bytes "minus" ∷ []) (put p (put q t)) refl (below-p _ _ _ p (put q t) (pattern-hidden p (put q t) k w.0 (omega arith))) (below-p _ _ _ q t (pattern-hidden q t k w.1 (omega arith)))
    pattern-hidden (leftjoin p q c) t n w h = deeper (max (depth p) (max (depth q) (depth_c c))) n h (λ (d : ℕ). Hidden d v (put (leftjoin p q c) t) t) λ k i.
        tree k v false (bytes "leftjoin" ∷ put_flag c ∷ []) _ (suc (suc (ccount c))) (flag-come c)
        (child (sought_child (sought_tree k v) v) false (bytes "leftjoin" ∷ put_flag c ∷ []) 0 (suc (ccount c)) (below-p _ _ _ p (put q (put_c c t)) (pattern-hidden p (put q (put_c c t)) k w.0 (omega arith)))
        (child (sought_child (sought_tree k v) v) false (bytes "leftjoin" ∷ put_flag c ∷ []) 1 (ccount c) (below-p _ _ _ q (put_c c t) (pattern-hidden q (put_c c t) k w.1 (omega arith)))
        (condition-hidden c (bytes "leftjoin" ∷ put_flag c ∷ []) 2 t k w.2 (omega arith))))
    pattern-hidden (filter p e) t n w h = deeper (max (depth p) (depth_e e)) n h (λ (d : ℕ). Hidden d v (put (filter p e) t) t) λ k i. two k (bytes "filter" ∷ []) (put p (put_e e t)) refl (below-p _ _ _ p (put_e e t) (pattern-hidden p (put_e e t) k w.0 (omega arith))) (below-e _ _ _ e t (expression-hidden e t k w.1 (omega arith)))
    pattern-hidden (graph y p) t n w h = deeper (depth p) n h (λ (d : ℕ). Hidden d v (put (graph y p) t) t) λ k i. one k (bytes "graph" ∷ y ∷ []) (put p t) refl (below-p _ _ _ p t (pattern-hidden p t k w.1 (omega arith)))
    pattern-hidden (extend y p e) t n w h = deeper (max (depth p) (depth_e e)) n h (λ (d : ℕ). Hidden d v (put (extend y p e) t) t) λ k i. two k (bytes "extend" ∷ y ∷ []) (put p (put_e e t)) refl (below-p _ _ _ p (put_e e t) (pattern-hidden p (put_e e t) k w.1 (omega arith))) (below-e _ _ _ e t (expression-hidden e t k w.2 (omega arith)))
    pattern-hidden (values cs rs) t n w h = deeper 0 n h (λ (d : ℕ). Hidden d v (put (values cs rs) t) t) λ k i.
        tree k v false (bytes "values" ∷ decimal (length cs) ∷ decimal (length rs) ∷ []) _ (suc (length rs)) (ap suc (number (length rs) w.1))
        (child (sought_child (sought_tree k v) v) false (bytes "values" ∷ decimal (length cs) ∷ decimal (length rs) ∷ []) 0 (length rs) (flat-leaf (sought_tree k v) v false (bytes "cols" ∷ cs) (put_rows rs t) refl refl) (rows-hidden rs _ k 1 t))
    pattern-hidden (orderby p os) t n w h = deeper (max (depth p) (depth_os os)) n h (λ (d : ℕ). Hidden d v (put (orderby p os) t) t) λ k i.
        tree k v false (bytes "orderby" ∷ decimal (ocount os) ∷ []) _ (suc (ocount os)) (ap suc (number (ocount os) w.0))
        (child (sought_child (sought_tree k v) v) false (bytes "orderby" ∷ decimal (ocount os) ∷ []) 0 (ocount os) (below-p _ _ _ p (put_os os t) (pattern-hidden p (put_os os t) k w.1 (omega arith))) (orders-hidden os _ 1 t k w.2 (omega arith)))
    pattern-hidden (project cs p) t n w h = deeper (depth p) n h (λ (d : ℕ). Hidden d v (put (project cs p) t) t) λ k i. one k (bytes "project" ∷ cs) (put p t) refl (below-p _ _ _ p t (pattern-hidden p t k w.1 (omega arith)))
    pattern-hidden (distinct p) t n w h = deeper (depth p) n h (λ (d : ℕ). Hidden d v (put (distinct p) t) t) λ k i. one k (bytes "distinct" ∷ []) (put p t) refl (below-p _ _ _ p t (pattern-hidden p t k w (omega arith)))
    pattern-hidden (reduced p) t n w h = deeper (depth p) n h (λ (d : ℕ). Hidden d v (put (reduced p) t) t) λ k i. one k (bytes "reduced" ∷ []) (put p t) refl (below-p _ _ _ p t (pattern-hidden p t k w (omega arith)))
    pattern-hidden (slice a b p) t n w h = deeper (depth p) n h (λ (d : ℕ). Hidden d v (put (slice a b p) t) t) λ k i. one k (bytes "slice" ∷ a ∷ b ∷ []) (put p t) refl (below-p _ _ _ p t (pattern-hidden p t k w.2 (omega arith)))
    pattern-hidden (group ks p rs) t n w h = deeper (max (depth p) (depth_as rs)) n h (λ (d : ℕ). Hidden d v (put (group ks p rs) t) t) λ k i.
        tree k v false (bytes "group" ∷ decimal (length ks) ∷ decimal (acount rs) ∷ []) _ (suc (suc (acount rs))) (ap (λ (n : ℕ). suc (suc n)) (number (acount rs) w.1))
        (child (sought_child (sought_tree k v) v) false (bytes "group" ∷ decimal (length ks) ∷ decimal (acount rs) ∷ []) 0 (suc (acount rs)) (flat-leaf (sought_tree k v) v false (bytes "cols" ∷ ks) (put p (put_as rs t)) refl refl)
        (child (sought_child (sought_tree k v) v) false (bytes "group" ∷ decimal (length ks) ∷ decimal (acount rs) ∷ []) 1 (acount rs) (below-p _ _ _ p (put_as rs t) (pattern-hidden p (put_as rs t) k w.3 (omega arith))) (aggregates-hidden rs _ 2 t k w.4 (omega arith))))
    pattern-hidden (service y f p) t n w h = deeper (depth p) n h (λ (d : ℕ). Hidden d v (put (service y f p) t) t) λ k i. one k (bytes "service" ∷ y ∷ f ∷ []) (put p t) refl (below-p _ _ _ p t (pattern-hidden p t k w.2 (omega arith)))

    pub expression-hidden : (e : Expression) (t : List Line) (n : ℕ) → ValidE e → depth_e e ≤ n → Hidden n v (put_e e t) t
    expression-hidden (term x) t n w h = deeper 0 n h (λ (d : ℕ). Hidden d v (put_e (term x) t) t) λ k i. leaf k v false (bytes "term" ∷ x ∷ []) t refl
    expression-hidden (bound x) t n w h = deeper 0 n h (λ (d : ℕ). Hidden d v (put_e (bound x) t) t) λ k i. leaf k v false (bytes "bound" ∷ x ∷ []) t refl
    expression-hidden (exists p) t n w h = deeper (depth p) n h (λ (d : ℕ). Hidden d v (put_e (exists p) t) t) λ k i. one k (bytes "exists" ∷ []) (put p t) refl (below-p _ _ _ p t (pattern-hidden p t k w (omega arith)))
    expression-hidden (apply o es) t n w h = deeper (depth_es es) n h (λ (d : ℕ). Hidden d v (put_e (apply o es) t) t) λ k i. tree k v false (spell_o o ∷ put_arity (arity o) (ecount es)) _ (ecount es) (op-come o (ecount es) w.0) (expressions-hidden es _ 0 t k w.1 (omega arith))
    expression-hidden (call y es) t n w h = deeper (depth_es es) n h (λ (d : ℕ). Hidden d v (put_e (call y es) t) t) λ k i. tree k v false (bytes "call" ∷ y ∷ decimal (ecount es) ∷ []) _ (ecount es) (number (ecount es) w.1) (expressions-hidden es _ 0 t k w.2 (omega arith))

    pub condition-hidden : (c : Condition) (l : Line) (i : ℕ) (t : List Line) (d : ℕ) → ValidC c → depth_c c ≤ d → HiddenAll d v l i (ccount c) (put_c c t) t
    condition-hidden always l i t d w h = end (sought_child (sought_tree d v) v) false l i t
    condition-hidden (provided e) l i t d w h = child (sought_child (sought_tree d v) v) false l i 0 (below-e _ _ _ e t (expression-hidden e t d w h)) (end (sought_child (sought_tree d v) v) false l (suc i) t)

    expressions-hidden : (es : Expressions) (l : Line) (i : ℕ) (t : List Line) (d : ℕ) → ValidEs es → depth_es es ≤ d → HiddenAll d v l i (ecount es) (put_es es t) t
    expressions-hidden eend l i t d w h = end (sought_child (sought_tree d v) v) false l i t
    expressions-hidden (econs e es) l i t d w h = child (sought_child (sought_tree d v) v) false l i (ecount es) (below-e _ _ _ e (put_es es t) (expression-hidden e (put_es es t) d w.0 (omega arith))) (expressions-hidden es l (suc i) t d w.1 (omega arith))

    pub orders-hidden : (os : Orders) (l : Line) (i : ℕ) (t : List Line) (d : ℕ) → ValidOs os → depth_os os ≤ d → HiddenAll d v l i (ocount os) (put_os os t) t
    orders-hidden oend l i t d w h = end (sought_child (sought_tree d v) v) false l i t
    orders-hidden (ocons ASC e os) l i t d w h = child (sought_child (sought_tree d v) v) false l i (ocount os) (flat (sought_tree d v) v false ((bytes "asc" ∷ []) ∷ put_e e (put_os os t)) refl (line-found (sought_tree d v) v false (bytes "asc" ∷ []) (put_e e (put_os os t)) 1 refl (child (sought_tree d v) false (bytes "asc" ∷ []) 0 0 (expression-hidden e (put_os os t) d w.0 (omega arith)) (end (sought_tree d v) false (bytes "asc" ∷ []) 1 (put_os os t))))) (orders-hidden os l (suc i) t d w.1 (omega arith))
    orders-hidden (ocons DESC e os) l i t d w h = child (sought_child (sought_tree d v) v) false l i (ocount os) (flat (sought_tree d v) v false ((bytes "desc" ∷ []) ∷ put_e e (put_os os t)) refl (line-found (sought_tree d v) v false (bytes "desc" ∷ []) (put_e e (put_os os t)) 1 refl (child (sought_tree d v) false (bytes "desc" ∷ []) 0 0 (expression-hidden e (put_os os t) d w.0 (omega arith)) (end (sought_tree d v) false (bytes "desc" ∷ []) 1 (put_os os t))))) (orders-hidden os l (suc i) t d w.1 (omega arith))

    aggregates-hidden : (rs : Aggregates) (l : Line) (i : ℕ) (t : List Line) (d : ℕ) → ValidAs rs → depth_as rs ≤ d → HiddenAll d v l i (acount rs) (put_as rs t) t
    aggregates-hidden aend l i t d w h = end (sought_child (sought_tree d v) v) false l i t
    aggregates-hidden (agg x y f e rs) l i t d w h = child (sought_child (sought_tree d v) v) false l i (acount rs) (flat (sought_tree d v) v false ((bytes "agg" ∷ x ∷ y ∷ f ∷ []) ∷ put_e e (put_as rs t)) refl (line-found (sought_tree d v) v false (bytes "agg" ∷ x ∷ y ∷ f ∷ []) (put_e e (put_as rs t)) 1 refl (child (sought_tree d v) false (bytes "agg" ∷ x ∷ y ∷ f ∷ []) 0 0 (expression-hidden e (put_as rs t) d w.3 (omega arith)) (end (sought_tree d v) false (bytes "agg" ∷ x ∷ y ∷ f ∷ []) 1 (put_as rs t))))) (aggregates-hidden rs l (suc i) t d w.4 (omega arith))
    aggregates-hidden (aggall x f rs) l i t d w h = child (sought_child (sought_tree d v) v) false l i (acount rs) (flat-leaf (sought_tree d v) v false (bytes "aggall" ∷ x ∷ f ∷ []) (put_as rs t) refl refl) (aggregates-hidden rs l (suc i) t d w.2 (omega arith))
