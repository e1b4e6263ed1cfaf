-- A variable is found in a pattern's lines exactly if it is in scope there, section 18.2.1. Assumes nothing.
use mathlib.Core.Path.{◌≡◌, refl, sym, ◌∙◌, ap, ap₂, subst}
use mathlib.Core.Bool.{Bool, true, false, ◌&&◌, ◌||◌, or-false}
use mathlib.Core.List.{List, [], ◌∷◌, ◌++◌}
use Prim.Native.Nat.{ℕ, zero, suc, ◌≤◌, max}
use native.Mathlib.Omega.{arith}
use lib.ListN.{length}
use Rattle.text.specs.Text.{Bytes, Line, same}
use Rattle.text.specs.Word.{bytes}
use Rattle.text.specs.Field.{is_var, decimal}
use Rattle.text.proofs.Basics.{deeper}
use Rattle.algebra.specs.Tree.{Triple, Pattern, bgp, path, join, union, minus, leftjoin, filter, graph, extend, values, orderby, project, distinct, reduced, slice, group, service, Condition, always, provided, Aggregates, aend, agg, aggall, ocount, acount}
use Rattle.algebra.specs.bridge.Table.{table, row_in}
use Rattle.algebra.specs.Layout.{put_triples, put_rows, put_flag, put, put_e, put_c, put_os, put_as}
use Rattle.algebra.specs.Valid.{Valid, ValidC, ValidAs, mem}
use Rattle.scoping.specs.Sets.{variables_of, triple_variables, aggregate_variables}
use Rattle.scoping.specs.InScope.{in_scope}
use Rattle.scoping.proofs.Sets.{mem-append, mem-keep}
use Rattle.filtering.specs.bridge.Copying.{plus, amounts, to_come}
use Rattle.filtering.proofs.Copying.{number, ccount, flag-come}
use Rattle.spelling.specs.bridge.Seeking.{names_on, shows, Sought, or_in, sought_children, sought_child, sought_tree}
use Rattle.algebra.specs.Depth.{depth, depth_e, depth_c, depth_os, depth_as}
use Rattle.spelling.specs.bridge.Saying.{shallow}
use Rattle.spelling.proofs.HiddenLaw.{Finds, end, child, line-found, tree, flat, flat-leaf, below-p, below-e, finds-is, leaf, pattern-hidden, expression-hidden, orders-hidden}

-- ---- shown: it is found where it is in scope

-- behind the first child of such a line nothing is shown
behind-first : (f : Bool → List Line → Sought) (l : Line) → ((j : ℕ) → shows l (suc j) ≡ false) → (i k : ℕ) (ls : List Line) → sought_children f true l (suc i) k ls ≡ sought_children f false l (suc i) k ls
unfolding sought_children
behind-first f l e i zero ls = refl
behind-first f l e i (suc k) ls = ap (λ (b : Bool). or_in (f b ls).found (sought_children f true l (suc (suc i)) k (f b ls).left)) (e i) ∙ ap (or_in (f false ls).found) (behind-first f l e (suc i) k (f false ls).left)

module _ (v : Bytes) (isv : is_var v ≡ true) where
  -- it is among fields exactly if it is among their variables
  variables-mem : (fs : List Bytes) → mem v fs ≡ mem v (variables_of fs)
  unfolding variables_of
  variables-mem fs = sym (mem-keep is_var v fs ∙ ap (λ (b : Bool). b && mem v fs) isv)

  abbrev Shown : ℕ → List Line → List Bytes → List Line → Type 0
  Shown n ls vs t = Finds (sought_tree n v true ls) (mem v vs) t

  triples-shown : (ts : List Triple) (l : Line) (d i : ℕ) (t : List Line) → ((j : ℕ) → shows l j ≡ true) → Finds (sought_children (sought_child (sought_tree d v) v) true l i (length ts) (put_triples ts t)) (mem v (triple_variables ts)) t
  unfolding put_triples triple_variables names_on mem to_come amounts table row_in same shallow
  triples-shown [] l d i t s = end (sought_child (sought_tree d v) v) true l i t
  triples-shown (x ∷ xs) l d i t s =
      finds-is (child (sought_child (sought_tree d v) v) true l i (length xs) (subst (λ (b : Bool). Finds (sought_child (sought_tree d v) v b ((bytes "t" ∷ x.subj ∷ x.pred ∷ x.obj ∷ []) ∷ put_triples xs t)) (mem v (x.subj ∷ x.pred ∷ x.obj ∷ []) || false) (put_triples xs t)) (sym (s i)) (flat-leaf (sought_tree d v) v true (bytes "t" ∷ x.subj ∷ x.pred ∷ x.obj ∷ []) (put_triples xs t) refl refl)) (triples-shown xs l d (suc i) t s))
      (ap (λ (b : Bool). b || mem v (triple_variables xs)) (or-false (mem v (x.subj ∷ x.pred ∷ x.obj ∷ [])) ∙ variables-mem (x.subj ∷ x.pred ∷ x.obj ∷ [])) ∙ sym (mem-append v (variables_of (x.subj ∷ x.pred ∷ x.obj ∷ [])) (triple_variables xs)))

  rows-shown : (rs : List (List Bytes)) (l : Line) (d i : ℕ) (t : List Line) → ((j : ℕ) → shows l j ≡ true) → Finds (sought_children (sought_child (sought_tree d v) v) true l i (length rs) (put_rows rs t)) false t
  unfolding put_rows names_on mem to_come amounts table row_in same shallow
  rows-shown [] l d i t s = end (sought_child (sought_tree d v) v) true l i t
  rows-shown (x ∷ xs) l d i t s =
      child (sought_child (sought_tree d v) v) true l i (length xs) (subst (λ (b : Bool). Finds (sought_child (sought_tree d v) v b ((bytes "row" ∷ x) ∷ put_rows xs t)) false (put_rows xs t)) (sym (s i)) (flat-leaf (sought_tree d v) v true (bytes "row" ∷ x) (put_rows xs t) refl refl)) (rows-shown xs l d (suc i) t s)

  abbrev group_line : ℕ → ℕ → Line
  group_line n k = bytes "group" ∷ decimal n ∷ decimal k ∷ []

  aggregates-shown : (rs : Aggregates) (n m i : ℕ) (t : List Line) (d : ℕ) → ValidAs rs → depth_as rs ≤ d → Finds (sought_children (sought_child (sought_tree d v) v) true (group_line n m) (suc (suc i)) (acount rs) (put_as rs t)) (mem v (aggregate_variables rs)) t
  unfolding depth put ValidAs aggregate_variables names_on shows mem to_come amounts table row_in same shallow
  aggregates-shown aend n m i t d w h = end (sought_child (sought_tree d v) v) true (group_line n m) (suc (suc i)) t
  aggregates-shown (agg x y f e rs) n m i t d w h =
      finds-is (child (sought_child (sought_tree d v) v) true (group_line n m) (suc (suc i)) (acount rs) (flat (sought_tree d v) v true ((bytes "agg" ∷ x ∷ y ∷ f ∷ []) ∷ put_e e (put_as rs t)) refl (line-found (sought_tree d v) v true (bytes "agg" ∷ x ∷ y ∷ f ∷ []) (put_e e (put_as rs t)) 1 refl (child (sought_tree d v) true (bytes "agg" ∷ x ∷ y ∷ f ∷ []) 0 0 (expression-hidden v e (put_as rs t) d w.3 (omega arith)) (end (sought_tree d v) true (bytes "agg" ∷ x ∷ y ∷ f ∷ []) 1 (put_as rs t))))) (aggregates-shown rs n m (suc i) t d w.4 (omega arith)))
      (ap (λ (b : Bool). b || mem v (aggregate_variables rs)) (or-false (same v x || false) ∙ or-false (same v x)))
  aggregates-shown (aggall x f rs) n m i t d w h =
      finds-is (child (sought_child (sought_tree d v) v) true (group_line n m) (suc (suc i)) (acount rs) (flat-leaf (sought_tree d v) v true (bytes "aggall" ∷ x ∷ f ∷ []) (put_as rs t) refl refl) (aggregates-shown rs n m (suc i) t d w.2 (omega arith)))
      (ap (λ (b : Bool). b || mem v (aggregate_variables rs)) (or-false (same v x || false) ∙ or-false (same v x)))

  condition-behind : (c : Condition) (f : Bytes) (t : List Line) (d : ℕ) → ValidC c → depth_c c ≤ d → Finds (sought_children (sought_child (sought_tree d v) v) true (bytes "leftjoin" ∷ f ∷ []) 2 (ccount c) (put_c c t)) false t
  unfolding depth put_c ValidC shows same
  condition-behind always f t d w h = end (sought_child (sought_tree d v) v) true (bytes "leftjoin" ∷ f ∷ []) 2 t
  condition-behind (provided e) f t d w h = child (sought_child (sought_tree d v) v) true (bytes "leftjoin" ∷ f ∷ []) 2 0 (below-e _ _ _ e t (expression-hidden v e t d w h)) (end (sought_child (sought_tree d v) v) true (bytes "leftjoin" ∷ f ∷ []) 3 t)

  one-shown : (d : ℕ) (l : Line) (ls : List Line) {t : List Line} {b : Bool} → to_come l ≡ 1 → Finds (sought_child (sought_tree d v) v (shows l 0) ls) b t → Finds (sought_tree (suc d) v true (l ∷ ls)) (mem v (names_on l) || (b || false)) t
  one-shown d l ls {t} e a = tree d v true l ls 1 e (child (sought_child (sought_tree d v) v) true l 0 0 a (end (sought_child (sought_tree d v) v) true l 1 t))

  two-shown : (d : ℕ) (l : Line) (ls : List Line) {m t : List Line} {a b : Bool} → to_come l ≡ 2 → Finds (sought_child (sought_tree d v) v (shows l 0) ls) a m → Finds (sought_child (sought_tree d v) v (shows l 1) m) b t → Finds (sought_tree (suc d) v true (l ∷ ls)) (mem v (names_on l) || (a || (b || false))) t
  two-shown d l ls {m} {t} e a b = tree d v true l ls 2 e (child (sought_child (sought_tree d v) v) true l 0 1 a (child (sought_child (sought_tree d v) v) true l 1 0 b (end (sought_child (sought_tree d v) v) true l 2 t)))

  both-in : (xs ys : List Bytes) → (mem v xs || (mem v ys || false)) ≡ mem v (xs ++ ys)
  both-in xs ys = ap (λ (b : Bool). mem v xs || b) (or-false (mem v ys)) ∙ sym (mem-append v xs ys)

  -- a variable is found in a pattern's lines, whatever follows, exactly if it is in scope in the pattern
  pub pattern-sought : (p : Pattern) (t : List Line) (n : ℕ) → Valid p → depth p ≤ n → Shown n (put p t) (in_scope p) t
  unfolding depth shallow put Valid in_scope names_on shows mem to_come amounts plus table row_in same
  pattern-sought (bgp ts) t n w h = deeper 0 n h (λ (d : ℕ). Shown d (put (bgp ts) t) (in_scope (bgp ts)) t) λ k i. tree k v true (bytes "bgp" ∷ decimal (length ts) ∷ []) _ (length ts) (number (length ts) w.0) (triples-shown ts _ k 0 t (λ j. refl))
  pattern-sought (path s x o) t n w h = deeper 0 n h (λ (d : ℕ). Shown d (put (path s x o) t) (in_scope (path s x o)) t) λ k i. finds-is (leaf k v true (bytes "path" ∷ s ∷ x ∷ o ∷ []) t refl) (or-false (mem v (s ∷ o ∷ [])) ∙ variables-mem (s ∷ o ∷ []))
  pattern-sought (join p q) t n w h = deeper (max (depth p) (depth q)) n h (λ (d : ℕ). Shown d (put (join p q) t) (in_scope (join p q)) t) λ k i. finds-is (two-shown k (bytes "join" ∷ []) (put p (put q t)) refl (below-p _ _ _ p (put q t) (pattern-sought p (put q t) k w.0 (omega arith))) (below-p _ _ _ q t (pattern-sought q t k w.1 (omega arith)))) (both-in (in_scope p) (in_scope q))
  pattern-sought (union p q) t n w h = deeper (max (depth p) (depth q)) n h (λ (d : ℕ). Shown d (put (union p q) t) (in_scope (union p q)) t) λ k i. finds-is (two-shown k (bytes "union" ∷ []) (put p (put q t)) refl (below-p _ _ _ p (put q t) (pattern-sought p (put q t) k w.0 (omega arith))) (below-p _ _ _ q t (pattern-sought q t k w.1 (omega arith)))) (both-in (in_scope p) (in_scope q))
  pattern-sought (minus p q) t n w h = deeper (max (depth p) (depth q)) n h (λ (d : ℕ). Shown d (put (minus p q) t) (in_scope (minus p q)) t) λ k i. finds-is (two-shown k (bytes "minus" ∷ []) (put p (put q t)) refl (below-p _ _ _ p (put q t) (pattern-sought p (put q t) k w.0 (omega arith))) (below-p _ _ _ q t (pattern-hidden v q t k w.1 (omega arith)))) (or-false (mem v (in_scope p)))
  pattern-sought (leftjoin p q c) t n w h = deeper (max (depth p) (max (depth q) (depth_c c))) n h (λ (d : ℕ). Shown d (put (leftjoin p q c) t) (in_scope (leftjoin p q c)) t) λ k i.
      finds-is (tree k v true (bytes "leftjoin" ∷ put_flag c ∷ []) _ (suc (suc (ccount c))) (flag-come c)
      (child (sought_child (sought_tree k v) v) true (bytes "leftjoin" ∷ put_flag c ∷ []) 0 (suc (ccount c)) (below-p _ _ _ p (put q (put_c c t)) (pattern-sought p (put q (put_c c t)) k w.0 (omega arith)))
      (child (sought_child (sought_tree k v) v) true (bytes "leftjoin" ∷ put_flag c ∷ []) 1 (ccount c) (below-p _ _ _ q (put_c c t) (pattern-sought q (put_c c t) k w.1 (omega arith)))
      (condition-behind c (put_flag c) t k w.2 (omega arith))))) (both-in (in_scope p) (in_scope q))
  pattern-sought (filter p e) t n w h = deeper (max (depth p) (depth_e e)) n h (λ (d : ℕ). Shown d (put (filter p e) t) (in_scope (filter p e)) t) λ k i. finds-is (two-shown k (bytes "filter" ∷ []) (put p (put_e e t)) refl (below-p _ _ _ p (put_e e t) (pattern-sought p (put_e e t) k w.0 (omega arith))) (below-e _ _ _ e t (expression-hidden v e t k w.1 (omega arith)))) (or-false (mem v (in_scope p)))
  pattern-sought (graph y p) t n w h = deeper (depth p) n h (λ (d : ℕ). Shown d (put (graph y p) t) (in_scope (graph y p)) t) λ k i. finds-is (one-shown k (bytes "graph" ∷ y ∷ []) (put p t) refl (below-p _ _ _ p t (pattern-sought p t k w.1 (omega arith)))) (ap₂ ◌||◌ (variables-mem (y ∷ [])) (or-false (mem v (in_scope p))) ∙ sym (mem-append v (variables_of (y ∷ [])) (in_scope p)))
  pattern-sought (extend y p e) t n w h = deeper (max (depth p) (depth_e e)) n h (λ (d : ℕ). Shown d (put (extend y p e) t) (in_scope (extend y p e)) t) λ k i. finds-is (two-shown k (bytes "extend" ∷ y ∷ []) (put p (put_e e t)) refl (below-p _ _ _ p (put_e e t) (pattern-sought p (put_e e t) k w.1 (omega arith))) (below-e _ _ _ e t (expression-hidden v e t k w.2 (omega arith)))) (ap₂ ◌||◌ (or-false (same v y)) (or-false (mem v (in_scope p))))
  pattern-sought (values cs rs) t n w h = deeper 0 n h (λ (d : ℕ). Shown d (put (values cs rs) t) (in_scope (values cs rs)) t) λ k i.
      finds-is (tree k v true (bytes "values" ∷ decimal (length cs) ∷ decimal (length rs) ∷ []) _ (suc (length rs)) (ap suc (number (length rs) w.1))
      (child (sought_child (sought_tree k v) v) true (bytes "values" ∷ decimal (length cs) ∷ decimal (length rs) ∷ []) 0 (length rs) (flat-leaf (sought_tree k v) v true (bytes "cols" ∷ cs) (put_rows rs t) refl refl) (rows-shown rs _ k 1 t (λ j. refl)))) (or-false (mem v cs || false) ∙ or-false (mem v cs))
  pattern-sought (orderby p os) t n w h = deeper (max (depth p) (depth_os os)) n h (λ (d : ℕ). Shown d (put (orderby p os) t) (in_scope (orderby p os)) t) λ k i.
      finds-is (tree k v true (bytes "orderby" ∷ decimal (ocount os) ∷ []) _ (suc (ocount os)) (ap suc (number (ocount os) w.0))
      (child (sought_child (sought_tree k v) v) true (bytes "orderby" ∷ decimal (ocount os) ∷ []) 0 (ocount os) (below-p _ _ _ p (put_os os t) (pattern-sought p (put_os os t) k w.1 (omega arith)))
      (subst (λ (x : Sought). Finds x false t) (sym (behind-first (sought_child (sought_tree k v) v) (bytes "orderby" ∷ decimal (ocount os) ∷ []) (λ j. refl) 0 (ocount os) (put_os os t))) (orders-hidden v os _ 1 t k w.2 (omega arith))))) (or-false (mem v (in_scope p)))
  pattern-sought (project cs p) t n w h = deeper (depth p) n h (λ (d : ℕ). Shown d (put (project cs p) t) (in_scope (project cs p)) t) λ k i. finds-is (one-shown k (bytes "project" ∷ cs) (put p t) refl (below-p _ _ _ p t (pattern-hidden v p t k w.1 (omega arith)))) (or-false (mem v cs))
  pattern-sought (distinct p) t n w h = deeper (depth p) n h (λ (d : ℕ). Shown d (put (distinct p) t) (in_scope (distinct p)) t) λ k i. finds-is (one-shown k (bytes "distinct" ∷ []) (put p t) refl (below-p _ _ _ p t (pattern-sought p t k w (omega arith)))) (or-false (mem v (in_scope p)))
  pattern-sought (reduced p) t n w h = deeper (depth p) n h (λ (d : ℕ). Shown d (put (reduced p) t) (in_scope (reduced p)) t) λ k i. finds-is (one-shown k (bytes "reduced" ∷ []) (put p t) refl (below-p _ _ _ p t (pattern-sought p t k w (omega arith)))) (or-false (mem v (in_scope p)))
  pattern-sought (slice a b p) t n w h = deeper (depth p) n h (λ (d : ℕ). Shown d (put (slice a b p) t) (in_scope (slice a b p)) t) λ k i. finds-is (one-shown k (bytes "slice" ∷ a ∷ b ∷ []) (put p t) refl (below-p _ _ _ p t (pattern-sought p t k w.2 (omega arith)))) (or-false (mem v (in_scope p)))
  pattern-sought (group ks p rs) t n w h = deeper (max (depth p) (depth_as rs)) n h (λ (d : ℕ). Shown d (put (group ks p rs) t) (in_scope (group ks p rs)) t) λ k i.
      finds-is (tree k v true (group_line (length ks) (acount rs)) _ (suc (suc (acount rs))) (ap (λ (n : ℕ). suc (suc n)) (number (acount rs) w.1))
      (child (sought_child (sought_tree k v) v) true (group_line (length ks) (acount rs)) 0 (suc (acount rs)) (flat-leaf (sought_tree k v) v true (bytes "cols" ∷ ks) (put p (put_as rs t)) refl refl)
      (child (sought_child (sought_tree k v) v) true (group_line (length ks) (acount rs)) 1 (acount rs) (below-p _ _ _ p (put_as rs t) (pattern-hidden v p (put_as rs t) k w.3 (omega arith))) (aggregates-shown rs (length ks) (acount rs) 0 t k w.4 (omega arith)))))
      (ap (λ (b : Bool). b || mem v (aggregate_variables rs)) (or-false (mem v ks)) ∙ sym (mem-append v ks (aggregate_variables rs)))
  pattern-sought (service y f p) t n w h = deeper (depth p) n h (λ (d : ℕ). Shown d (put (service y f p) t) (in_scope (service y f p)) t) λ k i. finds-is (one-shown k (bytes "service" ∷ y ∷ f ∷ []) (put p t) refl (below-p _ _ _ p t (pattern-sought p t k w.2 (omega arith)))) (ap₂ ◌||◌ (variables-mem (y ∷ [])) (or-false (mem v (in_scope p))) ∙ sym (mem-append v (variables_of (y ∷ [])) (in_scope p)))
