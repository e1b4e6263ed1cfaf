-- A renamed pattern has the renamed rows, in the same order: for every function that takes no two names of the pattern to one, and variables to variables. Assumes nothing.
use mathlib.Core.Path.{◌≡◌, refl, sym, ◌∙◌, ap, ap₂, fun_ext}
use mathlib.Core.Bool.{Bool, true, false, cond, not, ◌&&◌}
use mathlib.Core.List.{List, [], ◌∷◌, ◌++◌, map}
use mathlib.Core.Option.{some}
use Rattle.text.specs.Text.{Bytes, same}
use Rattle.text.specs.Field.{is_var}
use Rattle.algebra.specs.Tree.{Triple, Pattern, bgp, path, join, union, minus, leftjoin, filter, graph, extend, values, orderby, project, distinct, reduced, slice, group, service, Expression, term, bound, exists, apply, call, Condition, always, provided, Expressions, eend, econs}
use Rattle.algebra.specs.Valid.{mem}
use Rattle.scoping.specs.Sets.{all, any, keep, variables_of, triple_variables, aggregate_variables, each}
use Rattle.scoping.specs.Variables.{variables_in_pattern, scope_of}
use Rattle.scoping.specs.ScopedOrHidden.{condition_vars, names_with}
use Rattle.scoping.specs.Rename.{rename_in_term, rename_in_triple, rename_in_graph_pattern, rename_in_expression, rename_in_condition, rename_in_expressions}
use Rattle.scoping.proofs.Renamed.{aggregates-renamed}
use Rattle.scoping.specs.bridge.Sets.{Sub, Inj}
use Rattle.counting.specs.Bag.{when, once}
use Rattle.counting.specs.Row.{same_cell, is_bound, Row, bind, merge, cut, agree, same_on, named, one_term, cell}
use Rattle.counting.specs.Condition.{truth, connective, word_truth, value_in, term_of, terms_of, truth_of, truths_of, is_true, passes}
use Rattle.counting.specs.Scope.{expression_vars, expressions_vars, names}
use Rattle.counting.specs.Answer.{ways, is_in, terms, bgp_rows, unions, or_else, extend_by, line_rows, removed, eval}
use Rattle.scoping.proofs.Basics.{either, mem-nil, mem-here, mem-there, mem-cases, mem-variables, variables-mem, sub-left, sub-right, sub-append, sub-rest, any-map, map-append, map-map, map-cong, each-cong, each_map, map_each}
use Rattle.counting.proofs.Basics.{map-when, keep-map, once-map}
use Rattle.counting.proofs.Push.{push, push_at, mem-inj, push-empty, push-bind, push-merge, push-cut, push-named, one_term-push, push-extend, agree-push, shares-push, same_on-push}

pub two-renamed : (f : Bytes → Bytes) {xs' ys' : List Bytes} (xs ys : List Bytes) → xs' ≡ map f xs → ys' ≡ map f ys → xs' ++ ys' ≡ map f (xs ++ ys)
two-renamed f xs ys p q = ap₂ ◌++◌ p q ∙ sym (map-append f xs ys)

map-cond : (f : Bytes → Bytes) (t : Bool) (x : Bytes) (xs : List Bytes) → cond t (f x ∷ map f xs) (map f xs) ≡ map f (cond t (x ∷ xs) xs)
map-cond f true x xs = refl
map-cond f false x xs = refl

-- what is in scope stands in the pattern
pub scope-in : (U : List Bytes) (p : Pattern) → Sub (names p) U → Sub (scope_of p) U
unfolding variables_in_pattern names_with
scope-in U (bgp ts) s = s
scope-in U (join p q) s = sub-append (scope_of p) (scope_of q) U (scope-in U p (sub-left (names p) (names q) U s)) (scope-in U q (sub-right (names p) (names q) U s))
scope-in U (leftjoin p q c) s =
    let t : Sub (names p ++ names q) U = sub-left (names p ++ names q) (condition_vars expression_vars c) U s in
    sub-append (scope_of p) (scope_of q) U (scope-in U p (sub-left (names p) (names q) U t)) (scope-in U q (sub-right (names p) (names q) U t))
scope-in U (filter p e) s = scope-in U p (sub-left (names p) (expression_vars e) U s)
scope-in U (union p q) s = sub-append (scope_of p) (scope_of q) U (scope-in U p (sub-left (names p) (names q) U s)) (scope-in U q (sub-right (names p) (names q) U s))
scope-in U (minus p q) s = scope-in U p (sub-left (names p) (names q) U s)
scope-in U (extend v p e) s = λ u m. either (λ k. ap (λ x. mem x U) k ∙ s v (mem-here v _)) (scope-in U p (sub-left (names p) (expression_vars e) U (sub-rest v (names p ++ expression_vars e) U s)) u) (mem-cases u v (scope_of p) m)
scope-in U (values cs rs) s = s
scope-in U (project cs p) s = sub-left cs (names p) U s
scope-in U (distinct p) s = scope-in U p s
scope-in U (path s t o) k = k
scope-in U (graph n p) k = sub-append (variables_of (n ∷ [])) (scope_of p) U (sub-left (variables_of (n ∷ [])) (names p) U k) (scope-in U p (sub-right (variables_of (n ∷ [])) (names p) U k))
scope-in U (orderby p os) k = scope-in U p k
scope-in U (reduced p) k = scope-in U p k
scope-in U (slice s l p) k = scope-in U p k
scope-in U (group ks p rs) k = sub-left (ks ++ aggregate_variables rs) (names p) U k
scope-in U (service n s p) k = scope-in U p k

pub both-in : (U : List Bytes) (p q : Pattern) → Sub (names p ++ names q) U → Sub (scope_of p ++ scope_of q) U
both-in U p q s = sub-append (scope_of p) (scope_of q) U (scope-in U p (sub-left (names p) (names q) U s)) (scope-in U q (sub-right (names p) (names q) U s))

module _ (U : List Bytes) (f : Bytes → Bytes) (inj : Inj U f) (new : (v : Bytes) → mem v U ≡ true → is_var (f v) ≡ true) where
  -- ---- fields: a variable's new name is a variable, any other term stays

  -- a field that is a variable is known
  abbrev Known : Bytes → Type 0
  Known x = is_var x ≡ true → mem x U ≡ true

  known-field : (x : Bytes) (fs : List Bytes) → mem x fs ≡ true → Sub (variables_of fs) U → Known x
  known-field x fs m s e = s x (mem-variables x fs e m)

  field-cases : {A : Type 0} (x : Bytes) (a b : Bytes → A) (c d : A) → Known x → (mem x U ≡ true → a (f x) ≡ c) → b x ≡ d → cond (is_var (rename_in_term f x)) (a (rename_in_term f x)) (b (rename_in_term f x)) ≡ cond (is_var x) c d
  unfolding rename_in_term
  field-cases x a b c d s h k = go (is_var x) refl
    where
      go : (t : Bool) → is_var x ≡ t → cond (is_var (cond t (f x) x)) (a (cond t (f x) x)) (b (cond t (f x) x)) ≡ cond t c d
      go true e = let m : mem x U ≡ true = s e in ap (λ t. cond t (a (f x)) (b (f x))) (new x m) ∙ h m
      go false e = ap (λ t. cond t (a x) (b x)) e ∙ k

  pub fields_renamed : (fs : List Bytes) → Sub (variables_of fs) U → variables_of (map (rename_in_term f) fs) ≡ map f (variables_of fs)
  unfolding variables_of keep
  fields_renamed [] s = refl
  fields_renamed (x ∷ fs) s =
      let r : variables_of (map (rename_in_term f) fs) ≡ map f (variables_of fs) = fields_renamed fs (λ v m. let k = variables-mem v fs m in s v (mem-variables v (x ∷ fs) k.0 (mem-there v x fs k.1))) in
      ap (λ l. cond (is_var (rename_in_term f x)) (rename_in_term f x ∷ l) l) r
      ∙ field-cases x (λ y. y ∷ map f (variables_of fs)) (λ y. map f (variables_of fs)) (f x ∷ map f (variables_of fs)) (map f (variables_of fs)) (known-field x (x ∷ fs) (mem-here x fs) s) (λ m. refl) refl
      ∙ map-cond f (is_var x) x (variables_of fs)

  pub bgp_vars-renamed : (ts : List Triple) → Sub (triple_variables ts) U → triple_variables (map (rename_in_triple f) ts) ≡ map f (triple_variables ts)
  unfolding triple_variables
  bgp_vars-renamed [] s = refl
  bgp_vars-renamed (t ∷ ts) s =
      let fs : List Bytes = t.subj ∷ t.pred ∷ t.obj ∷ [] in
      two-renamed f (variables_of fs) (triple_variables ts) (fields_renamed fs (sub-left (variables_of fs) (triple_variables ts) U s)) (bgp_vars-renamed ts (sub-right (variables_of fs) (triple_variables ts) U s))

  -- the variables in scope of a renamed pattern
  pub scope-renamed : (p : Pattern) → Sub (names p) U → scope_of (rename_in_graph_pattern f p) ≡ map f (scope_of p)
  unfolding variables_in_pattern names_with rename_in_graph_pattern
  scope-renamed (bgp ts) s = bgp_vars-renamed ts s
  scope-renamed (join p q) s = two-renamed f (scope_of p) (scope_of q) (scope-renamed p (sub-left (names p) (names q) U s)) (scope-renamed q (sub-right (names p) (names q) U s))
  scope-renamed (leftjoin p q c) s =
      let t : Sub (names p ++ names q) U = sub-left (names p ++ names q) (condition_vars expression_vars c) U s in
      two-renamed f (scope_of p) (scope_of q) (scope-renamed p (sub-left (names p) (names q) U t)) (scope-renamed q (sub-right (names p) (names q) U t))
  scope-renamed (filter p e) s = scope-renamed p (sub-left (names p) (expression_vars e) U s)
  scope-renamed (union p q) s = two-renamed f (scope_of p) (scope_of q) (scope-renamed p (sub-left (names p) (names q) U s)) (scope-renamed q (sub-right (names p) (names q) U s))
  scope-renamed (minus p q) s = scope-renamed p (sub-left (names p) (names q) U s)
  scope-renamed (extend v p e) s = ap (λ l. f v ∷ l) (scope-renamed p (sub-left (names p) (expression_vars e) U (sub-rest v (names p ++ expression_vars e) U s)))
  scope-renamed (values cs rs) s = refl
  scope-renamed (project cs p) s = refl
  scope-renamed (distinct p) s = scope-renamed p s
  scope-renamed (path s t o) k = fields_renamed (s ∷ o ∷ []) k
  scope-renamed (graph n p) k = two-renamed f (variables_of (n ∷ [])) (scope_of p) (fields_renamed (n ∷ []) (sub-left (variables_of (n ∷ [])) (names p) U k)) (scope-renamed p (sub-right (variables_of (n ∷ [])) (names p) U k))
  scope-renamed (orderby p os) k = scope-renamed p k
  scope-renamed (reduced p) k = scope-renamed p k
  scope-renamed (slice s l p) k = scope-renamed p k
  scope-renamed (group ks p rs) k = two-renamed f ks (aggregate_variables rs) refl (aggregates-renamed f rs)
  scope-renamed (service n s p) k = scope-renamed p k

  -- ---- expressions

  value-push : (x : Bytes) (r : Row) → Known x → value_in (rename_in_term f x) (push U f r) ≡ value_in x r
  unfolding value_in
  value-push x r s = field-cases x (push U f r) some (r x) (some x) s (λ m. push_at U f inj r x m) refl

  term-push : (e : Expression) (r : Row) → Sub (expression_vars e) U → term_of (rename_in_expression f e) (push U f r) ≡ term_of e r
  unfolding term_of rename_in_expression expression_vars
  term-push (term x) r s = value-push x r (known-field x (x ∷ []) (mem-here x []) s)
  term-push (bound v) r s = refl
  term-push (exists p) r s = refl
  term-push (apply o es) r s = refl
  term-push (call n es) r s = refl

  terms-push : (es : Expressions) (r : Row) → Sub (expressions_vars es) U → terms_of (rename_in_expressions f es) (push U f r) ≡ terms_of es r
  unfolding terms_of rename_in_expressions expressions_vars
  terms-push eend r s = refl
  terms-push (econs e es) r s = ap₂ ◌∷◌ (term-push e r (sub-left (expression_vars e) (expressions_vars es) U s)) (terms-push es r (sub-right (expression_vars e) (expressions_vars es) U s))

  mutual
    unfolding truth_of rename_in_expression expression_vars

    truth-push : (e : Expression) (r : Row) → Sub (expression_vars e) U → truth_of (rename_in_expression f e) (push U f r) ≡ truth_of e r
    truth-push (term x) r s = refl
    truth-push (bound v) r s = ap (λ x. truth (is_bound x)) (push_at U f inj r v (s v (mem-here v [])))
    truth-push (exists p) r s = refl
    truth-push (apply o es) r s = ap₂ (word_truth (connective o)) (terms-push es r s) (truths-push es r s)
    truth-push (call n es) r s = refl

    truths-push : (es : Expressions) (r : Row) → Sub (expressions_vars es) U → truths_of (rename_in_expressions f es) (push U f r) ≡ truths_of es r
    truths-push eend r s = refl
    truths-push (econs e es) r s = ap₂ ◌∷◌ (truth-push e r (sub-left (expression_vars e) (expressions_vars es) U s)) (truths-push es r (sub-right (expression_vars e) (expressions_vars es) U s))

  passes-push : (c : Condition) (r : Row) → Sub (condition_vars expression_vars c) U → passes (rename_in_condition f c) (push U f r) ≡ passes c r
  unfolding passes rename_in_condition condition_vars
  passes-push always r s = refl
  passes-push (provided e) r s = ap is_true (truth-push e r s)

  -- ---- the rows of a pattern

  ways-out : (v : Bytes) (vs ts : List Bytes) → mem v U ≡ true → (c : Bool) → cond c (map (push U f) (ways vs ts)) (each (λ t. map (bind (f v) t) (map (push U f) (ways vs ts))) ts) ≡ map (push U f) (cond c (ways vs ts) (each (λ t. map (bind v t) (ways vs ts)) ts))
  ways-out v vs ts p true = refl
  ways-out v vs ts p false = each-cong _ _ ts (λ t. map-map (bind (f v) t) (push U f) (ways vs ts) ∙ (map-cong _ _ (ways vs ts) (λ r. sym (push-bind U f inj v t r p)) ∙ sym (map-map (push U f) (bind v t) (ways vs ts)))) ∙ sym (map_each (push U f) (λ t. map (bind v t) (ways vs ts)) ts)

  ways-push : (vs ts : List Bytes) → Sub vs U → ways (map f vs) ts ≡ map (push U f) (ways vs ts)
  unfolding ways
  ways-push [] ts s = ap (λ r. r ∷ []) (sym (push-empty U f inj))
  ways-push (v ∷ vs) ts s =
      let k : Sub vs U = sub-rest v vs U s in
      ap₂ (λ c l. cond c l (each (λ t. map (bind (f v) t) l) ts)) (mem-inj U f inj v vs (s v (mem-here v vs)) k) (ways-push vs ts k) ∙ ways-out v vs ts (s v (mem-here v vs)) (mem v vs)

  is_in-push : (g : List Triple) (r : Row) (t : Triple) → Sub (variables_of (t.subj ∷ t.pred ∷ t.obj ∷ [])) U → is_in g (push U f r) (rename_in_triple f t) ≡ is_in g r t
  unfolding is_in
  is_in-push g r t s = λ i. any (λ x. same_cell (value-push t.subj r (known t.subj (mem-here t.subj _)) i) (some x.subj) && (same_cell (value-push t.pred r (known t.pred (mem-there t.pred t.subj _ (mem-here t.pred _))) i) (some x.pred) && same_cell (value-push t.obj r (known t.obj (mem-there t.obj t.subj _ (mem-there t.obj t.pred _ (mem-here t.obj [])))) i) (some x.obj))) g
    where
      known : (x : Bytes) → mem x (t.subj ∷ t.pred ∷ t.obj ∷ []) ≡ true → Known x
      known x m = known-field x (t.subj ∷ t.pred ∷ t.obj ∷ []) m s

  all_in-push : (g : List Triple) (r : Row) (ts : List Triple) → Sub (triple_variables ts) U → all (is_in g (push U f r)) (map (rename_in_triple f) ts) ≡ all (is_in g r) ts
  unfolding all triple_variables
  all_in-push g r [] s = refl
  all_in-push g r (t ∷ ts) s = ap₂ ◌&&◌ (is_in-push g r t (sub-left (variables_of (t.subj ∷ t.pred ∷ t.obj ∷ [])) (triple_variables ts) U s)) (all_in-push g r ts (sub-right (variables_of (t.subj ∷ t.pred ∷ t.obj ∷ [])) (triple_variables ts) U s))

  bgp-push : (g ts : List Triple) → Sub (triple_variables ts) U → bgp_rows g (map (rename_in_triple f) ts) ≡ map (push U f) (bgp_rows g ts)
  unfolding bgp_rows
  bgp-push g ts s =
      ap (keep (λ r. all (is_in g r) (map (rename_in_triple f) ts))) (ap (λ l. ways l (once same (terms g))) (bgp_vars-renamed ts s) ∙ ways-push (triple_variables ts) (once same (terms g)) s)
      ∙ keep-map (λ r. all (is_in g r) (map (rename_in_triple f) ts)) (λ r. all (is_in g r) ts) (push U f) (ways (triple_variables ts) (once same (terms g))) (λ r. all_in-push g r ts s)

  unions-push : (vs : List Bytes) (c : Condition) (a : Row) (bs : List Row) → Sub vs U → Sub (condition_vars expression_vars c) U → unions (map f vs) (rename_in_condition f c) (push U f a) (map (push U f) bs) ≡ map (push U f) (unions vs c a bs)
  unfolding unions
  unions-push vs c a bs s k = each_map _ (push U f) bs ∙ (each-cong _ _ bs one ∙ sym (map_each (push U f) _ bs))
    where
      one : (b : Row) → when (agree (map f vs) (push U f a) (push U f b) && passes (rename_in_condition f c) (merge (push U f a) (push U f b))) (merge (push U f a) (push U f b)) ≡ map (push U f) (when (agree vs a b && passes c (merge a b)) (merge a b))
      one b = ap₂ (λ t m. when (t && passes (rename_in_condition f c) m) m) (agree-push U f inj vs a b s) (sym (push-merge U f inj a b)) ∙ (ap (λ t. when (agree vs a b && t) (push U f (merge a b))) (passes-push c (merge a b) k) ∙ sym (map-when (push U f) (agree vs a b && passes c (merge a b)) (merge a b)))

  or_else-push : (a : Row) (xs : List Row) → or_else (push U f a) (map (push U f) xs) ≡ map (push U f) (or_else a xs)
  or_else-push a [] = refl
  or_else-push a (x ∷ xs) = refl

  removed-push : (vs : List Bytes) (a : Row) (bs : List Row) → Sub vs U → removed (map f vs) (map (push U f) bs) (push U f a) ≡ removed vs bs a
  unfolding removed
  removed-push vs a bs s = any-map _ (push U f) bs ∙ ap (λ k. any k bs) (fun_ext (λ b. ap₂ ◌&&◌ (agree-push U f inj vs a b s) (shares-push U f inj vs a b s)))

  line-push : (cs xs : List Bytes) → Sub cs U → line_rows (map f cs) xs ≡ map (push U f) (line_rows cs xs)
  unfolding line_rows
  line-push cs xs s = ap₂ when (one_term-push U f inj cs (map cell xs) s) (sym (push-named U f inj cs (map cell xs) s)) ∙ sym (map-when (push U f) (one_term cs (map cell xs)) (named cs (map cell xs)))

  -- the rows of a pattern of two, whose rows are a function of the names in scope and both sides' rows
  two-push : (p q : Pattern) → Sub (names p ++ names q) U → (g : List Triple) → eval g (rename_in_graph_pattern f p) ≡ map (push U f) (eval g p) → eval g (rename_in_graph_pattern f q) ≡ map (push U f) (eval g q) → (F : List Bytes → List Row → List Row → List Row) → F (scope_of (rename_in_graph_pattern f p) ++ scope_of (rename_in_graph_pattern f q)) (eval g (rename_in_graph_pattern f p)) (eval g (rename_in_graph_pattern f q)) ≡ F (map f (scope_of p ++ scope_of q)) (map (push U f) (eval g p)) (map (push U f) (eval g q))
  two-push p q s g ep eq F = λ i. F (two-renamed f (scope_of p) (scope_of q) (scope-renamed p (sub-left (names p) (names q) U s)) (scope-renamed q (sub-right (names p) (names q) U s)) i) (ep i) (eq i)

  -- the renamed pattern has the renamed rows
  pub eval-renamed : (g : List Triple) (p : Pattern) → Sub (names p) U → eval g (rename_in_graph_pattern f p) ≡ map (push U f) (eval g p)
  unfolding eval rename_in_graph_pattern names_with condition_vars
  eval-renamed g (bgp ts) s = bgp-push g ts s
  eval-renamed g (join p q) s =
      two-push p q s g (eval-renamed g p (sub-left (names p) (names q) U s)) (eval-renamed g q (sub-right (names p) (names q) U s)) (λ vs xs bs. each (λ a. unions vs always a bs) xs)
      ∙ (each_map _ (push U f) (eval g p) ∙ (each-cong _ _ (eval g p) (λ a. unions-push (scope_of p ++ scope_of q) always a (eval g q) (both-in U p q s) (λ v m. mem-nil v m)) ∙ sym (map_each (push U f) _ (eval g p))))
  eval-renamed g (leftjoin p q c) s =
      let t : Sub (names p ++ names q) U = sub-left (names p ++ names q) (condition_vars expression_vars c) U s in
      two-push p q t g (eval-renamed g p (sub-left (names p) (names q) U t)) (eval-renamed g q (sub-right (names p) (names q) U t)) (λ vs xs bs. each (λ a. or_else a (unions vs (rename_in_condition f c) a bs)) xs)
      ∙ (each_map _ (push U f) (eval g p) ∙ (each-cong _ _ (eval g p) (λ a. ap (or_else (push U f a)) (unions-push (scope_of p ++ scope_of q) c a (eval g q) (both-in U p q t) (sub-right (names p ++ names q) (condition_vars expression_vars c) U s)) ∙ or_else-push a (unions (scope_of p ++ scope_of q) c a (eval g q))) ∙ sym (map_each (push U f) _ (eval g p))))
  eval-renamed g (filter p e) s =
      ap (keep (passes (provided (rename_in_expression f e)))) (eval-renamed g p (sub-left (names p) (expression_vars e) U s))
      ∙ keep-map (passes (provided (rename_in_expression f e))) (passes (provided e)) (push U f) (eval g p) (λ r. passes-push (provided e) r (sub-right (names p) (expression_vars e) U s))
  eval-renamed g (union p q) s = ap₂ ◌++◌ (eval-renamed g p (sub-left (names p) (names q) U s)) (eval-renamed g q (sub-right (names p) (names q) U s)) ∙ sym (map-append (push U f) (eval g p) (eval g q))
  eval-renamed g (minus p q) s =
      two-push p q s g (eval-renamed g p (sub-left (names p) (names q) U s)) (eval-renamed g q (sub-right (names p) (names q) U s)) (λ vs xs bs. keep (λ a. not (removed vs bs a)) xs)
      ∙ keep-map (λ a. not (removed (map f (scope_of p ++ scope_of q)) (map (push U f) (eval g q)) a)) _ (push U f) (eval g p) (λ a. ap not (removed-push (scope_of p ++ scope_of q) a (eval g q) (both-in U p q s)))
  eval-renamed g (extend v p e) s =
      let t : Sub (names p ++ expression_vars e) U = sub-rest v (names p ++ expression_vars e) U s in
      ap (map (λ r. extend_by (f v) (term_of (rename_in_expression f e) r) r)) (eval-renamed g p (sub-left (names p) (expression_vars e) U t))
      ∙ (map-map _ (push U f) (eval g p) ∙ (map-cong _ _ (eval g p) (λ r. ap (λ x. extend_by (f v) x (push U f r)) (term-push e r (sub-right (names p) (expression_vars e) U t)) ∙ sym (push-extend U f inj v (term_of e r) r (s v (mem-here v (names p ++ expression_vars e))))) ∙ sym (map-map (push U f) _ (eval g p))))
  eval-renamed g (values cs rs) s = each-cong _ _ rs (λ xs. line-push cs xs s) ∙ sym (map_each (push U f) (line_rows cs) rs)
  eval-renamed g (project cs p) s =
      ap (map (cut (map f cs))) (eval-renamed g p (sub-right cs (names p) U s))
      ∙ (map-map _ (push U f) (eval g p) ∙ (map-cong _ _ (eval g p) (λ r. sym (push-cut U f inj cs r (sub-left cs (names p) U s))) ∙ sym (map-map (push U f) (cut cs) (eval g p))))
  eval-renamed g (distinct p) s =
      ap₂ (λ vs l. once (same_on vs) l) (scope-renamed p s) (eval-renamed g p s)
      ∙ once-map (same_on (map f (scope_of p))) (same_on (scope_of p)) (push U f) (eval g p) (λ a b. same_on-push U f inj (scope_of p) a b (scope-in U p s))
  eval-renamed g (path s t o) k = refl
  eval-renamed g (graph n p) k = refl
  eval-renamed g (orderby p os) k = refl
  eval-renamed g (reduced p) k = refl
  eval-renamed g (slice s l p) k = refl
  eval-renamed g (group ks p rs) k = refl
  eval-renamed g (service n s p) k = refl
