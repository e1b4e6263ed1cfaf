-- Renaming that keeps a tree's names apart keeps what demand 3 supposes of the tree. Assumes nothing.
use mathlib.Core.Path.{◌≡◌, refl, sym, ap, ap₂, ◌∙◌}
use mathlib.Core.Bool.{Bool, true, false, cond, not, ◌&&◌}
use mathlib.Core.List.{List, [], ◌∷◌, ◌++◌, map}
use Prim.Native.Nat.{suc}
use native.Mathlib.Omega.{arith}
use lib.Dec.{eqb, leb}
use lib.ListN.{length, get_or}
use borrow.Author.Tests.{eqb-true, ne_eqb}
use Rattle.text.specs.Text.{Bytes}
use Rattle.text.specs.Field.{is_var, is_blank}
use Rattle.text.proofs.Basics.{and_right}
use Rattle.algebra.specs.Tree.{Triple, Pattern, bgp, path, join, union, minus, leftjoin, filter, graph, extend, values, orderby, project, distinct, reduced, slice, group, service}
use Rattle.algebra.specs.Tree.{Expression, term, bound, exists, apply, call, Condition, always, provided, Expressions, eend, econs}
use Rattle.algebra.specs.Valid.{mem, different}
use Rattle.scoping.specs.Sets.{all, variables_of, triple_variables, aggregate_variables}
use Rattle.scoping.specs.Variables.{scope_of}
use Rattle.scoping.specs.Rename.{rename_in_term, rename_in_triple, rename_in_graph_pattern, rename_in_expression, rename_in_expressions, rename_in_condition}
use Rattle.scoping.specs.ScopedOrHidden.{condition_vars, names_with, scoped_or_hidden}
use Rattle.scoping.proofs.Renamed.{aggregates-renamed}
use Rattle.scoping.specs.bridge.Sets.{Sub, Inj}
use Rattle.counting.specs.Condition.{connective}
use Rattle.counting.specs.Scope.{expression_vars, expressions_vars, names}
use Rattle.counting.specs.Countable.{Tests, condition_passes, everywhere, is_term, all_terms, word_counts, is_condition, are_conditions, no_blank, is_countable, extends_fresh, values_once}
use Rattle.scoping.proofs.Basics.{mem-nil, mem-here, mem-there, mem-left, mem-right, mem-variables, sub-left, sub-right, sub-append, sub-rest}
use Rattle.counting.proofs.Push.{mem-inj}
use Rattle.counting.proofs.Rename.{two-renamed, fields_renamed, bgp_vars-renamed, scope-in, scope-renamed}
use Rattle.algebra.specs.Tree as Tree

-- a variable is no blank node
not-blank : (v : Bytes) → is_var v ≡ true → is_blank v ≡ false
unfolding is_var is_blank
not-blank v h =
    let e = eqb-true (get_or v 0 0) 63 (and_right (leb (length v) 129) (eqb (get_or v 0 0) 63) (and_right (leb 2 (length v)) _ h)) in
    ap (λ (b : Bool). leb 2 (length v) && (b && eqb (get_or v 1 0) 58)) (ne_eqb (get_or v 0 0) 95 (omega arith)) ∙ none (leb 2 (length v))
  where
    none : (a : Bool) → (a && false) ≡ false
    none true = refl
    none false = refl

-- ---- expressions

module _ (f : Bytes → Bytes) where
  count_kept : (es : Expressions) → Tree.ecount (rename_in_expressions f es) ≡ Tree.ecount es
  unfolding rename_in_expressions
  count_kept eend = refl
  count_kept (econs e es) = ap suc (count_kept es)

  term-kept : (e : Expression) → is_term (rename_in_expression f e) ≡ is_term e
  unfolding rename_in_expression
  term-kept (term x) = refl
  term-kept (bound v) = refl
  term-kept (exists p) = refl
  term-kept (apply o es) = refl
  term-kept (call n es) = refl

  terms-kept : (es : Expressions) → all_terms (rename_in_expressions f es) ≡ all_terms es
  unfolding rename_in_expressions
  terms-kept eend = refl
  terms-kept (econs e es) = ap₂ ◌&&◌ (term-kept e) (terms-kept es)

  mutual
    unfolding is_condition rename_in_expression

    condition-kept : (e : Expression) → is_condition (rename_in_expression f e) ≡ is_condition e
    condition-kept (term x) = refl
    condition-kept (bound v) = refl
    condition-kept (exists p) = refl
    condition-kept (apply o es) = λ i. word_counts (connective o) (count_kept es i) (terms-kept es i) (conditions-kept es i)
    condition-kept (call n es) = refl

    conditions-kept : (es : Expressions) → are_conditions (rename_in_expressions f es) ≡ are_conditions es
    conditions-kept eend = refl
    conditions-kept (econs e es) = ap₂ ◌&&◌ (condition-kept e) (conditions-kept es)

-- ---- a walk over a tree whose tests are kept

module _ (U : List Bytes) (f : Bytes → Bytes) (inj : Inj U f) (new : (v : Bytes) → mem v U ≡ true → is_var (f v) ≡ true) where
  pub record Keeps (t : Tests) : Type 0 where
    pub triples : (ts : List Triple) → Sub (triple_variables ts) U → t.triples (map (rename_in_triple f) ts) ≡ t.triples ts
    pub condition : (e : Expression) → t.condition (rename_in_expression f e) ≡ t.condition e
    pub extended : (v : Bytes) (p : Pattern) (e : Expression) → mem v U ≡ true → Sub (names p) U → t.extended (f v) (scope_of (rename_in_graph_pattern f p)) (rename_in_expression f e) ≡ t.extended v (scope_of p) e
    pub columns : (cs : List Bytes) → Sub cs U → t.columns (map f cs) ≡ t.columns cs

  passes_kept : (t : Tests) → Keeps t → (c : Condition) → condition_passes t.condition (rename_in_condition f c) ≡ condition_passes t.condition c
  unfolding rename_in_condition
  passes_kept t k always = refl
  passes_kept t k (provided e) = k.condition e

  pub everywhere-kept : (t : Tests) → Keeps t → (p : Pattern) → Sub (names p) U → everywhere t (rename_in_graph_pattern f p) ≡ everywhere t p
  unfolding everywhere rename_in_graph_pattern names_with condition_vars
  everywhere-kept t k (bgp ts) s = k.triples ts s
  everywhere-kept t k (join p q) s = ap₂ ◌&&◌ (everywhere-kept t k p (sub-left (names p) (names q) U s)) (everywhere-kept t k q (sub-right (names p) (names q) U s))
  everywhere-kept t k (leftjoin p q c) s =
      let u : Sub (names p ++ names q) U = sub-left (names p ++ names q) (condition_vars expression_vars c) U s in
      λ i. everywhere-kept t k p (sub-left (names p) (names q) U u) i && (everywhere-kept t k q (sub-right (names p) (names q) U u) i && passes_kept t k c i)
  everywhere-kept t k (filter p e) s = ap₂ ◌&&◌ (everywhere-kept t k p (sub-left (names p) (expression_vars e) U s)) (k.condition e)
  everywhere-kept t k (union p q) s = ap₂ ◌&&◌ (everywhere-kept t k p (sub-left (names p) (names q) U s)) (everywhere-kept t k q (sub-right (names p) (names q) U s))
  everywhere-kept t k (minus p q) s = ap₂ ◌&&◌ (everywhere-kept t k p (sub-left (names p) (names q) U s)) (everywhere-kept t k q (sub-right (names p) (names q) U s))
  everywhere-kept t k (extend v p e) s =
      let u : Sub (names p ++ expression_vars e) U = sub-rest v (names p ++ expression_vars e) U s in
      let w : Sub (names p) U = sub-left (names p) (expression_vars e) U u in
      ap₂ ◌&&◌ (everywhere-kept t k p w) (k.extended v p e (s v (mem-here v (names p ++ expression_vars e))) w)
  everywhere-kept t k (values cs rs) s = k.columns cs s
  everywhere-kept t k (project cs p) s = everywhere-kept t k p (sub-right cs (names p) U s)
  everywhere-kept t k (distinct p) s = everywhere-kept t k p s
  everywhere-kept t k (path s x o) u = refl
  everywhere-kept t k (graph n p) u = refl
  everywhere-kept t k (orderby p os) u = refl
  everywhere-kept t k (reduced p) u = refl
  everywhere-kept t k (slice a l p) u = refl
  everywhere-kept t k (group ks p rs) u = refl
  everywhere-kept t k (service n a p) u = refl

  -- ---- the three

  blank-kept : (x : Bytes) → (is_var x ≡ true → mem x U ≡ true) → is_blank (rename_in_term f x) ≡ is_blank x
  unfolding rename_in_term
  blank-kept x k = go (is_var x) refl
    where
      go : (t : Bool) → is_var x ≡ t → is_blank (cond t (f x) x) ≡ is_blank x
      go true e = not-blank (f x) (new x (k e)) ∙ sym (not-blank x e)
      go false e = refl

  triples-kept : (ts : List Triple) → Sub (triple_variables ts) U → all no_blank (map (rename_in_triple f) ts) ≡ all no_blank ts
  unfolding all triple_variables
  triples-kept [] s = refl
  triples-kept (t ∷ ts) s =
      let fs : List Bytes = t.subj ∷ t.pred ∷ t.obj ∷ [] in
      let u : Sub (variables_of fs) U = sub-left (variables_of fs) (triple_variables ts) U s in
      let at : (x : Bytes) → mem x fs ≡ true → is_blank (rename_in_term f x) ≡ is_blank x = λ x h. blank-kept x (λ e. u x (mem-variables x fs e h)) in
      let a = at t.subj (mem-here t.subj _) in
      let b = at t.pred (mem-there t.pred t.subj _ (mem-here t.pred _)) in
      let c = at t.obj (mem-there t.obj t.subj _ (mem-there t.obj t.pred _ (mem-here t.obj []))) in
      λ i. (not (a i) && (not (b i) && not (c i))) && triples-kept ts (sub-right (variables_of fs) (triple_variables ts) U s) i

  different-kept : (cs : List Bytes) → Sub cs U → different (map f cs) ≡ different cs
  unfolding different
  different-kept [] s = refl
  different-kept (c ∷ cs) s = ap₂ (λ (m d : Bool). not m && d) (mem-inj U f inj c cs (s c (mem-here c cs)) (sub-rest c cs U s)) (different-kept cs (sub-rest c cs U s))

  pub countable-kept : (p : Pattern) → Sub (names p) U → is_countable (rename_in_graph_pattern f p) ≡ is_countable p
  unfolding is_countable
  countable-kept p s = everywhere-kept (record { triples = λ ts. all no_blank ts; condition = λ e. is_condition e; extended = λ v p. is_term; columns = λ cs. true; others = false }) (record { triples = triples-kept; condition = condition-kept f; extended = λ v p e m u. term-kept f e; columns = λ cs u. refl }) p s

  pub fresh_kept : (p : Pattern) → Sub (names p) U → extends_fresh (rename_in_graph_pattern f p) ≡ extends_fresh p
  unfolding extends_fresh
  fresh_kept p s = everywhere-kept (record { triples = λ ts. true; condition = λ e. true; extended = λ v vs e. not (mem v vs); columns = λ cs. true; others = true }) (record { triples = λ ts u. refl; condition = λ e. refl; extended = λ v q e m u. ap not (ap (mem (f v)) (scope-renamed U f inj new q u) ∙ mem-inj U f inj v (scope_of q) m (scope-in U q u)); columns = λ cs u. refl }) p s

  pub once-kept : (p : Pattern) → Sub (names p) U → values_once (rename_in_graph_pattern f p) ≡ values_once p
  unfolding values_once
  once-kept p s = everywhere-kept (record { triples = λ ts. true; condition = λ e. true; extended = λ v p e. true; columns = λ cs. different cs; others = true }) (record { triples = λ ts u. refl; condition = λ e. refl; extended = λ v q e m u. refl; columns = different-kept }) p s

  -- ---- names

  mutual
    unfolding expression_vars rename_in_expression

    vars-kept : (e : Expression) → Sub (expression_vars e) U → expression_vars (rename_in_expression f e) ≡ map f (expression_vars e)
    vars-kept (term x) s = fields_renamed U f inj new (x ∷ []) s
    vars-kept (bound v) s = refl
    vars-kept (exists p) s = refl
    vars-kept (apply o es) s = all-vars-kept es s
    vars-kept (call n es) s = refl

    all-vars-kept : (es : Expressions) → Sub (expressions_vars es) U → expressions_vars (rename_in_expressions f es) ≡ map f (expressions_vars es)
    all-vars-kept eend s = refl
    all-vars-kept (econs e es) s = two-renamed f (expression_vars e) (expressions_vars es) (vars-kept e (sub-left (expression_vars e) (expressions_vars es) U s)) (all-vars-kept es (sub-right (expression_vars e) (expressions_vars es) U s))

  module _ (of : Expression → List Bytes) (kept : (e : Expression) → Sub (of e) U → of (rename_in_expression f e) ≡ map f (of e)) where
    condition-vars : (c : Condition) → Sub (condition_vars of c) U → condition_vars of (rename_in_condition f c) ≡ map f (condition_vars of c)
    unfolding condition_vars rename_in_condition
    condition-vars always s = refl
    condition-vars (provided e) s = kept e s

    with-kept : (p : Pattern) → Sub (names_with of p) U → names_with of (rename_in_graph_pattern f p) ≡ map f (names_with of p)
    unfolding names_with rename_in_graph_pattern
    with-kept (bgp ts) s = bgp_vars-renamed U f inj new ts s
    with-kept (join p q) s = two-renamed f (names_with of p) (names_with of q) (with-kept p (sub-left (names_with of p) (names_with of q) U s)) (with-kept q (sub-right (names_with of p) (names_with of q) U s))
    with-kept (leftjoin p q c) s =
        let u : Sub (names_with of p ++ names_with of q) U = sub-left (names_with of p ++ names_with of q) (condition_vars of c) U s in
        two-renamed f (names_with of p ++ names_with of q) (condition_vars of c)
        (two-renamed f (names_with of p) (names_with of q) (with-kept p (sub-left (names_with of p) (names_with of q) U u)) (with-kept q (sub-right (names_with of p) (names_with of q) U u)))
        (condition-vars c (sub-right (names_with of p ++ names_with of q) (condition_vars of c) U s))
    with-kept (filter p e) s = two-renamed f (names_with of p) (of e) (with-kept p (sub-left (names_with of p) (of e) U s)) (kept e (sub-right (names_with of p) (of e) U s))
    with-kept (union p q) s = two-renamed f (names_with of p) (names_with of q) (with-kept p (sub-left (names_with of p) (names_with of q) U s)) (with-kept q (sub-right (names_with of p) (names_with of q) U s))
    with-kept (minus p q) s = two-renamed f (names_with of p) (names_with of q) (with-kept p (sub-left (names_with of p) (names_with of q) U s)) (with-kept q (sub-right (names_with of p) (names_with of q) U s))
    with-kept (extend v p e) s =
        let u : Sub (names_with of p ++ of e) U = sub-rest v (names_with of p ++ of e) U s in
        ap (λ (l : List Bytes). f v ∷ l) (two-renamed f (names_with of p) (of e) (with-kept p (sub-left (names_with of p) (of e) U u)) (kept e (sub-right (names_with of p) (of e) U u)))
    with-kept (values cs rs) s = refl
    with-kept (project cs p) s = two-renamed f cs (names_with of p) refl (with-kept p (sub-right cs (names_with of p) U s))
    with-kept (distinct p) s = with-kept p s
    with-kept (path a t o) s = fields_renamed U f inj new (a ∷ o ∷ []) s
    with-kept (graph n p) s = two-renamed f (variables_of (n ∷ [])) (names_with of p) (fields_renamed U f inj new (n ∷ []) (sub-left (variables_of (n ∷ [])) (names_with of p) U s)) (with-kept p (sub-right (variables_of (n ∷ [])) (names_with of p) U s))
    with-kept (orderby p os) s = with-kept p s
    with-kept (reduced p) s = with-kept p s
    with-kept (slice a l p) s = with-kept p s
    with-kept (group ks p rs) s = two-renamed f (ks ++ aggregate_variables rs) (names_with of p) (two-renamed f ks (aggregate_variables rs) refl (aggregates-renamed f rs)) (with-kept p (sub-right (ks ++ aggregate_variables rs) (names_with of p) U s))
    with-kept (service n a p) s = with-kept p s

  pub names-kept : (p : Pattern) → Sub (names p) U → names (rename_in_graph_pattern f p) ≡ map f (names p)
  names-kept p s = with-kept expression_vars vars-kept p s

  pub scoped-kept : (p : Pattern) → Sub (scoped_or_hidden p) U → scoped_or_hidden (rename_in_graph_pattern f p) ≡ map f (scoped_or_hidden p)
  scoped-kept p s = with-kept (λ e. []) (λ e u. refl) p s

-- ---- what is in scope or hidden stands in the tree

sub-both : (xs ys us vs : List Bytes) → Sub xs us → Sub ys vs → Sub (xs ++ ys) (us ++ vs)
sub-both xs ys us vs a b = sub-append xs ys (us ++ vs) (λ v m. mem-left v us vs (a v m)) (λ v m. mem-right v us vs (b v m))

no-vars : (c : Condition) → Sub (condition_vars (λ e. []) c) (condition_vars expression_vars c)
unfolding condition_vars
no-vars always v m = m
no-vars (provided e) v m = mem-nil v m

pub scoped-names : (p : Pattern) → Sub (scoped_or_hidden p) (names p)
unfolding names_with
scoped-names (bgp ts) = λ v m. m
scoped-names (join p q) = sub-both (scoped_or_hidden p) (scoped_or_hidden q) (names p) (names q) (scoped-names p) (scoped-names q)
scoped-names (leftjoin p q c) =
    sub-both (scoped_or_hidden p ++ scoped_or_hidden q) (condition_vars (λ e. []) c) (names p ++ names q) (condition_vars expression_vars c)
    (sub-both (scoped_or_hidden p) (scoped_or_hidden q) (names p) (names q) (scoped-names p) (scoped-names q)) (no-vars c)
scoped-names (filter p e) = sub-both (scoped_or_hidden p) [] (names p) (expression_vars e) (scoped-names p) (λ v m. mem-nil v m)
scoped-names (union p q) = sub-both (scoped_or_hidden p) (scoped_or_hidden q) (names p) (names q) (scoped-names p) (scoped-names q)
scoped-names (minus p q) = sub-both (scoped_or_hidden p) (scoped_or_hidden q) (names p) (names q) (scoped-names p) (scoped-names q)
scoped-names (extend v p e) = sub-both (v ∷ []) (scoped_or_hidden p ++ []) (v ∷ []) (names p ++ expression_vars e) (λ u m. m) (sub-both (scoped_or_hidden p) [] (names p) (expression_vars e) (scoped-names p) (λ u m. mem-nil u m))
scoped-names (values cs rs) = λ v m. m
scoped-names (project cs p) = sub-both cs (scoped_or_hidden p) cs (names p) (λ v m. m) (scoped-names p)
scoped-names (distinct p) = scoped-names p
scoped-names (path s t o) = λ v m. m
scoped-names (graph n p) = sub-both (variables_of (n ∷ [])) (scoped_or_hidden p) (variables_of (n ∷ [])) (names p) (λ v m. m) (scoped-names p)
scoped-names (orderby p os) = scoped-names p
scoped-names (reduced p) = scoped-names p
scoped-names (slice s l p) = scoped-names p
scoped-names (group ks p rs) = sub-both (ks ++ aggregate_variables rs) (scoped_or_hidden p) (ks ++ aggregate_variables rs) (names p) (λ v m. m) (scoped-names p)
scoped-names (service n s p) = scoped-names p
