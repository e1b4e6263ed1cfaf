-- Evaluation does not depend on which names are listed: the tests of a pattern may go over any list that has the variables in scope. Assumes nothing.
use mathlib.Core.Path.{◌≡◌, refl, sym, ◌∙◌, ap, ap₂, fun_ext}
use mathlib.Core.Bool.{Bool, true, not, ◌&&◌, false≢true}
use mathlib.Core.List.{List, [], ◌∷◌, ◌++◌, map}
use mathlib.Core.Option.{none}
use Rattle.text.specs.Text.{Bytes}
use Rattle.algebra.specs.Tree.{Triple, Pattern, bgp, path, join, union, minus, leftjoin, filter, graph, extend, values, orderby, project, distinct, reduced, slice, group, service, Condition, always, provided}
use Rattle.algebra.specs.Valid.{mem}
use Rattle.scoping.specs.Sets.{all, any, keep, each}
use Rattle.scoping.specs.Variables.{scope_of}
use Rattle.scoping.specs.ScopedOrHidden.{condition_vars, names_with}
use Rattle.scoping.specs.bridge.Sets.{Sub}
use Rattle.counting.specs.Bag.{when, once}
use Rattle.counting.specs.Row.{same_cell, is_bound, Row, merge, cut, agree, shares, same_on}
use Rattle.counting.specs.Condition.{term_of, passes}
use Rattle.counting.specs.Scope.{expression_vars, names}
use Rattle.counting.specs.Answer.{bgp_rows, unions, or_else, extend_by, line_rows, removed, eval}
use Rattle.scoping.proofs.Basics.{split, both_ways, either, or_cases, or_inl, or_inr, mem-nil, mem-here, mem-there, mem-cases, sub-left, sub-right, sub-rest, all-at, all_of, each-cong}
use Rattle.counting.proofs.Every.{each-every, keep-every, once-every}
use Rattle.counting.proofs.Sums.{same_cell-refl}
use Rattle.counting.proofs.Only.{Only, only-left, eval-only, cover-left, agree-wider}
use Rattle.counting.proofs.Rename.{scope-in, both-in}

-- ---- the tests

pub any-some-in : (f : Bytes → Bool) (xs : List Bytes) → any f xs ≡ true → (v : Bytes) × (mem v xs ≡ true) × (f v ≡ true)
unfolding any
any-some-in f [] h = absurd (false≢true h)
any-some-in f (x ∷ xs) h = either (λ e. (x, mem-here x xs, e)) (λ e. let t = any-some-in f xs e in (t.0, mem-there t.0 x xs t.1, t.2)) (or_cases (f x) (any f xs) h)

pub any-of-in : (f : Bytes → Bool) (xs : List Bytes) (v : Bytes) → mem v xs ≡ true → f v ≡ true → any f xs ≡ true
unfolding any
any-of-in f [] v m h = mem-nil v m
any-of-in f (x ∷ xs) v m h = either (λ e. or_inl (f x) (any f xs) (ap f (sym e) ∙ h)) (λ e. or_inr (f x) (any f xs) (any-of-in f xs v e h)) (mem-cases v x xs m)

pub shares-wider : (us vs : List Bytes) (a b : Row) → Sub vs us → Only vs a → shares us a b ≡ shares vs a b
unfolding shares
shares-wider us vs a b s o = both_ways (any t us) (any t vs)
    (λ h. let k = any-some-in t us h in any-of-in t vs k.0 (inside k.0 k.2) k.2)
    (λ h. let k = any-some-in t vs h in any-of-in t us k.0 (s k.0 k.1) k.2)
  where
    t : Bytes → Bool
    t v = is_bound (a v) && is_bound (b v)

    inside : (v : Bytes) → t v ≡ true → mem v vs ≡ true
    inside v h = either (λ m. m) (λ n. absurd (false≢true (sym (ap (λ x. is_bound x && is_bound (b v)) (o v n)) ∙ h))) (split (mem v vs))

pub same_on-wider : (us vs : List Bytes) (a b : Row) → Sub vs us → Only vs a → Only vs b → same_on us a b ≡ same_on vs a b
unfolding same_on
same_on-wider us vs a b s oa ob = both_ways (all t us) (all t vs)
    (λ h. all_of t vs (λ v m. all-at t us h v (s v m)))
    (λ h. all_of t us (λ v m. either (λ k. all-at t vs h v k) (λ n. ap₂ same_cell (oa v n) (ob v n) ∙ same_cell-refl none) (split (mem v vs))))
  where
    t : Bytes → Bool
    t v = same_cell (a v) (b v)

-- two rows of the two sides of a pattern agree over U exactly if they do over the names of both
pub agree-both : (U xs ys : List Bytes) (a b : Row) → Sub (xs ++ ys) U → Only xs a → agree U a b ≡ agree (xs ++ ys) a b
agree-both U xs ys a b s oa = agree-wider U (xs ++ ys) a b s (cover-left (xs ++ ys) a b (only-left xs ys a oa))

pub unions-wider : (U xs ys : List Bytes) (c : Condition) (a : Row) (bs : List Row) → Sub (xs ++ ys) U → Only xs a → unions U c a bs ≡ unions (xs ++ ys) c a bs
unfolding unions
unions-wider U xs ys c a bs s oa = each-cong _ _ bs (λ b. ap (λ t. when (t && passes c (merge a b)) (merge a b)) (agree-both U xs ys a b s oa))

pub removed-wider : (U xs ys : List Bytes) (a : Row) (bs : List Row) → Sub (xs ++ ys) U → Only xs a → removed U bs a ≡ removed (xs ++ ys) bs a
unfolding removed
removed-wider U xs ys a bs s oa = ap (λ k. any k bs) (fun_ext (λ b. ap₂ ◌&&◌ (agree-both U xs ys a b s oa) (shares-wider U (xs ++ ys) a b s (only-left xs ys a oa))))

-- ---- the rows of a pattern, each test over U

unfoldable pub eval_in : List Bytes → List Triple → Pattern → List Row
eval_in U g (bgp ts) = bgp_rows g ts
eval_in U g (join p q) = each (λ a. unions U always a (eval_in U g q)) (eval_in U g p)
eval_in U g (leftjoin p q c) = each (λ a. or_else a (unions U c a (eval_in U g q))) (eval_in U g p)
eval_in U g (filter p e) = keep (passes (provided e)) (eval_in U g p)
eval_in U g (union p q) = eval_in U g p ++ eval_in U g q
eval_in U g (minus p q) = keep (λ a. not (removed U (eval_in U g q) a)) (eval_in U g p)
eval_in U g (extend v p e) = map (λ r. extend_by v (term_of e r) r) (eval_in U g p)
eval_in U g (values cs rs) = each (line_rows cs) rs
eval_in U g (project cs p) = map (cut cs) (eval_in U g p)
eval_in U g (distinct p) = once (same_on U) (eval_in U g p)
eval_in U g (path s t o) = []
eval_in U g (graph n p) = []
eval_in U g (orderby p os) = []
eval_in U g (reduced p) = []
eval_in U g (slice s l p) = []
eval_in U g (group ks p rs) = []
eval_in U g (service n s p) = []

-- the tests may go over any list that has the pattern's names
pub eval-wider : (U : List Bytes) (g : List Triple) (p : Pattern) → Sub (names p) U → eval_in U g p ≡ eval g p
unfolding eval_in eval names_with
eval-wider U g (bgp ts) s = refl
eval-wider U g (join p q) s =
    ap₂ (λ xs ys. each (λ a. unions U always a ys) xs) (eval-wider U g p (sub-left (names p) (names q) U s)) (eval-wider U g q (sub-right (names p) (names q) U s))
    ∙ each-every _ _ (eval-only g p) (λ a oa. unions-wider U (scope_of p) (scope_of q) always a (eval g q) (both-in U p q s) oa)
eval-wider U g (leftjoin p q c) s =
    let t : Sub (names p ++ names q) U = sub-left (names p ++ names q) (condition_vars expression_vars c) U s in
    ap₂ (λ xs ys. each (λ a. or_else a (unions U c a ys)) xs) (eval-wider U g p (sub-left (names p) (names q) U t)) (eval-wider U g q (sub-right (names p) (names q) U t))
    ∙ each-every _ _ (eval-only g p) (λ a oa. ap (or_else a) (unions-wider U (scope_of p) (scope_of q) c a (eval g q) (both-in U p q t) oa))
eval-wider U g (filter p e) s = ap (keep (passes (provided e))) (eval-wider U g p (sub-left (names p) (expression_vars e) U s))
eval-wider U g (union p q) s = ap₂ ◌++◌ (eval-wider U g p (sub-left (names p) (names q) U s)) (eval-wider U g q (sub-right (names p) (names q) U s))
eval-wider U g (minus p q) s =
    ap₂ (λ xs ys. keep (λ a. not (removed U ys a)) xs) (eval-wider U g p (sub-left (names p) (names q) U s)) (eval-wider U g q (sub-right (names p) (names q) U s))
    ∙ keep-every _ _ (eval-only g p) (λ a oa. ap not (removed-wider U (scope_of p) (scope_of q) a (eval g q) (both-in U p q s) oa))
eval-wider U g (extend v p e) s = ap (map (λ r. extend_by v (term_of e r) r)) (eval-wider U g p (sub-left (names p) (expression_vars e) U (sub-rest v (names p ++ expression_vars e) U s)))
eval-wider U g (values cs rs) s = refl
eval-wider U g (project cs p) s = ap (map (cut cs)) (eval-wider U g p (sub-right cs (names p) U s))
eval-wider U g (distinct p) s = ap (once (same_on U)) (eval-wider U g p s) ∙ once-every (same_on U) (same_on (scope_of p)) (eval-only g p) (λ a b oa ob. same_on-wider U (scope_of p) a b (scope-in U p s) oa ob)
eval-wider U g (path s t o) k = refl
eval-wider U g (graph n p) k = refl
eval-wider U g (orderby p os) k = refl
eval-wider U g (reduced p) k = refl
eval-wider U g (slice s l p) k = refl
eval-wider U g (group ks p rs) k = refl
eval-wider U g (service n s p) k = refl
