-- What is known where bytes are written: every text was read, both roots are project, every position is inside, none stands twice on its side. Assumes nothing.
use mathlib.Core.Path.{◌≡◌, refl, sym, ap, ◌∙◌}
use mathlib.Core.Bool.{Bool, true, false, cond, ◌&&◌}
use mathlib.Core.List.{List}
use mathlib.Core.Option.{Option, none, some}
use Prim.Native.Nat.{ℕ}
use native.Mathlib.Omega.{arith}
use Rattle.text.specs.Text.{Bytes, same}
use Rattle.text.proofs.Basics.{same-eq, and_left, and_right}
use Rattle.algebra.specs.Tree.{Pattern, bgp, path, join, union, minus, leftjoin, filter, graph, extend, values, orderby, project, distinct, reduced, slice, group, service}
use Rattle.algebra.specs.Query.{Query}
use Rattle.algebra.specs.Reader.{Outcome as Reading, reads, refuses}
use Rattle.answers.specs.Outcome.{Outcome, written, then, or_refused, refused_unless}
use Rattle.scoping.specs.Label.{prefix_l, prefix_r}
use Rattle.scoping.specs.Premises.{different_positions, side_name, name_side}
use Rattle.merging.specs.Sides.{Pair, Constant, Side, lefts, rights, merged}
use Rattle.merging.specs.Request.{Projection, tree, as_project, made, read_joins, read_constants, Request, request, left_side, right_side, all_inside}
use Rattle.merging.specs.Merge.{merge_project_patterns, named_sides, merge_sides, lists, merge_trees, is_select_or_ask, mergeable}
use Rattle.merging.specs.Without.{minus_sides, plain_request, is_joined, without_trees}
use Rattle.merging.specs.Asked.{Lists, query_of}
use Rattle.merging.specs.bridge.Twice.{none_twice}

pub then-written : {A : Type 0} (o : Reading A) (k : A → Outcome) (b : Bytes) → then o k ≡ written b → (a : A) × (o ≡ reads a) × (k a ≡ written b)
then-written (reads a) k b e = (a, refl, e)
then-written (refuses n) k b e = let z : ◌≡◌ {A = ℕ} 0 1 = cc in absurd (omega arith)

pub some_written : {A : Type 0} (n : ℕ) (o : Option A) (k : A → Outcome) (b : Bytes) → or_refused n o k ≡ written b → (a : A) × (o ≡ some a) × (k a ≡ written b)
some_written n none k b e = let z : ◌≡◌ {A = ℕ} 0 1 = cc in absurd (omega arith)
some_written n (some a) k b e = (a, refl, e)

pub test-written : (n : ℕ) (t : Bool) (o : Outcome) (b : Bytes) → refused_unless n t o ≡ written b → (t ≡ true) × (o ≡ written b)
test-written n true o b e = (refl, e)
test-written n false o b e = let z : ◌≡◌ {A = ℕ} 0 1 = cc in absurd (omega arith)

pub made_reads : {A B : Type 0} (f : A → B) (o : Reading A) (y : B) → made f o ≡ reads y → (x : A) × (o ≡ reads x) × (y ≡ f x)
made_reads f (reads x) y e = (x, refl, cc)
made_reads f (refuses n) y e = let z : ◌≡◌ {A = ℕ} 0 1 = cc in absurd (omega arith)

nothing : {A : Type 0} (P : A → Type 0) (x : A) → none ≡ some x → P x
nothing P x e = let z : ◌≡◌ {A = ℕ} 0 1 = cc in absurd (omega arith)

pub project-of : (p : Pattern) (x : Projection) → as_project p ≡ some x → p ≡ tree x
unfolding as_project
project-of (project cs p) x e = ap tree (let h : record { columns = cs; inner = p } ≡ x = cc in h)
project-of (bgp ts) x e = nothing (λ x. bgp ts ≡ tree x) x e
project-of (path s t o) x e = nothing (λ x. path s t o ≡ tree x) x e
project-of (join p q) x e = nothing (λ x. join p q ≡ tree x) x e
project-of (leftjoin p q c) x e = nothing (λ x. leftjoin p q c ≡ tree x) x e
project-of (filter p c) x e = nothing (λ x. filter p c ≡ tree x) x e
project-of (union p q) x e = nothing (λ x. union p q ≡ tree x) x e
project-of (graph n p) x e = nothing (λ x. graph n p ≡ tree x) x e
project-of (extend v p c) x e = nothing (λ x. extend v p c ≡ tree x) x e
project-of (minus p q) x e = nothing (λ x. minus p q ≡ tree x) x e
project-of (values cs rs) x e = nothing (λ x. values cs rs ≡ tree x) x e
project-of (orderby p os) x e = nothing (λ x. orderby p os ≡ tree x) x e
project-of (distinct p) x e = nothing (λ x. distinct p ≡ tree x) x e
project-of (reduced p) x e = nothing (λ x. reduced p ≡ tree x) x e
project-of (slice s l p) x e = nothing (λ x. slice s l p ≡ tree x) x e
project-of (group ks p rs) x e = nothing (λ x. group ks p rs ≡ tree x) x e
project-of (service n s p) x e = nothing (λ x. service n s p ≡ tree x) x e

-- so the naming steps of both sides are one test
pub sides-named : (m : Request) (k : Side → Side → Outcome) → named_sides m k ≡ refused_unless 10 (none_twice m.joins) (k (left_side m) (right_side m))
unfolding name_side none_twice
sides-named m k = go (different_positions (lefts m.joins)) (different_positions (rights m.joins)) (side_name prefix_l m.left.columns m.left.inner (lefts m.joins)) (side_name prefix_r m.right.columns m.right.inner (rights m.joins)) _
  where
    go : (a b : Bool) (f g : Bytes → Bytes) (h : (Bytes → Bytes) → (Bytes → Bytes) → Outcome)
        → or_refused 10 (cond a (some f) none) (λ f. or_refused 10 (cond b (some g) none) (h f)) ≡ refused_unless 10 (a && b) (h f g)
    go true true f g h = refl
    go true false f g h = refl
    go false b f g h = refl

pub sides-merged : (m : Request) (k : Pattern → Outcome) → merge_sides m k ≡ refused_unless 10 (none_twice m.joins) (k (merge_project_patterns m))
unfolding merge_sides merge_project_patterns
sides-merged m k = sides-named m (λ l r. k (merged l r m.joins))

-- a merge of two trees that is written
pub record Merged (p q : Pattern) (js : List Pair) (ks ls : List Constant) (k : Pattern → Outcome) (b : Bytes) : Type 0 where
  pub left : Projection
  pub right : Projection
  pub left_is : p ≡ tree left
  pub right_is : q ≡ tree right
  pub all-inside : all_inside (request left right js ks ls) ≡ true
  pub none-twice : none_twice js ≡ true
  pub gives : k (merge_project_patterns (request left right js ks ls)) ≡ written b

pub merge-written : (p q : Pattern) (js : List Pair) (ks ls : List Constant) (k : Pattern → Outcome) (b : Bytes) → merge_trees p q js ks ls k ≡ written b → Merged p q js ks ls k b
unfolding merge_trees
merge-written p q js ks ls k b e =
    let x = some_written 4 (as_project p) _ b e in
    let y = some_written 4 (as_project q) _ b x.2 in
    let z = test-written 3 (all_inside (request x.0 y.0 js ks ls)) _ b y.2 in
    let w = test-written 10 (none_twice js) (k (merge_project_patterns (request x.0 y.0 js ks ls))) b (sym (sides-merged (request x.0 y.0 js ks ls) k) ∙ z.1) in
    record { left = x.0; right = y.0; left_is = project-of p x.0 x.1; right_is = project-of q y.0 y.1; all-inside = z.0; none-twice = w.0; gives = w.1 }

-- a without of two trees that is written
pub record Subtracted (p q : Pattern) (js : List Pair) (k : Pattern → Outcome) (b : Bytes) : Type 0 where
  pub left : Projection
  pub right : Projection
  pub left_is : p ≡ tree left
  pub right_is : q ≡ tree right
  pub joined : is_joined js ≡ true
  pub all-inside : all_inside (plain_request left right js) ≡ true
  pub none-twice : none_twice js ≡ true
  pub gives : k (minus_sides (left_side (plain_request left right js)) (right_side (plain_request left right js))) ≡ written b

pub without-written : (p q : Pattern) (js : List Pair) (k : Pattern → Outcome) (b : Bytes) → without_trees p q js k ≡ written b → Subtracted p q js k b
unfolding without_trees
without-written p q js k b e =
    let x = some_written 4 (as_project p) _ b e in
    let y = some_written 4 (as_project q) _ b x.2 in
    let n = test-written 11 (is_joined js) _ b y.2 in
    let m = plain_request x.0 y.0 js in
    let z = test-written 3 (all_inside m) _ b n.1 in
    let w = test-written 10 (none_twice js) (k (minus_sides (left_side m) (right_side m))) b (sym (sides-named m (λ s t. k (minus_sides s t))) ∙ z.1) in
    record { left = x.0; right = y.0; left_is = project-of p x.0 x.1; right_is = project-of q y.0 y.1; joined = n.0; all-inside = z.0; none-twice = w.0; gives = w.1 }

-- three lists that are read
pub record Read (pairs leftConstants rightConstants : Bytes) (k : List Pair → List Constant → List Constant → Outcome) (b : Bytes) : Type 0 where
  pub joins : List Pair
  pub left_constants : List Constant
  pub right_constants : List Constant
  pub says : (l r : Projection) → Lists pairs leftConstants rightConstants (request l r joins left_constants right_constants)
  pub gives : k joins left_constants right_constants ≡ written b

pub lists-read : (pairs leftConstants rightConstants : Bytes) (k : List Pair → List Constant → List Constant → Outcome) (b : Bytes) → lists pairs leftConstants rightConstants k ≡ written b → Read pairs leftConstants rightConstants k b
lists-read pairs leftConstants rightConstants k b e =
    let x = then-written (read_joins pairs) _ b e in
    let y = then-written (read_constants leftConstants) _ b x.2 in
    let z = then-written (read_constants rightConstants) _ b y.2 in
    record { joins = x.0; left_constants = y.0; right_constants = z.0; says = λ l r. record { joins = x.1; left_constants = y.1; right_constants = z.1 }; gives = z.2 }

-- two queries that may be merged have one head
pub head-is : (a b : Query) → mergeable a b ≡ true → b ≡ query_of a.kind a.dataset a.base b.tree
unfolding mergeable
head-is a b h =
    let t = and_right (is_select_or_ask a.kind) (same a.kind b.kind && (same a.dataset b.dataset && same a.base b.base)) h in
    let u = and_right (same a.kind b.kind) (same a.dataset b.dataset && same a.base b.base) t in
    let k = same-eq a.kind b.kind (and_left (same a.kind b.kind) (same a.dataset b.dataset && same a.base b.base) t) in
    let d = same-eq a.dataset b.dataset (and_left (same a.dataset b.dataset) (same a.base b.base) u) in
    let e = same-eq a.base b.base (and_right (same a.dataset b.dataset) (same a.base b.base) u) in
    λ i. query_of (sym k i) (sym d i) (sym e i) b.tree
