-- When bindings and filters refuse by 3 and 7. Assumes nothing.
use mathlib.Core.Path.{◌≡◌, refl, sym, ap, ◌∙◌}
use mathlib.Core.Bool.{Bool, true, false, true≢false}
use mathlib.Core.List.{List, [], ◌∷◌}
use mathlib.Core.Option.{Option, none, some}
use Prim.Native.Nat.{ℕ, ◌+◌, ◌≤◌, ◌<◌}
use native.Mathlib.Omega.{arith}
use Rattle.text.specs.Text.{Bytes}
use Rattle.algebra.specs.Tree.{Pattern}
use Rattle.algebra.specs.Query.{BindingSet, Filter}
use Rattle.algebra.specs.Reader.{Outcome as Reading, malformed, over_bound, reads, refuses}
use Rattle.algebra.specs.Given.{read_given_tree}
use Rattle.algebra.specs.Texts.{read_sets, read_filters}
use Rattle.answers.specs.Outcome.{Outcome, refused, written, then, refused_unless}
use Rattle.scoping.specs.Sets.{all}
use Rattle.merging.specs.Request.{Projection}
use Rattle.negating.specs.Projections.{outermost_projection}
use Rattle.filtering.specs.IfFound.{if_found}
use Rattle.filtering.specs.Bindings.{positions_inside, values_usable, bindings_outcome}
use Rattle.filtering.specs.Filters.{references_inside, filters_outcome}

-- ---- a number of 3 or more comes from no text

then-refused : {A : Type 0} (o : Reading A) (k : A → Outcome) (n : ℕ) → 3 ≤ n → then o k ≡ refused n → (a : A) × (o ≡ reads a) × (k a ≡ refused n)
then-refused (reads a) k n h e = (a, refl, e)
then-refused (refuses malformed) k n h e = let z : 1 ≡ n = cc in absurd (omega arith)
then-refused (refuses over_bound) k n h e = let z : 2 ≡ n = cc in absurd (omega arith)

-- refused by this number: the test fails; by another: it holds
test-refused : (n : ℕ) (t : Bool) (b : Bytes) → refused_unless n t (written b) ≡ refused n → t ≡ false
test-refused n true b e = let z : ◌≡◌ {A = ℕ} 0 1 = cc in absurd (omega arith)
test-refused n false b e = refl

first-refused : (n m : ℕ) (t : Bool) (o : Outcome) → n < m → refused_unless n t o ≡ refused m → (t ≡ true) × (o ≡ refused m)
first-refused n m true o h e = (refl, e)
first-refused n m false o h e = let z : n ≡ m = cc in absurd (omega arith)

-- the first of two tests
first-fails : (n m : ℕ) (s t : Bool) (b : Bytes) → n < m → refused_unless n s (refused_unless m t (written b)) ≡ refused n → s ≡ false
first-fails n m true true b h e = let z : ◌≡◌ {A = ℕ} 0 1 = cc in absurd (omega arith)
first-fails n m true false b h e = let z : m ≡ n = cc in absurd (omega arith)
first-fails n m false t b h e = refl

-- a test of columns fails only where a projection is found
found-fails : (o : Option Projection) (t : List Bytes → Bool) → if_found o t ≡ false → (x : Projection) × (o ≡ some x) × (t x.columns ≡ false)
found-fails none t e = absurd (true≢false e)
found-fails (some x) t e = (x, refl, e)

-- ---- bindings

-- 3: there is a projection, and some position is outside
pub record Outside (tree sets : Bytes) : Type 0 where
  pub pattern : Pattern
  pub list : List BindingSet
  pub projection : Projection
  pub tree-read : read_given_tree tree ≡ reads pattern
  pub sets_read : read_sets sets ≡ reads list
  pub found : outermost_projection pattern ≡ some projection
  pub set_given : list ≡ [] → ⊥
  pub outside : positions_inside projection.columns list ≡ false

set-inside : (cs : List Bytes) (xs : List BindingSet) → positions_inside cs xs ≡ false → xs ≡ [] → ⊥
unfolding positions_inside all
set-inside cs [] h e = true≢false h
set-inside cs (x ∷ xs) h e = let z : ◌≡◌ {A = ℕ} 0 1 = cc in absurd (omega arith)

pub bindings-three : (tree sets : Bytes) → bindings_outcome tree sets ≡ refused 3 → Outside tree sets
unfolding bindings_outcome
bindings-three tree sets e =
    let x = then-refused (read_given_tree tree) _ 3 (omega arith) e in
    let y = then-refused (read_sets sets) _ 3 (omega arith) x.2 in
    let t = first-fails 3 7 (if_found (outermost_projection x.0) (λ cs. positions_inside cs y.0)) (if_found (outermost_projection x.0) (λ cs. values_usable y.0)) _ (omega arith) y.2 in
    let f = found-fails (outermost_projection x.0) (λ cs. positions_inside cs y.0) t in
    record { pattern = x.0; list = y.0; projection = f.0; tree-read = x.1; sets_read = y.1; found = f.1; set_given = set-inside f.0.columns y.0 f.2; outside = f.2 }

-- 7: there is a projection, every position is inside, and some value is not usable
pub record Unusable (tree sets : Bytes) : Type 0 where
  pub pattern : Pattern
  pub list : List BindingSet
  pub projection : Projection
  pub tree-read : read_given_tree tree ≡ reads pattern
  pub sets_read : read_sets sets ≡ reads list
  pub found : outermost_projection pattern ≡ some projection
  pub set_given : list ≡ [] → ⊥
  pub inside : if_found (some projection) (λ cs. positions_inside cs list) ≡ true
  pub unusable : values_usable list ≡ false

set-usable : (xs : List BindingSet) → values_usable xs ≡ false → xs ≡ [] → ⊥
unfolding values_usable all
set-usable [] h e = true≢false h
set-usable (x ∷ xs) h e = let z : ◌≡◌ {A = ℕ} 0 1 = cc in absurd (omega arith)

pub bindings-seven : (tree sets : Bytes) → bindings_outcome tree sets ≡ refused 7 → Unusable tree sets
unfolding bindings_outcome
bindings-seven tree sets e =
    let x = then-refused (read_given_tree tree) _ 7 (omega arith) e in
    let y = then-refused (read_sets sets) _ 7 (omega arith) x.2 in
    let s = first-refused 3 7 (if_found (outermost_projection x.0) (λ cs. positions_inside cs y.0)) _ (omega arith) y.2 in
    let t = test-refused 7 (if_found (outermost_projection x.0) (λ cs. values_usable y.0)) _ s.1 in
    let f = found-fails (outermost_projection x.0) (λ cs. values_usable y.0) t in
    record {
      pattern = x.0;
      list = y.0;
      projection = f.0;
      tree-read = x.1;
      sets_read = y.1;
      found = f.1;
      set_given = set-usable y.0 f.2;
      inside = ap (λ (o : Option Projection). if_found o (λ cs. positions_inside cs y.0)) (sym f.1) ∙ s.0;
      unusable = f.2;
    }

-- ---- filters

-- 3: there is a projection, and some reference is outside
pub record OutsideFilters (tree filters : Bytes) : Type 0 where
  pub pattern : Pattern
  pub list : List Filter
  pub projection : Projection
  pub tree-read : read_given_tree tree ≡ reads pattern
  pub filters_read : read_filters filters ≡ reads list
  pub found : outermost_projection pattern ≡ some projection
  pub outside : all (references_inside projection.columns) list ≡ false

pub filters-three : (tree filters : Bytes) → filters_outcome tree filters ≡ refused 3 → OutsideFilters tree filters
unfolding filters_outcome
filters-three tree filters e =
    let x = then-refused (read_given_tree tree) _ 3 (omega arith) e in
    let y = then-refused (read_filters filters) _ 3 (omega arith) x.2 in
    let t = test-refused 3 (if_found (outermost_projection x.0) (λ cs. all (references_inside cs) y.0)) _ y.2 in
    let f = found-fails (outermost_projection x.0) (λ cs. all (references_inside cs) y.0) t in
    record { pattern = x.0; list = y.0; projection = f.0; tree-read = x.1; filters_read = y.1; found = f.1; outside = f.2 }
