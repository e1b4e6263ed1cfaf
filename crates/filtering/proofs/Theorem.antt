-- What bindings and filters write is the text of one tree, and where there is nothing to put in it is the tree's own text. Assumes nothing.
use mathlib.Core.Path.{◌≡◌, refl, sym, ap, subst, ◌∙◌}
use mathlib.Core.Bool.{Bool, true, false}
use mathlib.Core.List.{List, [], ◌∷◌}
use mathlib.Core.Option.{Option, none, some}
use Prim.Native.Nat.{ℕ}
use native.Mathlib.Omega.{arith}
use Rattle.text.specs.Text.{Bytes, split, lines_in, lines_of}
use Rattle.algebra.specs.Tree.{Pattern, project, orderby, distinct, reduced, slice, group}
use Rattle.algebra.specs.Query.{BindingSet, Filter}
use Rattle.algebra.specs.Layout.{layout}
use Rattle.algebra.specs.Reader.{reads, several, read_text}
use Rattle.algebra.specs.Given.{read_given_tree}
use Rattle.algebra.specs.Texts.{read_tree, read_sets, read_filters, read_any_tree}
use Rattle.algebra.specs.Valid.{Valid, ValidSets, ValidFilters}
use Rattle.algebra.proofs.Given.{tree-given}
use Rattle.algebra.proofs.Theorem.{tree-exactly, sets-exactly, filters-exactly}
use Rattle.algebra.proofs.Roomy.{read-any-exactly}
use Rattle.answers.specs.Outcome.{Outcome, written, refused_unless}
use Rattle.scoping.specs.Sets.{all}
use Rattle.merging.specs.Request.{Projection}
use Rattle.merging.specs.Negate.{modify_outermost_projection}
use Rattle.merging.proofs.Given.{then-written, test-written}
use Rattle.answers.proofs.Answers.{bytes_of}
use Rattle.negating.specs.Projections.{outermost_projection}
use Rattle.negating.proofs.Found.{Outermost, here, under-distinct, under-reduced, under-slice, under_orderby, under_group, found, not_found}
use Rattle.filtering.specs.IfFound.{if_found}
use Rattle.filtering.specs.Bindings.{joined_with_values, pattern_with_bindings, positions_inside, values_usable, bindings_outcome}
use Rattle.filtering.specs.Filters.{expressions, filtered, pattern_with_filters, references_inside, filters_outcome}
use Rattle.filtering.specs.bridge.AsIs.{bindings_as_is, filters_as_is}
use Rattle.filtering.proofs.FoundValid.{found-valid, modified-well-formed}
use Rattle.filtering.proofs.Valid.{joined-valid, filtered-valid}

-- a text that is read without bounds as this tree, and is its layout
abbrev IsText : Pattern → Bytes → Type 0
IsText q b = (b ≡ layout q) × (read_any_tree b ≡ reads q)

text_of : (q : Pattern) (b : Bytes) → Valid q → written (layout q) ≡ written b → IsText q b
text_of q b v e =
    let h = bytes_of (layout q) b e in
    (sym h, subst (λ (s : Bytes). read_any_tree s ≡ reads q) h ((read-any-exactly (layout q) q).1 (refl, v)))

-- ---- one valid tree's layout

-- what is known where bindings writes
pub record Bound (tree sets b : Bytes) : Type 0 where
  pub pattern : Pattern
  pub list : List BindingSet
  pub tree-read : read_given_tree tree ≡ reads pattern
  pub sets_read : read_sets sets ≡ reads list
  pub inside : if_found (outermost_projection pattern) (λ cs. positions_inside cs list) ≡ true
  pub usable : if_found (outermost_projection pattern) (λ cs. values_usable list) ≡ true
  pub valid : Valid (pattern_with_bindings pattern list)
  pub text : b ≡ layout (pattern_with_bindings pattern list)
  pub read : read_any_tree b ≡ reads (pattern_with_bindings pattern list)

with-bindings-valid : (p : Pattern) (xs : List BindingSet) → if_found (outermost_projection p) (λ cs. positions_inside cs xs) ≡ true → if_found (outermost_projection p) (λ cs. values_usable xs) ≡ true
    → ValidSets xs → Valid p → Valid (pattern_with_bindings p xs)
unfolding pattern_with_bindings
with-bindings-valid p [] i u w v = v
with-bindings-valid p (x ∷ xs) i u w v = go (outermost_projection p) refl i u
  where
    go : (o : Option Projection) → outermost_projection p ≡ o → if_found o (λ cs. positions_inside cs (x ∷ xs)) ≡ true → if_found o (λ cs. values_usable (x ∷ xs)) ≡ true
        → Valid (modify_outermost_projection (λ cs inner. joined_with_values cs inner (x ∷ xs)) p)
    go none e i u = subst Valid (sym (not_found (λ cs inner. joined_with_values cs inner (x ∷ xs)) p e)) v
    go (some y) e i u = found-valid (λ cs inner. joined_with_values cs inner (x ∷ xs)) (found p y e) (λ a q. joined-valid y.columns y.inner (x ∷ xs) a i u w q) v

pub bindings-written : (tree sets b : Bytes) → bindings_outcome tree sets ≡ written b → Bound tree sets b
unfolding bindings_outcome
bindings-written tree sets b e =
    let x = then-written (read_given_tree tree) _ b e in
    let y = then-written (read_sets sets) _ b x.2 in
    let z = test-written 3 (if_found (outermost_projection x.0) (λ cs. positions_inside cs y.0)) _ b y.2 in
    let u = test-written 7 (if_found (outermost_projection x.0) (λ cs. values_usable y.0)) _ b z.1 in
    let v = with-bindings-valid x.0 y.0 z.0 u.0 ((sets-exactly sets y.0).0 y.1).1 (tree-given tree x.0 x.1).valid in
    let t = text_of (pattern_with_bindings x.0 y.0) b v u.1 in
    record { pattern = x.0; list = y.0; tree-read = x.1; sets_read = y.1; inside = z.0; usable = u.0; valid = v; text = t.0; read = t.1 }

-- what is known where filters writes
pub record Filtered (tree filters b : Bytes) : Type 0 where
  pub pattern : Pattern
  pub list : List Filter
  pub tree-read : read_given_tree tree ≡ reads pattern
  pub filters_read : read_filters filters ≡ reads list
  pub inside : if_found (outermost_projection pattern) (λ cs. all (references_inside cs) list) ≡ true
  pub valid : Valid (pattern_with_filters pattern list).pattern
  pub text : b ≡ layout (pattern_with_filters pattern list).pattern
  pub read : read_any_tree b ≡ reads (pattern_with_filters pattern list).pattern

with-filters-valid : (p : Pattern) (fs : List Filter) → if_found (outermost_projection p) (λ cs. all (references_inside cs) fs) ≡ true → ValidFilters fs → Valid p → Valid (pattern_with_filters p fs).pattern
unfolding pattern_with_filters
with-filters-valid p fs i w v = modified-well-formed (λ cs inner. filtered (expressions cs fs) inner) (λ cs. all (references_inside cs) fs) p i (λ cs q t a u. filtered-valid cs a fs q t w u) v

pub filters-written : (tree filters b : Bytes) → filters_outcome tree filters ≡ written b → Filtered tree filters b
unfolding filters_outcome
filters-written tree filters b e =
    let x = then-written (read_given_tree tree) _ b e in
    let y = then-written (read_filters filters) _ b x.2 in
    let z = test-written 3 (if_found (outermost_projection x.0) (λ cs. all (references_inside cs) y.0)) _ b y.2 in
    let v = with-filters-valid x.0 y.0 z.0 ((filters-exactly filters y.0).0 y.1).1 (tree-given tree x.0 x.1).valid in
    let t = text_of (pattern_with_filters x.0 y.0).pattern b v z.1 in
    record { pattern = x.0; list = y.0; tree-read = x.1; filters_read = y.1; inside = z.0; valid = v; text = t.0; read = t.1 }

-- ---- the tree's own text, as it stands

pub found-same : (f : List Bytes → Pattern → Pattern) {p : Pattern} {x : Projection} → Outermost p x → f x.columns x.inner ≡ x.inner → modify_outermost_projection f p ≡ p
unfolding modify_outermost_projection
found-same f (here {cs}) e = ap (project cs) e
found-same f (under-distinct o) e = ap distinct (found-same f o e)
found-same f (under-reduced o) e = ap reduced (found-same f o e)
found-same f (under-slice {s} {l} o) e = ap (slice s l) (found-same f o e)
found-same f (under_orderby {p} {os} o) e = ap (λ (q : Pattern). orderby q os) (found-same f o e)
found-same f (under_group {ks} {p} {rs} o) e = ap (λ (q : Pattern). group ks q rs) (found-same f o e)

tree-back : (tree : Bytes) (p q : Pattern) → read_tree tree ≡ reads p → q ≡ p → written (layout q) ≡ written tree
tree-back tree p q r e = ap written (ap layout e ∙ ((tree-exactly tree p).0 r).0)

test-holds : (n : ℕ) (t : Bool) (o : Outcome) → t ≡ true → refused_unless n t o ≡ o
test-holds n true o e = refl
test-holds n false o e = let z : ◌≡◌ {A = ℕ} 0 1 = cc in absurd (omega arith)

pub read-no-sets : read_sets [] ≡ reads []
unfolding read_sets read_text lines_of lines_in split several
read-no-sets = refl

pub read-no-filters : read_filters [] ≡ reads []
unfolding read_filters read_text lines_of lines_in split several
read-no-filters = refl

-- with no projection found nothing is tested
none_found : (o : Option Projection) (t : List Bytes → Bool) → o ≡ none → if_found o t ≡ true
none_found none t e = refl
none_found (some x) t e = let z : ◌≡◌ {A = ℕ} 0 1 = cc in absurd (omega arith)

all_found : (o : Option Projection) (t : List Bytes → Bool) → ((cs : List Bytes) → t cs ≡ true) → if_found o t ≡ true
all_found none t h = refl
all_found (some x) t h = h x.columns

bound-same : (p : Pattern) (xs : List BindingSet) → outermost_projection p ≡ none → pattern_with_bindings p xs ≡ p
unfolding pattern_with_bindings
bound-same p [] n = refl
bound-same p (x ∷ xs) n = not_found (λ cs inner. joined_with_values cs inner (x ∷ xs)) p n

-- where no filter is placed on the columns found the tree stays
pub none-placed : (p : Pattern) (fs : List Filter) → ((x : Projection) → outermost_projection p ≡ some x → expressions x.columns fs ≡ []) → (pattern_with_filters p fs).pattern ≡ p
unfolding pattern_with_filters filtered
none-placed p fs h = go (outermost_projection p) refl
  where
    go : (o : Option Projection) → outermost_projection p ≡ o → modify_outermost_projection (λ cs inner. filtered (expressions cs fs) inner) p ≡ p
    go none e = not_found (λ cs inner. filtered (expressions cs fs) inner) p e
    go (some x) e = found-same (λ cs inner. filtered (expressions cs fs) inner) (found p x e) (ap (λ es. filtered es x.inner) (h x e))

-- without sets pattern_with_bindings copies
pub bindings-no-sets : (tree : Bytes) (p : Pattern) → read_tree tree ≡ reads p → bindings_as_is tree [] ≡ written tree
unfolding bindings_as_is positions_inside values_usable all pattern_with_bindings
bindings-no-sets tree p e =
    rw (e, read-no-sets, all_found (outermost_projection p) (λ cs. true) (λ cs. refl))
    (tree-back tree p p e refl)

-- no projection found: a copy
pub bindings-not-found : (tree sets : Bytes) (p : Pattern) (xs : List BindingSet) → read_tree tree ≡ reads p → read_sets sets ≡ reads xs → outermost_projection p ≡ none → bindings_as_is tree sets ≡ written tree
unfolding bindings_as_is
bindings-not-found tree sets p xs e f n =
    rw (e, f, n) (tree-back tree p (pattern_with_bindings p xs) e (bound-same p xs n))

pub filters-no-filters : (tree : Bytes) (p : Pattern) → read_tree tree ≡ reads p → filters_as_is tree [] ≡ written tree
unfolding filters_as_is all expressions
filters-no-filters tree p e =
    rw (e, read-no-filters, all_found (outermost_projection p) (λ cs. true) (λ cs. refl))
    (tree-back tree p (pattern_with_filters p []).pattern e (none-placed p [] (λ x h. refl)))

-- every filter is always true or not expressed, or no projection is found: a copy
pub filters-none-placed : (tree filters : Bytes) (p : Pattern) (fs : List Filter) → read_tree tree ≡ reads p → read_filters filters ≡ reads fs
    → if_found (outermost_projection p) (λ cs. all (references_inside cs) fs) ≡ true → ((x : Projection) → outermost_projection p ≡ some x → expressions x.columns fs ≡ []) → filters_as_is tree filters ≡ written tree
unfolding filters_as_is
filters-none-placed tree filters p fs e f i h = rw (e, f, i) (tree-back tree p (pattern_with_filters p fs).pattern e (none-placed p fs h))

pub filters-not-found : (tree filters : Bytes) (p : Pattern) (fs : List Filter) → read_tree tree ≡ reads p → read_filters filters ≡ reads fs → outermost_projection p ≡ none → filters_as_is tree filters ≡ written tree
filters-not-found tree filters p fs e f n =
    filters-none-placed tree filters p fs e f (none_found (outermost_projection p) (λ cs. all (references_inside cs) fs) n) (λ x h. let z : ◌≡◌ {A = ℕ} 0 1 = cc in absurd (omega arith))
