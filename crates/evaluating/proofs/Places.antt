-- A tree that is read and triples that are read have numbers that fit: the first places of their names and terms. Assumes nothing.
use mathlib.Core.Path.{◌≡◌, refl, sym, ◌∙◌, ap, subst}
use mathlib.Core.Bool.{Bool, true, false, not}
use mathlib.Core.List.{List, [], ◌∷◌, ◌++◌}
use Prim.Native.Nat.{ℕ, zero, suc}
use lib.ListN.{get_or}
use Rattle.text.specs.Text.{Bytes, same}
use Rattle.text.specs.Word.{bytes}
use Rattle.text.specs.Field.{Kind, constant, node, name, plain, is_var, is_dash, fits}
use Rattle.text.proofs.Basics.{same-eq, and_left, and_right}
use Rattle.algebra.specs.Tree.{Triple, Pattern, bgp, path, join, union, minus, leftjoin, filter, graph, extend, values, orderby, project, distinct, reduced, slice, group, service}
use Rattle.algebra.specs.Tree.{Expression, term, bound, exists, apply, call, Condition, always, provided, Expressions, eend, econs}
use Rattle.algebra.specs.Reader.{reads}
use Rattle.algebra.specs.Given.{read_given_tree}
use Rattle.algebra.specs.Valid.{mem, Triples, Valid, ValidE, ValidC, ValidEs}
use Rattle.algebra.proofs.Theorem.{tree-exactly}
use Rattle.algebra.proofs.Given.{tree_text, given-as-text}
use Rattle.scoping.specs.Sets.{keep, each}
use Rattle.scoping.proofs.Sets.{mem-keep}
use Rattle.scoping.proofs.Index.{at-index, same_place}
use Rattle.scoping.proofs.Basics.{clash, not-true, either, mem-nil, mem-here, mem-there, mem-cases, mem-left, mem-right, mem-append-cases}
use Rattle.counting.specs.Scope.{names}
use Rattle.counting.specs.Answer.{terms}
use Rattle.counting.proofs.Every.{Every, done, more}
use Rattle.evaluating.specs.Triples.{read_triples}
use Rattle.evaluating.specs.bridge.Numbers.{constant_fields, line_constants, row_constants, expression_constants, expressions_constants, condition_constants, constants, Fit, by_place}
use Rattle.evaluating.proofs.ReadTriples.{Constants, triples-constant}

abbrev dash : Bytes
dash = bytes "-"

-- none of them is `-`
abbrev Dashless : List Bytes → Type 0
Dashless xs = (x : Bytes) → mem x xs ≡ true → same x dash ≡ false

no-dash : (k : Kind) → fits k dash ≡ false → (x : Bytes) → fits k x ≡ true → same x dash ≡ false
no-dash k d x h = not-true (same x dash) (λ e. clash (subst (λ y. fits k y ≡ true) (same-eq x dash e) h) d)

dashless-append : (xs ys : List Bytes) → Dashless xs → Dashless ys → Dashless (xs ++ ys)
dashless-append xs ys h k x m = either (h x) (k x) (mem-append-cases x xs ys m)

dashless-none : Dashless []
dashless-none x m = mem-nil x m

dashless-keep : (f : Bytes → Bool) (xs : List Bytes) → Dashless xs → Dashless (keep f xs)
dashless-keep f xs h x m = h x (and_right (f x) (mem x xs) (sym (mem-keep f x xs) ∙ m))

dashless-cons : (y : Bytes) (xs : List Bytes) → same y dash ≡ false → Dashless xs → Dashless (y ∷ xs)
dashless-cons y xs h k x m = either (λ e. subst (λ z. same z dash ≡ false) (sym e) h) (k x) (mem-cases x y xs m)

-- ---- kinds that don't take it

node-dash : fits node dash ≡ false
unfolding fits
node-dash = refl

name-dash : fits name dash ≡ false
unfolding fits
name-dash = refl

plain-dash : fits plain dash ≡ false
unfolding fits
plain-dash = refl

constant-dash : fits constant dash ≡ false
unfolding fits
constant-dash = refl

-- ---- a tree's terms

lines-dashless : (ts : List Triple) → Triples ts → Dashless (line_constants ts)
unfolding line_constants each constant_fields Triples
lines-dashless [] h = dashless-none
lines-dashless (t ∷ ts) h =
    dashless-append (keep (λ f. not (is_var f)) (t.subj ∷ t.pred ∷ t.obj ∷ [])) (line_constants ts)
    (dashless-keep (λ f. not (is_var f)) (t.subj ∷ t.pred ∷ t.obj ∷ []) (dashless-cons t.subj _ (no-dash node node-dash t.subj h.0) (dashless-cons t.pred _ (no-dash name name-dash t.pred h.1) (dashless-cons t.obj [] (no-dash node node-dash t.obj h.2) dashless-none))))
    (lines-dashless ts h.3)

is-dash : is_dash dash ≡ true
unfolding is_dash
is-dash = refl

cells-dashless : (xs : List Bytes) → Dashless (keep (λ x. not (is_dash x)) xs)
cells-dashless xs x m = not-true (same x dash) (λ e. clash (and_left (not (is_dash x)) (mem x xs) (sym (mem-keep (λ y. not (is_dash y)) x xs) ∙ m)) (ap (λ y. not (is_dash y)) (same-eq x dash e) ∙ ap not is-dash))

rows-dashless : (rs : List (List Bytes)) → Dashless (row_constants rs)
unfolding row_constants each
rows-dashless [] = dashless-none
rows-dashless (xs ∷ rs) = dashless-append (keep (λ x. not (is_dash x)) xs) (each (keep (λ x. not (is_dash x))) rs) (cells-dashless xs) (rows-dashless rs)

mutual
  unfolding expression_constants expressions_constants constant_fields ValidE ValidEs

  expression-dashless : (e : Expression) → ValidE e → Dashless (expression_constants e)
  expression-dashless (term x) h = dashless-keep (λ f. not (is_var f)) (x ∷ []) (dashless-cons x [] (no-dash plain plain-dash x h) dashless-none)
  expression-dashless (bound v) h = dashless-none
  expression-dashless (exists p) h = dashless-none
  expression-dashless (apply o es) h = expressions-dashless es h.1
  expression-dashless (call n es) h = dashless-none

  expressions-dashless : (es : Expressions) → ValidEs es → Dashless (expressions_constants es)
  expressions-dashless eend h = dashless-none
  expressions-dashless (econs e es) h = dashless-append (expression_constants e) (expressions_constants es) (expression-dashless e h.0) (expressions-dashless es h.1)

condition-dashless : (c : Condition) → ValidC c → Dashless (condition_constants c)
unfolding condition_constants ValidC
condition-dashless always h = dashless-none
condition-dashless (provided e) h = expression-dashless e h

tree-dashless : (p : Pattern) → Valid p → Dashless (constants p)
unfolding constants condition_constants Valid
tree-dashless (bgp ts) h = lines-dashless ts h.1
tree-dashless (join p q) h = dashless-append (constants p) (constants q) (tree-dashless p h.0) (tree-dashless q h.1)
tree-dashless (leftjoin p q c) h = dashless-append (constants p ++ constants q) (condition_constants c) (dashless-append (constants p) (constants q) (tree-dashless p h.0) (tree-dashless q h.1)) (condition-dashless c h.2)
tree-dashless (filter p e) h = dashless-append (constants p) (expression_constants e) (tree-dashless p h.0) (expression-dashless e h.1)
tree-dashless (union p q) h = dashless-append (constants p) (constants q) (tree-dashless p h.0) (tree-dashless q h.1)
tree-dashless (minus p q) h = dashless-append (constants p) (constants q) (tree-dashless p h.0) (tree-dashless q h.1)
tree-dashless (extend v p e) h = dashless-append (constants p) (expression_constants e) (tree-dashless p h.1) (expression-dashless e h.2)
tree-dashless (values cs rs) h = rows-dashless rs
tree-dashless (project cs p) h = tree-dashless p h.1
tree-dashless (distinct p) h = tree-dashless p h
tree-dashless (path s t o) h = dashless-none
tree-dashless (graph n p) h = dashless-none
tree-dashless (orderby p os) h = dashless-none
tree-dashless (reduced p) h = dashless-none
tree-dashless (slice s l p) h = dashless-none
tree-dashless (group ks p rs) h = dashless-none
tree-dashless (service n s p) h = dashless-none

-- ---- the triples' terms

triples-dashless : {g : List Triple} → Every Constants g → Dashless (terms g)
unfolding terms each
triples-dashless done = dashless-none
triples-dashless (more {x = d} {xs = g} c r) =
    dashless-append (d.subj ∷ d.pred ∷ d.obj ∷ []) (terms g)
    (dashless-cons d.subj _ (no-dash constant constant-dash d.subj c.subj_fits) (dashless-cons d.pred _ (no-dash constant constant-dash d.pred c.pred_fits) (dashless-cons d.obj [] (no-dash constant constant-dash d.obj c.obj_fits) dashless-none)))
    (triples-dashless r)

-- ---- numbers by place

place-dash : (ts : List Bytes) → Dashless ts → (k : ℕ) → same (get_or ts k []) dash ≡ false
unfolding same
place-dash [] h k = refl
place-dash (t ∷ ts) h zero = h t (mem-here t ts)
place-dash (t ∷ ts) h (suc k) = place-dash ts (λ x m. h x (mem-there x t ts m)) k

-- a tree and triples that are read have numbers that fit
pub by_place_lem : (text triples : Bytes) (p : Pattern) (g : List Triple) → read_given_tree text ≡ reads p → read_triples triples ≡ reads g → Fit (by_place (names p) (constants p ++ terms g)) p g
unfolding by_place
by_place_lem text triples p g e f = record {
  names_apart = λ v w m n i. same_place v w (names p) m n i;
  tree_spelled = λ x m. at-index x (constants p ++ terms g) (mem-left x (constants p) (terms g) m);
  triples_spelled = λ x m. at-index x (constants p ++ terms g) (mem-right x (constants p) (terms g) m);
  no-dash = place-dash (constants p ++ terms g) (dashless-append (constants p) (terms g) (tree-dashless p ((tree-exactly (tree_text text) p).0 (sym (given-as-text text) ∙ e)).1) (triples-dashless (triples-constant triples g f)));
}
