-- The expression that a filter becomes takes at most 24 times the filter's bytes, and nine less. Assumes nothing.
use Prim.Native.Nat.{ℕ, suc, ◌+◌, ◌*◌, ◌≤◌}
use mathlib.Core.Path.{◌≡◌, refl, ap, ◌∙◌}
use mathlib.Core.Bool.{Bool, true, false, cond}
use mathlib.Core.List.{List, [], ◌∷◌}
use mathlib.Core.Option.{Option, none, some}
use native.Mathlib.Omega.{arith}
use lib.ListN.{length}
use Rattle.text.specs.Text.{Bytes, Line, same}
use Rattle.text.specs.Word.{bytes}
use Rattle.text.specs.Field.{decimal, digits, variable}
use Rattle.algebra.specs.Tree.{EQ, NOT, Expression, apply, call, Expressions, eend, econs, ecount}
use Rattle.algebra.specs.Query.{Value, FilterWord, UN, BIN, TERN, NARY, Filter, leaf, ref, function, Filters, fend, fcons, fcount}
use Rattle.algebra.specs.Word.{spell_v, filter_arity}
use Rattle.algebra.specs.Layout.{put_e, put_es, put_arity, put_values, put_filter, put_parts}
use Rattle.algebra.specs.Valid.{AllFit, Takes, ValidFilter, ValidParts}
use Rattle.merging.specs.Request.{position}
use Rattle.filtering.specs.Values.{expression_term}
use Rattle.filtering.specs.Bindings.{or_none}
use Rattle.filtering.specs.Functions.{as_term, referenced, if_some, try_expression_from_unary, try_expression_from_binary, try_expression_from_function, try_expression_from_tree, try_expressions_from_parts}
use Rattle.walking.proofs.Sizes.{width, size}
use Rattle.walking.proofs.Fields.{column-short, integer-some}
use Rattle.room.proofs.Values.{term-short}

-- what is so of what there is
abbrev pub Given : {A : Type 0} → Option A → (A → Type 0) → Type 0
Given none P = Unit {0}
Given (some a) P = P a

given-then : {A B : Type 0} (o : Option A) (k : A → Option B) (P : A → Type 0) (Q : B → Type 0) → Given o P → ((a : A) → P a → Given (k a) Q) → Given (if_some o k) Q
given-then none k P Q h f = tt
given-then (some a) k P Q h f = f a h

given-more : {A : Type 0} (o : Option A) (P Q : A → Type 0) → Given o P → ((a : A) → P a → Q a) → Given o Q
given-more none P Q h f = tt
given-more (some a) P Q h f = f a h

-- ---- a filter stands in its text in front of others

mutual
  unfolding put_filter size width

  pub filter-some : (f : Filter) (u : List Line) → size u ≤ size (put_filter f u)
  filter-some (leaf v) u = omega arith
  filter-some (ref k) u = omega arith
  filter-some (function w n fs) u = omega (arith, parts-some fs u)

  parts-some : (fs : Filters) (u : List Line) → size u ≤ size (put_parts fs u)
  parts-some fend u = omega arith
  parts-some (fcons f fs) u = omega (arith, filter-some f (put_parts fs u), parts-some fs u)

-- ---- the expression in front of lines t, with n bytes to spare

leaf-size : (v : Value) (t : List Line) (n : ℕ) (u : List Line) → size t + n ≤ 24 * size u
    → Given (as_term (expression_term v.domain v.lexical v.extra)) λ e. size (put_e e t) + n + 9 ≤ 24 * size (put_filter (leaf v) u)
unfolding put_e put_filter put_values size width
leaf-size v t n u h = go (expression_term v.domain v.lexical v.extra) (term-short v.domain v.lexical v.extra)
  where
    go : (o : Option Bytes) → suc (length (or_none o)) ≤ width (spell_v v.domain ∷ v.lexical ∷ v.extra ∷ []) → Given (as_term o) λ e. size (put_e e t) + n + 9 ≤ 24 * size (put_filter (leaf v) u)
    go none r = tt
    go (some y) r = omega arith

-- the parts of a function, and how many they are
abbrev Parts : ℕ → List Line → ℕ → ℕ → Expressions → Type 0
Parts k t n m es = (ecount es ≡ k) × (size (put_es es t) + n ≤ m)

unary-size : (x : Bytes) (t : List Line) (n m : ℕ) (es : Expressions) → Parts 1 t n m es → Given (try_expression_from_unary x es) λ e. size (put_e e t) + n ≤ m + 16
unfolding try_expression_from_unary put_e decimal digits size width
unary-size x t n m es h = go (same x (bytes "Datatype")) (same x (bytes "LanguageTag")) (ap (λ (j : ℕ). length (decimal j)) h.0) h.1
  where
    go : (a b : Bool) → length (decimal (ecount es)) ≡ length (decimal 1) → size (put_es es t) + n ≤ m
        → Given (cond a (some (call (bytes "DATATYPE") es)) (cond b (some (call (bytes "LANG") es)) none)) λ e. size (put_e e t) + n ≤ m + 16
    go true b d r = omega arith
    go false true d r = omega arith
    go false false d r = tt

binary-size : (x : Bytes) (t : List Line) (n m : ℕ) (es : Expressions) → size (put_es es t) + n ≤ m → Given (try_expression_from_binary x es) λ e. size (put_e e t) + n ≤ m + 7
unfolding try_expression_from_binary put_e put_arity size width
binary-size x t n m es h = go (same x (bytes "Equals")) (same x (bytes "Unequals"))
  where
    go : (a b : Bool) → Given (cond a (some (apply EQ es)) (cond b (some (apply NOT (econs (apply EQ es) eend))) none)) λ e. size (put_e e t) + n ≤ m + 7
    go true b = omega arith
    go false true = omega arith
    go false false = tt

function-size : (w : FilterWord) (x : Bytes) (k : ℕ) (fs : Filters) (t u : List Line) (n : ℕ) (es : Expressions) → Takes (filter_arity w) k → Parts k t n (24 * size (put_parts fs u)) es
    → Given (try_expression_from_function w x es) λ e. size (put_e e t) + n + 9 ≤ 24 * size (put_filter (function w x fs) u)
unfolding try_expression_from_function Takes put_filter put_arity size width
function-size UN x k fs t u n es a h = given-more (try_expression_from_unary x es) _ _ (unary-size x t n (24 * size (put_parts fs u)) es (h.0 ∙ a, h.1)) (λ e i. omega arith)
function-size BIN x k fs t u n es a h = given-more (try_expression_from_binary x es) _ _ (binary-size x t n (24 * size (put_parts fs u)) es h.1) (λ e i. omega arith)
function-size TERN x k fs t u n es a h = tt
function-size NARY x k fs t u n es a h = tt

-- a part in front of the others
part_then : (o : Option Expression) (q : Option Expressions) (f : Filter) (fs : Filters) (t : List Line) (n : ℕ) (u : List Line)
    → ((es : Expressions) → size (put_es es t) + n ≤ 24 * size (put_parts fs u) → Given o λ e. size (put_e e (put_es es t)) + n + 9 ≤ 24 * size (put_filter f (put_parts fs u)))
    → Given q (Parts (fcount fs) t n (24 * size (put_parts fs u)))
    → Given (if_some o λ e. if_some q λ es. some (econs e es)) (Parts (fcount (fcons f fs)) t n (24 * size (put_parts (fcons f fs) u)))
unfolding put_es put_parts
part_then none q f fs t n u h r = tt
part_then (some e) none f fs t n u h r = tt
part_then (some e) (some es) f fs t n u h r = (ap suc r.0, omega (arith, h es r.1))

module _ (cs : List Bytes) (columns : AllFit variable cs) where
  mutual
    unfolding try_expression_from_tree referenced put_filter put_e ValidFilter size width

    pub expressed-size : (f : Filter) (t : List Line) (n : ℕ) (u : List Line) → ValidFilter f → size t + n ≤ 24 * size u → Given (try_expression_from_tree cs f) λ e. size (put_e e t) + n + 9 ≤ 24 * size (put_filter f u)
    expressed-size (leaf v) t n u w h = leaf-size v t n u h
    expressed-size (ref k) t n u w h = omega (arith, column-short cs (position k) columns, integer-some k w)
    expressed-size (function w x fs) t n u v h =
        given-then (try_expressions_from_parts cs fs) (try_expression_from_function w x) (Parts (fcount fs) t n (24 * size (put_parts fs u))) _ (parts-size fs t n u v.2 h)
        λ es i. function-size w x (fcount fs) fs t u n es v.1 i

    parts-size : (fs : Filters) (t : List Line) (n : ℕ) (u : List Line) → ValidParts fs → size t + n ≤ 24 * size u → Given (try_expressions_from_parts cs fs) (Parts (fcount fs) t n (24 * size (put_parts fs u)))
    parts-size fend t n u v h = (refl, h)
    parts-size (fcons f fs) t n u v h =
        part_then (try_expression_from_tree cs f) (try_expressions_from_parts cs fs) f fs t n u (λ es i. expressed-size f (put_es es t) n (put_parts fs u) v.0 i) (parts-size fs t n u v.1 h)
