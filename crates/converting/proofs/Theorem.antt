-- The call namespaces: what it writes is the converted tree's text, whose terms are the tree's with new starts; when it refuses by 14 and 15; which texts are tables; that at most one line covers an IRI. Assumes nothing.
use Prim.Native.Nat.{ℕ, ◌≤◌}
use mathlib.Core.Path.{◌≡◌, refl, sym, ap, subst, ◌∙◌}
use mathlib.Core.Logic.{◌↔◌}
use mathlib.Core.Bool.{Bool, true, false, ◌&&◌}
use mathlib.Core.List.{List, [], ◌∷◌, ◌++◌}
use native.Mathlib.Omega.{arith}
use lib.ListN.{length}
use Rattle.text.specs.Text.{Bytes}
use Rattle.text.specs.Field.{given}
use Rattle.algebra.specs.Tree.{Pattern}
use Rattle.algebra.specs.Layout.{layout}
use Rattle.algebra.specs.Reader.{Outcome as Reading, malformed, over_bound, reads, refuses}
use Rattle.algebra.specs.Texts.{read_any_tree}
use Rattle.algebra.specs.Given.{read_given_tree}
use Rattle.algebra.proofs.Given.{tree-given}
use Rattle.algebra.proofs.Roomy.{read-any-exactly}
use Rattle.answers.specs.Outcome.{Outcome, refused, written, then, refused_unless}
use Rattle.answers.proofs.Answers.{bytes_of}
use Rattle.scoping.specs.Sets.{all, keep}
use Rattle.merging.proofs.Given.{then-written, test-written}
use Rattle.converting.specs.Starts.{Start, read_starts, old_starts, in_order}
use Rattle.converting.specs.Tables.{IsTable}
use Rattle.converting.specs.Terms.{iris_of}
use Rattle.converting.specs.Namespaces.{covers, covering_line, converted_iri, is_covered, converted, namespaces_outcome}
use Rattle.converting.specs.Conversion.{Conversion}
use Rattle.converting.proofs.Order as Order
use Rattle.converting.proofs.Reading.{starts-exactly}
use Rattle.converting.proofs.Valid.{terms-with-iris, with-iris-valid}
use Rattle.converting.proofs.Converted.{converted-iri}

-- ---- tables

-- a text is read as a table exactly if it is one: its lines, each of two starts, within the bounds
pub table-exactly : (s : Bytes) (ss : List Start) → (read_starts s ≡ reads ss) ↔ IsTable s ss
table-exactly s ss = starts-exactly s ss

-- in a table that is in order at most one line covers an IRI
pub covered-once : (ss : List Start) (x : Bytes) → in_order (old_starts ss) ≡ true → length (keep (covers x) ss) ≤ 1
covered-once ss x h = Order.covered-once ss x h

-- ---- what is written

-- it is the text of one tree, whose terms are those of the tree, each IRI with its new start
pub namespaces-written : (tree table b : Bytes) → namespaces_outcome tree table ≡ written b → Conversion tree table b
unfolding namespaces_outcome converted
namespaces-written tree table b e =
    let x = then-written (read_given_tree tree) _ b e in
    let y = then-written (read_starts table) _ b x.2 in
    let z = test-written 14 (in_order (old_starts y.0)) _ b y.2 in
    let w = test-written 15 (is_covered y.0 x.0) _ b z.1 in
    let q = converted y.0 x.0 in
    let t = bytes_of (layout q) b w.1 in
    let v = with-iris-valid (converted_iri y.0) (converted-iri y.0 ((starts-exactly table y.0).0 y.1).1) x.0 (tree-given tree x.0 x.1).valid in
    record {
      pattern = x.0;
      starts = y.0;
      tree-read = x.1;
      table_read = y.1;
      in_order = z.0;
      covered = w.0;
      text = sym t;
      read = subst (λ (s : Bytes). read_any_tree s ≡ reads q) t ((read-any-exactly (layout q) q).1 (refl, v));
      terms = terms-with-iris (converted_iri y.0) x.0;
    }

-- ---- 14 and 15

then-refused : {A : Type 0} (o : Reading A) (k : A → Outcome) (n : ℕ) → 3 ≤ n → then o k ≡ refused n → (a : A) × (o ≡ reads a) × (k a ≡ refused n)
then-refused (reads a) k n h e = (a, refl, e)
then-refused (refuses malformed) k n h e = let z : 1 ≡ n = cc in absurd (omega arith)
then-refused (refuses over_bound) k n h e = let z : 2 ≡ n = cc in absurd (omega arith)

first-of-two : (s t : Bool) (b : Bytes) → refused_unless 14 s (refused_unless 15 t (written b)) ≡ refused 14 → s ≡ false
first-of-two true true b e = let z : ◌≡◌ {A = ℕ} 0 1 = cc in absurd (omega arith)
first-of-two true false b e = let z : ◌≡◌ {A = ℕ} 15 14 = cc in absurd (omega arith)
first-of-two false t b e = refl

second-of-two : (s t : Bool) (b : Bytes) → refused_unless 14 s (refused_unless 15 t (written b)) ≡ refused 15 → (s ≡ true) × (t ≡ false)
second-of-two true true b e = let z : ◌≡◌ {A = ℕ} 0 1 = cc in absurd (omega arith)
second-of-two true false b e = (refl, refl)
second-of-two false t b e = let z : ◌≡◌ {A = ℕ} 14 15 = cc in absurd (omega arith)

-- 14: both texts are read, and the table has an unsorted line or an overlap
pub namespaces-fourteen : (tree table : Bytes) → namespaces_outcome tree table ≡ refused 14 → (p : Pattern) × (ss : List Start) × (read_given_tree tree ≡ reads p) × (read_starts table ≡ reads ss) × (in_order (old_starts ss) ≡ false)
unfolding namespaces_outcome
namespaces-fourteen tree table e =
    let x = then-refused (read_given_tree tree) _ 14 (omega arith) e in
    let y = then-refused (read_starts table) _ 14 (omega arith) x.2 in
    (x.0, y.0, x.1, y.1, first-of-two (in_order (old_starts y.0)) (is_covered y.0 x.0) _ y.2)

-- a test that fails fails for an element
some-fails : {A : Type 0} (t : A → Bool) (xs : List A) → all t xs ≡ false → (a : List A) × (x : A) × (b : List A) × (xs ≡ a ++ (x ∷ b)) × (t x ≡ false)
unfolding all
some-fails {A = A} t [] h = let z : ◌≡◌ {A = ℕ} 0 1 = cc in absurd (omega arith)
some-fails {A = A} t (x ∷ xs) h = go (t x) refl h (some-fails t xs)
  where
    go : (b : Bool) → t x ≡ b → (b && all t xs) ≡ false → (all t xs ≡ false → (c : List A) × (y : A) × (d : List A) × (xs ≡ c ++ (y ∷ d)) × (t y ≡ false)) → (c : List A) × (y : A) × (d : List A) × (x ∷ xs ≡ c ++ (y ∷ d)) × (t y ≡ false)
    go true e h k = let r = k h in (x ∷ r.0, r.1, r.2, ap (λ (l : List A). x ∷ l) r.3, r.4)
    go false e h k = ([], x, xs, refl, e)

-- 15: the table is in order, and no line covers some IRI of the tree
pub namespaces-fifteen : (tree table : Bytes) → namespaces_outcome tree table ≡ refused 15
    → (p : Pattern) × (ss : List Start) × (read_given_tree tree ≡ reads p) × (read_starts table ≡ reads ss) × (in_order (old_starts ss) ≡ true) × ((a : List Bytes) × (x : Bytes) × (b : List Bytes) × (iris_of p ≡ a ++ (x ∷ b)) × (given (covering_line ss x) ≡ false))
unfolding namespaces_outcome is_covered
namespaces-fifteen tree table e =
    let x = then-refused (read_given_tree tree) _ 15 (omega arith) e in
    let y = then-refused (read_starts table) _ 15 (omega arith) x.2 in
    let t = second-of-two (in_order (old_starts y.0)) (is_covered y.0 x.0) _ y.2 in
    (x.0, y.0, x.1, y.1, t.0, some-fails (λ x. given (covering_line y.0 x)) (iris_of x.0) t.1)
