-- What the laws of reading need beside the readers: triples, rows, scopes, arities. Assumes nothing.
use mathlib.Core.Path.{◌≡◌, refl, sym, ◌∙◌, ap, ap₂}
use mathlib.Core.Bool.{true, false}
use mathlib.Core.List.{List, [], ◌∷◌, ◌++◌, append_assoc, append-nil}
use mathlib.Core.Option.{some}
use Prim.Native.Nat.{ℕ, suc, ◌≤◌}
use native.Mathlib.Omega.{arith}
use lib.ListN.{length}
use lib.Dec.{eqb, eqb_refl}
use Rattle.text.specs.Text.{Bytes}
use Rattle.text.proofs.Basics.{T→so, and_both, deeper}
use Rattle.algebra.specs.Tree.{Triple, Pattern, bgp, path, join, union, minus, leftjoin, filter, graph, extend, values, orderby, project, distinct, reduced, slice, group, service, Expression, Expressions, eend, econs, ecount}
use Rattle.algebra.specs.Valid.{Triples, Rows, mem}
use Rattle.scoping.specs.InScope.{in_scope}
use Rattle.scoping.specs.Sets.{triple_variables, variables_of}
use Rattle.editions.specs.Token.{Edition, CLOSE, Token, key}
use Rattle.editions.specs.Translation.{Element, triple, other, bind, Z, block, elements, filters_of, translated}
use Rattle.editions.specs.Readers.{got, wide}
use Rattle.editions.specs.Grammar.{inside}
use Rattle.editions.specs.Spelling.{spell_triples, spell_rows}
use Rattle.editions.proofs.Raw.{raw}
use Rattle.editions.proofs.Steps.{elements-end, read-triple, rows_end, rows-one}

-- ---- triples

abbrev pub tripled : List Triple → List Element
tripled [] = []
tripled (t ∷ ts) = triple t ∷ tripled ts

pub triples-back : (ed : Edition) (ts : List Triple) (d : ℕ) (t : List Token) → Triples ts → suc (length ts) ≤ d → (inside ed d).elements (spell_triples ts (key CLOSE ∷ t)) ≡ got (tripled ts) (key CLOSE ∷ t)
unfolding inside spell_triples Triples
triples-back ed [] d t v h = deeper 0 d h (λ d. (inside ed d).elements (key CLOSE ∷ t) ≡ got [] (key CLOSE ∷ t)) λ k i. elements-end ed (inside ed k) t
triples-back ed (x ∷ xs) d t v h = deeper _ d h (λ d. (inside ed d).elements (spell_triples (x ∷ xs) (key CLOSE ∷ t)) ≡ got (tripled (x ∷ xs)) (key CLOSE ∷ t)) λ k i. read-triple ed (inside ed k) x v.1 (triples-back ed xs k t v.3 i)

no-filters : (ts : List Triple) → filters_of (tripled ts) ≡ []
unfolding filters_of
no-filters [] = refl
no-filters (t ∷ ts) = no-filters ts

gathered : (ts us : List Triple) → elements (tripled ts) us Z ≡ some (block (us ++ ts) Z)
unfolding elements
gathered [] us = ap (λ l. some (block l Z)) (sym (append-nil us))
gathered (t ∷ ts) us = gathered ts (us ++ (t ∷ [])) ∙ ap (λ l. some (block l Z)) (append_assoc us (t ∷ []) ts)

pub triples-translated : (ts : List Triple) → translated (tripled ts) ≡ some (block ts Z)
unfolding translated
triples-translated ts = rw (gathered ts [], no-filters ts)

-- ---- rows

pub rows_back : (ed : Edition) (rs : List (List Bytes)) (d : ℕ) (t : List Token) → suc (length rs) ≤ d → (inside ed d).rows (spell_rows rs (key CLOSE ∷ t)) ≡ got rs (key CLOSE ∷ t)
unfolding inside spell_rows
rows_back ed [] d t h = deeper 0 d h (λ d. (inside ed d).rows (key CLOSE ∷ t) ≡ got [] (key CLOSE ∷ t)) λ k i. rows_end ed (inside ed k) t
rows_back ed (r ∷ rs) d t h = deeper _ d h (λ d. (inside ed d).rows (spell_rows (r ∷ rs) (key CLOSE ∷ t)) ≡ got (r ∷ rs) (key CLOSE ∷ t)) λ k i. rows-one ed (inside ed k) r (rows_back ed rs k t i)

pub rows-wide : (n : ℕ) (rs : List (List Bytes)) → Rows n rs → wide n rs ≡ true
unfolding wide Rows
rows-wide n [] v = refl
rows-wide n (r ∷ rs) v = and_both (eqb (length r) n) (wide n rs) (rw v.0 (T→so (eqb n n) (eqb_refl n))) (rows-wide n rs v.2)

-- ---- scopes

pub scope-raw : (p : Pattern) → in_scope (raw p) ≡ in_scope p
unfolding in_scope raw triple_variables
scope-raw (bgp []) = refl
scope-raw (bgp (t ∷ ts)) = refl
scope-raw (join p q) = ap₂ ◌++◌ (scope-raw p) (scope-raw q)
scope-raw (leftjoin p q c) = ap₂ ◌++◌ (scope-raw p) (scope-raw q)
scope-raw (filter p e) = scope-raw p
scope-raw (union p q) = ap₂ ◌++◌ (scope-raw p) (scope-raw q)
scope-raw (graph n p) = ap (λ l. variables_of (n ∷ []) ++ l) (scope-raw p)
scope-raw (minus p q) = scope-raw p
scope-raw (extend v p e) = ap (◌∷◌ v) (scope-raw p)
scope-raw (values cs rs) = refl
scope-raw (orderby p os) = scope-raw p
scope-raw (project cs p) = refl
scope-raw (distinct p) = scope-raw p
scope-raw (reduced p) = scope-raw p
scope-raw (slice a n p) = scope-raw p
scope-raw (path s x o) = refl
scope-raw (group ks p rs) = refl
scope-raw (service n f p) = refl

pub bind-translated : (v : Bytes) (p : Pattern) (x : Expression) → mem v (in_scope p) ≡ false → translated (other (raw p) ∷ bind v x ∷ []) ≡ some (extend v (join Z (raw p)) x)
unfolding translated elements filters_of in_scope triple_variables
bind-translated v p x h = rw (scope-raw p, h)

-- ---- arities

pub one_of : (es : Expressions) → ecount es ≡ 1 → (C : Expressions → Type 0) → ((a : Expression) → C (econs a eend)) → C es
one_of eend h C f = absurd (omega arith)
one_of (econs a eend) h C f = f a
one_of (econs a (econs b es)) h C f = absurd (omega arith)

pub two-of : (es : Expressions) → ecount es ≡ 2 → (C : Expressions → Type 0) → ((a b : Expression) → C (econs a (econs b eend))) → C es
two-of eend h C f = absurd (omega arith)
two-of (econs a eend) h C f = absurd (omega arith)
two-of (econs a (econs b eend)) h C f = f a b
two-of (econs a (econs b (econs c es))) h C f = absurd (omega arith)
