-- One line of a filter: the lines that it becomes, and what stands below it. Assumes nothing.
use Prim.Native.Nat.{ℕ, ◌+◌, ◌≤◌, ◌<◌}
use mathlib.Core.Path.{◌≡◌, refl, sym, ap, ap₂, subst, ◌∙◌}
use mathlib.Core.Bool.{Bool, true, false, not}
use mathlib.Core.List.{List, [], ◌∷◌}
use mathlib.Core.Option.{Option, some}
use native.Mathlib.Omega.{arith}
use lib.ListN.{length, get_or}
use lib.Seq.{get_or-drop}
use lib.Dec.{eqb}
use borrow.Author.Tests.{eq-eqb, ne_eqb, not-true, not-false}
use Rattle.text.specs.Text.{Bytes, same, ended, text_of, split, part, First}
use Rattle.text.specs.Word.{bytes}
use Rattle.text.proofs.Basics.{same-eq}
use Rattle.algebra.specs.bridge.Table.{Row, parts, row_in, row_for}
use Rattle.words.specs.declared.Row.{Row as Code}
use Rattle.words.specs.bridge.Code.{Found, groups_in, row_found}
use Rattle.words.specs.bridge.Key.{key_of, Keyed}
use Rattle.words.proofs.ByKey.{small, tells, same_key, is_word, other_key}
use Rattle.cursor.specs.bridge.Cursor.{left}
use Rattle.emit.specs.declared.Writer.{Writer}
use Rattle.emit.specs.bridge.Writer.{Wrote}
use Rattle.emit.proofs.Writing.{wrote-then, wrote-as, wrote-none}
use Rattle.scoping.specs.bridge.Walk.{number_in}
use Rattle.walking.proofs.Laws.{line-split}
use Rattle.merging.specs.Request.{position}
use Rattle.filtering.specs.bridge.Terms.{form_of, is_expressed, term_of}
use Rattle.filtering.specs.bridge.FilterLines.{is_true_line, parts_below, leaf_lines, unary_lines, binary_lines, expression_lines}
use Rattle.filtering.specs.bridge.Copying.{amounts, below}
use Rattle.placing.specs.declared.field.Field.{Field}
use Rattle.placing.specs.bridge.Fields.{FieldIs}
use Rattle.operators.specs.bridge.Heads.{Heads}
use Rattle.std.specs.Prelude.{Some, None}

-- ---- a value's form

module _ (f : ℕ) where
  pub form-null : f ≡ 3 → false ≡ is_expressed f
  form-null h = rw (eq-eqb f 3 h)

  module _ (a : f ≡ 3 → ⊥) where
    pub form-none : f ≡ 4 → false ≡ is_expressed f
    form-none h = rw (ne_eqb f 3 a, eq-eqb f 4 h)

    pub form-other : (f ≡ 4 → ⊥) → not (eqb f 5) ≡ is_expressed f
    form-other h = rw (ne_eqb f 3 a, ne_eqb f 4 h)

-- ---- a line `term`

term-put : (t : Bytes) (e a b c : Writer) → Wrote e a (bytes "term\t") → Wrote a b t → Wrote b c (10 ∷ []) → Wrote e c (text_of ((bytes "term" ∷ t ∷ []) ∷ []))
unfolding text_of ended
term-put t e a b c p q r = wrote-then (wrote-then p q) r

-- the second and the third field
second-field : (s : Bytes) (from end : ℕ) (d l : Field) → FieldIs s from end d → FieldIs s d.next end l → part d.next l.to s ≡ get_or (left s from end) 1 []
second-field s from end d l i j = j.is ∙ ap (λ (fs : List Bytes). get_or fs 0 []) i.rest ∙ get_or-drop 1 (left s from end) 0 []

third-field : (s : Bytes) (from end : ℕ) (d l x : Field) → FieldIs s from end d → FieldIs s d.next end l → FieldIs s l.next end x → part l.next x.to s ≡ get_or (left s from end) 2 []
third-field s from end d l x i j k = second-field s d.next end l x j k ∙ ap (λ (fs : List Bytes). get_or fs 1 []) i.rest ∙ get_or-drop 1 (left s from end) 1 []

module _ (s : Bytes) (from end : ℕ) (d : Field) (i : FieldIs s from end d) where
  abbrev Value : List Bytes
  Value = left s from end

  module _ (m : ℕ) (p : m ≡ form_of (part from d.to s)) (b : Bool) (q : b ≡ is_expressed m) where
    form : form_of (get_or Value 0 []) ≡ m
    form = ap form_of (sym i.is) ∙ sym p

    pub leaf-none : not b ≡ true → (e : Writer) → Heads (leaf_lines (get_or Value 0 []) (get_or Value 1 []) (get_or Value 2 [])) e e false
    unfolding leaf_lines text_of
    leaf-none h e = rw (form, sym q ∙ not-true b h) (record { is = refl; lines = wrote-none })

    pub leaf-some : not b ≡ false → (l x : Field) → FieldIs s d.next end l → FieldIs s l.next end x → (e a g h : Writer)
        → Wrote e a (bytes "term\t") → Wrote a g (term_of m (part d.next l.to s) (part l.next x.to s)) → Wrote g h (10 ∷ [])
        → Heads (leaf_lines (get_or Value 0 []) (get_or Value 1 []) (get_or Value 2 [])) e h true
    unfolding leaf_lines
    leaf-some t l x j k e a g h u v w =
        rw (form, sym q ∙ not-false b t)
        (record { is = refl; lines = term-put _ e a g h u (wrote-as (ap₂ (term_of m) (second-field s from end d l i j) (third-field s from end d l x i j k)) v) w })

  pub ref-put : (cs : List Bytes) (k : ℕ) → k ≡ position (part from d.to s) → (c : Bytes) → c ≡ get_or cs k [] → (e x y z : Writer) → Wrote e x (bytes "term\t") → Wrote x y c → Wrote y z (10 ∷ [])
      → Heads (some ((bytes "term" ∷ get_or cs (position (get_or Value 0 [])) [] ∷ []) ∷ [])) e z true
  ref-put cs k p c q e x y z u v w = record {
    is = refl;
    lines = term-put _ e x y z u (wrote-as (q ∙ ap (λ (j : ℕ). get_or cs j []) (p ∙ ap position i.is)) v) w;
  }

-- ---- a function's name

module _ (n : Bytes) (e : Writer) where
  module _ (b : Bool) (is : b ≡ same n (bytes "Datatype")) where
    pub unary-datatype : b ≡ true → (x : Writer) → Wrote e x (bytes "call\tDATATYPE\t1\n") → Heads (unary_lines n) e x true
    unfolding unary_lines text_of ended
    unary-datatype t x p = rw (sym is ∙ t) (record { is = refl; lines = p })

    module _ (no : b ≡ false) (c : Bool) (js : c ≡ same n (bytes "LanguageTag")) where
      pub unary-tag : c ≡ true → (x : Writer) → Wrote e x (bytes "call\tLANG\t1\n") → Heads (unary_lines n) e x true
      unfolding unary_lines text_of ended
      unary-tag t x p = rw (sym is ∙ no, sym js ∙ t) (record { is = refl; lines = p })

      pub unary-none : c ≡ false → Heads (unary_lines n) e e false
      unfolding unary_lines text_of
      unary-none t = rw (sym is ∙ no, sym js ∙ t) (record { is = refl; lines = wrote-none })

  module _ (b : Bool) (is : b ≡ same n (bytes "Equals")) where
    pub binary-equals : b ≡ true → (x : Writer) → Wrote e x (bytes "eq\n") → Heads (binary_lines n) e x true
    unfolding binary_lines text_of ended
    binary-equals t x p = rw (sym is ∙ t) (record { is = refl; lines = p })

    module _ (no : b ≡ false) (c : Bool) (js : c ≡ same n (bytes "Unequals")) where
      pub binary-unequals : c ≡ true → (x : Writer) → Wrote e x (bytes "not\neq\n") → Heads (binary_lines n) e x true
      unfolding binary_lines text_of ended
      binary-unequals t x p = rw (sym is ∙ no, sym js ∙ t) (record { is = refl; lines = p })

      pub binary-none : c ≡ false → Heads (binary_lines n) e e false
      unfolding binary_lines text_of
      binary-none t = rw (sym is ∙ no, sym js ∙ t) (record { is = refl; lines = wrote-none })

-- ---- a whole line, by the key of its word

module _ (f : Bytes) (k : ℕ) (keyed : Keyed f k) (s : Bytes) (first end : ℕ) where
  abbrev Fields : List Bytes
  Fields = left s first end

  word : (w : Bytes) → tells w ≡ true → k ≡ key_of 0 w → f ≡ w
  word = is_word f k keyed

  module _ (cs : List Bytes) (e x : Writer) (r : Bool) where
    abbrev Head : Type 0
    Head = Heads (expression_lines cs (f ∷ Fields)) e x r

    pub head-leaf : k ≡ key_of 0 (bytes "leaf") → Heads (leaf_lines (get_or Fields 0 []) (get_or Fields 1 []) (get_or Fields 2 [])) e x r → Head
    unfolding expression_lines same small tells
    head-leaf t g = rw (word (bytes "leaf") refl t) g

    pub head-ref : k ≡ key_of 0 (bytes "ref") → Heads (some ((bytes "term" ∷ get_or cs (position (get_or Fields 0 [])) [] ∷ []) ∷ [])) e x r → Head
    unfolding expression_lines same small tells
    head-ref t g = rw (word (bytes "ref") refl t) g

    module _ (n : Field) (j : FieldIs s first end n) where
      pub head-un : k ≡ key_of 0 (bytes "un") → Heads (unary_lines (part first n.to s)) e x r → Head
      unfolding expression_lines same small tells
      head-un t g = rw (word (bytes "un") refl t, sym j.is) g

      pub head-bin : k ≡ key_of 0 (bytes "bin") → Heads (binary_lines (part first n.to s)) e x r → Head
      unfolding expression_lines same small tells
      head-bin t g = rw (word (bytes "bin") refl t, sym j.is) g

  pub head-none : (cs : List Bytes) (e : Writer) → (k ≡ key_of 0 (bytes "leaf") → ⊥) → (k ≡ key_of 0 (bytes "ref") → ⊥) → (k ≡ key_of 0 (bytes "un") → ⊥) → (k ≡ key_of 0 (bytes "bin") → ⊥) → Heads (expression_lines cs (f ∷ Fields)) e e false
  unfolding expression_lines text_of small tells
  head-none cs e a b c d =
      rw (other_key f k keyed (bytes "leaf") refl a, other_key f k keyed (bytes "ref") refl b, other_key f k keyed (bytes "un") refl c, other_key f k keyed (bytes "bin") refl d)
      (record { is = refl; lines = wrote-none })

-- ---- how many parts, by the row of the word

abbrev Numbers : List Bytes → List ℕ
Numbers fs = number_in (get_or fs 0 []) ∷ number_in (get_or fs 1 []) ∷ []

module _ (f : Bytes) (fs : List Bytes) where
  abbrev Asked : Bytes → Type 0
  Asked w = amounts (below (row_for parts w)) (Numbers fs) ≡ parts_below (w ∷ fs)

  step : (w : Bytes) → Asked w → (same f w ≡ false → Asked f) → Asked f
  step w here on = go (same f w) refl
    where
      go : (b : Bool) → same f w ≡ b → Asked f
      go true e = subst Asked (sym (same-eq f w e)) here
      go false e = on e

  parts-asked : Asked f
  unfolding row_in amounts parts_below same
  parts-asked =
      step (bytes "leaf") refl λ l. step (bytes "ref") refl λ r. step (bytes "un") refl λ u. step (bytes "bin") refl λ b. step (bytes "tern") refl λ t. step (bytes "nary") (omega arith) λ n. rw (l, r, u, b, t, n)

  -- the row that was found, and what it asks for
  module _ (t : Found) (e : row_found t ≡ row_for parts f) where
    pub no-parts : t ≡ None → 0 ≡ parts_below (f ∷ fs)
    unfolding amounts
    no-parts i = ap (λ (o : Option Row). amounts (below o) (Numbers fs)) (sym (ap row_found i) ∙ e) ∙ parts-asked

    pub parts_are : (c : Code) → t ≡ Some c → (r : ℕ) → r ≡ amounts (groups_in 3 c.below) (Numbers fs) → r ≡ parts_below (f ∷ fs)
    parts_are c i r h = h ∙ ap (λ (o : Option Row). amounts (below o) (Numbers fs)) (sym (ap row_found i) ∙ e) ∙ parts-asked

-- ---- always true

module _ (s : Bytes) (from end w : ℕ) (h : from ≤ end) (i : end < length s) (f : First 9 s from end w) (k : ℕ) (keyed : Keyed (part from w s) k) where
  fields : split 9 (part from end s) ≡ part from w s ∷ left s (w + 1) end
  fields = line-split s from end w i h f

  pub true-other : (k ≡ key_of 0 (bytes "leaf") → ⊥) → false ≡ is_true_line (split 9 (part from end s))
  unfolding is_true_line small tells
  true-other n = rw (fields, other_key (part from w s) k keyed (bytes "leaf") refl n)

  module _ (e : k ≡ key_of 0 (bytes "leaf")) (d : Field) (j : FieldIs s (w + 1) end d) (c : Bool) (js : c ≡ same (part (w + 1) d.to s) (bytes "Boolean")) where
    leaf : same (part from w s) (bytes "leaf") ≡ true
    unfolding small tells
    leaf = same_key (part from w s) k keyed (bytes "leaf") refl e

    pub true-domain : not c ≡ true → false ≡ is_true_line (split 9 (part from end s))
    unfolding is_true_line
    true-domain t = rw (fields, leaf, sym j.is, sym js ∙ not-true c t)

    pub true-lexical : not c ≡ false → (l : Field) → FieldIs s d.next end l → (r : Bool) → r ≡ same (part d.next l.to s) (bytes "true") → r ≡ is_true_line (split 9 (part from end s))
    unfolding is_true_line
    true-lexical t l m r p = rw (fields, leaf, sym j.is, sym js ∙ not-false c t) (p ∙ ap (λ (g : Bytes). same g (bytes "true")) (second-field s (w + 1) end d l j m))
