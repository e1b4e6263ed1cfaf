-- The line law: other IRIs in a tree's lines, each line by itself, are the lines of the tree with these IRIs; and the IRIs of the lines are those of the tree. Assumes nothing.
use Prim.Native.Nat.{ℕ, suc, ◌-◌}
use mathlib.Core.Path.{◌≡◌, refl, sym, ap, ap₂, ◌∙◌}
use mathlib.Core.Bool.{Bool, true, false, cond, not, ◌&&◌}
use mathlib.Core.List.{List, [], ◌∷◌, map}
use lib.ListN.{length, length-map}
use Rattle.text.specs.Text.{Bytes, Line, same}
use Rattle.text.specs.Word.{bytes}
use Rattle.text.specs.Field.{variable, cell, decimal, is_iri, fits, all_fit}
use Rattle.text.proofs.Basics.{and_left, and_right}
use Rattle.algebra.specs.Tree.{Triple, Pattern, bgp, path, join, union, minus, leftjoin, filter, graph, extend, values, orderby, project, distinct, reduced, slice, group, service, Expression, term, bound, exists, apply, call, Condition, always, provided, Expressions, eend, econs, Orders, oend, ocons, Aggregates, aend, agg, aggall, ecount, ocount, acount}
use Rattle.algebra.specs.Word.{Arity, exactly, counted, arity, spell_o, spell_d}
use Rattle.algebra.specs.Layout.{put_triples, put_rows, put_arity, put_flag, put, put_e, put_c, put_es, put_os, put_as}
use Rattle.algebra.specs.Valid.{AllFit, Triples, Rows, Valid, ValidE, ValidC, ValidEs, ValidOs, ValidAs}
use Rattle.converting.specs.Terms.{in_term, in_triple, with_iris, with_iris_e, with_iris_c, with_iris_es, with_iris_os, with_iris_as}
use Rattle.converting.specs.bridge.Lines.{is_text, is_iri_at, in_fields, in_line}
use Rattle.converting.proofs.Fields.{Told, Other, node-told, plain-field, name-told, cell-told, variable-other, integer-other, limit-other, flag-field, decimal-other}

-- ---- fields

pub data Others : List Bytes → Type 0 where
  no_more : Others []
  and_this : (x : Bytes) {xs : List Bytes} → Other x → Others xs → Others (x ∷ xs)

pub variables-others : (cs : List Bytes) → AllFit variable cs → Others cs
unfolding all_fit
variables-others [] h = no_more
variables-others (c ∷ cs) h = and_this c (variable-other c (and_left (fits variable c) (all_fit variable cs) h)) (variables-others cs (and_right (fits variable c) (all_fit variable cs) h))

pub arity-others : (a : Arity) (k : ℕ) → Others (put_arity a k)
unfolding put_arity
arity-others (exactly n) k = no_more
arity-others (counted n) k = and_this (decimal (k - n)) (decimal-other (k - n)) no_more

pub flag-others : (c : Condition) → Others (put_flag c ∷ [])
flag-others always = and_this (bytes "0") refl no_more
flag-others (provided e) = and_this (bytes "1") refl no_more

pub one-other : (n : ℕ) → Others (decimal n ∷ [])
one-other n = and_this (decimal n) (decimal-other n) no_more

pub two-others : (m n : ℕ) → Others (decimal m ∷ decimal n ∷ [])
two-others m n = and_this (decimal m) (decimal-other m) (one-other n)

pub not_there : (w x : Bytes) (i : ℕ) → Other x → is_iri_at w i x ≡ false
unfolding is_iri_at
not_there w x i h = rw h (go (is_text w i))
  where
    go : (b : Bool) → (not b && false) ≡ false
    go true = refl
    go false = refl

pub there : (w x : Bytes) (i : ℕ) → is_text w i ≡ false → Told x → is_iri_at w i x ≡ is_iri x
unfolding is_iri_at
there w x i h t = rw h t

-- ---- other IRIs

module _ (f : Bytes → Bytes) where
  others-kept : (w : Bytes) (i : ℕ) {fs : List Bytes} → Others fs → in_fields f w i fs ≡ fs
  unfolding in_fields
  others-kept w i no_more = refl
  others-kept w i (and_this x h k) = ap₂ (λ (b : Bool) (ys : List Bytes). cond b (f x) x ∷ ys) (not_there w x i h) (others-kept w (suc i) k)

  term-there : (w x : Bytes) (i : ℕ) → is_text w i ≡ false → Told x → cond (is_iri_at w i x) (f x) x ≡ in_term f x
  unfolding in_term
  term-there w x i h t = ap (λ (b : Bool). cond b (f x) x) (there w x i h t)

  other-there : (w x : Bytes) (i : ℕ) → Other x → cond (is_iri_at w i x) (f x) x ≡ x
  other-there w x i h = ap (λ (b : Bool). cond b (f x) x) (not_there w x i h)

  abbrev line : (w : Bytes) {fs gs : List Bytes} {ls ms : List Line} → fs ≡ gs → ls ≡ ms → ◌≡◌ {A = List Line} ((w ∷ fs) ∷ ls) ((w ∷ gs) ∷ ms)
  line w p q = ap₂ (λ (a : List Bytes) (b : List Line). (w ∷ a) ∷ b) p q

  triple-lines : (ts : List Triple) (t : List Line) → Triples ts → map (in_line f) (put_triples ts t) ≡ put_triples (map (in_triple f) ts) (map (in_line f) t)
  unfolding in_line in_fields put_triples Triples is_text same
  triple-lines [] t v = refl
  triple-lines (x ∷ xs) t v =
      line (bytes "t")
      (λ i. term-there (bytes "t") x.subj 0 refl (node-told x.subj v.0) i
      ∷ term-there (bytes "t") x.pred 1 refl (name-told x.pred v.1) i
      ∷ term-there (bytes "t") x.obj 2 refl (node-told x.obj v.2) i ∷ [])
      (triple-lines xs t v.3)

  cells-line : (i : ℕ) (r : List Bytes) → AllFit cell r → in_fields f (bytes "row") i r ≡ map (in_term f) r
  unfolding in_fields all_fit is_text same
  cells-line i [] v = refl
  cells-line i (x ∷ xs) v = ap₂ (λ (y : Bytes) (ys : List Bytes). y ∷ ys) (term-there (bytes "row") x i refl (cell-told x (and_left (fits cell x) (all_fit cell xs) v))) (cells-line (suc i) xs (and_right (fits cell x) (all_fit cell xs) v))

  row-lines : (m : ℕ) (rs : List (List Bytes)) (t : List Line) → Rows m rs → map (in_line f) (put_rows rs t) ≡ put_rows (map (map (in_term f)) rs) (map (in_line f) t)
  unfolding in_line put_rows Rows
  row-lines m [] t v = refl
  row-lines m (r ∷ rs) t v = line (bytes "row") (cells-line 0 r v.1) (row-lines m rs t v.2)

  pub count_same : (es : Expressions) → ecount (with_iris_es f es) ≡ ecount es
  unfolding with_iris
  count_same eend = refl
  count_same (econs e es) = ap suc (count_same es)

  pub ocount-same : (os : Orders) → ocount (with_iris_os f os) ≡ ocount os
  unfolding with_iris
  ocount-same oend = refl
  ocount-same (ocons d e os) = ap suc (ocount-same os)

  pub acount-same : (rs : Aggregates) → acount (with_iris_as f rs) ≡ acount rs
  unfolding with_iris
  acount-same aend = refl
  acount-same (agg v n d e rs) = ap suc (acount-same rs)
  acount-same (aggall v d rs) = ap suc (acount-same rs)

  flag_same : (c : Condition) → put_flag c ≡ put_flag (with_iris_c f c)
  unfolding with_iris
  flag_same always = refl
  flag_same (provided e) = refl

  mutual
    unfolding put with_iris Valid in_line in_fields is_text same

    -- each line by itself
    pub lines-with-iris : (p : Pattern) (t : List Line) → Valid p → map (in_line f) (put p t) ≡ put (with_iris f p) (map (in_line f) t)
    lines-with-iris (bgp ts) t v = line (bytes "bgp") (others-kept (bytes "bgp") 0 (one-other (length ts)) ∙ ap (λ (n : ℕ). decimal n ∷ []) (sym (length-map ts (in_triple f)))) (triple-lines ts t v.1)
    lines-with-iris (path s x o) t v =
        line (bytes "path")
        (λ i. term-there (bytes "path") s 0 refl (node-told s v.0) i ∷ x ∷ term-there (bytes "path") o 2 refl (node-told o v.2) i ∷ [])
        (refl {a = map (in_line f) t})
    lines-with-iris (join p q) t v = line (bytes "join") refl (lines-with-iris p (put q t) v.0 ∙ ap (put (with_iris f p)) (lines-with-iris q t v.1))
    lines-with-iris (union p q) t v = line (bytes "union") refl (lines-with-iris p (put q t) v.0 ∙ ap (put (with_iris f p)) (lines-with-iris q t v.1))
    lines-with-iris (minus p q) t v = line (bytes "minus") refl (lines-with-iris p (put q t) v.0 ∙ ap (put (with_iris f p)) (lines-with-iris q t v.1))
    lines-with-iris (leftjoin p q c) t v =
        line (bytes "leftjoin") (others-kept (bytes "leftjoin") 0 (flag-others c) ∙ ap (λ (b : Bytes). b ∷ []) (flag_same c))
        (lines-with-iris p (put q (put_c c t)) v.0 ∙ ap (put (with_iris f p)) (lines-with-iris q (put_c c t) v.1 ∙ ap (put (with_iris f q)) (lines-with-iris_c c t v.2)))
    lines-with-iris (filter p e) t v = line (bytes "filter") refl (lines-with-iris p (put_e e t) v.0 ∙ ap (put (with_iris f p)) (lines-with-iris_e e t v.1))
    lines-with-iris (graph n p) t v = line (bytes "graph") (λ i. term-there (bytes "graph") n 0 refl (name-told n v.0) i ∷ []) (lines-with-iris p t v.1)
    lines-with-iris (extend x p e) t v =
        line (bytes "extend") (others-kept (bytes "extend") 0 (and_this x (variable-other x v.0) no_more))
        (lines-with-iris p (put_e e t) v.1 ∙ ap (put (with_iris f p)) (lines-with-iris_e e t v.2))
    lines-with-iris (values cs rs) t v =
        line (bytes "values") (others-kept (bytes "values") 0 (two-others (length cs) (length rs)) ∙ ap (λ (n : ℕ). decimal (length cs) ∷ decimal n ∷ []) (sym (length-map rs (map (in_term f)))))
        (line (bytes "cols") (others-kept (bytes "cols") 0 (variables-others cs v.2)) (row-lines (length cs) rs t v.3))
    lines-with-iris (orderby p os) t v =
        line (bytes "orderby") (others-kept (bytes "orderby") 0 (one-other (ocount os)) ∙ ap (λ (n : ℕ). decimal n ∷ []) (sym (ocount-same os)))
        (lines-with-iris p (put_os os t) v.1 ∙ ap (put (with_iris f p)) (lines-with-iris_os os t v.2))
    lines-with-iris (project cs p) t v = line (bytes "project") (others-kept (bytes "project") 0 (variables-others cs v.0)) (lines-with-iris p t v.1)
    lines-with-iris (distinct p) t v = line (bytes "distinct") refl (lines-with-iris p t v)
    lines-with-iris (reduced p) t v = line (bytes "reduced") refl (lines-with-iris p t v)
    lines-with-iris (slice a n p) t v = line (bytes "slice") (others-kept (bytes "slice") 0 (and_this a (integer-other a v.0) (and_this n (limit-other n v.1) no_more))) (lines-with-iris p t v.2)
    lines-with-iris (group ks p rs) t v =
        line (bytes "group") (others-kept (bytes "group") 0 (two-others (length ks) (acount rs)) ∙ ap (λ (n : ℕ). decimal (length ks) ∷ decimal n ∷ []) (sym (acount-same rs)))
        (line (bytes "cols") (others-kept (bytes "cols") 0 (variables-others ks v.2))
        (lines-with-iris p (put_as rs t) v.3 ∙ ap (put (with_iris f p)) (lines-with-iris_as rs t v.4)))
    lines-with-iris (service n s p) t v =
        line (bytes "service") (λ i. term-there (bytes "service") n 0 refl (name-told n v.0) i ∷ other-there (bytes "service") s 1 (flag-field s v.1) i ∷ []) (lines-with-iris p t v.2)

    lines-with-iris_e : (e : Expression) (t : List Line) → ValidE e → map (in_line f) (put_e e t) ≡ put_e (with_iris_e f e) (map (in_line f) t)
    lines-with-iris_e (term x) t v = line (bytes "term") (λ i. term-there (bytes "term") x 0 refl (plain-field x v) i ∷ []) (refl {a = map (in_line f) t})
    lines-with-iris_e (bound x) t v = line (bytes "bound") (others-kept (bytes "bound") 0 (and_this x (variable-other x v) no_more)) (refl {a = map (in_line f) t})
    lines-with-iris_e (exists p) t v = line (bytes "exists") refl (lines-with-iris p t v)
    lines-with-iris_e (apply o es) t v =
        line (spell_o o) (others-kept (spell_o o) 0 (arity-others (arity o) (ecount es)) ∙ ap (put_arity (arity o)) (sym (count_same es))) (lines-with-iris_es es t v.1)
    lines-with-iris_e (call n es) t v =
        line (bytes "call") (λ i. n ∷ (other-there (bytes "call") (decimal (ecount es)) 1 (decimal-other (ecount es)) ∙ ap decimal (sym (count_same es))) i ∷ []) (lines-with-iris_es es t v.2)

    lines-with-iris_c : (c : Condition) (t : List Line) → ValidC c → map (in_line f) (put_c c t) ≡ put_c (with_iris_c f c) (map (in_line f) t)
    lines-with-iris_c always t v = refl
    lines-with-iris_c (provided e) t v = lines-with-iris_e e t v

    lines-with-iris_es : (es : Expressions) (t : List Line) → ValidEs es → map (in_line f) (put_es es t) ≡ put_es (with_iris_es f es) (map (in_line f) t)
    lines-with-iris_es eend t v = refl
    lines-with-iris_es (econs e es) t v = lines-with-iris_e e (put_es es t) v.0 ∙ ap (put_e (with_iris_e f e)) (lines-with-iris_es es t v.1)

    lines-with-iris_os : (os : Orders) (t : List Line) → ValidOs os → map (in_line f) (put_os os t) ≡ put_os (with_iris_os f os) (map (in_line f) t)
    lines-with-iris_os oend t v = refl
    lines-with-iris_os (ocons d e os) t v = line (spell_d d) refl (lines-with-iris_e e (put_os os t) v.0 ∙ ap (put_e (with_iris_e f e)) (lines-with-iris_os os t v.1))

    lines-with-iris_as : (rs : Aggregates) (t : List Line) → ValidAs rs → map (in_line f) (put_as rs t) ≡ put_as (with_iris_as f rs) (map (in_line f) t)
    lines-with-iris_as aend t v = refl
    lines-with-iris_as (agg x n d e rs) t v =
        line (bytes "agg") (λ i. other-there (bytes "agg") x 0 (variable-other x v.0) i ∷ n ∷ other-there (bytes "agg") d 2 (flag-field d v.2) i ∷ [])
        (lines-with-iris_e e (put_as rs t) v.3 ∙ ap (put_e (with_iris_e f e)) (lines-with-iris_as rs t v.4))
    lines-with-iris_as (aggall x d rs) t v = line (bytes "aggall") (others-kept (bytes "aggall") 0 (and_this x (variable-other x v.0) (and_this d (flag-field d v.1) no_more))) (lines-with-iris_as rs t v.2)
