-- The IRIs of a tree's lines, each line by itself, are those of the tree, in the same order. Assumes nothing.
use Prim.Native.Nat.{ℕ, suc}
use mathlib.Core.Path.{◌≡◌, refl, sym, ap, ◌∙◌}
use mathlib.Core.Bool.{Bool, true, false, cond}
use mathlib.Core.List.{List, [], ◌∷◌, ◌++◌, append_assoc}
use lib.ListN.{length}
use Rattle.text.specs.Text.{Bytes, Line, same}
use Rattle.text.specs.Word.{bytes}
use Rattle.text.specs.Field.{cell, decimal, is_iri, fits, all_fit}
use Rattle.text.proofs.Basics.{and_left, and_right}
use Rattle.algebra.specs.Tree.{Triple, Pattern, bgp, path, join, union, minus, leftjoin, filter, graph, extend, values, orderby, project, distinct, reduced, slice, group, service, Expression, term, bound, exists, apply, call, Condition, always, provided, Expressions, eend, econs, Orders, oend, ocons, Aggregates, aend, agg, aggall, ecount, ocount, acount}
use Rattle.algebra.specs.Word.{arity, spell_o}
use Rattle.algebra.specs.Layout.{put_triples, put_rows, put, put_e, put_c, put_es, put_os, put_as}
use Rattle.algebra.specs.Valid.{AllFit, Triples, Rows, Valid, ValidE, ValidC, ValidEs, ValidOs, ValidAs}
use Rattle.scoping.specs.Sets.{keep}
use Rattle.converting.specs.Terms.{triple_terms, cell_terms, terms_of, terms_of_e, terms_of_c, terms_of_es, terms_of_os, terms_of_as}
use Rattle.converting.specs.bridge.Lines.{is_text, is_iri_at, iris_of_fields, iris_in}
use Rattle.converting.proofs.Fields.{Told, Other, node-told, plain-field, name-told, cell-told, variable-other, integer-other, limit-other, flag-field, decimal-other}
use Rattle.converting.proofs.Lines.{Others, no_more, and_this, variables-others, arity-others, flag-others, one-other, two-others, not_there, there}

-- the IRIs among terms
abbrev Iris : List Bytes → List Bytes
Iris ts = keep is_iri ts

abbrev Fields : Bytes → ℕ → List Bytes → List Bytes
Fields w i fs = iris_of_fields w i fs

keep_append : (a b : List Bytes) → Iris (a ++ b) ≡ Iris a ++ Iris b
unfolding keep
keep_append [] b = refl
keep_append (x ∷ xs) b = go (is_iri x) (keep_append xs b)
  where
    go : (t : Bool) → Iris (xs ++ b) ≡ Iris xs ++ Iris b → cond t (x ∷ Iris (xs ++ b)) (Iris (xs ++ b)) ≡ cond t (x ∷ Iris xs) (Iris xs) ++ Iris b
    go true i = ap (λ (l : List Bytes). x ∷ l) i
    go false i = i

-- one after the other
two : (a b : List Bytes) (l m n : List Bytes) → l ≡ Iris a ++ m → m ≡ Iris b ++ n → l ≡ Iris (a ++ b) ++ n
two a b l m n p q = p ∙ ap (λ (x : List Bytes). Iris a ++ x) q ∙ sym (append_assoc (Iris a) (Iris b) n) ∙ ap (λ (x : List Bytes). x ++ n) (sym (keep_append a b))

others-none : (w : Bytes) (i : ℕ) {fs : List Bytes} → Others fs → Fields w i fs ≡ []
unfolding iris_of_fields
others-none w i no_more = refl
others-none w i (and_this x {xs} h k) = ap (λ (b : Bool). cond b (x ∷ Fields w (suc i) xs) (Fields w (suc i) xs)) (not_there w x i h) ∙ others-none w (suc i) k

-- a line without IRIs
skip : (w : Bytes) {fs : List Bytes} (l m : List Bytes) → Others fs → l ≡ m → Fields w 0 fs ++ l ≡ m
skip w l m o e = ap (λ (x : List Bytes). x ++ l) (others-none w 0 o) ∙ e

step : (x : Bytes) (b c : Bool) (k m r s : List Bytes) → b ≡ c → k ++ r ≡ m ++ s → cond b (x ∷ k) k ++ r ≡ cond c (x ∷ m) m ++ s
step x b true k m r s e h = rw e (ap (λ (l : List Bytes). x ∷ l) h)
step x b false k m r s e h = rw e h

-- a field that is a term, before others
term-step : (w x : Bytes) (i : ℕ) (fs ts r s : List Bytes) → is_text w i ≡ false → Told x → Fields w (suc i) fs ++ r ≡ Iris ts ++ s → Fields w i (x ∷ fs) ++ r ≡ Iris (x ∷ ts) ++ s
unfolding iris_of_fields keep
term-step w x i fs ts r s n t h = step x (is_iri_at w i x) (is_iri x) (Fields w (suc i) fs) (Iris ts) r s (there w x i n t) h

-- a field that is none
other_step : (w x : Bytes) (i : ℕ) (fs r s : List Bytes) → Other x → Fields w (suc i) fs ++ r ≡ s → Fields w i (x ∷ fs) ++ r ≡ s
unfolding iris_of_fields
other_step w x i fs r s o h = ap (λ (b : Bool). cond b (x ∷ Fields w (suc i) fs) (Fields w (suc i) fs) ++ r) (not_there w x i o) ∙ h

-- a line with one term
single : (w x : Bytes) (l ts s : List Bytes) → is_text w 0 ≡ false → Told x → l ≡ Iris ts ++ s → Fields w 0 (x ∷ []) ++ l ≡ Iris (x ∷ ts) ++ s
unfolding iris_of_fields
single w x l ts s n t h = term-step w x 0 [] ts l s n t h

triple-iris : (ts : List Triple) (t : List Line) → Triples ts → iris_in (put_triples ts t) ≡ Iris (triple_terms ts) ++ iris_in t
unfolding iris_in iris_of_fields put_triples Triples triple_terms keep is_text same
triple-iris [] t v = refl
triple-iris (x ∷ xs) t v =
    let w = bytes "t" in
    let r = iris_in (put_triples xs t) in
    term-step w x.subj 0 (x.pred ∷ x.obj ∷ []) (x.pred ∷ x.obj ∷ triple_terms xs) r (iris_in t) refl (node-told x.subj v.0)
    (term-step w x.pred 1 (x.obj ∷ []) (x.obj ∷ triple_terms xs) r (iris_in t) refl (name-told x.pred v.1)
    (term-step w x.obj 2 [] (triple_terms xs) r (iris_in t) refl (node-told x.obj v.2) (triple-iris xs t v.3)))

cells-iris : (i : ℕ) (r ts l s : List Bytes) → AllFit cell r → l ≡ Iris ts ++ s → Fields (bytes "row") i r ++ l ≡ Iris (r ++ ts) ++ s
unfolding iris_of_fields all_fit is_text same
cells-iris i [] ts l s v h = h
cells-iris i (x ∷ xs) ts l s v h = term-step (bytes "row") x i xs (xs ++ ts) l s refl (cell-told x (and_left (fits cell x) (all_fit cell xs) v)) (cells-iris (suc i) xs ts l s (and_right (fits cell x) (all_fit cell xs) v) h)

row-iris : (m : ℕ) (rs : List (List Bytes)) (t : List Line) → Rows m rs → iris_in (put_rows rs t) ≡ Iris (cell_terms rs) ++ iris_in t
unfolding iris_in put_rows Rows cell_terms keep
row-iris m [] t v = refl
row-iris m (r ∷ rs) t v = cells-iris 0 r (cell_terms rs) (iris_in (put_rows rs t)) (iris_in t) v.1 (row-iris m rs t v.2)

mutual
  unfolding put Valid iris_in iris_of_fields terms_of keep is_text same

  pub lines-iris : (p : Pattern) (t : List Line) → Valid p → iris_in (put p t) ≡ Iris (terms_of p) ++ iris_in t
  lines-iris (bgp ts) t v = skip (bytes "bgp") _ _ (one-other (length ts)) (triple-iris ts t v.1)
  lines-iris (path s x o) t v =
      term-step (bytes "path") s 0 (x ∷ o ∷ []) (o ∷ []) (iris_in t) (iris_in t) refl (node-told s v.0)
      (term-step (bytes "path") o 2 [] [] (iris_in t) (iris_in t) refl (node-told o v.2) refl)
  lines-iris (join p q) t v = two (terms_of p) (terms_of q) _ _ _ (lines-iris p (put q t) v.0) (lines-iris q t v.1)
  lines-iris (union p q) t v = two (terms_of p) (terms_of q) _ _ _ (lines-iris p (put q t) v.0) (lines-iris q t v.1)
  lines-iris (minus p q) t v = two (terms_of p) (terms_of q) _ _ _ (lines-iris p (put q t) v.0) (lines-iris q t v.1)
  lines-iris (leftjoin p q c) t v =
      skip (bytes "leftjoin") _ _ (flag-others c)
      (two (terms_of p) (terms_of q ++ terms_of_c c) _ _ _ (lines-iris p (put q (put_c c t)) v.0)
      (two (terms_of q) (terms_of_c c) _ _ _ (lines-iris q (put_c c t) v.1) (lines-iris_c c t v.2)))
  lines-iris (filter p e) t v = two (terms_of p) (terms_of_e e) _ _ _ (lines-iris p (put_e e t) v.0) (lines-iris_e e t v.1)
  lines-iris (graph n p) t v = single (bytes "graph") n (iris_in (put p t)) (terms_of p) (iris_in t) refl (name-told n v.0) (lines-iris p t v.1)
  lines-iris (extend x p e) t v =
      skip (bytes "extend") _ _ (and_this x (variable-other x v.0) no_more)
      (two (terms_of p) (terms_of_e e) _ _ _ (lines-iris p (put_e e t) v.1) (lines-iris_e e t v.2))
  lines-iris (values cs rs) t v =
      skip (bytes "values") _ _ (two-others (length cs) (length rs)) (skip (bytes "cols") _ _ (variables-others cs v.2) (row-iris (length cs) rs t v.3))
  lines-iris (orderby p os) t v =
      skip (bytes "orderby") _ _ (one-other (ocount os)) (two (terms_of p) (terms_of_os os) _ _ _ (lines-iris p (put_os os t) v.1) (lines-iris_os os t v.2))
  lines-iris (project cs p) t v = skip (bytes "project") _ _ (variables-others cs v.0) (lines-iris p t v.1)
  lines-iris (distinct p) t v = lines-iris p t v
  lines-iris (reduced p) t v = lines-iris p t v
  lines-iris (slice a n p) t v = skip (bytes "slice") _ _ (and_this a (integer-other a v.0) (and_this n (limit-other n v.1) no_more)) (lines-iris p t v.2)
  lines-iris (group ks p rs) t v =
      skip (bytes "group") _ _ (two-others (length ks) (acount rs))
      (skip (bytes "cols") _ _ (variables-others ks v.2) (two (terms_of p) (terms_of_as rs) _ _ _ (lines-iris p (put_as rs t) v.3) (lines-iris_as rs t v.4)))
  lines-iris (service n s p) t v =
      term-step (bytes "service") n 0 (s ∷ []) (terms_of p) (iris_in (put p t)) (iris_in t) refl (name-told n v.0)
      (other_step (bytes "service") s 1 [] (iris_in (put p t)) _ (flag-field s v.1) (lines-iris p t v.2))

  lines-iris_e : (e : Expression) (t : List Line) → ValidE e → iris_in (put_e e t) ≡ Iris (terms_of_e e) ++ iris_in t
  lines-iris_e (term x) t v = single (bytes "term") x (iris_in t) [] (iris_in t) refl (plain-field x v) refl
  lines-iris_e (bound x) t v = skip (bytes "bound") _ _ (and_this x (variable-other x v) no_more) refl
  lines-iris_e (exists p) t v = lines-iris p t v
  lines-iris_e (apply o es) t v = skip (spell_o o) _ _ (arity-others (arity o) (ecount es)) (lines-iris_es es t v.1)
  lines-iris_e (call n es) t v = other_step (bytes "call") (decimal (ecount es)) 1 [] (iris_in (put_es es t)) _ (decimal-other (ecount es)) (lines-iris_es es t v.2)

  lines-iris_c : (c : Condition) (t : List Line) → ValidC c → iris_in (put_c c t) ≡ Iris (terms_of_c c) ++ iris_in t
  lines-iris_c always t v = refl
  lines-iris_c (provided e) t v = lines-iris_e e t v

  lines-iris_es : (es : Expressions) (t : List Line) → ValidEs es → iris_in (put_es es t) ≡ Iris (terms_of_es es) ++ iris_in t
  lines-iris_es eend t v = refl
  lines-iris_es (econs e es) t v = two (terms_of_e e) (terms_of_es es) _ _ _ (lines-iris_e e (put_es es t) v.0) (lines-iris_es es t v.1)

  lines-iris_os : (os : Orders) (t : List Line) → ValidOs os → iris_in (put_os os t) ≡ Iris (terms_of_os os) ++ iris_in t
  lines-iris_os oend t v = refl
  lines-iris_os (ocons d e os) t v = two (terms_of_e e) (terms_of_os os) _ _ _ (lines-iris_e e (put_os os t) v.0) (lines-iris_os os t v.1)

  lines-iris_as : (rs : Aggregates) (t : List Line) → ValidAs rs → iris_in (put_as rs t) ≡ Iris (terms_of_as rs) ++ iris_in t
  lines-iris_as aend t v = refl
  lines-iris_as (agg x n d e rs) t v =
      other_step (bytes "agg") x 0 (n ∷ d ∷ []) (iris_in (put_e e (put_as rs t))) _ (variable-other x v.0)
      (other_step (bytes "agg") d 2 [] (iris_in (put_e e (put_as rs t))) _ (flag-field d v.2)
      (two (terms_of_e e) (terms_of_as rs) _ _ _ (lines-iris_e e (put_as rs t) v.3) (lines-iris_as rs t v.4)))
  lines-iris_as (aggall x d rs) t v = skip (bytes "aggall") _ _ (and_this x (variable-other x v.0) (and_this d (flag-field d v.1) no_more)) (lines-iris_as rs t v.2)
