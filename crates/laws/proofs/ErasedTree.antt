-- A tree with its literals erased: its layout, its validity, its variables and its renamings. Assumes nothing.
use mathlib.Core.Path.{◌≡◌, refl, sym, ap, ap₂, subst, ◌∙◌}
use mathlib.Core.Bool.{Bool}
use mathlib.Core.List.{List, [], ◌∷◌, map}
use Prim.Native.Nat.{ℕ, suc, ◌-◌, ◌≤◌}
use native.Mathlib.Omega.{arith}
use lib.ListN.{length}
use Rattle.text.specs.Text.{Bytes, Line, same}
use Rattle.text.specs.Word.{bytes}
use Rattle.text.specs.Field.{most, given, decimal, is_kind, variable, node, plain, name, cell, integer, limit, flag, opaque}
use Rattle.text.proofs.Numbers.{number-back}
use Rattle.algebra.specs.Tree.{Op, OR, AND, EQ, SAME, GT, GE, LT, LE, ADD, SUB, MUL, DIV, IN, PLUS, NEG, NOT, IF, COALESCE, Direction, ASC, DESC, Triple, Pattern, bgp, path, join, union, minus, leftjoin, filter, graph, extend, values, orderby, project, distinct, reduced, slice, group, service, Expression, term, bound, exists, apply, call, Condition, always, provided, Expressions, eend, econs, Orders, oend, ocons, Aggregates, aend, agg, aggall, ecount, ocount, acount}
use Rattle.algebra.specs.Word.{spell_o, spell_d, Arity, exactly, counted, arity}
use Rattle.algebra.specs.Layout.{put_triples, put_rows, put_arity, put_flag, put, put_e, put_c, put_es, put_os, put_as}
use Rattle.algebra.specs.Valid.{Triples, Rows, Takes, Valid, ValidE, ValidC, ValidEs, ValidOs, ValidAs}
use Rattle.merging.proofs.Lists.{map-length}
use Rattle.laws.proofs.Erased.{erased, erased_line, fits-erased, all-fit-erased, bare_variable, bare_name, bare_integer, bare_limit, bare_flag, bare-stays, fit_stays, all_stay}

module _ (may : Bytes → Bool) where
  -- ---- the tree

  abbrev pub erased_triple : Triple → Triple
  erased_triple t = record { subj = erased may t.subj; pred = t.pred; obj = erased may t.obj }

  unfoldable mutual
    unfolding erased

    pub erased_tree : Pattern → Pattern
    erased_tree (bgp ts) = bgp (map erased_triple ts)
    erased_tree (path s x o) = path (erased may s) (erased may x) (erased may o)
    erased_tree (join p q) = join (erased_tree p) (erased_tree q)
    erased_tree (union p q) = union (erased_tree p) (erased_tree q)
    erased_tree (minus p q) = minus (erased_tree p) (erased_tree q)
    erased_tree (leftjoin p q c) = leftjoin (erased_tree p) (erased_tree q) (erased_c c)
    erased_tree (filter p e) = filter (erased_tree p) (erased_e e)
    erased_tree (graph n p) = graph n (erased_tree p)
    erased_tree (extend v p e) = extend v (erased_tree p) (erased_e e)
    erased_tree (values cs rs) = values cs (map (map (erased may)) rs)
    erased_tree (orderby p os) = orderby (erased_tree p) (erased_os os)
    erased_tree (project cs p) = project cs (erased_tree p)
    erased_tree (distinct p) = distinct (erased_tree p)
    erased_tree (reduced p) = reduced (erased_tree p)
    erased_tree (slice a n p) = slice a n (erased_tree p)
    erased_tree (group ks p rs) = group ks (erased_tree p) (erased_as rs)
    erased_tree (service n f p) = service n f (erased_tree p)

    pub erased_e : Expression → Expression
    erased_e (term x) = term (erased may x)
    erased_e (bound v) = bound v
    erased_e (exists p) = exists (erased_tree p)
    erased_e (apply o es) = apply o (erased_es es)
    erased_e (call n es) = call (erased may n) (erased_es es)

    pub erased_c : Condition → Condition
    erased_c always = always
    erased_c (provided e) = provided (erased_e e)

    pub erased_es : Expressions → Expressions
    erased_es eend = eend
    erased_es (econs e es) = econs (erased_e e) (erased_es es)

    pub erased_os : Orders → Orders
    erased_os oend = oend
    erased_os (ocons d e os) = ocons d (erased_e e) (erased_os os)

    pub erased_as : Aggregates → Aggregates
    erased_as aend = aend
    erased_as (agg v n f e rs) = agg v (erased may n) f (erased_e e) (erased_as rs)
    erased_as (aggall v f rs) = aggall v f (erased_as rs)

  -- ---- counts

  count-erased : (es : Expressions) → ecount (erased_es es) ≡ ecount es
  unfolding erased_es
  count-erased eend = refl
  count-erased (econs e es) = ap suc (count-erased es)

  ocount-erased : (os : Orders) → ocount (erased_os os) ≡ ocount os
  unfolding erased_os
  ocount-erased oend = refl
  ocount-erased (ocons d e os) = ap suc (ocount-erased os)

  acount-erased : (rs : Aggregates) → acount (erased_as rs) ≡ acount rs
  unfolding erased_as
  acount-erased aend = refl
  acount-erased (agg v n f e rs) = ap suc (acount-erased rs)
  acount-erased (aggall v f rs) = ap suc (acount-erased rs)

  -- ---- its layout

  decimal-stays : (n : ℕ) → n ≤ most → erased may (decimal n) ≡ decimal n
  unfolding is_kind
  decimal-stays n h = bare-stays may integer bare_integer (decimal n) (ap given (number-back n h))

  op-line : (o : Op) (fs : List Bytes) → erased_line may (spell_o o ∷ fs) ≡ spell_o o ∷ map (erased may) fs
  unfolding erased_line same
  op-line OR fs = refl
  op-line AND fs = refl
  op-line EQ fs = refl
  op-line SAME fs = refl
  op-line GT fs = refl
  op-line GE fs = refl
  op-line LT fs = refl
  op-line LE fs = refl
  op-line ADD fs = refl
  op-line SUB fs = refl
  op-line MUL fs = refl
  op-line DIV fs = refl
  op-line IN fs = refl
  op-line PLUS fs = refl
  op-line NEG fs = refl
  op-line NOT fs = refl
  op-line IF fs = refl
  op-line COALESCE fs = refl

  order-line : (d : Direction) → erased_line may (spell_d d ∷ []) ≡ spell_d d ∷ []
  unfolding erased_line same
  order-line ASC = refl
  order-line DESC = refl

  arity-stays : (a : Arity) (k : ℕ) → Takes a k → map (erased may) (put_arity a k) ≡ put_arity a k
  unfolding put_arity Takes
  arity-stays (exactly n) k h = refl
  arity-stays (counted n) k h = ap (λ (f : Bytes). f ∷ []) (decimal-stays (k - n) h.1)

  flag-erased : (c : Condition) → put_flag (erased_c c) ≡ put_flag c
  unfolding erased_c
  flag-erased always = refl
  flag-erased (provided e) = refl

  flag-stays : (c : Condition) → erased may (put_flag c) ≡ put_flag c
  unfolding erased
  flag-stays always = refl
  flag-stays (provided e) = refl

  triples-put : (ts : List Triple) (t : List Line) → Triples ts → map (erased_line may) (put_triples ts t) ≡ put_triples (map erased_triple ts) (map (erased_line may) t)
  unfolding put_triples erased_line same Triples
  triples-put [] t v = refl
  triples-put (x ∷ xs) t v = ap₂ (λ (p : Bytes) (l : List Line). (bytes "t" ∷ erased may x.subj ∷ p ∷ erased may x.obj ∷ []) ∷ l) (fit_stays may name bare_name x.pred v.1) (triples-put xs t v.3)

  rows-put : (rs : List (List Bytes)) (t : List Line) → map (erased_line may) (put_rows rs t) ≡ put_rows (map (map (erased may)) rs) (map (erased_line may) t)
  unfolding put_rows erased_line same
  rows-put [] t = refl
  rows-put (r ∷ rs) t = ap (λ (l : List Line). (bytes "row" ∷ map (erased may) r) ∷ l) (rows-put rs t)

  mutual
    unfolding put erased_tree Valid erased_line same

    pub put-erased : (p : Pattern) (t : List Line) → Valid p → map (erased_line may) (put p t) ≡ put (erased_tree p) (map (erased_line may) t)
    put-erased (bgp ts) t v = ap₂ (λ (n : Bytes) (l : List Line). (bytes "bgp" ∷ n ∷ []) ∷ l) (decimal-stays (length ts) v.0 ∙ ap decimal (sym (map-length erased_triple ts))) (triples-put ts t v.1)
    put-erased (path s x o) t v = refl
    put-erased (join p q) t v = ap (λ (l : List Line). (bytes "join" ∷ []) ∷ l) (put-erased p (put q t) v.0 ∙ ap (put (erased_tree p)) (put-erased q t v.1))
    put-erased (union p q) t v = ap (λ (l : List Line). (bytes "union" ∷ []) ∷ l) (put-erased p (put q t) v.0 ∙ ap (put (erased_tree p)) (put-erased q t v.1))
    put-erased (minus p q) t v = ap (λ (l : List Line). (bytes "minus" ∷ []) ∷ l) (put-erased p (put q t) v.0 ∙ ap (put (erased_tree p)) (put-erased q t v.1))
    put-erased (leftjoin p q c) t v =
        ap₂ (λ (f : Bytes) (l : List Line). (bytes "leftjoin" ∷ f ∷ []) ∷ l) (flag-stays c ∙ sym (flag-erased c))
        (put-erased p (put q (put_c c t)) v.0 ∙ ap (put (erased_tree p)) (put-erased q (put_c c t) v.1 ∙ ap (put (erased_tree q)) (put-erased_c c t v.2)))
    put-erased (filter p e) t v = ap (λ (l : List Line). (bytes "filter" ∷ []) ∷ l) (put-erased p (put_e e t) v.0 ∙ ap (put (erased_tree p)) (put-erased_e e t v.1))
    put-erased (graph n p) t v = ap₂ (λ (f : Bytes) (l : List Line). (bytes "graph" ∷ f ∷ []) ∷ l) (fit_stays may name bare_name n v.0) (put-erased p t v.1)
    put-erased (extend x p e) t v = ap₂ (λ (f : Bytes) (l : List Line). (bytes "extend" ∷ f ∷ []) ∷ l) (fit_stays may variable bare_variable x v.0) (put-erased p (put_e e t) v.1 ∙ ap (put (erased_tree p)) (put-erased_e e t v.2))
    put-erased (values cs rs) t v = λ i.
        (bytes "values" ∷ decimal-stays (length cs) v.0 i ∷ (decimal-stays (length rs) v.1 ∙ ap decimal (sym (map-length (map (erased may)) rs))) i ∷ []) ∷ (bytes "cols" ∷ all_stay may variable bare_variable cs v.2 i) ∷ rows-put rs t i
    put-erased (orderby p os) t v = ap₂ (λ (n : Bytes) (l : List Line). (bytes "orderby" ∷ n ∷ []) ∷ l) (decimal-stays (ocount os) v.0 ∙ ap decimal (sym (ocount-erased os))) (put-erased p (put_os os t) v.1 ∙ ap (put (erased_tree p)) (put-erased_os os t v.2))
    put-erased (project cs p) t v = ap₂ (λ (l : List Bytes) (m : List Line). (bytes "project" ∷ l) ∷ m) (all_stay may variable bare_variable cs v.0) (put-erased p t v.1)
    put-erased (distinct p) t v = ap (λ (l : List Line). (bytes "distinct" ∷ []) ∷ l) (put-erased p t v)
    put-erased (reduced p) t v = ap (λ (l : List Line). (bytes "reduced" ∷ []) ∷ l) (put-erased p t v)
    put-erased (slice a n p) t v = λ i. (bytes "slice" ∷ fit_stays may integer bare_integer a v.0 i ∷ fit_stays may limit bare_limit n v.1 i ∷ []) ∷ put-erased p t v.2 i
    put-erased (group ks p rs) t v = λ i.
        (bytes "group" ∷ decimal-stays (length ks) v.0 i ∷ (decimal-stays (acount rs) v.1 ∙ ap decimal (sym (acount-erased rs))) i ∷ []) ∷ (bytes "cols" ∷ all_stay may variable bare_variable ks v.2 i)
        ∷ (put-erased p (put_as rs t) v.3 ∙ ap (put (erased_tree p)) (put-erased_as rs t v.4)) i
    put-erased (service n f p) t v = λ i. (bytes "service" ∷ fit_stays may name bare_name n v.0 i ∷ fit_stays may flag bare_flag f v.1 i ∷ []) ∷ put-erased p t v.2 i

    put-erased_e : (e : Expression) (t : List Line) → ValidE e → map (erased_line may) (put_e e t) ≡ put_e (erased_e e) (map (erased_line may) t)
    put-erased_e (term x) t v = refl
    put-erased_e (bound x) t v = ap (λ (f : Bytes). (bytes "bound" ∷ f ∷ []) ∷ map (erased_line may) t) (fit_stays may variable bare_variable x v)
    put-erased_e (exists p) t v = ap (λ (l : List Line). (bytes "exists" ∷ []) ∷ l) (put-erased p t v)
    put-erased_e (apply o es) t v = ap₂ ◌∷◌ (op-line o (put_arity (arity o) (ecount es)) ∙ ap (λ (l : List Bytes). spell_o o ∷ l) (arity-stays (arity o) (ecount es) v.0 ∙ ap (put_arity (arity o)) (sym (count-erased es)))) (put-erased_es es t v.1)
    put-erased_e (call n es) t v = ap₂ (λ (k : Bytes) (l : List Line). (bytes "call" ∷ erased may n ∷ k ∷ []) ∷ l) (decimal-stays (ecount es) v.1 ∙ ap decimal (sym (count-erased es))) (put-erased_es es t v.2)

    put-erased_c : (c : Condition) (t : List Line) → ValidC c → map (erased_line may) (put_c c t) ≡ put_c (erased_c c) (map (erased_line may) t)
    put-erased_c always t v = refl
    put-erased_c (provided e) t v = put-erased_e e t v

    put-erased_es : (es : Expressions) (t : List Line) → ValidEs es → map (erased_line may) (put_es es t) ≡ put_es (erased_es es) (map (erased_line may) t)
    put-erased_es eend t v = refl
    put-erased_es (econs e es) t v = put-erased_e e (put_es es t) v.0 ∙ ap (put_e (erased_e e)) (put-erased_es es t v.1)

    put-erased_os : (os : Orders) (t : List Line) → ValidOs os → map (erased_line may) (put_os os t) ≡ put_os (erased_os os) (map (erased_line may) t)
    put-erased_os oend t v = refl
    put-erased_os (ocons d e os) t v = ap₂ ◌∷◌ (order-line d) (put-erased_e e (put_os os t) v.0 ∙ ap (put_e (erased_e e)) (put-erased_os os t v.1))

    put-erased_as : (rs : Aggregates) (t : List Line) → ValidAs rs → map (erased_line may) (put_as rs t) ≡ put_as (erased_as rs) (map (erased_line may) t)
    put-erased_as aend t v = refl
    put-erased_as (agg x n f e rs) t v = λ i. (bytes "agg" ∷ fit_stays may variable bare_variable x v.0 i ∷ erased may n ∷ fit_stays may flag bare_flag f v.2 i ∷ []) ∷ (put-erased_e e (put_as rs t) v.3 ∙ ap (put_e (erased_e e)) (put-erased_as rs t v.4)) i
    put-erased_as (aggall x f rs) t v = λ i. (bytes "aggall" ∷ fit_stays may variable bare_variable x v.0 i ∷ fit_stays may flag bare_flag f v.1 i ∷ []) ∷ put-erased_as rs t v.2 i

  -- ---- it is valid

  triples-valid : (ts : List Triple) → Triples ts → Triples (map erased_triple ts)
  unfolding Triples
  triples-valid [] v = tt
  triples-valid (t ∷ ts) v = (fits-erased may node t.subj ∙ v.0, v.1, fits-erased may node t.obj ∙ v.2, triples-valid ts v.3)

  rows-valid : (m : ℕ) (rs : List (List Bytes)) → Rows m rs → Rows m (map (map (erased may)) rs)
  unfolding Rows
  rows-valid m [] v = tt
  rows-valid m (r ∷ rs) v = (map-length (erased may) r ∙ v.0, all-fit-erased may cell r ∙ v.1, rows-valid m rs v.2)

  abbrev few : (n m : ℕ) → n ≡ m → m ≤ most → n ≤ most
  few n m e h = omega arith

  mutual
    unfolding erased_tree Valid

    pub valid-erased : (p : Pattern) → Valid p → Valid (erased_tree p)
    valid-erased (bgp ts) v = (few _ (length ts) (map-length erased_triple ts) v.0, triples-valid ts v.1)
    valid-erased (path s x o) v = (fits-erased may node s ∙ v.0, fits-erased may opaque x ∙ v.1, fits-erased may node o ∙ v.2)
    valid-erased (join p q) v = (valid-erased p v.0, valid-erased q v.1)
    valid-erased (union p q) v = (valid-erased p v.0, valid-erased q v.1)
    valid-erased (minus p q) v = (valid-erased p v.0, valid-erased q v.1)
    valid-erased (leftjoin p q c) v = (valid-erased p v.0, valid-erased q v.1, valid-erased_c c v.2)
    valid-erased (filter p e) v = (valid-erased p v.0, valid-erased_e e v.1)
    valid-erased (graph n p) v = (v.0, valid-erased p v.1)
    valid-erased (extend x p e) v = (v.0, valid-erased p v.1, valid-erased_e e v.2)
    valid-erased (values cs rs) v = (v.0, few _ (length rs) (map-length (map (erased may)) rs) v.1, v.2, rows-valid (length cs) rs v.3)
    valid-erased (orderby p os) v = (few _ (ocount os) (ocount-erased os) v.0, valid-erased p v.1, valid-erased_os os v.2)
    valid-erased (project cs p) v = (v.0, valid-erased p v.1)
    valid-erased (distinct p) v = valid-erased p v
    valid-erased (reduced p) v = valid-erased p v
    valid-erased (slice a n p) v = (v.0, v.1, valid-erased p v.2)
    valid-erased (group ks p rs) v = (v.0, few _ (acount rs) (acount-erased rs) v.1, v.2, valid-erased p v.3, valid-erased_as rs v.4)
    valid-erased (service n f p) v = (v.0, v.1, valid-erased p v.2)

    valid-erased_e : (e : Expression) → ValidE e → ValidE (erased_e e)
    valid-erased_e (term x) v = fits-erased may plain x ∙ v
    valid-erased_e (bound x) v = v
    valid-erased_e (exists p) v = valid-erased p v
    valid-erased_e (apply o es) v = (subst (Takes (arity o)) (sym (count-erased es)) v.0, valid-erased_es es v.1)
    valid-erased_e (call n es) v = (fits-erased may opaque n ∙ v.0, few _ (ecount es) (count-erased es) v.1, valid-erased_es es v.2)

    valid-erased_c : (c : Condition) → ValidC c → ValidC (erased_c c)
    valid-erased_c always v = tt
    valid-erased_c (provided e) v = valid-erased_e e v

    valid-erased_es : (es : Expressions) → ValidEs es → ValidEs (erased_es es)
    valid-erased_es eend v = tt
    valid-erased_es (econs e es) v = (valid-erased_e e v.0, valid-erased_es es v.1)

    valid-erased_os : (os : Orders) → ValidOs os → ValidOs (erased_os os)
    valid-erased_os oend v = tt
    valid-erased_os (ocons d e os) v = (valid-erased_e e v.0, valid-erased_os os v.1)

    valid-erased_as : (rs : Aggregates) → ValidAs rs → ValidAs (erased_as rs)
    valid-erased_as aend v = tt
    valid-erased_as (agg x n f e rs) v = (v.0, fits-erased may opaque n ∙ v.1, v.2, valid-erased_e e v.3, valid-erased_as rs v.4)
    valid-erased_as (aggall x f rs) v = (v.0, v.1, valid-erased_as rs v.2)
