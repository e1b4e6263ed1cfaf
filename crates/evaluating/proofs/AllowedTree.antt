-- A tree's lines allow its evaluation exactly if the tree is of the counting part and its extends are fresh. Assumes nothing.
use mathlib.Core.Path.{◌≡◌, refl, sym, ◌∙◌, ap, ap₂, subst}
use mathlib.Core.Bool.{Bool, true, false, not, ◌&&◌, false≢true}
use mathlib.Core.List.{List, [], ◌∷◌, ◌++◌, map}
use Prim.Native.Nat.{ℕ, zero, suc, ◌≤◌}
use native.Mathlib.Omega.{arith}
use lib.Dec.{eqb}
use lib.ListN.{length, take, drop}
use Rattle.text.specs.Text.{Bytes, Line, same}
use Rattle.text.proofs.Basics.{and_left, and_right}
use Rattle.text.proofs.Numbers.{number-back}
use Rattle.algebra.specs.Tree.{Pattern, bgp, path, join, union, minus, leftjoin, filter, graph, extend, values, orderby, project, distinct, reduced, slice, group, service}
use Rattle.algebra.specs.Tree.{always, provided}
use Rattle.algebra.specs.Layout.{put_triples, put_rows, put, put_e, put_c}
use Rattle.algebra.specs.Depth.{depth, depth_c}
use Rattle.algebra.specs.Valid.{mem, Valid, ValidC}
use Rattle.scoping.specs.Sets.{all, any}
use Rattle.scoping.specs.Variables.{variables_in_pattern, scope_of}
use Rattle.scoping.specs.ScopedOrHidden.{condition_vars, names_with}
use Rattle.scoping.specs.bridge.Sets.{Sub}
use Rattle.scoping.proofs.Basics.{either, mem-here, mem-cases, sub-left, sub-right, sub-rest}
use Rattle.counting.specs.Bag.{once}
use Rattle.counting.specs.Scope.{expression_vars, names}
use Rattle.counting.specs.Countable.{everywhere, is_term, is_condition, no_blank, is_countable, extends_fresh}
use Rattle.counting.proofs.Bgp.{mem-any}
use Rattle.counting.proofs.Rename.{scope-in, both-in}
use Rattle.merging.specs.Request.{or_zero}
use Rattle.evaluating.specs.bridge.Numbers.{Numbers, NamesApart}
use Rattle.evaluating.specs.bridge.Tables.{columns_of, numbers_of, line_columns}
use Rattle.evaluating.specs.bridge.Lines.{together, triple_in}
use Rattle.evaluating.specs.bridge.Allowed.{Judged, judged, Allowed, allow, allowed}
use Rattle.evaluating.proofs.Coded.{mem-once}
use Rattle.evaluating.proofs.Steps.{columns-together, numbers-any}
use Rattle.evaluating.proofs.Walked.{triples-back, rows_back, numbers-once}
use Rattle.evaluating.proofs.Permitted.{Just, judged-is, and_same, and-true, or-of, or-to}

-- of the counting part, and every extend fresh
abbrev fine : Pattern → Bool
fine p = is_countable p && extends_fresh p

and-four : (a b c d : Bool) → ((a && b) && (c && d)) ≡ ((a && c) && (b && d))
and-four true true c d = refl
and-four true false true d = refl
and-four true false false d = refl
and-four false b c d = refl

and-six : (a b c d e : Bool) → ((a && b) && ((c && d) && e)) ≡ ((a && (c && e)) && (b && (d && true)))
and-six true true true true true = refl
and-six true true true true false = refl
and-six true true true false true = refl
and-six true true true false false = refl
and-six true true false d e = refl
and-six true false true d true = refl
and-six true false true d false = refl
and-six true false false d e = refl
and-six false b c d e = refl

and-three : (a b e : Bool) → ((a && b) && e) ≡ ((a && e) && (b && true))
and-three true true true = refl
and-three true true false = refl
and-three true false true = refl
and-three true false false = refl
and-three false b e = refl

module _ (κ : Numbers) (N : List Bytes) (inj : NamesApart κ N) where
  -- what is allowed of a pattern in front of the lines t
  pub record Sure (p : Pattern) (t : List Line) (a : Allowed) : Type 0 where
    pub ok_is : a.ok ≡ (is_countable p && extends_fresh p)
    pub columns-are : a.ok ≡ true → a.columns ≡ numbers_of κ p
    pub rest_is : a.ok ≡ true → a.rest ≡ t

  abbrev Sures : ℕ → Type 0
  Sures d = (p : Pattern) (t : List Line) → Valid p → Sub (names p) N → depth p ≤ d → Sure p t (allowed d κ (put p t))

  -- two patterns, one after the other
  module _ (d : ℕ) (ih : Sures d) (p q : Pattern) (t : List Line) (vp : Valid p) (vq : Valid q) (pn : Sub (names p) N) (qn : Sub (names q) N) (dp : depth p ≤ d) (dq : depth q ≤ d) where
    abbrev a : Allowed
    a = allowed d κ (put p (put q t))

    abbrev b : Allowed
    b = allowed d κ a.rest

    first : Sure p (put q t) a
    first = ih p (put q t) vp pn dp

    second : a.ok ≡ true → Sure q t b
    second e = subst (λ l. Sure q t (allowed d κ l)) (sym (first.rest_is e)) (ih q t vq qn dq)

    both_ok : (a.ok && b.ok) ≡ (fine p && fine q)
    both_ok = and_same a.ok b.ok (fine q) (λ e. (second e).ok_is) ∙ ap (λ x. x && fine q) first.ok_is

    both-columns : (a.ok && b.ok) ≡ true → together a.columns b.columns ≡ together (numbers_of κ p) (numbers_of κ q)
    both-columns e = ap₂ together (first.columns-are (and_left a.ok b.ok e)) ((second (and_left a.ok b.ok e)).columns-are (and_right a.ok b.ok e))

    both_rest : (a.ok && b.ok) ≡ true → b.rest ≡ t
    both_rest e = (second (and_left a.ok b.ok e)).rest_is (and_right a.ok b.ok e)

  fresh-any : (w : Bytes) (p : Pattern) → mem w N ≡ true → Sub (names p) N → any (eqb (κ.name w)) (numbers_of κ p) ≡ mem w (scope_of p)
  unfolding columns_of
  fresh-any w p m s = numbers-any κ N inj w (once same (scope_of p)) m (λ u k. scope-in N p s u (sym (mem-once u (scope_of p)) ∙ k)) ∙ (mem-any w (once same (scope_of p)) ∙ mem-once w (scope_of p))

  pub allowed-is : (d : ℕ) → Sures d
  unfolding allowed put put_c is_countable extends_fresh everywhere Valid ValidC names_with depth depth_c columns_of variables_in_pattern
  allowed-is zero p t v n k = absurd (no-depth p k)
    where
      no-depth : (p : Pattern) → depth p ≤ 0 → ⊥
      no-depth (bgp ts) k = omega arith
      no-depth (path x y z) k = omega arith
      no-depth (join p q) k = omega arith
      no-depth (union p q) k = omega arith
      no-depth (minus p q) k = omega arith
      no-depth (leftjoin p q c) k = omega arith
      no-depth (filter p e) k = omega arith
      no-depth (graph a p) k = omega arith
      no-depth (extend v p e) k = omega arith
      no-depth (values cs rs) k = omega arith
      no-depth (orderby p os) k = omega arith
      no-depth (project cs p) k = omega arith
      no-depth (distinct p) k = omega arith
      no-depth (reduced p) k = omega arith
      no-depth (slice a l p) k = omega arith
      no-depth (group ks p rs) k = omega arith
      no-depth (service a f p) k = omega arith
  allowed-is (suc d) (bgp ts) t v n k =
      let b = triples-back ts t in
      let e : allowed (suc d) κ (put (bgp ts) t) ≡ allow (line_columns κ ts) (all no_blank ts) t =
      ap (λ i. allow (line_columns κ (map triple_in (take (or_zero i) (put_triples ts t)))) (all no_blank (map triple_in (take (or_zero i) (put_triples ts t)))) (drop (or_zero i) (put_triples ts t))) (number-back (length ts) v.0)
      ∙ ap₂ (λ x y. allow (line_columns κ x) (all no_blank x) y) b.0 b.1 in
      subst (Sure (bgp ts) t) (sym e) (record { ok_is = sym (and-true (all no_blank ts)); columns-are = λ h. refl; rest_is = λ h. refl })
  allowed-is (suc d) (join p q) t v n k =
      let x : Sub (names p) N = sub-left (names p) (names q) N n in
      let y : Sub (names q) N = sub-right (names p) (names q) N n in
      record {
        ok_is = both_ok d (allowed-is d) p q t v.0 v.1 x y (omega arith) (omega arith) ∙ and-four (is_countable p) (extends_fresh p) (is_countable q) (extends_fresh q);
        columns-are = λ e. both-columns d (allowed-is d) p q t v.0 v.1 x y (omega arith) (omega arith) e ∙ sym (columns-together κ N inj (scope_of p) (scope_of q) (both-in N p q n));
        rest_is = both_rest d (allowed-is d) p q t v.0 v.1 x y (omega arith) (omega arith);
      }
  allowed-is (suc d) (union p q) t v n k =
      let x : Sub (names p) N = sub-left (names p) (names q) N n in
      let y : Sub (names q) N = sub-right (names p) (names q) N n in
      record {
        ok_is = both_ok d (allowed-is d) p q t v.0 v.1 x y (omega arith) (omega arith) ∙ and-four (is_countable p) (extends_fresh p) (is_countable q) (extends_fresh q);
        columns-are = λ e. both-columns d (allowed-is d) p q t v.0 v.1 x y (omega arith) (omega arith) e ∙ sym (columns-together κ N inj (scope_of p) (scope_of q) (both-in N p q n));
        rest_is = both_rest d (allowed-is d) p q t v.0 v.1 x y (omega arith) (omega arith);
      }
  allowed-is (suc d) (minus p q) t v n k =
      let x : Sub (names p) N = sub-left (names p) (names q) N n in
      let y : Sub (names q) N = sub-right (names p) (names q) N n in
      record {
        ok_is = both_ok d (allowed-is d) p q t v.0 v.1 x y (omega arith) (omega arith) ∙ and-four (is_countable p) (extends_fresh p) (is_countable q) (extends_fresh q);
        columns-are = λ e. (first d (allowed-is d) p q t v.0 v.1 x y (omega arith) (omega arith)).columns-are (and_left (allowed d κ (put p (put q t))).ok _ e);
        rest_is = both_rest d (allowed-is d) p q t v.0 v.1 x y (omega arith) (omega arith);
      }
  allowed-is (suc d) (leftjoin p q always) t v n k =
      let m : Sub (names p ++ names q) N = sub-left (names p ++ names q) (condition_vars expression_vars always) N n in
      let x : Sub (names p) N = sub-left (names p) (names q) N m in
      let y : Sub (names q) N = sub-right (names p) (names q) N m in
      record {
        ok_is = both_ok d (allowed-is d) p q t v.0 v.1 x y (omega arith) (omega arith) ∙ (and-four (is_countable p) (extends_fresh p) (is_countable q) (extends_fresh q) ∙ ap₂ (λ i j. (is_countable p && i) && (extends_fresh p && j)) (sym (and-true (is_countable q))) (sym (and-true (extends_fresh q))));
        columns-are = λ e. both-columns d (allowed-is d) p q t v.0 v.1 x y (omega arith) (omega arith) e ∙ sym (columns-together κ N inj (scope_of p) (scope_of q) (both-in N p q m));
        rest_is = both_rest d (allowed-is d) p q t v.0 v.1 x y (omega arith) (omega arith);
      }
  allowed-is (suc d) (leftjoin p q (provided e)) t v n k =
      let m : Sub (names p ++ names q) N = sub-left (names p ++ names q) (condition_vars expression_vars (provided e)) N n in
      let x : Sub (names p) N = sub-left (names p) (names q) N m in
      let y : Sub (names q) N = sub-right (names p) (names q) N m in
      let a₁ : Allowed = allowed d κ (put p (put q (put_e e t))) in
      let b₁ : Allowed = allowed d κ a₁.rest in
      let j : Judged = judged d b₁.rest in
      let rest_of : (a₁.ok && b₁.ok) ≡ true → b₁.rest ≡ put_e e t = both_rest d (allowed-is d) p q (put_e e t) v.0 v.1 x y (omega arith) (omega arith) in
      let just : (a₁.ok && b₁.ok) ≡ true → Just e t j = λ h. subst (λ l. Just e t (judged d l)) (sym (rest_of h)) (judged-is d e t v.2 (omega arith)) in
      record {
        ok_is = and-group a₁.ok b₁.ok j.condition ∙ (and_same (a₁.ok && b₁.ok) j.condition (is_condition e) (λ h. (just h).condition_is) ∙ (ap (λ i. i && is_condition e) (both_ok d (allowed-is d) p q (put_e e t) v.0 v.1 x y (omega arith) (omega arith)) ∙ (sym (and-group (fine p) (fine q) (is_condition e)) ∙ and-six (is_countable p) (extends_fresh p) (is_countable q) (extends_fresh q) (is_condition e))));
        columns-are = λ h. both-columns d (allowed-is d) p q (put_e e t) v.0 v.1 x y (omega arith) (omega arith) (and_left (a₁.ok && b₁.ok) j.condition (sym (and-group a₁.ok b₁.ok j.condition) ∙ h)) ∙ sym (columns-together κ N inj (scope_of p) (scope_of q) (both-in N p q m));
        rest_is = λ h. let i = sym (and-group a₁.ok b₁.ok j.condition) ∙ h in let u = just (and_left (a₁.ok && b₁.ok) j.condition i) in u.rest_is (or-to (is_term e) (is_condition e) (sym u.condition_is ∙ and_right (a₁.ok && b₁.ok) j.condition i));
      }
    where
      and-group : (a b c : Bool) → (a && (b && c)) ≡ ((a && b) && c)
      and-group true b c = refl
      and-group false b c = refl
  allowed-is (suc d) (filter p e) t v n k =
      let s = allowed-is d p (put_e e t) v.0 (sub-left (names p) (expression_vars e) N n) (omega arith) in
      let a₁ : Allowed = allowed d κ (put p (put_e e t)) in
      let j : Judged = judged d a₁.rest in
      let just : a₁.ok ≡ true → Just e t j = λ h. subst (λ l. Just e t (judged d l)) (sym (s.rest_is h)) (judged-is d e t v.1 (omega arith)) in
      record {
        ok_is = and_same a₁.ok j.condition (is_condition e) (λ h. (just h).condition_is) ∙ (ap (λ i. i && is_condition e) s.ok_is ∙ and-three (is_countable p) (extends_fresh p) (is_condition e));
        columns-are = λ h. s.columns-are (and_left a₁.ok j.condition h);
        rest_is = λ h. let u = just (and_left a₁.ok j.condition h) in u.rest_is (or-to (is_term e) (is_condition e) (sym u.condition_is ∙ and_right a₁.ok j.condition h));
      }
  allowed-is (suc d) (extend w p e) t v n k =
      let m : Sub (names p ++ expression_vars e) N = sub-rest w (names p ++ expression_vars e) N n in
      let pn : Sub (names p) N = sub-left (names p) (expression_vars e) N m in
      let wn : mem w N ≡ true = n w (mem-here w (names p ++ expression_vars e)) in
      let s = allowed-is d p (put_e e t) v.1 pn (omega arith) in
      let a₁ : Allowed = allowed d κ (put p (put_e e t)) in
      let j : Judged = judged d a₁.rest in
      let just : a₁.ok ≡ true → Just e t j = λ h. subst (λ l. Just e t (judged d l)) (sym (s.rest_is h)) (judged-is d e t v.2 (omega arith)) in
      record {
        ok_is = and_same a₁.ok (j.term && not (any (eqb (κ.name w)) a₁.columns)) (is_term e && not (mem w (scope_of p))) (λ h. ap₂ (λ x y. x && not y) (just h).term_is (ap (any (eqb (κ.name w))) (s.columns-are h) ∙ fresh-any w p wn pn)) ∙ (ap (λ i. i && (is_term e && not (mem w (scope_of p)))) s.ok_is ∙ and-four (is_countable p) (extends_fresh p) (is_term e) (not (mem w (scope_of p))));
        columns-are = λ h. ap (together (κ.name w ∷ [])) (s.columns-are (and_left a₁.ok _ h)) ∙ sym (columns-together κ N inj (w ∷ []) (scope_of p) (λ u i. either (λ z. subst (λ x. mem x N ≡ true) (sym z) wn) (scope-in N p pn u) (mem-cases u w (scope_of p) i)));
        rest_is = λ h. let u = just (and_left a₁.ok _ h) in u.rest_is (or-of (is_term e) (is_condition e) (sym u.term_is ∙ and_left j.term _ (and_right a₁.ok _ h)));
      }
  allowed-is (suc d) (values cs rs) t v n k =
      let b = rows_back rs t in
      record {
        ok_is = refl;
        columns-are = λ h. numbers-once κ N inj [] cs n;
        rest_is = λ h. ap (λ i. drop (or_zero i) (put_rows rs t)) (number-back (length rs) v.1) ∙ b.1;
      }
  allowed-is (suc d) (project cs p) t v n k =
      let s = allowed-is d p t v.1 (sub-right cs (names p) N n) (omega arith) in
      record { ok_is = s.ok_is; columns-are = λ h. numbers-once κ N inj [] cs (sub-left cs (names p) N n); rest_is = s.rest_is }
  allowed-is (suc d) (distinct p) t v n k =
      let s = allowed-is d p t v n (omega arith) in
      record { ok_is = s.ok_is; columns-are = s.columns-are; rest_is = s.rest_is }
  allowed-is (suc d) (path x y z) t v n k = record { ok_is = refl; columns-are = λ h. absurd (false≢true h); rest_is = λ h. absurd (false≢true h) }
  allowed-is (suc d) (graph a p) t v n k = record { ok_is = refl; columns-are = λ h. absurd (false≢true h); rest_is = λ h. absurd (false≢true h) }
  allowed-is (suc d) (orderby p os) t v n k = record { ok_is = refl; columns-are = λ h. absurd (false≢true h); rest_is = λ h. absurd (false≢true h) }
  allowed-is (suc d) (reduced p) t v n k = record { ok_is = refl; columns-are = λ h. absurd (false≢true h); rest_is = λ h. absurd (false≢true h) }
  allowed-is (suc d) (slice a l p) t v n k = record { ok_is = refl; columns-are = λ h. absurd (false≢true h); rest_is = λ h. absurd (false≢true h) }
  allowed-is (suc d) (group ks p rs) t v n k = record { ok_is = refl; columns-are = λ h. absurd (false≢true h); rest_is = λ h. absurd (false≢true h) }
  allowed-is (suc d) (service a f p) t v n k = record { ok_is = refl; columns-are = λ h. absurd (false≢true h); rest_is = λ h. absurd (false≢true h) }
