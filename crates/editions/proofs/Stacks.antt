-- A stack of modifiers is read back; and with it every pattern. Assumes nothing.
use mathlib.Core.Path.{◌≡◌, refl, sym, ◌∙◌, ap, subst}
use mathlib.Core.Bool.{true, ◌&&◌, false≢true}
use mathlib.Core.List.{List, [], ◌∷◌}
use mathlib.Core.Option.{none}
use Prim.Native.Nat.{ℕ, zero, suc, ◌+◌, ◌≤◌, ◌<◌}
use native.Mathlib.Omega.{arith}
use Rattle.text.specs.Text.{Bytes, same}
use Rattle.text.proofs.Basics.{and_left, and_right, deeper}
use Rattle.algebra.specs.Tree.{OR, AND, EQ, SAME, GT, GE, LT, LE, ADD, SUB, MUL, DIV, IN, PLUS, NEG, NOT, IF, COALESCE, Pattern, bgp, path, join, union, minus, leftjoin, filter, graph, extend, values, orderby, project, distinct, reduced, slice, group, service, Expression, term, bound, exists, apply, call, Orders, oend, ocons}
use Rattle.algebra.specs.Valid.{Takes, Valid, ValidE, ValidOs}
use Rattle.editions.specs.Token.{Edition, is11, SELECT, DISTINCT, REDUCED, WHERE, OPEN, CLOSE, RIGHT, Token, key}
use Rattle.editions.specs.Readers.{Got, got, at, expect, ◌>>◌, nonempty}
use Rattle.editions.specs.Grammar.{inside, manner, ordered, limits, select_after, group_in, primary}
use Rattle.editions.specs.Spelling.{spell_vars, spell_p, spell_e, spell_os, spell_slice}
use Rattle.editions.specs.Refusals.{unsayable, first, all_allowed, root, inner, under_slice, under_distinct, under_project}
use Rattle.editions.proofs.Refused.{refusal_p, refusal_e, refusal_os}
use Rattle.editions.proofs.Basics.{impossible, first-none, line_first, deep8}
use Rattle.editions.proofs.Raw.{raw, raw_e, raw_os, cost, cost_e, cost_os}
use Rattle.editions.proofs.Steps.{Rest, ended, closed, cut, Tail, read-term, read-bound, read-exists, orders-end, orders-one, read-unordered, read-ordered, read-select, read-subselect, unlimited, limited}
use Rattle.editions.proofs.Steps as S
use Rattle.editions.proofs.Parts.{one_of, two-of}
use Rattle.editions.proofs.Read.{Knows, whole_back, not_back, same_back, eq-back, and-back, or-back, bgp-back, join-back, union-back, minus-back, filter-back, graph-back, extend-back, values-back, leftjoin-back}

-- ---- DISTINCT, REDUCED or neither

pub data Manner : Type 0 where
  plainly distinctly reducedly : Manner

abbrev pub under : Manner → Pattern → Pattern
under plainly p = p
under distinctly p = distinct p
under reducedly p = reduced p

abbrev pub form : Manner → List Bytes → Pattern → Pattern
form m cs q = under m (project cs q)

abbrev pub marked : Manner → List Token → List Token
marked plainly t = t
marked distinctly t = key DISTINCT ∷ t
marked reducedly t = key REDUCED ∷ t

abbrev pub body : Manner → List Bytes → Pattern → List Token → List Token
body m cs q u = marked m (spell_vars cs (key WHERE ∷ key OPEN ∷ spell_p q (key CLOSE ∷ u)))

pub form-spelled : (m : Manner) (cs : List Bytes) (q : Pattern) (u : List Token) → spell_p (form m cs q) u ≡ key SELECT ∷ body m cs q u
unfolding spell_p
form-spelled plainly cs q u = refl
form-spelled distinctly cs q u = refl
form-spelled reducedly cs q u = refl

pub form-raw : (m : Manner) (cs : List Bytes) (q : Pattern) → under m (project cs (raw q)) ≡ raw (form m cs q)
unfolding raw
form-raw plainly cs q = refl
form-raw distinctly cs q = refl
form-raw reducedly cs q = refl

pub form-cost : (m : Manner) (cs : List Bytes) (q : Pattern) → cost (form m cs q) ≡ 8 + cost q
unfolding cost
form-cost plainly cs q = refl
form-cost distinctly cs q = refl
form-cost reducedly cs q = refl

pub sliced : (a n : Bytes) (t : List Token) → Rest (spell_slice a n t)
unfolding spell_slice
sliced a n t = cut _

module _ (ed : Edition) where
  manner-back : (d : ℕ) (m : Manner) (cs : List Bytes) (t : List Token) → nonempty cs ≡ true → manner ed (inside ed d) (marked m (spell_vars cs t)) ≡ got (under m) (spell_vars cs t)
  unfolding manner at same spell_vars
  manner-back d plainly [] t h = absurd (false≢true h)
  manner-back d plainly (c ∷ cs) t h = refl
  manner-back d distinctly cs t h = refl
  manner-back d reducedly cs t h = refl

  -- ---- ORDER BY

  orders-back : (os : Orders) (d : ℕ) → ((j : ℕ) → j ≤ d → Knows ed j) → ValidOs os → refusal_os ed os ≡ none → cost_os os ≤ d → {u : List Token} → Rest u → (inside ed d).orders (spell_os os u) ≡ got (raw_os os) u
  unfolding inside same spell_os refusal_os first raw_os cost_os ValidOs
  orders-back oend d ih v h c {u} q = deeper 0 d c (λ d. (inside ed d).orders u ≡ got oend u) λ k i. orders-end ed (inside ed k) q
  orders-back (ocons o x os) d ih v h c {u} q =
      let f = first-none (refusal_e ed x) (refusal_os ed os) h in
      deeper (3 + (cost_e x + cost_os os)) d (omega arith) (λ d. ((j : ℕ) → j ≤ d → Knows ed j) → (inside ed d).orders (spell_os (ocons o x os) u) ≡ got (raw_os (ocons o x os)) u) (λ k i.
      deeper (2 + (cost_e x + cost_os os)) k (omega arith) (λ k. ((j : ℕ) → j ≤ suc k → Knows ed j) → (inside ed (suc k)).orders (spell_os (ocons o x os) u) ≡ got (raw_os (ocons o x os)) u) λ l i.
      deeper (1 + (cost_e x + cost_os os)) l (omega arith) (λ k. ((j : ℕ) → j ≤ suc (suc k) → Knows ed j) → (inside ed (suc (suc k))).orders (spell_os (ocons o x os) u) ≡ got (raw_os (ocons o x os)) u) λ m i ih.
      orders-one ed (inside ed (suc (suc m))) o (whole_back ed m (ih (suc m) (omega arith)) x v.0 f.0 (omega arith) RIGHT refl refl refl _) (orders-back os (suc (suc m)) (λ j a. ih j (omega arith)) v.1 f.1 (omega arith) q)) ih

  module _ (d : ℕ) (ih : (j : ℕ) → j ≤ d → Knows ed j) where
    abbrev Ordered : Pattern → Type 0
    Ordered q = Valid q → refusal_p ed q under_project ≡ none → cost q ≤ d → (u : List Token) → Rest u → ordered ed (inside ed d) (spell_p q (key CLOSE ∷ u)) ≡ got (raw q) u

    plain-ordered : (q : Pattern) → refusal_p ed q under_project ≡ refusal_p ed q inner → Ordered q
    plain-ordered q e v h c u r = read-unordered ed (inside ed d) r ((ih d (omega arith)).G q v (sym e ∙ h) c u)

    by-back : (p : Pattern) (os : Orders) → Ordered (orderby p os)
    unfolding spell_p refusal_p first raw cost Valid
    by-back p oend v h c u r = impossible unsayable h
    by-back p (ocons o x os) v h c u r =
        let f = first-none (refusal_p ed p inner) (refusal_os ed (ocons o x os)) h in
        read-ordered ed (inside ed d) ((ih d (omega arith)).G p v.1 f.0 (omega arith) _) (orders-back (ocons o x os) d ih v.2 f.1 (omega arith) r)

    ordered-back : (q : Pattern) → Ordered q
    unfolding refusal_p
    ordered-back (bgp ts) = plain-ordered (bgp ts) refl
    ordered-back (join p q) = plain-ordered (join p q) refl
    ordered-back (leftjoin p q c) = plain-ordered (leftjoin p q c) refl
    ordered-back (filter p e) = plain-ordered (filter p e) refl
    ordered-back (union p q) = plain-ordered (union p q) refl
    ordered-back (graph n p) = plain-ordered (graph n p) refl
    ordered-back (minus p q) = plain-ordered (minus p q) refl
    ordered-back (extend v p e) = plain-ordered (extend v p e) refl
    ordered-back (values cs rs) = plain-ordered (values cs rs) refl
    ordered-back (project cs p) = plain-ordered (project cs p) refl
    ordered-back (distinct p) = plain-ordered (distinct p) refl
    ordered-back (reduced p) = plain-ordered (reduced p) refl
    ordered-back (slice a n p) = plain-ordered (slice a n p) refl
    ordered-back (path s x o) = plain-ordered (path s x o) refl
    ordered-back (group ks p rs) = plain-ordered (group ks p rs) refl
    ordered-back (service n f p) = plain-ordered (service n f p) refl
    ordered-back (orderby p os) = by-back p os

    -- ---- the query

    query-back : (m : Manner) (cs : List Bytes) (q : Pattern) → nonempty cs ≡ true → Valid q → refusal_p ed q under_project ≡ none → cost q ≤ d → {f : Pattern → Pattern} {u t : List Token} → Rest u → limits ed (inside ed d) u ≡ got f t → select_after ed (inside ed d) (body m cs q u) ≡ got (f (raw (form m cs q))) t
    query-back m cs q e v h c {f} {u} {t} r l = read-select ed (inside ed d) (body m cs q u) (spell_p q (key CLOSE ∷ u)) cs (manner-back d m cs _ e) e (ordered-back q v h c u r) l ∙ ap (λ p. got (f p) t) (form-raw m cs q)

  -- ---- which patterns stand in a stack

  projected : (p : Pattern) → Valid p → refusal_p ed p under_distinct ≡ none → (C : Pattern → Type 0) → ((cs : List Bytes) (q : Pattern) → nonempty cs ≡ true → Valid q → refusal_p ed q under_project ≡ none → C (project cs q)) → C p
  unfolding refusal_p first Valid
  projected (project cs q) v h C f = let l = line_first (nonempty cs) (all_allowed cs) (refusal_p ed q under_project) h in f cs q l.0 v.1 l.2
  projected (bgp ts) v h C f = impossible unsayable h
  projected (join p q) v h C f = impossible unsayable h
  projected (leftjoin p q c) v h C f = impossible unsayable h
  projected (filter p e) v h C f = impossible unsayable h
  projected (union p q) v h C f = impossible unsayable h
  projected (graph n p) v h C f = impossible unsayable h
  projected (minus p q) v h C f = impossible unsayable h
  projected (extend y p e) v h C f = impossible unsayable h
  projected (values cs rs) v h C f = impossible unsayable h
  projected (orderby p os) v h C f = impossible unsayable h
  projected (distinct p) v h C f = impossible unsayable h
  projected (reduced p) v h C f = impossible unsayable h
  projected (slice a n p) v h C f = impossible unsayable h
  projected (path s x o) v h C f = impossible unsayable h
  projected (group ks p rs) v h C f = impossible unsayable h
  projected (service n g p) v h C f = impossible unsayable h

  abbrev Formed : (Pattern → Type 0) → Type 0
  Formed C = (m : Manner) (cs : List Bytes) (q : Pattern) → nonempty cs ≡ true → Valid q → refusal_p ed q under_project ≡ none → C (form m cs q)

  formed : (p : Pattern) → Valid p → refusal_p ed p under_slice ≡ none → (C : Pattern → Type 0) → Formed C → C p
  unfolding refusal_p first Valid
  formed (project cs q) v h C f = let l = line_first (nonempty cs) (all_allowed cs) (refusal_p ed q under_project) h in f plainly cs q l.0 v.1 l.2
  formed (distinct p) v h C f = projected p v h (λ p. C (distinct p)) (f distinctly)
  formed (reduced p) v h C f = projected p v h (λ p. C (reduced p)) (f reducedly)
  formed (bgp ts) v h C f = impossible unsayable h
  formed (join p q) v h C f = impossible unsayable h
  formed (leftjoin p q c) v h C f = impossible unsayable h
  formed (filter p e) v h C f = impossible unsayable h
  formed (union p q) v h C f = impossible unsayable h
  formed (graph n p) v h C f = impossible unsayable h
  formed (minus p q) v h C f = impossible unsayable h
  formed (extend y p e) v h C f = impossible unsayable h
  formed (values cs rs) v h C f = impossible unsayable h
  formed (orderby p os) v h C f = impossible unsayable h
  formed (slice a n p) v h C f = impossible unsayable h
  formed (path s x o) v h C f = impossible unsayable h
  formed (group ks p rs) v h C f = impossible unsayable h
  formed (service n g p) v h C f = impossible unsayable h

  -- a whole stack, with a slice or without
  abbrev Sliced : (Pattern → Type 0) → Type 0
  Sliced C = (a n : Bytes) (m : Manner) (cs : List Bytes) (q : Pattern) → nonempty cs ≡ true → Valid q → refusal_p ed q under_project ≡ none → C (slice a n (form m cs q))

  -- ---- as a group

  one-level : (d : ℕ) (s : List Token) (g : Got Pattern) → group_in ed (inside ed d) s ≡ g → (inside ed (suc d)).group s ≡ g
  unfolding inside
  one-level d s g a = a

  -- the same tokens
  over : (d : ℕ) {s u : List Token} {g : Got Pattern} → s ≡ u → (inside ed d).group u ≡ g → (inside ed d).group s ≡ g
  over d {g = g} e a = subst (λ s. (inside ed d).group s ≡ g) (sym e) a

  module _ (k : ℕ) (ih : (j : ℕ) → j ≤ suc (suc (suc (suc (suc (suc (suc k)))))) → Knows ed j) (e : is11 ed ≡ true) where
    abbrev d7 : ℕ
    d7 = suc (suc (suc (suc (suc (suc (suc k))))))

    abbrev Group : Pattern → Type 0
    Group p = cost p ≤ suc d7 → (t : List Token) → (inside ed (suc d7)).group (spell_p p (key CLOSE ∷ t)) ≡ got (raw p) t

    form-group : Formed Group
    form-group m cs q n v h c t = over (suc d7) (form-spelled m cs q (key CLOSE ∷ t)) (one-level d7 _ _ (read-subselect ed (inside ed d7) (body m cs q (key CLOSE ∷ t)) e (query-back d7 ih m cs q n v h (omega (arith, form-cost m cs q)) (closed t) (unlimited ed (inside ed d7) (S.Tail.closed t)))))

    slice-group : Sliced Group
    unfolding spell_p raw cost
    slice-group a b m cs q n v h c t = over (suc d7) (form-spelled m cs q (spell_slice a b (key CLOSE ∷ t))) (one-level d7 _ _ (read-subselect ed (inside ed d7) (body m cs q (spell_slice a b (key CLOSE ∷ t))) e (query-back d7 ih m cs q n v h (omega (arith, form-cost m cs q)) (sliced a b (key CLOSE ∷ t)) (limited ed (inside ed d7) a b (S.Tail.closed t)))))

  -- ---- every pattern and every expression

  module _ (k : ℕ) (ih : (j : ℕ) → j ≤ suc (suc (suc (suc (suc (suc (suc k)))))) → Knows ed j) where
    abbrev pub top : ℕ
    top = suc (suc (suc (suc (suc (suc (suc (suc k)))))))

    pattern-back : (p : Pattern) → Valid p → refusal_p ed p inner ≡ none → cost p ≤ top → (t : List Token) → (inside ed top).group (spell_p p (key CLOSE ∷ t)) ≡ got (raw p) t
    unfolding refusal_p first Valid
    pattern-back (bgp ts) v h = bgp-back ed k ih ts v h
    pattern-back (join p q) v h = join-back ed k ih p q v h
    pattern-back (leftjoin p q c) v h = leftjoin-back ed k ih p q c v h
    pattern-back (filter p e) v h = filter-back ed k ih p e v h
    pattern-back (union p q) v h = union-back ed k ih p q v h
    pattern-back (graph n p) v h = graph-back ed k ih n p v h
    pattern-back (minus p q) v h = minus-back ed k ih p q v h
    pattern-back (extend y p e) v h = extend-back ed k ih y p e v h
    pattern-back (values cs rs) v h = values-back ed k ih cs rs v h
    pattern-back (project cs p) v h = let l = line_first (is11 ed && nonempty cs) (all_allowed cs) (refusal_p ed p under_project) h in form-group k ih (and_left (is11 ed) (nonempty cs) l.0) plainly cs p (and_right (is11 ed) (nonempty cs) l.0) v.1 l.2
    pattern-back (distinct p) v h = let l = line_first (is11 ed) true (refusal_p ed p under_distinct) h in projected p v l.2 (λ p. cost (distinct p) ≤ top → (t : List Token) → (inside ed top).group (spell_p (distinct p) (key CLOSE ∷ t)) ≡ got (raw (distinct p)) t) (form-group k ih l.0 distinctly)
    pattern-back (reduced p) v h = let l = line_first (is11 ed) true (refusal_p ed p under_distinct) h in projected p v l.2 (λ p. cost (reduced p) ≤ top → (t : List Token) → (inside ed top).group (spell_p (reduced p) (key CLOSE ∷ t)) ≡ got (raw (reduced p)) t) (form-group k ih l.0 reducedly)
    pattern-back (slice a n p) v h = let l = line_first (is11 ed) true (refusal_p ed p under_slice) h in formed p v.2 l.2 (λ p. cost (slice a n p) ≤ top → (t : List Token) → (inside ed top).group (spell_p (slice a n p) (key CLOSE ∷ t)) ≡ got (raw (slice a n p)) t) (slice-group k ih l.0 a n)
    pattern-back (orderby p os) v h = impossible unsayable h
    pattern-back (path s x o) v h = impossible unsayable h
    pattern-back (group ks p rs) v h = impossible unsayable h
    pattern-back (service n f p) v h = impossible unsayable h

    abbrev Primary : Expression → Type 0
    Primary x = ValidE x → refusal_e ed x ≡ none → cost_e x ≤ top → (t : List Token) → primary ed (inside ed top) (spell_e x t) ≡ got (raw_e x) t

    exists-back : (p : Pattern) → Primary (exists p)
    unfolding refusal_e first ValidE spell_e raw_e cost_e
    exists-back p v h c t = let l = line_first (is11 ed) true (refusal_p ed p inner) h in read-exists ed (inside ed top) l.0 (pattern-back p v l.2 (omega arith) t)

    expression-back : (x : Expression) → Primary x
    unfolding refusal_e first ValidE spell_e raw_e Takes
    expression-back (term x) v h c t = read-term ed (inside ed top) x t
    expression-back (bound y) v h c t = read-bound ed (inside ed top) y t
    expression-back (exists p) v h c t = exists-back p v h c t
    expression-back (apply OR es) v h c t = two-of es v.0 (λ es. Primary (apply OR es)) (or-back ed k ih) v h c t
    expression-back (apply AND es) v h c t = two-of es v.0 (λ es. Primary (apply AND es)) (and-back ed k ih) v h c t
    expression-back (apply EQ es) v h c t = two-of es v.0 (λ es. Primary (apply EQ es)) (eq-back ed k ih) v h c t
    expression-back (apply SAME es) v h c t = two-of es v.0 (λ es. Primary (apply SAME es)) (same_back ed k ih) v h c t
    expression-back (apply NOT es) v h c t = one_of es v.0 (λ es. Primary (apply NOT es)) (not_back ed k ih) v h c t
    expression-back (apply GT es) v h c t = impossible unsayable h
    expression-back (apply GE es) v h c t = impossible unsayable h
    expression-back (apply LT es) v h c t = impossible unsayable h
    expression-back (apply LE es) v h c t = impossible unsayable h
    expression-back (apply ADD es) v h c t = impossible unsayable h
    expression-back (apply SUB es) v h c t = impossible unsayable h
    expression-back (apply MUL es) v h c t = impossible unsayable h
    expression-back (apply DIV es) v h c t = impossible unsayable h
    expression-back (apply IN es) v h c t = impossible unsayable h
    expression-back (apply PLUS es) v h c t = impossible unsayable h
    expression-back (apply NEG es) v h c t = impossible unsayable h
    expression-back (apply IF es) v h c t = impossible unsayable h
    expression-back (apply COALESCE es) v h c t = impossible unsayable h
    expression-back (call n es) v h c t = impossible unsayable h

  -- a pattern or an expression costs eight at least
  pattern-costs : (p : Pattern) → 8 ≤ cost p
  unfolding cost
  pattern-costs (bgp ts) = omega arith
  pattern-costs (join p q) = omega arith
  pattern-costs (leftjoin p q c) = omega arith
  pattern-costs (filter p e) = omega arith
  pattern-costs (union p q) = omega arith
  pattern-costs (graph n p) = omega arith
  pattern-costs (minus p q) = omega arith
  pattern-costs (extend y p e) = omega arith
  pattern-costs (values cs rs) = omega arith
  pattern-costs (project cs p) = omega arith
  pattern-costs (distinct p) = pattern-costs p
  pattern-costs (reduced p) = pattern-costs p
  pattern-costs (slice a n p) = pattern-costs p
  pattern-costs (orderby p os) = omega arith
  pattern-costs (path s x o) = omega arith
  pattern-costs (group ks p rs) = omega arith
  pattern-costs (service n f p) = omega arith

  expression-costs : (x : Expression) → 8 ≤ cost_e x
  unfolding cost_e
  expression-costs (term x) = omega arith
  expression-costs (bound y) = omega arith
  expression-costs (exists p) = omega arith
  expression-costs (apply o es) = omega arith
  expression-costs (call n es) = omega arith

  knows-next : (d : ℕ) → ((j : ℕ) → j < d → Knows ed j) → Knows ed d
  knows-next d ih = record { G = λ p v h c t. deep8 0 d (omega (arith, pattern-costs p)) (λ d. ((j : ℕ) → j < d → Knows ed j) → cost p ≤ d → (inside ed d).group (spell_p p (key CLOSE ∷ t)) ≡ got (raw p) t) (λ k i ih c. pattern-back k (λ j a. ih j (omega arith)) p v h c t) ih c; X = λ x v h c t. deep8 0 d (omega (arith, expression-costs x)) (λ d. ((j : ℕ) → j < d → Knows ed j) → cost_e x ≤ d → primary ed (inside ed d) (spell_e x t) ≡ got (raw_e x) t) (λ k i ih c. expression-back k (λ j a. ih j (omega arith)) x v h c t) ih c }

  knows-below : (d j : ℕ) → j < d → Knows ed j
  knows-below zero j h = absurd (omega arith)
  knows-below (suc d) j h = knows-next j (λ i a. knows-below d i (omega arith))

  pub knows : (d : ℕ) → Knows ed d
  knows d = knows-below (suc d) d (omega arith)

  -- ---- the root

  abbrev Root : Pattern → Type 0
  Root p = (d : ℕ) → cost p ≤ d → (expect SELECT >> select_after ed (inside ed d)) (spell_p p []) ≡ got (raw p) []

  opened : (d : ℕ) (s : List Token) (g : Got Pattern) → select_after ed (inside ed d) s ≡ g → (expect SELECT >> select_after ed (inside ed d)) (key SELECT ∷ s) ≡ g
  unfolding at same
  opened d s g a = a

  form-root : Formed Root
  form-root m cs q n v h d c = ap (λ s. (expect SELECT >> select_after ed (inside ed d)) s) (form-spelled m cs q []) ∙ opened d _ _ (query-back d (λ j a. knows j) m cs q n v h (omega (arith, form-cost m cs q)) ended (unlimited ed (inside ed d) S.Tail.ended))

  slice-root : Sliced Root
  unfolding spell_p raw cost
  slice-root a b m cs q n v h d c = ap (λ s. (expect SELECT >> select_after ed (inside ed d)) s) (form-spelled m cs q (spell_slice a b [])) ∙ opened d _ _ (query-back d (λ j a. knows j) m cs q n v h (omega (arith, form-cost m cs q)) (sliced a b []) (limited ed (inside ed d) a b S.Tail.ended))

  pub root-back : (p : Pattern) → Valid p → refusal_p ed p root ≡ none → Root p
  unfolding refusal_p first Valid
  root-back (project cs p) v h = let l = line_first (nonempty cs) (all_allowed cs) (refusal_p ed p under_project) h in form-root plainly cs p l.0 v.1 l.2
  root-back (distinct p) v h = projected p v h (λ p. Root (distinct p)) (form-root distinctly)
  root-back (reduced p) v h = projected p v h (λ p. Root (reduced p)) (form-root reducedly)
  root-back (slice a n p) v h = formed p v.2 h (λ p. Root (slice a n p)) (slice-root a n)
  root-back (bgp ts) v h = impossible unsayable h
  root-back (join p q) v h = impossible unsayable h
  root-back (leftjoin p q c) v h = impossible unsayable h
  root-back (filter p e) v h = impossible unsayable h
  root-back (union p q) v h = impossible unsayable h
  root-back (graph n p) v h = impossible unsayable h
  root-back (minus p q) v h = impossible unsayable h
  root-back (extend y p e) v h = impossible unsayable h
  root-back (values cs rs) v h = impossible unsayable h
  root-back (orderby p os) v h = impossible unsayable h
  root-back (path s x o) v h = impossible unsayable h
  root-back (group ks p rs) v h = impossible unsayable h
  root-back (service n f p) v h = impossible unsayable h
