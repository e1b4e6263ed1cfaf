-- What a tree's lines allow is what the tree allows. Assumes nothing.
use mathlib.Core.Path.{◌≡◌, refl, sym, ◌∙◌, ap, subst}
use mathlib.Core.Bool.{Bool, true, false, ◌&&◌, ◌||◌, false≢true}
use mathlib.Core.List.{List}
use mathlib.Core.Option.{Option}
use Prim.Native.Nat.{ℕ, zero, suc, ◌≤◌}
use native.Mathlib.Omega.{arith}
use Rattle.text.specs.Text.{Line}
use Rattle.text.proofs.Basics.{and_left, and_right}
use Rattle.algebra.specs.Tree.{Op, OR, AND, EQ, SAME, GT, GE, LT, LE, ADD, SUB, MUL, DIV, IN, PLUS, NEG, NOT, IF, COALESCE, Expression, term, bound, exists, apply, call, Expressions, eend, econs}
use Rattle.algebra.specs.Tree as Tree
use Rattle.algebra.specs.Layout.{put_e, put_es}
use Rattle.algebra.specs.Depth.{depth_e, depth_es}
use Rattle.algebra.specs.Valid.{ValidE, ValidEs, Takes}
use Rattle.algebra.specs.Word.{ExpressionWord, arity}
use Rattle.counting.specs.Condition.{Connective, same_term, conjunction, disjunction, negation, outside, connective}
use Rattle.counting.specs.Countable.{is_term, all_terms, word_counts, is_condition, are_conditions}
use Rattle.evaluating.specs.bridge.Allowed.{Judged, judged_word, judged_by, judged}
use Rattle.evaluating.proofs.Walked.{word-found}

-- how many children a connective has
abbrev kids : Connective → ℕ → Type 0
kids same_term n = n ≡ 2
kids conjunction n = n ≡ 2
kids disjunction n = n ≡ 2
kids negation n = n ≡ 1
kids outside n = Unit {0}

takes_kids : (o : Op) (n : ℕ) → Takes (arity o) n → kids (connective o) n
unfolding Takes
takes_kids OR n h = h
takes_kids AND n h = h
takes_kids EQ n h = tt
takes_kids SAME n h = h
takes_kids GT n h = tt
takes_kids GE n h = tt
takes_kids LT n h = tt
takes_kids LE n h = tt
takes_kids ADD n h = tt
takes_kids SUB n h = tt
takes_kids MUL n h = tt
takes_kids DIV n h = tt
takes_kids IN n h = tt
takes_kids PLUS n h = tt
takes_kids NEG n h = tt
takes_kids NOT n h = h
takes_kids IF n h = tt
takes_kids COALESCE n h = tt

-- what is judged of an expression in front of the lines t
pub record Just (e : Expression) (t : List Line) (j : Judged) : Type 0 where
  pub term_is : j.term ≡ is_term e
  pub condition_is : j.condition ≡ is_condition e
  pub rest_is : (is_term e || is_condition e) ≡ true → j.rest ≡ t

abbrev Judges : ℕ → Type 0
Judges d = (e : Expression) (t : List Line) → ValidE e → depth_e e ≤ d → Just e t (judged d (put_e e t))

pub and_same : (a b c : Bool) → (a ≡ true → b ≡ c) → (a && b) ≡ (a && c)
and_same true b c h = h refl
and_same false b c h = refl

pub or-of : (a b : Bool) → a ≡ true → (a || b) ≡ true
or-of true b e = refl
or-of false b e = absurd (false≢true e)

pub or-to : (a b : Bool) → b ≡ true → (a || b) ≡ true
or-to true b e = refl
or-to false b e = e

pub and-true : (b : Bool) → (b && true) ≡ b
and-true true = refl
and-true false = refl

-- two children, one after the other
record Both (f : Judged → Bool) (h : Expression → Bool) : Type 0 where
  same_test : (e : Expression) (t : List Line) (j : Judged) → Just e t j → f j ≡ h e
  fine : (e : Expression) → h e ≡ true → (is_term e || is_condition e) ≡ true

terms-both : Both (λ j. j.term) is_term
terms-both = record { same_test = λ e t j k. k.term_is; fine = λ e k. or-of (is_term e) (is_condition e) k }

conditions-both : Both (λ j. j.condition) is_condition
conditions-both = record { same_test = λ e t j k. k.condition_is; fine = λ e k. or-to (is_term e) (is_condition e) k }

module _ (d : ℕ) (ih : Judges d) (f : Judged → Bool) (h : Expression → Bool) (b : Both f h) (x y : Expression) (t : List Line) (vx : ValidE x) (vy : ValidE y) (dx : depth_e x ≤ d) (dy : depth_e y ≤ d) where
  abbrev jx : Judged
  jx = judged d (put_e x (put_e y t))

  first : f jx ≡ h x
  first = b.same_test x (put_e y t) jx (ih x (put_e y t) vx dx)

  behind : h x ≡ true → jx.rest ≡ put_e y t
  behind e = (ih x (put_e y t) vx dx).rest_is (b.fine x e)

  both-test : (f jx && f (judged d jx.rest)) ≡ (h x && (h y && true))
  both-test = ap (λ z. z && f (judged d jx.rest)) first ∙ and_same (h x) _ _ (λ e. ap (λ l. f (judged d l)) (behind e) ∙ (b.same_test y t (judged d (put_e y t)) (ih y t vy dy) ∙ sym (and-true (h y))))

  both_rest : (h x && (h y && true)) ≡ true → (judged d jx.rest).rest ≡ t
  both_rest e = ap (λ l. (judged d l).rest) (behind (and_left (h x) _ e)) ∙ (ih y t vy dy).rest_is (b.fine y (and_left (h y) true (and_right (h x) _ e)))

-- a word, its condition and its rest
record Worded (c : Connective) (es : Expressions) (t : List Line) (j : Judged) : Type 0 where
  word_term : j.term ≡ false
  word_condition : j.condition ≡ word_counts c (Tree.ecount es) (all_terms es) (are_conditions es)
  word_rest : word_counts c (Tree.ecount es) (all_terms es) (are_conditions es) ≡ true → j.rest ≡ t

worded : (d : ℕ) → Judges d → (c : Connective) (es : Expressions) (t : List Line) → kids c (Tree.ecount es) → ValidEs es → depth_es es ≤ d → Worded c es t (judged_word c (judged d) (put_es es t))
unfolding put_es are_conditions depth_es ValidEs
worded d ih same_term eend t k v h = absurd (omega arith)
worded d ih same_term (econs a eend) t k v h = absurd (omega arith)
worded d ih same_term (econs a (econs b eend)) t k v h = record { word_term = refl; word_condition = both-test d ih _ is_term terms-both a b t v.0 v.1.0 (omega arith) (omega arith); word_rest = both_rest d ih _ is_term terms-both a b t v.0 v.1.0 (omega arith) (omega arith) }
worded d ih same_term (econs a (econs b (econs e es))) t k v h = absurd (omega arith)
worded d ih conjunction eend t k v h = absurd (omega arith)
worded d ih conjunction (econs a eend) t k v h = absurd (omega arith)
worded d ih conjunction (econs a (econs b eend)) t k v h = record { word_term = refl; word_condition = both-test d ih _ is_condition conditions-both a b t v.0 v.1.0 (omega arith) (omega arith); word_rest = both_rest d ih _ is_condition conditions-both a b t v.0 v.1.0 (omega arith) (omega arith) }
worded d ih conjunction (econs a (econs b (econs e es))) t k v h = absurd (omega arith)
worded d ih disjunction eend t k v h = absurd (omega arith)
worded d ih disjunction (econs a eend) t k v h = absurd (omega arith)
worded d ih disjunction (econs a (econs b eend)) t k v h = record { word_term = refl; word_condition = both-test d ih _ is_condition conditions-both a b t v.0 v.1.0 (omega arith) (omega arith); word_rest = both_rest d ih _ is_condition conditions-both a b t v.0 v.1.0 (omega arith) (omega arith) }
worded d ih disjunction (econs a (econs b (econs e es))) t k v h = absurd (omega arith)
worded d ih negation eend t k v h = absurd (omega arith)
worded d ih negation (econs a eend) t k v h =
    let j = ih a t v.0 (omega arith) in
    record { word_term = refl; word_condition = j.condition_is ∙ sym (and-true (is_condition a)); word_rest = λ e. j.rest_is (or-to (is_term a) (is_condition a) (and_left (is_condition a) true e)) }
worded d ih negation (econs a (econs b es)) t k v h = absurd (omega arith)
worded d ih outside es t k v h = record { word_term = refl; word_condition = refl; word_rest = λ e. absurd (false≢true e) }

pub judged-is : (d : ℕ) → Judges d
unfolding judged put_e is_condition depth_e ValidE
judged-is zero (term x) t v k = absurd (omega arith)
judged-is zero (bound w) t v k = absurd (omega arith)
judged-is zero (exists p) t v k = absurd (omega arith)
judged-is zero (apply o es) t v k = absurd (omega arith)
judged-is zero (call n es) t v k = absurd (omega arith)
judged-is (suc d) (term x) t v k = record { term_is = refl; condition_is = refl; rest_is = λ e. refl }
judged-is (suc d) (bound w) t v k = record { term_is = refl; condition_is = refl; rest_is = λ e. refl }
judged-is (suc d) (exists p) t v k = record { term_is = refl; condition_is = refl; rest_is = λ e. absurd (false≢true e) }
judged-is (suc d) (apply o es) t v k =
    let w = worded d (judged-is d) (connective o) es t (takes_kids o (Tree.ecount es) v.0) v.1 (omega arith) in
    subst (λ (x : Option ExpressionWord). Just (apply o es) t (judged_by (judged d) x (put_es es t))) (sym (word-found o)) (record { term_is = w.word_term; condition_is = w.word_condition; rest_is = w.word_rest })
judged-is (suc d) (call n es) t v k = record { term_is = refl; condition_is = refl; rest_is = λ e. absurd (false≢true e) }
