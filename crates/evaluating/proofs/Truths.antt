-- Expressions over a row in numbers are what they are over the row. Assumes nothing.
use mathlib.Core.Path.{◌≡◌, refl, ◌∙◌, ap, ap₂}
use mathlib.Core.Bool.{Bool, true, false, cond, not}
use mathlib.Core.List.{List, [], ◌∷◌, map}
use mathlib.Core.Option.{none, some}
use Prim.Native.Nat.{ℕ, suc}
use lib.Dec.{eqb, eqb-suc-zero, eqb-suc-suc}
use Rattle.text.specs.Text.{Bytes}
use Rattle.text.specs.Field.{is_var}
use Rattle.algebra.specs.Tree.{Expression, term, bound, exists, apply, call, Condition, always, provided, Expressions, eend, econs}
use Rattle.algebra.specs.Valid.{mem}
use Rattle.scoping.specs.ScopedOrHidden.{condition_vars}
use Rattle.scoping.specs.bridge.Sets.{Sub}
use Rattle.scoping.proofs.Basics.{mem-here, mem-variables, sub-left, sub-right}
use Rattle.counting.specs.Row.{Cell, is_bound, Row}
use Rattle.counting.specs.Condition.{Truth, errs, truth, same3, term_of, terms_of, double, Connective, same_term, conjunction, disjunction, negation, outside, connective, word_truth, truth_of, truths_of, is_true, passes, value_in}
use Rattle.counting.specs.Scope.{expression_vars, expressions_vars}
use Rattle.counting.proofs.Every.{Every, done, more}
use Rattle.evaluating.specs.bridge.Numbers.{Numbers, code, expression_constants, expressions_constants, condition_constants, Spells}
use Rattle.evaluating.specs.bridge.Cells.{field_cell, same_in, term_in, terms_in, word_in, truth_in, truths_in, passes_in}
use Rattle.evaluating.proofs.Coded.{Known, Within, term-same, code-bound, not-not}
use Rattle.evaluating.proofs.Within.{spells-left, spells-right, known-term}

module _ (κ : Numbers) where
  same_in_lem : (a b : Cell) → Known κ a → Known κ b → same_in (code κ a) (code κ b) ≡ same3 a b
  same_in_lem none b s t = refl
  same_in_lem (some a) none s t = ap (λ c. cond c errs errs) (eqb-suc-zero (κ.term a))
  same_in_lem (some a) (some b) s t = ap₂ (λ c d. cond c errs (cond d errs (truth (eqb (suc (κ.term a)) (suc (κ.term b)))))) (eqb-suc-zero (κ.term a)) (eqb-suc-zero (κ.term b)) ∙ ap truth (eqb-suc-suc (κ.term a) (κ.term b) ∙ term-same κ a b s t)

  double-same : (cs : List Cell) → Every (Known κ) cs → double same_in (map (code κ) cs) ≡ double same3 cs
  double-same [] h = refl
  double-same (a ∷ []) h = refl
  double-same (a ∷ b ∷ []) (more s (more t h)) = same_in_lem a b s t
  double-same (a ∷ b ∷ c ∷ cs) h = refl

  word-coded : (o : Connective) (cs : List Cell) (ts : List Truth) → Every (Known κ) cs → word_in o (map (code κ) cs) ts ≡ word_truth o cs ts
  word-coded same_term cs ts h = double-same cs h
  word-coded conjunction cs ts h = refl
  word-coded disjunction cs ts h = refl
  word-coded negation cs ts h = refl
  word-coded outside cs ts h = refl

  module _ (N : List Bytes) (r : Row) (within : Within κ r) (ρ : ℕ → ℕ) (reads : (v : Bytes) → mem v N ≡ true → ρ (κ.name v) ≡ code κ (r v)) where
    pub value-coded : (x : Bytes) → (is_var x ≡ true → mem x N ≡ true) → field_cell κ ρ x ≡ code κ (value_in x r)
    unfolding value_in
    value-coded x h = go (is_var x) (λ e. reads x (h e))
      where
        go : (b : Bool) → (b ≡ true → ρ (κ.name x) ≡ code κ (r x)) → cond b (ρ (κ.name x)) (suc (κ.term x)) ≡ code κ (cond b (r x) (some x))
        go true k = k refl
        go false k = refl

    pub term-coded : (e : Expression) → Sub (expression_vars e) N → term_in κ ρ e ≡ code κ (term_of e r)
    unfolding term_in term_of expression_vars
    term-coded (term x) s = value-coded x (λ h. s x (mem-variables x (x ∷ []) h (mem-here x [])))
    term-coded (bound v) s = refl
    term-coded (exists p) s = refl
    term-coded (apply o es) s = refl
    term-coded (call n es) s = refl

    terms-coded : (es : Expressions) → Sub (expressions_vars es) N → terms_in κ ρ es ≡ map (code κ) (terms_of es r)
    unfolding terms_in terms_of expressions_vars
    terms-coded eend s = refl
    terms-coded (econs e es) s = ap₂ ◌∷◌ (term-coded e (sub-left (expression_vars e) (expressions_vars es) N s)) (terms-coded es (sub-right (expression_vars e) (expressions_vars es) N s))

    terms-known : (es : Expressions) → Spells κ (expressions_constants es) → Every (Known κ) (terms_of es r)
    unfolding terms_of expressions_constants
    terms-known eend s = done
    terms-known (econs e es) s = more (known-term κ e r (spells-left κ (expression_constants e) (expressions_constants es) s) within) (terms-known es (spells-right κ (expression_constants e) (expressions_constants es) s))

    mutual
      unfolding truth_in truths_in truth_of truths_of expression_vars expressions_vars expression_constants expressions_constants

      truth-coded : (e : Expression) → Sub (expression_vars e) N → Spells κ (expression_constants e) → truth_in κ ρ e ≡ truth_of e r
      truth-coded (term x) s t = refl
      truth-coded (bound v) s t = ap truth (ap (λ c. not (eqb c 0)) (reads v (s v (mem-here v []))) ∙ (ap not (code-bound κ (r v)) ∙ not-not κ (is_bound (r v))))
      truth-coded (exists p) s t = refl
      truth-coded (apply o es) s t = ap₂ (word_in (connective o)) (terms-coded es s) (truths-coded es s t) ∙ word-coded (connective o) (terms_of es r) (truths_of es r) (terms-known es t)
      truth-coded (call n es) s t = refl

      truths-coded : (es : Expressions) → Sub (expressions_vars es) N → Spells κ (expressions_constants es) → truths_in κ ρ es ≡ truths_of es r
      truths-coded eend s t = refl
      truths-coded (econs e es) s t = ap₂ ◌∷◌ (truth-coded e (sub-left (expression_vars e) (expressions_vars es) N s) (spells-left κ (expression_constants e) (expressions_constants es) t)) (truths-coded es (sub-right (expression_vars e) (expressions_vars es) N s) (spells-right κ (expression_constants e) (expressions_constants es) t))

    pub passes-coded : (c : Condition) → Sub (condition_vars expression_vars c) N → Spells κ (condition_constants c) → passes_in κ ρ c ≡ passes c r
    unfolding passes_in passes condition_vars condition_constants
    passes-coded always s t = refl
    passes-coded (provided e) s t = ap is_true (truth-coded e s t)
