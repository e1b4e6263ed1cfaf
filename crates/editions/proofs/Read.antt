-- A pattern's and an expression's spelling is read back, by induction on the productions that may be opened. Assumes nothing.
use mathlib.Core.Path.{◌≡◌, refl, ◌∙◌}
use mathlib.Core.Bool.{true, false, not, ◌&&◌}
use mathlib.Core.List.{List, [], ◌∷◌}
use mathlib.Core.Option.{none}
use Prim.Native.Nat.{ℕ, suc, ◌≤◌}
use native.Mathlib.Omega.{arith}
use lib.ListN.{length}
use Rattle.text.specs.Text.{Bytes, same}
use Rattle.text.proofs.Basics.{and_left, and_right, and_both}
use Rattle.algebra.specs.Tree.{Triple, OR, AND, EQ, SAME, NOT, Pattern, bgp, join, union, minus, leftjoin, filter, graph, extend, values, group, Expression, apply, Condition, always, provided, eend, econs}
use Rattle.algebra.specs.Valid.{Valid, ValidE, mem, different}
use Rattle.scoping.specs.InScope.{in_scope}
use Rattle.editions.specs.Token.{Edition, is11, Keyword, SELECT, OPTIONAL, FILTER, GRAPH, MINUS, BIND, AS, VALUES, OPEN, CLOSE, RIGHT, COMMA, EQUALS, BOTH, EITHER, Token, key}
use Rattle.editions.specs.Translation.{elements, filters_of, translated}
use Rattle.editions.specs.Readers.{got, is_key, wide}
use Rattle.editions.specs.Grammar.{primary, relational, inside}
use Rattle.editions.specs.Spelling.{term_of, spell_triples, spell_p, spell_e}
use Rattle.editions.specs.Refusals.{first, allowed, inner}
use Rattle.editions.proofs.Refused.{refusal_p, refusal_e}
use Rattle.editions.proofs.Basics.{first-none, line_first, not-true}
use Rattle.editions.proofs.Raw.{raw, raw_e, cost, cost_e}
use Rattle.editions.proofs.Pieces.{no_key}
use Rattle.editions.proofs.Steps.{read-brackets, read_same, read-not, read-unary, read-lone, read-eq, ands-end, ands-one, ors-end, ors-one, read-expression, unions-end, unions-one, elements-end, read-group, read-optional, read-filter, read-graph, read-minus, read-bind, read-values, read-elements}
use Rattle.editions.proofs.Parts.{triples-back, triples-translated, rows_back, rows-wide, bind-translated}

-- with d productions to open, every pattern and expression that costs no more is read back
pub record Knows (ed : Edition) (d : ℕ) : Type 0 where
  pub G : (p : Pattern) → Valid p → refusal_p ed p inner ≡ none → cost p ≤ d → (t : List Token) → (inside ed d).group (spell_p p (key CLOSE ∷ t)) ≡ got (raw p) t
  pub X : (x : Expression) → ValidE x → refusal_e ed x ≡ none → cost_e x ≤ d → (t : List Token) → primary ed (inside ed d) (spell_e x t) ≡ got (raw_e x) t

module _ (ed : Edition) (d : ℕ) (w : Knows ed d) (x : Expression) (v : ValidE x) (h : refusal_e ed x ≡ none) (n : cost_e x ≤ d) where
  -- an operand
  pub operand : (k : Keyword) → is_key EQUALS (key k) ≡ false → (t : List Token) → relational ed (inside ed d) (spell_e x (key k ∷ t)) ≡ got (raw_e x) (key k ∷ t)
  operand k e t = read-lone ed (inside ed d) (spell_e x (key k ∷ t)) k e (read-unary ed (inside ed d) x (key k ∷ t) h ∙ w.X x v h n (key k ∷ t))

-- an expression, with a token behind it that goes on with none
pub whole_back : (ed : Edition) (d : ℕ) → Knows ed (suc d) → (x : Expression) → ValidE x → refusal_e ed x ≡ none → cost_e x ≤ suc d → (k : Keyword) → is_key EQUALS (key k) ≡ false → is_key BOTH (key k) ≡ false → is_key EITHER (key k) ≡ false → (t : List Token) → (inside ed (suc (suc d))).expression (spell_e x (key k ∷ t)) ≡ got (raw_e x) (key k ∷ t)
unfolding inside
whole_back ed d w x v h n k a b c t = read-expression ed (inside ed (suc d)) (spell_e x (key k ∷ t)) (operand ed (suc d) w x v h n k a t) (ands-end ed (inside ed d) (raw_e x) t k b) (ors-end ed (inside ed d) (raw_e x) t k c)

module _ (ed : Edition) (k : ℕ) (ih : (j : ℕ) → j ≤ suc (suc (suc (suc (suc (suc (suc k)))))) → Knows ed j) where
  abbrev pub d2 : ℕ
  d2 = suc (suc k)

  abbrev pub d3 : ℕ
  d3 = suc d2

  abbrev pub d4 : ℕ
  d4 = suc d3

  abbrev pub d5 : ℕ
  d5 = suc d4

  abbrev pub d6 : ℕ
  d6 = suc d5

  abbrev pub d7 : ℕ
  d7 = suc d6

  -- ---- expressions

  abbrev pub BackE : Expression → Type 0
  BackE x = ValidE x → refusal_e ed x ≡ none → cost_e x ≤ suc d7 → (t : List Token) → primary ed (inside ed (suc d7)) (spell_e x t) ≡ got (raw_e x) t

  pub not_back : (a : Expression) → BackE (apply NOT (econs a eend))
  unfolding same inside spell_e refusal_e first raw_e cost_e ValidE
  not_back a v h c t =
      let f = first-none (refusal_e ed a) none h in
      let w = ih d7 (omega arith) in
      read-brackets ed (inside ed (suc d7)) (read-expression ed (inside ed d7) _ (read-lone ed (inside ed d7) _ RIGHT refl (read-not ed (inside ed d7) _ (w.X a v.1.0 f.0 (omega arith) (key RIGHT ∷ t)))) (ands-end ed (inside ed d6) _ t RIGHT refl) (ors-end ed (inside ed d6) _ t RIGHT refl))

  pub same_back : (a b : Expression) → BackE (apply SAME (econs a (econs b eend)))
  unfolding same spell_e refusal_e first raw_e cost_e ValidE
  same_back a b v h c t =
      let f = first-none (refusal_e ed a) _ h in
      let g = first-none (refusal_e ed b) none f.1 in
      let w = ih d7 (omega arith) in
      read_same ed (inside ed (suc d7)) (whole_back ed d6 w a v.1.0 f.0 (omega arith) COMMA refl refl refl _) (whole_back ed d6 w b v.1.1.0 g.0 (omega arith) RIGHT refl refl refl t)

  pub eq-back : (a b : Expression) → BackE (apply EQ (econs a (econs b eend)))
  unfolding same inside spell_e refusal_e first raw_e cost_e ValidE
  eq-back a b v h c t =
      let f = first-none (refusal_e ed a) _ h in
      let g = first-none (refusal_e ed b) none f.1 in
      let w = ih d7 (omega arith) in
      read-brackets ed (inside ed (suc d7)) (read-expression ed (inside ed d7) _ (read-eq ed (inside ed d7) _ (read-unary ed (inside ed d7) a _ f.0 ∙ w.X a v.1.0 f.0 (omega arith) _) (read-unary ed (inside ed d7) b _ g.0 ∙ w.X b v.1.1.0 g.0 (omega arith) (key RIGHT ∷ t))) (ands-end ed (inside ed d6) _ t RIGHT refl) (ors-end ed (inside ed d6) _ t RIGHT refl))

  pub and-back : (a b : Expression) → BackE (apply AND (econs a (econs b eend)))
  unfolding same inside spell_e refusal_e first raw_e cost_e ValidE
  and-back a b v h c t =
      let f = first-none (refusal_e ed a) _ h in
      let g = first-none (refusal_e ed b) none f.1 in
      read-brackets ed (inside ed (suc d7)) (read-expression ed (inside ed d7) _ (operand ed d7 (ih d7 (omega arith)) a v.1.0 f.0 (omega arith) BOTH refl _) (ands-one ed (inside ed d6) _ (operand ed d6 (ih d6 (omega arith)) b v.1.1.0 g.0 (omega arith) RIGHT refl t) (ands-end ed (inside ed d5) _ t RIGHT refl)) (ors-end ed (inside ed d6) _ t RIGHT refl))

  pub or-back : (a b : Expression) → BackE (apply OR (econs a (econs b eend)))
  unfolding same inside spell_e refusal_e first raw_e cost_e ValidE
  or-back a b v h c t =
      let f = first-none (refusal_e ed a) _ h in
      let g = first-none (refusal_e ed b) none f.1 in
      read-brackets ed (inside ed (suc d7)) (read-expression ed (inside ed d7) _ (operand ed d7 (ih d7 (omega arith)) a v.1.0 f.0 (omega arith) EITHER refl _) (ands-end ed (inside ed d6) _ _ EITHER refl) (ors-one ed (inside ed d6) _ (operand ed d6 (ih d6 (omega arith)) b v.1.1.0 g.0 (omega arith) RIGHT refl t) (ands-end ed (inside ed d5) _ t RIGHT refl) (ors-end ed (inside ed d5) _ t RIGHT refl)))

  -- ---- patterns

  abbrev pub Back : Pattern → Type 0
  Back p = Valid p → refusal_p ed p inner ≡ none → cost p ≤ suc d7 → (t : List Token) → (inside ed (suc d7)).group (spell_p p (key CLOSE ∷ t)) ≡ got (raw p) t

  pub bgp-back : (ts : List Triple) → Back (bgp ts)
  unfolding same inside spell_p spell_triples refusal_p first raw cost Valid
  bgp-back [] v h c t = read-elements ed (inside ed d7) (key CLOSE) refl (triples-back ed [] d7 t v.1 (omega arith)) (triples-translated [])
  bgp-back (x ∷ xs) v h c t = read-elements ed (inside ed d7) (term_of x.subj) (no_key SELECT x.subj) (triples-back ed (x ∷ xs) d7 t v.1 (omega arith)) (triples-translated (x ∷ xs))

  pub join-back : (p q : Pattern) → Back (join p q)
  unfolding same inside spell_p refusal_p first raw cost Valid translated elements filters_of
  join-back p q v h c t =
      let f = first-none (refusal_p ed p inner) (refusal_p ed q inner) h in
      read-elements ed (inside ed d7) (key OPEN) refl (read-group ed (inside ed d6) ((ih d6 (omega arith)).G p v.0 f.0 (omega arith) _) (unions-end ed (inside ed d5) (raw p) _ OPEN refl) (read-group ed (inside ed d5) ((ih d5 (omega arith)).G q v.1 f.1 (omega arith) _) (unions-end ed (inside ed d4) (raw q) _ CLOSE refl) (elements-end ed (inside ed d4) t))) refl

  pub union-back : (p q : Pattern) → Back (union p q)
  unfolding same inside spell_p refusal_p first raw cost Valid translated elements filters_of
  union-back p q v h c t =
      let f = first-none (refusal_p ed p inner) (refusal_p ed q inner) h in
      read-elements ed (inside ed d7) (key OPEN) refl (read-group ed (inside ed d6) ((ih d6 (omega arith)).G p v.0 f.0 (omega arith) _) (unions-one ed (inside ed d5) ((ih d5 (omega arith)).G q v.1 f.1 (omega arith) _) (unions-end ed (inside ed d4) (union (raw p) (raw q)) _ CLOSE refl)) (elements-end ed (inside ed d5) t)) refl

  pub minus-back : (p q : Pattern) → Back (minus p q)
  unfolding same inside spell_p refusal_p first raw cost Valid translated elements filters_of
  minus-back p q v h c t =
      let l = line_first (is11 ed) true _ h in
      let f = first-none (refusal_p ed p inner) (refusal_p ed q inner) l.2 in
      read-elements ed (inside ed d7) (key OPEN) refl (read-group ed (inside ed d6) ((ih d6 (omega arith)).G p v.0 f.0 (omega arith) _) (unions-end ed (inside ed d5) (raw p) _ MINUS refl) (read-minus ed (inside ed d5) l.0 ((ih d5 (omega arith)).G q v.1 f.1 (omega arith) _) (elements-end ed (inside ed d4) t))) refl

  pub filter-back : (p : Pattern) (x : Expression) → Back (filter p x)
  unfolding same inside spell_p refusal_p first raw cost Valid translated elements filters_of
  filter-back p x v h c t =
      let f = first-none (refusal_p ed p inner) (refusal_e ed x) h in
      read-elements ed (inside ed d7) (key OPEN) refl (read-group ed (inside ed d6) ((ih d6 (omega arith)).G p v.0 f.0 (omega arith) _) (unions-end ed (inside ed d5) (raw p) _ FILTER refl) (read-filter ed (inside ed d5) (whole_back ed d3 (ih d4 (omega arith)) x v.1 f.1 (omega arith) RIGHT refl refl refl _) (elements-end ed (inside ed d4) t))) refl

  pub graph-back : (n : Bytes) (p : Pattern) → Back (graph n p)
  unfolding same inside spell_p refusal_p first raw cost Valid translated elements filters_of
  graph-back n p v h c t =
      let l = line_first true (allowed n) _ h in
      read-elements ed (inside ed d7) (key GRAPH) refl (read-graph ed (inside ed d6) n v.0 ((ih d6 (omega arith)).G p v.1 l.2 (omega arith) _) (elements-end ed (inside ed d5) t)) refl

  pub extend-back : (y : Bytes) (p : Pattern) (x : Expression) → Back (extend y p x)
  unfolding same inside spell_p refusal_p first raw cost Valid
  extend-back y p x v h c t =
      let l = line_first (is11 ed && not (mem y (in_scope p))) _ _ h in
      let f = first-none (refusal_p ed p inner) (refusal_e ed x) l.2 in
      let e = and_left (is11 ed) (not (mem y (in_scope p))) l.0 in
      let o = not-true (mem y (in_scope p)) (and_right (is11 ed) (not (mem y (in_scope p))) l.0) in
      read-elements ed (inside ed d7) (key OPEN) refl (read-group ed (inside ed d6) ((ih d6 (omega arith)).G p v.1 f.0 (omega arith) _) (unions-end ed (inside ed d5) (raw p) _ BIND refl) (read-bind ed (inside ed d5) y e (whole_back ed d3 (ih d4 (omega arith)) x v.2 f.1 (omega arith) AS refl refl refl _) (elements-end ed (inside ed d4) t))) (bind-translated y p (raw_e x) o)

  pub values-back : (cs : List Bytes) (rs : List (List Bytes)) → Back (values cs rs)
  unfolding same inside spell_p refusal_p first raw cost Valid translated elements filters_of
  values-back cs rs v h c t =
      let l = line_first (is11 ed && different cs) true _ h in
      let e = and_left (is11 ed) (different cs) l.0 in
      let a = and_right (is11 ed) (different cs) l.0 in
      read-elements ed (inside ed d7) (key VALUES) refl (read-values ed (inside ed d6) cs e (and_both (different cs) (wide (length cs) rs) a (rows-wide (length cs) rs v.3)) (rows_back ed rs d6 (key CLOSE ∷ t) (omega arith)) (elements-end ed (inside ed d5) t)) refl

  pub leftjoin-back : (p q : Pattern) (b : Condition) → Back (leftjoin p q b)
  unfolding same inside spell_p refusal_p first raw cost Valid translated elements filters_of
  leftjoin-back p q always v h c t =
      let f = first-none (refusal_p ed p inner) _ h in
      let g = first-none (refusal_p ed q inner) _ f.1 in
      read-elements ed (inside ed d7) (key OPEN) refl (read-group ed (inside ed d6) ((ih d6 (omega arith)).G p v.0 f.0 (omega arith) _) (unions-end ed (inside ed d5) (raw p) _ OPTIONAL refl) (read-optional ed (inside ed d5) (read-elements ed (inside ed d4) (key OPEN) refl (read-group ed (inside ed d3) ((ih d3 (omega arith)).G q v.1 g.0 (omega arith) _) (unions-end ed (inside ed d2) (raw q) _ CLOSE refl) (elements-end ed (inside ed d2) _)) refl) (elements-end ed (inside ed d4) t))) refl
  leftjoin-back p q (provided x) v h c t =
      let f = first-none (refusal_p ed p inner) _ h in
      let g = first-none (refusal_p ed q inner) _ f.1 in
      read-elements ed (inside ed d7) (key OPEN) refl (read-group ed (inside ed d6) ((ih d6 (omega arith)).G p v.0 f.0 (omega arith) _) (unions-end ed (inside ed d5) (raw p) _ OPTIONAL refl) (read-optional ed (inside ed d5) (read-elements ed (inside ed d4) (key OPEN) refl (read-group ed (inside ed d3) ((ih d3 (omega arith)).G q v.1 g.0 (omega arith) _) (unions-end ed (inside ed d2) (raw q) _ FILTER refl) (read-filter ed (inside ed d2) (whole_back ed k (ih (suc k) (omega arith)) x v.2 g.1 (omega arith) RIGHT refl refl refl _) (elements-end ed (inside ed (suc k)) _))) refl) (elements-end ed (inside ed d4) t))) refl
