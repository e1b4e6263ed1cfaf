-- The machine goes as the reader: patterns and expressions, word by word, and so trees. Assumes nothing.
use mathlib.Core.Path.{refl}
use mathlib.Core.Bool.{cond}
use mathlib.Core.List.{[], ◌∷◌, ◌++◌}
use Prim.Native.Nat.{ℕ, zero, suc, ◌+◌, pred, ◌≤◌}
use native.Mathlib.Omega.{arith}
use lib.ListN.{replicate}
use Rattle.text.specs.Word.{bytes}
use Rattle.text.specs.Field.{cell}
use Rattle.algebra.specs.Tree.{Op, apply, Pattern, Expression}
use Rattle.algebra.specs.Word.{PatternWord, BGP, PATH, JOIN, UNION, MINUS, LEFTJOIN, FILTER, GRAPH, EXTEND, VALUES, ORDERBY, PROJECT, DISTINCT, REDUCED, SLICE, GROUP, SERVICE, ExpressionWord, TERM, BOUND, EXISTS, CALL, OP, spell_p, spell_e, pattern_words, expression_words, Arity, exactly, counted, arity}
use Rattle.algebra.specs.Tally.{Limits, Tally, noted}
use Rattle.algebra.specs.Reader.{got, next, times, close_at}
use Rattle.algebra.specs.Reading.{taken, expressions as someExpressions, condition, triple, columns as columnsLine, listed, orders as someOrders, aggregates as someAggregates, pattern_after, expression_after, pattern_in, expression_in, inside, tree}
use Rattle.algebra.specs.bridge.Table.{triples, columns, patterns, expressions, rows, orders, aggregates, pattern_row, arity_row, expression_row}
use Rattle.algebra.specs.bridge.Machine.{Want, want, line_by, line_of, run}
use Rattle.algebra.proofs.Local.{local, one_local, one-nil, rest-local, counted-line, word_line, closes}
use Rattle.algebra.proofs.AgreeLines.{Runs, Same, follow, times-runs, triple-runs, cols-runs, row-runs, expressions-runs, condition-runs, orders-runs, aggregates-runs}

module _ (β : Limits) where
  -- what is left to read after a word, where d levels may still be opened
  module _ (d : ℕ) (kp : 1 ≤ d → (w : ℕ) → Runs β (want patterns (pred d) w ∷ []) (inside β d).pattern) (ke : 1 ≤ d → (w : ℕ) → Runs β (want expressions (pred d) w ∷ []) (inside β d).expression) where
    abbrev P : ℕ → Want
    P w = want patterns (pred d) w

    abbrev E : ℕ → Want
    E w = want expressions (pred d) w

    -- one pattern, two patterns, a pattern and an expression
    one-pattern : (c : Tally → Tally) (w : ℕ) (f : Pattern → Pattern) → Same β (λ s m. next (close_at β d c s m) (λ u s n. got (P w ∷ []) s n)) (λ s m. next ((inside β d).close c s m) (λ u s n. next ((inside β d).pattern s n) (λ p s n. got (f p) s n)))
    one-pattern c w f l ls m ρ ws =
        closes β d c _ _ _ _ l ls m λ h t.
        follow β (P w ∷ []) ws ws (inside β d).pattern _ ls t ρ (kp h w) λ p t n. refl

    two-patterns : (c : Tally → Tally) (f : Pattern → Pattern → Pattern) → Same β (λ s m. next (close_at β d c s m) (λ u s n. got (P 0 ∷ P 0 ∷ []) s n)) (λ s m. next ((inside β d).close c s m) (λ u s n. next ((inside β d).pattern s n) (λ p s n. next ((inside β d).pattern s n) (λ q s n. got (f p q) s n))))
    two-patterns c f l ls m ρ ws =
        closes β d c _ _ _ _ l ls m λ h t.
        follow β (P 0 ∷ []) (P 0 ∷ ws) ws (inside β d).pattern _ ls t ρ (kp h 0) λ p t n.
        follow β (P 0 ∷ []) ws ws (inside β d).pattern _ t n ρ (kp h 0) λ q t n. refl

    with-expression : (c : Tally → Tally) (f : Pattern → Expression → Pattern) → Same β (λ s m. next (close_at β d c s m) (λ u s n. got (P 0 ∷ E 0 ∷ []) s n)) (λ s m. next ((inside β d).close c s m) (λ u s n. next ((inside β d).pattern s n) (λ p s n. next ((inside β d).expression s n) (λ q s n. got (f p q) s n))))
    with-expression c f l ls m ρ ws =
        closes β d c _ _ _ _ l ls m λ h t.
        follow β (P 0 ∷ []) (E 0 ∷ ws) ws (inside β d).pattern _ ls t ρ (kp h 0) λ p t n.
        follow β (E 0 ∷ []) ws ws (inside β d).expression _ t n ρ (ke h 0) λ q t n. refl

    pattern-same : (v : PatternWord) (w : ℕ) → Same β (line_by (close_at β d) (pred d) w (pattern_row v)) (pattern_after β (inside β d) v)
    unfolding pattern_after
    pattern-same BGP w l ls m ρ ws =
        local _ _ _ _ _ (one_local _ _ _) λ n x0.
        closes β d _ _ _ _ _ _ _ _ λ h t.
        follow β (replicate n (want triples (pred d) n)) ws ws (times n (triple β)) _ ls t ρ (times-runs β (want triples (pred d) n) (triple β) (triple-runs β (pred d) n) n) λ p t n. refl
    pattern-same PATH w l ls m ρ ws =
        local _ _ _ _ _ (one_local _ _ _) λ s x0.
        local _ _ _ _ _ (one_local _ _ _) λ x x1.
        local _ _ _ _ _ (one_local _ _ _) λ o x2.
        closes β d _ _ _ _ _ _ _ _ λ h t. refl
    pattern-same JOIN w l ls m ρ ws = two-patterns _ _ l ls m ρ ws
    pattern-same UNION w l ls m ρ ws = two-patterns _ _ l ls m ρ ws
    pattern-same MINUS w l ls m ρ ws = two-patterns _ _ l ls m ρ ws
    pattern-same LEFTJOIN w l ls m ρ ws =
        local _ _ _ _ _ (one_local _ _ _) λ b x0.
        closes β d _ _ _ _ _ _ _ _ λ h t.
        follow β (P (cond b 1 0) ∷ []) (P (cond b 1 0) ∷ (replicate (cond b 1 0) (E (cond b 1 0)) ++ ws)) ws (inside β d).pattern _ ls t ρ (kp h (cond b 1 0)) λ p t n.
        follow β (P (cond b 1 0) ∷ []) (replicate (cond b 1 0) (E (cond b 1 0)) ++ ws) ws (inside β d).pattern _ t n ρ (kp h (cond b 1 0)) λ q t n.
        follow β (replicate (cond b 1 0) (E (cond b 1 0))) ws ws (condition b (inside β d).expression) _ t n ρ (condition-runs β (pred d) (cond b 1 0) (inside β d).expression (ke h) b) λ c t n. refl
    pattern-same FILTER w l ls m ρ ws = with-expression _ _ l ls m ρ ws
    pattern-same GRAPH w l ls m ρ ws =
        local _ _ _ _ _ (one_local _ _ _) λ s x0. one-pattern _ 0 _ x0 ls m ρ ws
    pattern-same EXTEND w l ls m ρ ws =
        local _ _ _ _ _ (one_local _ _ _) λ s x0. with-expression _ _ x0 ls m ρ ws
    pattern-same VALUES w l ls m ρ ws =
        local _ _ _ _ _ (one_local _ _ _) λ j x0.
        local _ _ _ _ _ (one_local _ _ _) λ k x1.
        closes β d _ _ _ _ _ _ _ _ λ h t.
        follow β (want columns (pred d) j ∷ []) (replicate k (want rows (pred d) j) ++ ws) ws (columnsLine β j) _ ls t ρ (cols-runs β (pred d) j) λ cs t n.
        follow β (replicate k (want rows (pred d) j)) ws ws (times k (listed β (bytes "row") cell j)) _ t n ρ (times-runs β (want rows (pred d) j) (listed β (bytes "row") cell j) (row-runs β (pred d) j) k) λ rs t n. refl
    pattern-same ORDERBY w l ls m ρ ws =
        local _ _ _ _ _ (one_local _ _ _) λ k x0.
        closes β d _ _ _ _ _ _ _ _ λ h t.
        follow β (P k ∷ []) (replicate k (want orders (pred d) k) ++ ws) ws (inside β d).pattern _ ls t ρ (kp h k) λ p t n.
        follow β (replicate k (want orders (pred d) k)) ws ws (someOrders β k (inside β d).expression) _ t n ρ (orders-runs β (pred d) k (inside β d).expression (ke h) k) λ os t n. refl
    pattern-same PROJECT w l ls m ρ ws =
        local _ _ _ _ _ (rest-local _ _ _) λ s x0. one-pattern _ 0 _ x0 ls m ρ ws
    pattern-same DISTINCT w l ls m ρ ws = one-pattern _ 0 _ l ls m ρ ws
    pattern-same REDUCED w l ls m ρ ws = one-pattern _ 0 _ l ls m ρ ws
    pattern-same SLICE w l ls m ρ ws =
        local _ _ _ _ _ (one_local _ _ _) λ a x0.
        local _ _ _ _ _ (one_local _ _ _) λ n x1. one-pattern _ 0 _ x1 ls m ρ ws
    pattern-same GROUP w l ls m ρ ws =
        local _ _ _ _ _ (one_local _ _ _) λ g x0.
        local _ _ _ _ _ (one_local _ _ _) λ a x1.
        closes β d _ _ _ _ _ _ _ _ λ h t.
        follow β (want columns (pred d) g ∷ []) (P g ∷ (replicate a (want aggregates (pred d) g) ++ ws)) ws (columnsLine β g) _ ls t ρ (cols-runs β (pred d) g) λ ks t n.
        follow β (P g ∷ []) (replicate a (want aggregates (pred d) g) ++ ws) ws (inside β d).pattern _ t n ρ (kp h g) λ p t n.
        follow β (replicate a (want aggregates (pred d) g)) ws ws (someAggregates β a (inside β d).expression) _ t n ρ (aggregates-runs β (pred d) g (inside β d).expression (ke h) a) λ rs t n. refl
    pattern-same SERVICE w l ls m ρ ws =
        local _ _ _ _ _ (one_local _ _ _) λ n x0.
        local _ _ _ _ _ (one_local _ _ _) λ f x1. one-pattern _ 0 _ x1 ls m ρ ws

    op_same : (o : Op) (a : Arity) (w : ℕ) → Same β (line_by (close_at β d) (pred d) w (arity_row a)) (λ s m. next (taken a s m) (λ k s m. next ((inside β d).close (noted []) s m) (λ u s m. next (someExpressions k (inside β d).expression s m) (λ es s m. got (apply o es) s m))))
    op_same o (exactly k) w l ls m ρ ws =
        closes β d _ _ _ _ _ _ _ _ λ h t.
        follow β (replicate k (E 0)) ws ws (someExpressions k (inside β d).expression) _ ls t ρ (expressions-runs β (pred d) 0 (inside β d).expression (ke h) k) λ es t n. refl
    op_same o (counted j) w l ls m ρ ws =
        counted-line j _ _ _ _ l ls m λ k x0.
        closes β d _ _ _ _ _ _ _ _ λ h t.
        follow β (replicate (k + j) (E k)) ws ws (someExpressions (k + j) (inside β d).expression) _ ls t ρ (expressions-runs β (pred d) k (inside β d).expression (ke h) (k + j)) λ es t n. refl

    expression-same : (v : ExpressionWord) (w : ℕ) → Same β (line_by (close_at β d) (pred d) w (expression_row v)) (expression_after β (inside β d) v)
    unfolding expression_after
    expression-same TERM w l ls m ρ ws =
        local _ _ _ _ _ (one_local _ _ _) λ s x0.
        closes β d _ _ _ _ _ _ _ _ λ h t. refl
    expression-same BOUND w l ls m ρ ws =
        local _ _ _ _ _ (one_local _ _ _) λ s x0.
        closes β d _ _ _ _ _ _ _ _ λ h t. refl
    expression-same EXISTS w l ls m ρ ws =
        closes β d _ _ _ _ _ _ _ _ λ h t.
        follow β (P 0 ∷ []) ws ws (inside β d).pattern _ ls t ρ (kp h 0) λ p t n. refl
    expression-same CALL w l ls m ρ ws =
        local _ _ _ _ _ (one_local _ _ _) λ s x0.
        local _ _ _ _ _ (one_local _ _ _) λ k x1.
        closes β d _ _ _ _ _ _ _ _ λ h t.
        follow β (replicate k (E 0)) ws ws (someExpressions k (inside β d).expression) _ ls t ρ (expressions-runs β (pred d) 0 (inside β d).expression (ke h) k) λ es t n. refl
    expression-same (OP o) w l ls m ρ ws = op_same o (arity o) w l ls m ρ ws

    pattern-runs : (w : ℕ) → Runs β (want patterns d w ∷ []) (pattern_in β (inside β d))
    unfolding run line_of
    pattern-runs w [] m ρ ws = rw one-nil
    pattern-runs w (l ∷ ls) m ρ ws =
        word_line spell_p pattern_row pattern_words _ _ _ _ _ _ _ λ v x0. pattern-same v w x0 ls m ρ ws

    expression-runs : (w : ℕ) → Runs β (want expressions d w ∷ []) (expression_in β (inside β d))
    unfolding run line_of
    expression-runs w [] m ρ ws = rw one-nil
    expression-runs w (l ∷ ls) m ρ ws =
        word_line spell_e expression_row expression_words _ _ _ _ _ _ _ λ v x0. expression-same v w x0 ls m ρ ws

  -- the patterns and the expressions inside d levels
  record Kids (d : ℕ) : Type 0 where
    patterns : 1 ≤ d → (w : ℕ) → Runs β (want patterns (pred d) w ∷ []) (inside β d).pattern
    expressions : 1 ≤ d → (w : ℕ) → Runs β (want expressions (pred d) w ∷ []) (inside β d).expression

  kids : (d : ℕ) → Kids d
  unfolding inside
  kids zero = record { patterns = λ h w. absurd (omega arith); expressions = λ h w. absurd (omega arith) }
  kids (suc d) = record {
    patterns = λ h w. pattern-runs d (kids d).patterns (kids d).expressions w;
    expressions = λ h w. expression-runs d (kids d).patterns (kids d).expressions w;
  }

  -- a tree
  pub tree-runs : (w : ℕ) → Runs β (want patterns β.depth w ∷ []) (tree β)
  tree-runs w = pattern-runs β.depth (kids β.depth).patterns (kids β.depth).expressions w
