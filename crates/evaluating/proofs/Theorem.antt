-- The call evaluate is what tables compute: 16, 17 and the printed table, from numbers that fit. Assumes nothing.
use mathlib.Core.Path.{◌≡◌, refl, sym, ◌∙◌, ap, ap₂, subst}
use mathlib.Core.Bool.{◌&&◌}
use mathlib.Core.List.{List, ◌++◌, map}
use mathlib.Core.Option.{Option, none, some}
use Prim.Native.Nat.{ℕ}
use lib.Dec.{leb}
use Rattle.text.specs.Text.{Bytes}
use Rattle.algebra.specs.Tree.{Triple, Pattern}
use Rattle.algebra.specs.Reader.{reads}
use Rattle.algebra.specs.Given.{read_given_tree}
use Rattle.answers.specs.Outcome.{Outcome, written, then, or_refused, refused_unless}
use Rattle.scoping.specs.Variables.{variables_in_pattern}
use Rattle.scoping.specs.ScopedOrHidden.{names_with}
use Rattle.scoping.specs.bridge.Sets.{Sub}
use Rattle.scoping.proofs.Basics.{sub-left}
use Rattle.counting.specs.Bag.{tick, count}
use Rattle.counting.specs.Row.{cells, same_row}
use Rattle.counting.specs.Scope.{names}
use Rattle.counting.specs.Answer.{terms, eval, answer}
use Rattle.counting.proofs.Every.{Every, every-imp}
use Rattle.counting.proofs.Sums.{total-map, total-every}
use Rattle.counting.proofs.Bgp.{same_row-cells}
use Rattle.merging.specs.Request.{as_project, Projection, tree}
use Rattle.merging.proofs.Given.{project-of}
use Rattle.evaluating.specs.Triples.{read_triples}
use Rattle.evaluating.specs.Print.{printed_cell, same_fields}
use Rattle.evaluating.specs.Bounds.{tables_fit}
use Rattle.evaluating.specs.Evaluate.{table_space, is_evaluable, answer_text, evaluate_outcome}
use Rattle.evaluating.specs.bridge.Numbers.{Numbers, constants, Fit, by_place}
use Rattle.evaluating.specs.bridge.Tables.{numbers_of, table, tables_small}
use Rattle.evaluating.specs.bridge.Text.{table_text, table_outcome}
use Rattle.evaluating.proofs.Sorted.{Different}
use Rattle.evaluating.proofs.Tables.{eval-good, table-holds, tables-small}
use Rattle.evaluating.proofs.Printed.{row_same, answer-is}
use Rattle.evaluating.proofs.BgpLine.{same_triple}
use Rattle.evaluating.proofs.ReadTriples.{triples-different}
use Rattle.evaluating.proofs.Places.{by_place_lem}
use Rattle.evaluating.proofs.Within.{eval-within}

-- the printed table of a projection is its printed answer
pub table-text : (κ : Numbers) (g : List Triple) (x : Projection) → Fit κ (tree x) g → Different same_triple g → table_text κ (numbers_of κ (tree x)) x.columns (table κ g (tree x)) ≡ answer_text g x
unfolding answer_text names_with variables_in_pattern
table-text κ g x f d =
    let all_in : Sub (names (tree x)) (names (tree x)) = λ v m. m in
    sym (answer-is κ f.no-dash (names (tree x)) f.names_apart g x.columns x.inner (sub-left x.columns (names x.inner) (names (tree x)) all_in)
    (eval-good κ (names (tree x)) f.names_apart g f.triples_spelled d (tree x) f.tree_spelled) (table κ g (tree x))
    (table-holds κ (names (tree x)) f.names_apart g f.triples_spelled d (tree x) all_in f.tree_spelled))

-- every table is within its bounds exactly if every pattern's own table is
pub all_small : (κ : Numbers) (g : List Triple) (p : Pattern) → Fit κ p g → Different same_triple g → tables_small κ g p ≡ tables_fit g p
all_small κ g p f d = tables-small κ (names p) f.names_apart g f.triples_spelled d p (λ v m. m) f.tree_spelled

module _ (κ : Numbers) (space : ℕ) (p : Pattern) (g : List Triple) (f : Fit κ p g) (d : Different same_triple g) where
  by_answer : Projection → Outcome
  by_answer x = refused_unless 16 (is_evaluable p) (refused_unless 17 (leb table_space space && tables_fit g p) (written (answer_text g x)))

  by-table : Projection → Outcome
  by-table x = refused_unless 16 (is_evaluable p) (refused_unless 17 (leb table_space space && tables_small κ g p) (written (table_text κ (numbers_of κ p) x.columns (table κ g p))))

  of-project : (x : Projection) → p ≡ tree x → by_answer x ≡ by-table x
  unfolding by_answer by-table
  of-project x e = ap₂ (λ b t. refused_unless 16 (is_evaluable p) (refused_unless 17 (leb table_space space && b) (written t)))
      (sym (all_small κ g p f d))
      (sym (ap (λ q. table_text κ (numbers_of κ q) x.columns (table κ g q)) e ∙ table-text κ g x (subst (λ q. Fit κ q g) e f) d))

  of-option : (o : Option Projection) → ((x : Projection) → o ≡ some x → p ≡ tree x) → or_refused 16 o by_answer ≡ or_refused 16 o by-table
  of-option none h = refl
  of-option (some x) h = of-project x (h x refl)

  decided : or_refused 16 (as_project p) by_answer ≡ table_outcome κ space p g
  unfolding table_outcome by-table
  decided = of-option (as_project p) (project-of p)

-- for every two texts that are read, and numbers that fit
pub evaluate-is : (κ : Numbers) (space : ℕ) (text triples : Bytes) (p : Pattern) (g : List Triple) → read_given_tree text ≡ reads p → read_triples triples ≡ reads g → Fit κ p g → evaluate_outcome space text triples ≡ table_outcome κ space p g
unfolding evaluate_outcome by_answer
evaluate-is κ space text triples p g e h f =
    ap₂ (λ x y. then x λ q. then y λ k. or_refused 16 (as_project q) λ z. refused_unless 16 (is_evaluable q) (refused_unless 17 (leb table_space space && tables_fit k q) (written (answer_text k z)))) e h
    ∙ decided κ space p g f (triples-different triples g h)

-- and there are such numbers
pub evaluate-by-place : (space : ℕ) (text triples : Bytes) (p : Pattern) (g : List Triple) → read_given_tree text ≡ reads p → read_triples triples ≡ reads g → evaluate_outcome space text triples ≡ table_outcome (by_place (names p) (constants p ++ terms g)) space p g
evaluate-by-place space text triples p g e h = evaluate-is (by_place (names p) (constants p ++ terms g)) space text triples p g e h (by_place_lem text triples p g e h)

-- a row of a tree that is read stands as often among the printed rows as among the rows: no two different rows print alike
pub printed-counts : (text triples : Bytes) (p : Pattern) (g : List Triple) (cs : List Bytes) → read_given_tree text ≡ reads p → read_triples triples ≡ reads g
    → Every (λ r. count same_fields (map printed_cell (cells cs r)) (map (map printed_cell) (answer cs g p)) ≡ count same_row (cells cs r) (answer cs g p)) (eval g p)
unfolding answer count
printed-counts text triples p g cs e h =
    let f = by_place_lem text triples p g e h in
    let ks = eval-within (by_place (names p) (constants p ++ terms g)) g f.triples_spelled p f.tree_spelled in
    every-imp (λ r k.
    total-map (λ x. tick (same_fields (map printed_cell (cells cs r)) x)) (map printed_cell) (map (cells cs) (eval g p))
    ∙ (total-map (λ x. tick (same_fields (map printed_cell (cells cs r)) (map printed_cell x))) (cells cs) (eval g p)
    ∙ (total-every _ _ (every-imp (λ b l. ap tick (row_same (by_place (names p) (constants p ++ terms g)) f.no-dash cs r b k l ∙ sym (same_row-cells cs r b))) ks)
    ∙ sym (total-map (λ x. tick (same_row (cells cs r) x)) (cells cs) (eval g p))))) ks
