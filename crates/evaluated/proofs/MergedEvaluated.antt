-- What a merge writes, evaluated, of two sides that were read. Assumes nothing.
use mathlib.Core.Path.{◌≡◌, refl, sym, ◌∙◌, ap, ap₂}
use mathlib.Core.Bool.{true, not, ◌&&◌}
use mathlib.Core.List.{List, [], ◌∷◌, map}
use Prim.Native.Nat.{ℕ, ◌≤◌, ◌<◌}
use native.Mathlib.Omega.{arith}
use lib.Dec.{leb, nleb→lt}
use lib.ListN.{length}
use Rattle.text.specs.Text.{Bytes, ended, text_of}
use Rattle.text.proofs.Basics.{so→T, and_left, and_both}
use Rattle.algebra.specs.Tree.{Triple, Pattern, project}
use Rattle.algebra.specs.Layout.{layout}
use Rattle.algebra.specs.Reader.{reads}
use Rattle.algebra.specs.Texts.{read_any_tree}
use Rattle.algebra.specs.Given.{read_given_tree}
use Rattle.algebra.proofs.Theorem.{tree-exactly}
use Rattle.algebra.proofs.Given.{tree_text, given-as-text}
use Rattle.algebra.proofs.Roomy.{read-any-exactly}
use Rattle.answers.specs.Outcome.{written, then, or_refused, refused_unless}
use Rattle.scoping.specs.Premises.{inside}
use Rattle.scoping.proofs.Basics.{either, split}
use Rattle.counting.specs.Answer.{answer}
use Rattle.merging.specs.Sides.{lefts, rights}
use Rattle.merging.specs.Request.{as_project, Projection, tree, Request, left_side, right_side, all_inside, positions}
use Rattle.merging.specs.Merge.{merge_project_patterns}
use Rattle.merging.specs.Asked.{Lists}
use Rattle.merging.specs.bridge.Twice.{none_twice}
use Rattle.merging.proofs.TreeRead.{TreeRead}
use Rattle.demand3.specs.Names.{merged_names}
use Rattle.demand3.specs.Demand3.{Premises, Counted}
use Rattle.demand3.proofs.Promise.{all-promised, all_valid, all_fit}
use Rattle.evaluating.specs.Triples.{read_triples}
use Rattle.evaluating.specs.Print.{printed_cell, printed}
use Rattle.evaluating.specs.Bounds.{tables_fit}
use Rattle.evaluating.specs.Evaluate.{table_space, is_evaluable, answer_text, evaluate_outcome}
use Rattle.evaluated.specs.Merged.{Evaluated}
use Rattle.evaluated.proofs.MergedTree.{merged-evaluable}

-- a projection whose tests pass is printed
pub projection-printed : (space : ℕ) (text triples : Bytes) (x : Projection) (g : List Triple) → read_given_tree text ≡ reads (tree x) → read_triples triples ≡ reads g → is_evaluable (tree x) ≡ true → tables_fit g (tree x) ≡ true → leb table_space space ≡ true → evaluate_outcome space text triples ≡ written (answer_text g x)
unfolding evaluate_outcome as_project
projection-printed space text triples x g e h i f s =
    ap₂ (λ a b. then a λ q. then b λ k. or_refused 16 (as_project q) λ z. refused_unless 16 (is_evaluable q) (refused_unless 17 (leb table_space space && tables_fit k q) (written (answer_text k z)))) e h
    ∙ ap₂ (λ a b. refused_unless 16 a (refused_unless 17 b (written (answer_text g x)))) i (and_both (leb table_space space) (tables_fit g (tree x)) s f)

leb-of : (m n : ℕ) → m ≤ n → leb m n ≡ true
leb-of m n h = either (λ e. e) (λ e. let k : n < m = nleb→lt m n (so→T _ (ap not e)) in absurd (omega arith)) (split (leb m n))

read-once : (p q : Pattern) (s : Bytes) → read_any_tree s ≡ reads p → read_any_tree s ≡ reads q → p ≡ q
read-once p q s a b = let e : reads p ≡ reads q = sym a ∙ b in cc

-- a projection's text has bytes, so it is read as it stands
project-some : (cs : List Bytes) (p : Pattern) → length (layout (project cs p)) ≡ 0 → ⊥
unfolding layout text_of ended
project-some [] p e = absurd (omega arith)
project-some (c ∷ cs) p e = absurd (omega arith)

text-written : (x : Projection) (s : Bytes) → layout (tree x) ≡ s → tree_text s ≡ s
text-written x [] e = absurd (project-some x.columns x.inner (ap length e))
text-written x (b ∷ s) e = refl

module _ (m : Request) (pairs leftConstants rightConstants text triples : Bytes) (g : List Triple) (a : TreeRead m.left) (b : TreeRead m.right) (ls : Lists pairs leftConstants rightConstants m) (i : all_inside m ≡ true) (o : none_twice m.joins ≡ true) (e : layout (merge_project_patterns m) ≡ text) (h : read_triples triples ≡ reads g) (s : Premises m) where
  counted : Counted m text
  counted = all-promised m pairs leftConstants rightConstants a b ls i o text e

  joins-inside : inside m.left.columns (lefts m.joins) ≡ true
  unfolding all_inside
  joins-inside = and_left (inside m.left.columns (lefts m.joins)) _ (and_left (inside m.left.columns (lefts m.joins) && inside m.right.columns (rights m.joins)) (inside m.left.columns (positions m.left_constants) && inside m.right.columns (positions m.right_constants)) i)

  evaluable : is_evaluable (merge_project_patterns m) ≡ true
  unfolding merge_project_patterns
  evaluable = merged-evaluable (left_side m) (right_side m) m.joins (all_fit m pairs leftConstants rightConstants a b ls i o s) joins-inside
      s.left.countable s.left.extends_fresh s.left.expressions_known s.right.countable s.right.extends_fresh s.right.expressions_known

  same-tree : merge_project_patterns m ≡ tree counted.merged
  same-tree = read-once (merge_project_patterns m) (tree counted.merged) text ((read-any-exactly text (merge_project_patterns m)).1 (e, all_valid m pairs leftConstants rightConstants a b ls i o)) counted.read

  pub sum-evaluated : Evaluated m g text triples
  unfolding answer_text
  sum-evaluated = record {
    evaluated = λ p space r f n.
        let y : Projection = counted.merged in
        let t : tree_text text ≡ text = text-written y text ((read-any-exactly text (tree y)).0 counted.read).0 in
        let x = (tree-exactly (tree_text text) p).0 (sym (given-as-text text) ∙ r) in
        let q : p ≡ tree y = read-once p (tree y) text ((read-any-exactly text p).1 (x.0 ∙ t, x.1)) counted.read in (
          answer_text g y,
          projection-printed space text triples y g (r ∙ ap reads q) h (ap is_evaluable (sym same-tree) ∙ evaluable) (ap (tables_fit g) (sym q) ∙ f) (leb-of table_space space n),
          record {
            rows = answer (merged_names m) g (tree y);
            shown = ap (λ cs. printed cs (map (map printed_cell) (answer cs g (tree y)))) (counted.columns s);
            counts = λ row. counted.counts s g row;
          },
        );
  }
