-- No call's outcome refuses with 0, so what a program prints is what its outcome says (`program-prints`). Assumes nothing.
use Prim.Native.Nat.{ℕ, ◌≤◌}
use mathlib.Core.Path.{◌≡◌, refl, ap, ◌∙◌}
use mathlib.Core.Bool.{Bool, true, false, cond}
use mathlib.Core.List.{List, []}
use mathlib.Core.Option.{Option, none, some}
use native.Mathlib.Omega.{arith}
use lib.ListN.{length, take}
use lib.Dec.{leb, eqb}
use Rattle.text.specs.Text.{Bytes}
use Rattle.parted.specs.Parted.{texts}
use Rattle.algebra.specs.Query.{Query, mapping}
use Rattle.algebra.specs.Tally.{bounds}
use Rattle.algebra.specs.Given.{read_given_tree, read_given_query}
use Rattle.algebra.specs.Texts.{read_pairs, read_sets, read_filters}
use Rattle.answers.specs.Outcome.{Answer, Outcome, refused, number, size}
use Rattle.answers.specs.Both.{AnsweredBoth}
use Rattle.answers.proofs.Both.{both-as-before}
use Rattle.answers.proofs.Numbered.{Numbered, written-numbered, then-numbered, test-numbered, not-zero}
use Rattle.surveying.specs.Scope.{scope_outcome}
use Rattle.renaming.specs.Rename.{rename_outcome}
use Rattle.merging.specs.Sides.{Constant}
use Rattle.scoping.specs.Premises.{inside}
use Rattle.scoping.specs.Sets.{all}
use Rattle.merging.specs.Request.{Projection, as_project, read_constants, positions}
use Rattle.merging.specs.Merge.{is_select_or_ask}
use Rattle.merging.specs.Push.{pushed, push_constants, push_constants_outcome}
use Rattle.merging.specs.Negate.{negate_outcome}
use Rattle.merging.proofs.Numbered.{merge-patterns-numbered, merge-queries-numbered, without-numbered}
use Rattle.negating.specs.Projections.{outermost_projection}
use Rattle.filtering.specs.IfFound.{if_found}
use Rattle.filtering.specs.Bindings.{positions_inside, values_usable, bindings_outcome}
use Rattle.filtering.specs.Filters.{references_inside, filters_outcome}
use Rattle.filtering.specs.NotPlaced.{filters_not_placed}
use Rattle.filtering.proofs.NotPlaced.{list-in-bounds}
use Rattle.converting.specs.Starts.{read_starts, old_starts, in_order}
use Rattle.converting.specs.Namespaces.{is_covered, namespaces_outcome}
use Rattle.answering.specs.Answering.{called, call_input, called_list, input_list}
use Rattle.answering.specs.Printed.{printed, left_line, printed_list, Prints}
use Rattle.answering.proofs.Printed.{Few, left-printed, list_length}
use Rattle.answering.proofs.Laws.{by_number}

-- ---- calls

scope-numbered : (tree : Bytes) → Numbered (scope_outcome tree)
unfolding scope_outcome
scope-numbered tree = then-numbered (read_given_tree tree) _ λ p. written-numbered _

rename-numbered : (tree pairs : Bytes) → Numbered (rename_outcome tree pairs)
unfolding rename_outcome
rename-numbered tree pairs = then-numbered (read_given_tree tree) _ λ p. then-numbered (read_pairs mapping pairs) _ λ xs. written-numbered _

pushed-numbered : (q : Query) (ks : List Constant) (o : Option Projection) → Numbered (pushed q ks o)
unfolding pushed
pushed-numbered q ks none = written-numbered _
pushed-numbered q ks (some x) = test-numbered 3 (inside x.columns (positions ks)) _ (λ z. omega arith) (written-numbered _)

either-numbered : (t : Bool) (o p : Outcome) → Numbered o → Numbered p → Numbered (cond t o p)
either-numbered true o p a b = a
either-numbered false o p a b = b

push-numbered : (query constants : Bytes) → Numbered (push_constants_outcome query constants)
unfolding push_constants_outcome push_constants
push-numbered query constants =
    then-numbered (read_given_query query) _ λ q. then-numbered (read_constants constants) _ λ ks.
    either-numbered (is_select_or_ask q.kind) _ _ (pushed-numbered q ks (as_project q.tree)) (written-numbered _)

negate-numbered : (query : Bytes) → Numbered (negate_outcome query)
unfolding negate_outcome
negate-numbered query = then-numbered (read_given_query query) _ λ q. written-numbered _

bindings-numbered : (tree sets : Bytes) → Numbered (bindings_outcome tree sets)
unfolding bindings_outcome
bindings-numbered tree sets =
    then-numbered (read_given_tree tree) _ λ p. then-numbered (read_sets sets) _ λ xs.
    test-numbered 3 (if_found (outermost_projection p) λ cs. positions_inside cs xs) _ (λ z. omega arith)
    (test-numbered 7 (if_found (outermost_projection p) λ cs. values_usable xs) _ (λ z. omega arith) (written-numbered _))

filters-numbered : (tree filters : Bytes) → Numbered (filters_outcome tree filters)
unfolding filters_outcome
filters-numbered tree filters =
    then-numbered (read_given_tree tree) _ λ p. then-numbered (read_filters filters) _ λ fs.
    test-numbered 3 (if_found (outermost_projection p) λ cs. all (references_inside cs) fs) _ (λ z. omega arith) (written-numbered _)

namespaces-numbered : (tree table : Bytes) → Numbered (namespaces_outcome tree table)
unfolding namespaces_outcome
namespaces-numbered tree table =
    then-numbered (read_given_tree tree) _ λ p. then-numbered (read_starts table) _ λ ss.
    test-numbered 14 (in_order (old_starts ss)) _ (λ z. omega arith) (test-numbered 15 (is_covered ss p) _ (λ z. omega arith) (written-numbered _))

-- ---- programs

called-numbered : (k : ℕ) (ts : List Bytes) → Numbered (called k ts)
unfolding called Numbered
called-numbered k ts =
    by_number (λ k. Numbered (called k ts)) (of 1 _ (scope-numbered _)) (of 2 _ (rename-numbered _ _)) (of 5 _ (merge-patterns-numbered _ _ _ _ _))
    (of 5 _ (merge-queries-numbered _ _ _ _ _)) (of 2 _ (push-numbered _ _)) (of 1 _ (negate-numbered _)) (of 2 _ (bindings-numbered _ _)) (of 2 _ (filters-numbered _ _)) (of 3 _ (without-numbered _ _ _)) (of 2 _ (namespaces-numbered _ _))
    (λ k. of 0 (refused 1) (λ z. omega arith)) k
  where
    of : (n : ℕ) (o : Outcome) → Numbered o → Numbered (cond (eqb (length ts) n) o (refused 1))
    of n o f = either-numbered (eqb (length ts) n) o (refused 1) f (λ z. omega arith)

pub call-input-numbered : (k : ℕ) (s : Bytes) → Numbered (call_input k s)
unfolding call_input Numbered
call-input-numbered k s = either-numbered (leb (length s) 65536) (called k (texts s)) (refused 2) (called-numbered k (texts s)) (λ z. omega arith)

-- ---- lists

-- at most as many numbers as a list of filters has entries, each below that
listed-few : (tree filters : Bytes) → Few (filters_not_placed tree filters)
unfolding filters_not_placed Few
listed-few tree filters = list-in-bounds (read_given_tree tree) filters

pub input-list-few : (k : ℕ) (s : Bytes) → Few (input_list k s)
unfolding input_list called_list Few
input-list-few k s = few-of (leb (length s) 65536) _ (by_number (λ k. Few (called_list k (texts s))) (none 1) (none 2) (none 5) (none 5) (none 2) (none 1) (none 2) (few-of (eqb (length (texts s)) 2) _ (listed-few _ _)) (none 3) (none 2) (λ k. none 0) k)
  where
    few-of : (b : Bool) (xs : List ℕ) → Few xs → Few (cond b xs [])
    few-of true xs f = f
    few-of false xs f = (omega arith, refl)

    none : (n : ℕ) → Few (cond (eqb (length (texts s)) n) [] [])
    none n = few-of (eqb (length (texts s)) n) [] (omega arith, refl)

module _ (k : ℕ) (s before answered : Bytes) (lent left : List ℕ) (a : Answer) (m : ℕ) (room : length before ≡ 65536) (entries : length lent ≡ bounds.entries) (e : AnsweredBoth (call_input k s) (input_list k s) before answered lent left a m) where
  -- the contract of `put_printed` and that of `answer`, together: what a program prints of a call and an input
  pub program-prints : (now : Bytes) (r : ℕ) → Prints a answered now r → take r now ≡ printed (call_input k s)
  unfolding Few
  program-prints now r p =
      let f = (input-list-few k s).0 in
      p (call_input k s) before (not-zero (call_input k s) (call-input-numbered k s)) room (both-as-before (call_input k s) (input_list k s) before answered lent left (number a) (size a) m (omega arith) e)

  -- the contract of `put_left` and that of `answer`, together: the line `left` beside it
  pub program-lists : (buffer now : Bytes) (r : ℕ) → length buffer ≡ 65536 → (length (left_line (take m left)) ≤ length buffer → take r now ≡ left_line (take m left)) → take r now ≡ printed_list (call_input k s) (input_list k s)
  unfolding Few
  program-lists buffer now r l p =
      let f = input-list-few k s in
      let i = f.0 in
      let q = left-printed (call_input k s) (input_list k s) before answered lent left (number a) (size a) m room (omega arith) e in
      let h = list_length (call_input k s) (input_list k s) f in
      p (let z = ap length q in omega arith) ∙ q
