-- Renaming by one mapping and then by another gives the bytes that renaming by their composition gives. Assumes nothing.
use mathlib.Core.Path.{◌≡◌, refl, sym, ap, fun_ext, ◌∙◌}
use mathlib.Core.List.{List, [], ◌∷◌}
use Prim.Native.Nat.{ℕ, ◌≤◌}
use native.Mathlib.Omega.{arith}
use lib.ListN.{length}
use Rattle.text.specs.Text.{Bytes, split, lines_in, lines_of}
use Rattle.algebra.specs.Tree.{Pattern}
use Rattle.algebra.specs.Query.{Pair, mapping}
use Rattle.algebra.specs.Reader.{Outcome as Reading, reads, refuses, number-of, malformed, over_bound, one, read_text}
use Rattle.algebra.specs.Layout.{layout}
use Rattle.algebra.specs.Bounded.{layout_pairs}
use Rattle.algebra.specs.Tally.{bounds}
use Rattle.algebra.specs.Valid.{Valid, ValidPairs}
use Rattle.algebra.specs.Texts.{read_tree, read_pairs}
use Rattle.algebra.specs.Given.{read_given_tree}
use Rattle.algebra.proofs.Given.{tree-as-it-is, tree-given}
use Rattle.algebra.proofs.Theorem.{tree-exactly, pairs-exactly}
use Rattle.algebra.proofs.Roomy.{layout-injective}
use Rattle.scoping.specs.Rename.{rename_in_graph_pattern}
use Rattle.answers.specs.Outcome.{written}
use Rattle.answers.proofs.Answers.{bytes_of}
use Rattle.merging.proofs.Given.{then-written}
use Rattle.merging.proofs.Valid.{renamed-valid}
use Rattle.demand3.proofs.Once.{read-once}
use Rattle.renaming.specs.Rename.{becomes, rename_read, rename_outcome}
use Rattle.laws.specs.Composed.{composed}
use Rattle.laws.proofs.Composed.{becomes-fits, becomes-variable, becomes-composed, composed-valid, mapping-reads}
use Rattle.laws.proofs.Twice.{tree-twice}

-- what was renamed, and that the text is that of the renamed tree
pub record Renamed (tree first text : Bytes) : Type 0 where
  pub before : Pattern
  pub names : List Pair
  pub tree-read : read_given_tree tree ≡ reads before
  pub names_read : read_pairs mapping first ≡ reads names
  pub names_valid : ValidPairs mapping [] names
  pub valid : Valid (rename_in_graph_pattern (becomes names) before)
  pub text-is : layout (rename_in_graph_pattern (becomes names) before) ≡ text

pub renamed-once : (tree first text : Bytes) → rename_outcome tree first ≡ written text → Renamed tree first text
unfolding rename_outcome
renamed-once tree first text e =
    let p = then-written (read_given_tree tree) _ text e in
    let q = then-written (read_pairs mapping first) _ text p.2 in
    let k : ValidPairs mapping [] q.0 = ((pairs-exactly mapping first q.0).0 q.1).1 in
    record {
      before = p.0;
      names = q.0;
      tree-read = p.1;
      names_read = q.1;
      names_valid = k;
      valid = renamed-valid (becomes q.0) (becomes-fits [] q.0 k) p.0 (tree-given tree p.0 p.1).valid;
      text-is = bytes_of _ text q.2;
    }

-- a text that is not refused is read
read-good : {A : Type 0} (o : Reading A) → number-of o ≡ 0 → (a : A) × (o ≡ reads a)
read-good (reads a) e = (a, refl)
read-good (refuses malformed) e = absurd (omega arith)
read-good (refuses over_bound) e = absurd (omega arith)

-- and as it stands
as-it-stands : (s : Bytes) → number-of (read_tree s) ≡ 0 → read_given_tree s ≡ read_tree s
unfolding read_tree read_text lines_of lines_in split one
as-it-stands [] e = let z : ◌≡◌ {A = ℕ} 1 0 = e in absurd (omega arith)
as-it-stands (b ∷ s) e = tree-as-it-is b s

-- a third mapping that takes each name where the two take it, one after the other
pub through-both : (tree first second third middle : Bytes) (xs ys zs : List Pair)
    → read_pairs mapping first ≡ reads xs → read_pairs mapping second ≡ reads ys → read_pairs mapping third ≡ reads zs → ((v : Bytes) → becomes zs v ≡ becomes ys (becomes xs v))
    → rename_outcome tree first ≡ written middle → number-of (read_tree middle) ≡ 0
    → rename_outcome middle second ≡ rename_outcome tree third
unfolding rename_outcome
through-both tree first second third middle xs ys zs a b c onto e n =
    let r = renamed-once tree first middle e in
    let p : Pattern = r.before in
    let f : Bytes → Bytes = becomes r.names in
    let same : r.names ≡ xs = read-once (read_pairs mapping first) r.names xs r.names_read a in
    let m = read-good (read_tree middle) n in
    let x = (tree-exactly middle m.0).0 m.1 in
    let middle-is : m.0 ≡ rename_in_graph_pattern f p = layout-injective m.0 (rename_in_graph_pattern f p) x.1 r.valid (x.0 ∙ sym r.text-is) in
    let read-middle : read_given_tree middle ≡ reads (rename_in_graph_pattern f p) = as-it-stands middle n ∙ m.1 ∙ ap reads middle-is in
    let one_by_one : (v : Bytes) → becomes ys (f v) ≡ becomes zs v = λ v. ap (λ (l : List Pair). becomes ys (becomes l v)) same ∙ sym (onto v) in
    let twice : rename_in_graph_pattern (becomes ys) (rename_in_graph_pattern f p) ≡ rename_in_graph_pattern (becomes zs) p =
    tree-twice f (becomes ys) (becomes-variable [] r.names r.names_valid) p ∙ ap (λ (h : Bytes → Bytes). rename_in_graph_pattern h p) (fun_ext one_by_one) in
    ap (λ (o : Reading Pattern). rename_read o second) read-middle
    ∙ written-by (rename_in_graph_pattern f p) second ys b
    ∙ ap (λ (t : Pattern). written (layout t)) twice
    ∙ sym (ap (λ (o : Reading Pattern). rename_read o third) r.tree-read ∙ written-by p third zs c)
  where
    written-by : (p : Pattern) (s : Bytes) (ws : List Pair) → read_pairs mapping s ≡ reads ws → rename_read (reads p) s ≡ written (layout (rename_in_graph_pattern (becomes ws) p))
    written-by p s ws h = rw h

-- such a mapping is the composed list, where its text is within the bounds
pub composed-once : (tree first second middle : Bytes) (xs ys : List Pair)
    → read_pairs mapping first ≡ reads xs → read_pairs mapping second ≡ reads ys
    → rename_outcome tree first ≡ written middle → number-of (read_tree middle) ≡ 0
    → length (composed xs ys) ≤ bounds.entries → length (layout_pairs (composed xs ys)) ≤ 16384
    → rename_outcome middle second ≡ rename_outcome tree (layout_pairs (composed xs ys))
composed-once tree first second middle xs ys a b e n few short =
    let k : ValidPairs mapping [] xs = ((pairs-exactly mapping first xs).0 a).1 in
    let h : ValidPairs mapping [] ys = ((pairs-exactly mapping second ys).0 b).1 in
    through-both tree first second (layout_pairs (composed xs ys)) middle xs ys (composed xs ys) a b (mapping-reads (composed xs ys) (composed-valid xs ys k h) few short) (becomes-composed xs ys) e n
