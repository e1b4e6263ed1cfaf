-- The call namespaces line by line: new starts in each line by itself, the IRIs of the lines, and a search in the table. For code and rooms. Assumes nothing.
use mathlib.Core.Path.{◌≡◌, sym, ap, ◌∙◌}
use mathlib.Core.Bool.{true}
use mathlib.Core.List.{List, [], map, append-nil}
use mathlib.Core.Option.{Option}
use Rattle.text.specs.Text.{Bytes, text_of, lines_of, lines_from}
use Rattle.text.specs.Field.{given, is_iri}
use Rattle.text.proofs.Texts.{lines-back}
use Rattle.text.proofs.Places.{lines_start}
use Rattle.algebra.specs.Tree.{Pattern}
use Rattle.algebra.specs.Layout.{put, layout}
use Rattle.algebra.specs.Reader.{reads}
use Rattle.algebra.specs.Texts.{read_tree}
use Rattle.algebra.specs.Valid.{Valid}
use Rattle.algebra.proofs.Neat.{neat}
use Rattle.algebra.proofs.Theorem.{tree-exactly}
use Rattle.algebra.proofs.Given.{tree_text, given-as-text}
use Rattle.scoping.specs.Sets.{all, keep}
use Rattle.converting.specs.Starts.{Start, old_starts}
use Rattle.converting.specs.Terms.{terms_of, iris_of}
use Rattle.converting.specs.Namespaces.{covering_line, converted_iri, start_replaced, is_covered, converted, namespaces_read, namespaces_outcome}
use Rattle.converting.specs.bridge.AsIs.{namespaces_as_is}
use Rattle.converting.specs.bridge.Lines.{in_line, iris_in}
use Rattle.converting.specs.bridge.Order.{neighbours, searched}
use Rattle.converting.proofs.Order.{covering-searched}
use Rattle.converting.proofs.Lines.{lines-with-iris}
use Rattle.converting.proofs.Iris.{lines-iris}

-- ---- a tree's text as it stands

module _ (tree : Bytes) (p : Pattern) (e : read_tree tree ≡ reads p) where
  pub lines_are : lines_from tree 0 ≡ put p []
  unfolding layout
  lines_are = let x = (tree-exactly tree p).0 e in sym (lines_start tree) ∙ ap lines_of (sym x.0) ∙ lines-back (put p []) (neat p [] x.1 tt)

  valid : Valid p
  valid = ((tree-exactly tree p).0 e).1

  -- new starts in each line by itself are the converted tree's lines
  pub converted-lines : (ss : List Start) → layout (converted ss p) ≡ text_of (map (in_line (converted_iri ss)) (lines_from tree 0))
  unfolding converted layout
  converted-lines ss = ap text_of (sym (lines-with-iris (converted_iri ss) p [] valid) ∙ ap (map (in_line (converted_iri ss))) (sym lines_are))

  -- the IRIs of the tree stand in its lines, in this order
  pub iris-lines : iris_of p ≡ iris_in (lines_from tree 0)
  unfolding iris_of iris_in
  iris-lines = sym (append-nil (keep is_iri (terms_of p))) ∙ sym (lines-iris p [] valid) ∙ ap iris_in (sym lines_are)

  -- 15, line by line, by a search in a table that is in order
  pub covered-lines : (ss : List Start) → neighbours (old_starts ss) ≡ true → is_covered ss p ≡ all (λ x. given (searched ss x)) (iris_in (lines_from tree 0))
  unfolding is_covered
  covered-lines ss n = same_tests (iris_of p) ∙ ap (all (λ x. given (searched ss x))) iris-lines
    where
      same_tests : (xs : List Bytes) → all (λ x. given (covering_line ss x)) xs ≡ all (λ x. given (searched ss x)) xs
      same_tests xs = ap (λ (g : Bytes → Option Start). all (λ x. given (g x)) xs) (λ i x. covering-searched ss x n i)

-- what an IRI becomes, by a search
pub converted-searched : (ss : List Start) (x : Bytes) → neighbours (old_starts ss) ≡ true → converted_iri ss x ≡ start_replaced (searched ss x) x
unfolding converted_iri
converted-searched ss x n = ap (λ (o : Option Start). start_replaced o x) (covering-searched ss x n)

-- ---- an empty file

-- an empty file is converted as the text of its two lines
pub namespaces-given : (tree table : Bytes) → namespaces_outcome tree table ≡ namespaces_as_is (tree_text tree) table
unfolding namespaces_outcome namespaces_as_is
namespaces-given tree table = ap (λ r. namespaces_read r table) (given-as-text tree)
