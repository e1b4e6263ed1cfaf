-- What the call namespaces promises of the bytes that it writes: they are one tree's text, whose terms are the given tree's, each IRI with its new start. Assumes nothing.
use Rattle.std.specs.Prelude.{◌≡◌, true, List, map}
use Rattle.text.specs.Text.{Bytes}
use Rattle.algebra.specs.Tree.{Pattern}
use Rattle.algebra.specs.Reader.{reads}
use Rattle.algebra.specs.Layout.{layout}
use Rattle.algebra.specs.Texts.{read_any_tree}
use Rattle.algebra.specs.Given.{read_given_tree}
use Rattle.converting.specs.Starts.{Start, read_starts, old_starts, in_order}
use Rattle.converting.specs.Terms.{terms_of, in_term}
use Rattle.converting.specs.Namespaces.{converted_iri, is_covered, converted}

-- b is the text of the converted tree, which is read back as that tree; its terms stand in the order of the given ones
pub record Conversion (tree table b : Bytes) : Type 0 where
  pub pattern : Pattern
  pub starts : List Start
  pub tree-read : read_given_tree tree ≡ reads pattern
  pub table_read : read_starts table ≡ reads starts
  pub in_order : in_order (old_starts starts) ≡ true
  pub covered : is_covered starts pattern ≡ true
  pub text : b ≡ layout (converted starts pattern)
  pub read : read_any_tree b ≡ reads (converted starts pattern)
  pub terms : terms_of (converted starts pattern) ≡ map (in_term (converted_iri starts)) (terms_of pattern)
