-- What is known of a text that was checked: the tree that it says, and the table of its names. Assumes nothing.
use Rattle.std.specs.Prelude.{ℕ, ◌≡◌, List}
use Rattle.text.specs.Text.{Bytes}
use Rattle.algebra.specs.Tree.{Pattern}
use Rattle.algebra.specs.Reader.{reads}
use Rattle.algebra.specs.Texts.{read_tree}
use Rattle.names.specs.bridge.Names.{Holds}
use Rattle.scoping.specs.Numbering.{by_place}

-- it is a tree's, and the table lists the tree's names
pub record Known (tree : Bytes) (starts sizes hints : List ℕ) (n : ℕ) : Type 0 where
  pub pattern : Pattern
  pub read : read_tree tree ≡ reads pattern
  pub table : Holds tree starts sizes hints n (by_place pattern)
