-- What is promised of a merge with an empty file, without pairs and constants: docs/SPECIFICATION.md, "Demand 3". Assumes nothing.
use Rattle.std.specs.Prelude.{ℕ, ◌≡◌, List, []}
use Rattle.text.specs.Text.{Bytes}
use Rattle.algebra.specs.Tree.{Triple, bgp}
use Rattle.algebra.specs.Reader.{reads}
use Rattle.algebra.specs.Texts.{read_any_tree}
use Rattle.counting.specs.Bag.{count}
use Rattle.counting.specs.Row.{Cell, same_row}
use Rattle.counting.specs.Answer.{answer}
use Rattle.merging.specs.Request.{Projection, tree}
use Rattle.demand3.specs.Names.{column_names}

-- no columns over no triples: what an empty file is read as
abbrev pub empty_projection : Projection
empty_projection = record { columns = []; inner = bgp [] }

-- the text is one tree's, a project of x's columns under their new names, whose prefix is the byte `l` or `r`, and each row stands in its answer as often as in the answer to x
pub record Kept (prefix : ℕ) (x : Projection) (text : Bytes) : Type 0 where
  pub merged : Projection
  pub read : read_any_tree text ≡ reads (tree merged)
  pub columns : merged.columns ≡ column_names prefix x []
  pub counts : (g : List Triple) (row : List Cell) → count same_row row (answer (column_names prefix x []) g (tree merged)) ≡ count same_row row (answer x.columns g (tree x))
