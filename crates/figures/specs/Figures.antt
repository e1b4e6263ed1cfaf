-- How long an answer will be: bytes, lines, depth and columns of what a call would write. Assumes nothing.
use Rattle.std.specs.Prelude.{ℕ, length, drop}
use Rattle.std.proofs.Math.Option.{Option, none, some}
use Rattle.text.specs.Text.{Bytes, text_of, lines_of}
use Rattle.algebra.specs.Tree.{Pattern}
use Rattle.algebra.specs.Depth.{depth}
use Rattle.algebra.specs.Reader.{Outcome as Reading, reads, refuses, refusal_number}
use Rattle.algebra.specs.Texts.{read_any_tree}
use Rattle.answers.specs.Outcome.{Outcome, refused, written}
use Rattle.merging.specs.Request.{Projection, as_project}

pub record Figures : Type 0 where
  pub bytes : ℕ
  pub lines : ℕ
  pub depth : ℕ
  pub columns : ℕ

-- a refusal by its number, or the figures
pub data Sizes : Type 0 where
  unsized : ℕ → Sizes
  sized : Figures → Sizes

-- the columns of a project; another root has none
abbrev pub column_count : Option Projection → ℕ
column_count none = 0
column_count (some x) = length x.columns

-- a text, and the tree in it
abbrev pub figures_of : Bytes → Pattern → Figures
figures_of text p = record { bytes = length text; lines = length (lines_of text); depth = depth p; columns = column_count (as_project p) }

-- the tree is read back; what a call writes always is a tree's (proofs/Theorem.antt)
abbrev pub read_back : Bytes → Reading Pattern → Sizes
read_back text (reads p) = sized (figures_of text p)
read_back text (refuses n) = unsized (refusal_number n)

-- a text behind its first line
unfoldable pub behind_first : Bytes → Bytes
unfolding lines_of text_of
behind_first text = text_of (drop 1 (lines_of text))

-- of a call that answers with a tree: its own refusals, and the figures of the text that it writes
unfoldable pub tree_sizes : Outcome → Sizes
unfolding read_any_tree depth as_project
tree_sizes (refused n) = unsized n
tree_sizes (written b) = read_back b (read_any_tree b)

-- of a call that answers with a query: the head line is in the bytes and lines, the tree stands behind it
unfoldable pub query_sizes : Outcome → Sizes
unfolding read_any_tree behind_first depth as_project
query_sizes (refused n) = unsized n
query_sizes (written b) = read_back b (read_any_tree (behind_first b))
