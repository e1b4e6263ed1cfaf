-- Where a query's tree stands in its text: behind the head line, if anything does. Assumes nothing.
use Rattle.std.specs.Prelude.{ℕ, ◌≤◌, ◌<◌, ◌≡◌, [], ◌∷◌, length, take}
use Rattle.text.specs.Text.{Bytes, Line, ended, lines_of, lines_from}
use Rattle.text.specs.Word.{bytes}
use Rattle.algebra.specs.Query.{Query}
use Rattle.algebra.specs.Valid.{Valid}
use Rattle.algebra.specs.Layout.{put, layout}
use Rattle.algebra.specs.Reader.{reads}
use Rattle.algebra.specs.Texts.{read_query}
use Rattle.algebra.specs.Given.{empty_tree, read_given_query}

-- `query kind dataset base`
abbrev pub head_line : Query → Line
head_line q = bytes "query" ∷ q.kind ∷ q.dataset ∷ q.base ∷ []

-- the tree's lines start at r, and before it stands the head line's text
pub record TreeAt (s : Bytes) (q : Query) (r : ℕ) : Type 0 where
  pub lines : lines_from s r ≡ put q.tree []
  pub head : take r s ≡ ended (head_line q) []

-- a text is the head line of a query, and no more
pub record HeadOf (s : Bytes) (q : Query) : Type 0 where
  pub text : s ≡ ended (head_line q) []
  pub lines : lines_of s ≡ head_line q ∷ []

-- before r stands the head line; behind it the tree, or nothing, which is the tree of an empty file
pub record GivenAt (s : Bytes) (q : Query) (r : ℕ) : Type 0 where
  pub head : HeadOf (take r s) q
  pub stands : r < length s → (read_query s ≡ reads q) × TreeAt s q r
  pub alone : r ≡ length s → q.tree ≡ empty_tree

-- whatever query a text says, its head line ends at r; where something stands behind it, the text is read as it stands
pub record Starts (s : Bytes) (r : ℕ) : Type 0 where
  pub high : r ≤ length s
  pub given : (q : Query) → read_given_query s ≡ reads q → GivenAt s q r
  pub same : r < length s → read_given_query s ≡ read_query s

-- the head line's text and the tree's, one beside the other
pub record Parts (head tree : Bytes) (q : Query) : Type 0 where
  pub of : HeadOf head q
  pub text : tree ≡ layout q.tree
  pub valid : Valid q.tree
