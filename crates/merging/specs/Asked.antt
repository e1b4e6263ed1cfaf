-- What the texts of a merge ask for: the request that they are read as. Assumes nothing.
use Rattle.std.specs.Prelude.{◌≡◌, [], ◌∷◌}
use Rattle.text.specs.Text.{Bytes, ended}
use Rattle.text.specs.Word.{bytes}
use Rattle.algebra.specs.Tree.{Pattern}
use Rattle.algebra.specs.Query.{Query}
use Rattle.algebra.specs.Reader.{reads}
use Rattle.algebra.specs.Given.{read_given_tree, read_given_query}
use Rattle.merging.specs.Request.{tree, read_joins, read_constants, Request}

-- the request's lists are those of the three texts
pub record Lists (pairs leftConstants rightConstants : Bytes) (m : Request) : Type 0 where
  pub joins : read_joins pairs ≡ reads m.joins
  pub left_constants : read_constants leftConstants ≡ reads m.left_constants
  pub right_constants : read_constants rightConstants ≡ reads m.right_constants

-- the request's trees are those of the two texts
pub record Trees (left right : Bytes) (m : Request) : Type 0 where
  pub left-tree : read_given_tree left ≡ reads (tree m.left)
  pub right-tree : read_given_tree right ≡ reads (tree m.right)

-- the request's trees stand in two queries with one head
abbrev pub query_of : Bytes → Bytes → Bytes → Pattern → Query
query_of kind dataset base t = record { kind = kind; dataset = dataset; base = base; tree = t }

pub record Queries (left right kind dataset base : Bytes) (m : Request) : Type 0 where
  pub left_query : read_given_query left ≡ reads (query_of kind dataset base (tree m.left))
  pub right_query : read_given_query right ≡ reads (query_of kind dataset base (tree m.right))

-- a text behind a query's head line
unfoldable pub behind_head : Bytes → Bytes → Bytes → Bytes → Bytes
unfolding ended
behind_head kind dataset base text = ended (bytes "query" ∷ kind ∷ dataset ∷ base ∷ []) text
