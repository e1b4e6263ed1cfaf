-- The two forms of a merge's texts, trees (false) or queries (true), and its two ways, by a join (false) or by a minus (true): one reading, one outcome, and what the code knows of a text of each. Assumes nothing.
use Rattle.std.specs.Prelude.{ℕ, ◌*◌, ◌/◌, ◌≤◌, ◌≡◌, List, [], ◌++◌, Bool, true, false, cond, ltb, length, take, Ok, Err}
use Rattle.text.specs.Text.{Bytes, ended}
use Rattle.algebra.specs.Tree.{Pattern}
use Rattle.algebra.specs.Query.{Query}
use Rattle.algebra.specs.Layout.{layout}
use Rattle.algebra.specs.Reader.{Outcome as Reading, reads, refuses, malformed, over_bound}
use Rattle.algebra.specs.Given.{empty_text, read_given_tree, read_given_query}
use Rattle.answers.specs.Outcome.{Outcome, written, then, refused_unless}
use Rattle.checking.specs.bridge.Walks.{Noting}
use Rattle.heads.specs.bridge.TreeAt.{head_line, HeadOf, Starts}
use Rattle.descending.specs.bridge.Renamed.{Shaped}
use Rattle.merging.specs.Request.{made, read_constants}
use Rattle.merging.specs.Merge.{lists, mergeable}
use Rattle.merging.specs.Push.{push_constants}
use Rattle.merging.specs.bridge.Combined.{combine_trees}
use Rattle.sides.specs.bridge.Side.{Stands}
use Rattle.projects.specs.bridge.Joining.{HasRoom, HasNodes, HalfRoom, HalfNodes}
use Rattle.algebra.specs.declared.Fault.TheVariants.{Malformed, OverBound}

-- a tree without a head, as a query
abbrev pub headless : Pattern → Query
headless p = record { kind = []; dataset = []; base = []; tree = p }

-- what a text says
abbrev pub read_form : Bool → Bytes → Reading Query
read_form false s = made headless (read_given_tree s)
read_form true s = read_given_query s

-- what stands before its tree
abbrev pub head_of : Bool → Query → Bytes
head_of false q = []
head_of true q = ended (head_line q) []

-- a text that does
abbrev pub HeadIs : Bool → Bytes → Query → Type 0
HeadIs false h q = h ≡ []
HeadIs true h q = HeadOf h q

-- trees may always be merged, queries if their heads agree
abbrev pub may_merge : Bool → Query → Query → Bool
may_merge false a b = true
may_merge true a b = mergeable a b

-- two trees behind a head and any lists: the lists, 5, 4, 11, 3, 10, the head and the merged tree or without's
unfoldable pub listed_behind : Bool → Bool → Bytes → Pattern → Pattern → Bytes → Bytes → Bytes → Outcome
unfolding combine_trees layout
listed_behind less may head p q pairs leftConstants rightConstants =
    lists pairs leftConstants rightConstants λ js ks ls.
    refused_unless 5 may
    (combine_trees less p q js ks ls λ t. written (head ++ layout t))

-- a left text that says a, the right text and the three lists; without has no constants, so its two lists of them are empty texts
unfoldable pub merge_with : Bool → Bool → Query → Bytes → Bytes → Bytes → Bytes → Outcome
unfolding read_given_tree read_given_query mergeable listed_behind
merge_with less query a right pairs leftConstants rightConstants =
    then (read_form query right) λ b.
    listed_behind less (may_merge query a b) (head_of query a) a.tree b.tree pairs leftConstants rightConstants

-- merge patterns, merge queries and, with no constants, without
unfoldable pub merge_outcome : Bool → Bool → Bytes → Bytes → Bytes → Bytes → Bytes → Outcome
unfolding read_given_tree read_given_query merge_with
merge_outcome less query left right pairs leftConstants rightConstants =
    then (read_form query left) λ a.
    merge_with less query a right pairs leftConstants rightConstants

-- push constants, for a query that is read
unfoldable pub push_with : Query → Bytes → Outcome
unfolding read_constants push_constants
push_with q constants = then (read_constants constants) λ ks. push_constants q ks

-- ---- what the code knows

-- where what stands before the tree ends
unfoldable pub StartsAt : Bool → Bytes → ℕ → Type 0
StartsAt false s r = r ≡ 0
StartsAt true s r = Starts s r

-- the text in which the tree stands, and where it does: this one, or those lines if nothing follows
abbrev pub stands_in : Bytes → ℕ → Bytes
stands_in s from = cond (ltb from (length s)) s empty_text

abbrev pub stands_from : Bytes → ℕ → ℕ
stands_from s from = cond (ltb from (length s)) from 0

-- there is room for the variables and for the lines of the tree of a text, and of an empty file
pub record RoomFor (s : Bytes) (spots nodes : List (List ℕ)) : Type 0 where
  pub spots_for : HasRoom s spots
  pub nodes_for : HasNodes s nodes
  pub spots_empty : HasRoom empty_text spots
  pub nodes_empty : HasNodes empty_text nodes

-- the same of half of each array
pub record HalvesFor (s : Bytes) (spots nodes : List (List ℕ)) : Type 0 where
  pub spots_for : HalfRoom s spots
  pub nodes_for : HalfNodes s nodes
  pub spots_empty : HalfRoom empty_text spots
  pub nodes_empty : HalfNodes empty_text nodes

-- half of so many nodes and spots has room for the lines and the variables of a text
pub record RoomInHalf (s : Bytes) (nodes spots : ℕ) : Type 0 where
  pub spots_in : length s ≤ 16384 → length s ≤ 3 * (spots / 2)
  pub nodes_in : length s ≤ 16384 → (m : ℕ) → 3 * m ≤ length s → m ≤ 2048 → m ≤ nodes / 2

-- a tree whose names, variables and lines were noted: it stands in its text where there was room for its variables; and for its lines
pub record NotedTree (s : Bytes) (at : ℕ) (a l : List ℕ) (before after words b : List (List ℕ)) (n k m : ℕ) (p : Pattern) : Type 0 where
  pub few : HasRoom s before → k ≤ length after
  pub stands : HasRoom s before → Stands s at a l n (take k after) p
  pub few_nodes : HasRoom s before → HasNodes s b → m ≤ length b
  pub shaped : HasRoom s before → HasNodes s b → Shaped words (take m b) (length (take m b)) (length (take k after))

-- a good text: what it says, and its tree
pub record GoodForm (query : Bool) (s : Bytes) (from : ℕ) (a l : List ℕ) (before after words b : List (List ℕ)) (n k m : ℕ) : Type 0 where
  pub said : Query
  pub read : read_form query s ≡ reads said
  pub head : HeadIs query (take from s) said
  pub tree : NotedTree (stands_in s from) (stands_from s from) a l before after words b n k m said.tree

-- the check of a text
unfoldable pub NotedForm : Bool → Bytes → ℕ → List ℕ → List ℕ → List (List ℕ) → List (List ℕ) → List (List ℕ) → List (List ℕ) → Noting → Type 0
unfolding read_given_tree read_given_query
NotedForm query s from a l before after words b (Ok c) = GoodForm query s from a l before after words b c.names c.spots c.nodes
NotedForm query s from a l before after words b (Err Malformed) = read_form query s ≡ refuses malformed
NotedForm query s from a l before after words b (Err OverBound) = read_form query s ≡ refuses over_bound
