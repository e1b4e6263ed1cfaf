-- How the code keeps the notes of a tree's lines: for each the number of its word in the table, how many variables were noted before it, and its two numbers. Assumes nothing.
use Rattle.std.specs.Prelude.{ℕ, zero, suc, ◌*◌, ◌/◌, ◌%◌, ◌≤◌, ◌≡◌, List, [], ◌∷◌, ◌++◌, length, get_or}
use Rattle.text.specs.Text.{Bytes}
use Rattle.words.specs.bridge.Code.{groups_in}
use Rattle.scoping.specs.bridge.Spots.{groups_below, Node, node}

-- one of them, where words is the table of words: each its key and its row as one number
unfoldable pub node_at : List (List ℕ) → List ℕ → Node
unfolding groups_below groups_in
node_at words e = node (get_or e 0 0 % 65536) (groups_below (groups_in 3 (get_or (get_or words (get_or e 0 0 / 65536) []) 1 0 / 4294967296)) (get_or e 1 0 ∷ get_or e 2 0 ∷ []))

-- the first m of them, in order
unfoldable pub nodes_of : List (List ℕ) → List (List ℕ) → ℕ → List Node
unfolding node_at
nodes_of words b zero = []
nodes_of words b (suc m) = nodes_of words b m ++ (node_at words (get_or b m []) ∷ [])

-- the first m entries of an array are these
pub record Noded (words b : List (List ℕ)) (m : ℕ) (nodes : List Node) : Type 0 where
  pub many : m ≤ length b
  pub are : nodes_of words b m ≡ nodes

-- there is room for every line of the text s that can be noted: each takes three bytes, and there are 2,048 lines at most
abbrev pub Roomy : Bytes → List (List ℕ) → Type 0
Roomy s nodes = (m : ℕ) → 3 * m ≤ length s → m ≤ 2048 → m ≤ length nodes
