-- The variables of a tree renamed by a descent over its noted lines: each is marked by whether its name becomes another, line by line. Assumes nothing.
use Rattle.std.specs.Prelude.{ℕ, ◌%◌, ◌≤◌, ◌<◌, ◌≡◌, true, cond, List, [], ◌∷◌, map, eqb, ltb, leb, length, get_or, drop}
use Rattle.words.specs.bridge.Code.{groups_in}
use Rattle.words.specs.bridge.Words.{is_front}
use Rattle.algebra.specs.bridge.Table.{patterns}
use Rattle.algebra.specs.Tally.{bounds}
use Rattle.scoping.specs.bridge.Spots.{groups_below, Node}
use Rattle.scoping.specs.bridge.Skip.{skip}
use Rattle.lines.specs.bridge.Noded.{node_at, nodes_of}

-- ---- variables

-- the mark of a variable whose name has this entry, by the sizes of the new names: 4 where the name becomes another, 3 where it stays
unfoldable pub new_mark : List ℕ → ℕ → ℕ
new_mark sizes k = cond (leb 1024 k) 3 (cond (eqb (get_or sizes k 0) 0) 3 4)

unfoldable pub renamed_spot : List ℕ → List ℕ → List ℕ
unfolding new_mark
renamed_spot sizes s = get_or s 0 0 ∷ get_or s 1 0 ∷ new_mark sizes (get_or s 1 0) ∷ []

-- the variables of a from number i up to r are renamed in b, and no others
pub record Renamed (sizes : List ℕ) (a : List (List ℕ)) (i : ℕ) (b : List (List ℕ)) (r : ℕ) : Type 0 where
  pub long : length b ≡ length a
  pub low : (j : ℕ) → j < i → get_or b j [] ≡ get_or a j []
  pub high : (j : ℕ) → r ≤ j → get_or b j [] ≡ get_or a j []
  pub here : (j : ℕ) → i ≤ j → j < r → get_or b j [] ≡ renamed_spot sizes (get_or a j [])

-- from variable i on to r, all were renamed
pub record Walked (sizes : List ℕ) (a : List (List ℕ)) (i : ℕ) (b : List (List ℕ)) (r : ℕ) : Type 0 where
  pub on : i ≤ r
  pub inside : r ≤ length a
  pub all : Renamed sizes a i b r

-- ---- lines

-- the noted lines from number i on
unfoldable pub nodes_from : List (List ℕ) → List (List ℕ) → ℕ → List Node
unfolding node_at
nodes_from words nodes i = map (node_at words) (drop i nodes)

-- the number of the first variable of a noted line, of k; behind the last line there is none
abbrev pub least : ℕ → ℕ → ℕ
least a b = cond (ltb b a) b a

unfoldable pub first_spot : List (List ℕ) → ℕ → ℕ → ℕ
first_spot nodes i k = cond (leb (length nodes) i) k (least (get_or (get_or nodes i []) 0 0 % 65536) k)

-- from line i and variable j on to line n and variable v: all variables between are renamed, and those of the lines that were passed are among them
pub record Went (nodes : List (List ℕ)) (sizes : List ℕ) (a : List (List ℕ)) (i j : ℕ) (b : List (List ℕ)) (n v : ℕ) : Type 0 where
  pub on : i ≤ n
  pub all : Walked sizes a j b v
  pub reached : i < n → first_spot nodes n (length a) ≤ v

-- the same, and the lines that are left are these
pub record Descends (words nodes : List (List ℕ)) (sizes : List ℕ) (left : List Node) (a : List (List ℕ)) (i j : ℕ) (b : List (List ℕ)) (n v : ℕ) : Type 0 where
  pub went : Went nodes sizes a i j b n v
  pub shape : nodes_from words nodes n ≡ left

-- what stands below a noted line: its row's groups as one number, and its two numbers
pub record Heads (words : List (List ℕ)) (e : List ℕ) (code first second : ℕ) : Type 0 where
  pub groups : (node_at words e).groups ≡ groups_below (groups_in 3 code) (first ∷ second ∷ [])
  pub small : code < 134217728
  pub front : is_front code ≡ true
  pub first_small : first < 4294967296
  pub second_small : second < 4294967296

-- the first m lines that were noted are those of one tree, which has k variables: the descent over them leaves none
pub record Shaped (words b : List (List ℕ)) (m k : ℕ) : Type 0 where
  pub few : m ≤ length b
  pub whole : skip bounds.depth patterns (nodes_of words b m) ≡ []
  pub none : m ≡ 0 → k ≡ 0
